-- A call leaves rows of the database, and a PCB that stands on paths of it.
use Rattle.std.proofs.Common.{◌≡◌, ◌≢◌, ℕ, ◌≤◌, ◌<◌, ◌+◌, ◌++◌, ◌∷◌, [], List, length, refl, sym, ◌∙◌, ap, subst, Bool, true, false, cond, not, ◌&&◌, Option, None, Some, eqb, arith, suc, length-append}
use Rattle.std.specs.Prelude.{IfSome, nat_le}
use Rattle.std.proofs.lemmas.Bool.{ltb-false, leb-false, eq-eqb, ne_eqb}
use Rattle.tm_types.specs.declared.dbd.Dbd.{Dbd}
use Rattle.tm_types.specs.SegTypes.{IsHierarchy}
use Rattle.model_data.specs.declared.row.Row.{Row}
use Rattle.model_data.specs.Record.{IsUnder, rows_spelling, record_limit}
use Rattle.model_data.specs.Rows.{record_of, rows_before, rows_after, with_record, roots, passes_roots, passes_length, AreRows}
use Rattle.model_data.proofs.Records.{with_record_itself}
use Rattle.model_data.proofs.Roots.{record_roots, roots_append}
use Rattle.model_data.proofs.Whole.{record_is, with_record_are_rows}
use Rattle.model_data.specs.declared.call.DbCall.{DbCall}
use Rattle.model_data.specs.declared.call.Position.{Position}
use Rattle.model_data.specs.declared.call.RowsLimit.TheVariants.{Roots, RecordLength}
use Rattle.model_data.specs.ChangeCalls.{passed_limit}
use Rattle.model_data.specs.DatabaseCalls.{dli}
use Rattle.model_data.specs.Conditions.{IsDbCall, IsPosition}
use Rattle.model_data.specs.Footprint.{footprint}
use Rattle.row_search.proofs.Rising.{rows_rising, split_at_root}
use Rattle.dli_calls.specs.AlikeCalls.{rows_changed, AreAlike}
use Rattle.dli_calls.proofs.Front.{agree_itself}
use Rattle.dli_calls.proofs.Same.{same_call}

-- a change that passes no limit passes neither
no_limit : (a b : Bool) → cond a (Some Roots) (cond b (Some RecordLength) None) ≡ None → (a ≡ false) × (b ≡ false)
no_limit true b e = absurd (cc)
no_limit false true e = absurd (cc)
no_limit false false e = (refl, refl)

module _ (dbd : Dbd) (all : IsHierarchy dbd.types) (rows : List Row) (valid : AreRows dbd rows) where
  -- with an image that passes no limit the roots are within theirs
  few_roots : (root : List ℕ) (image : List Row) → IsUnder dbd.types root image → passes_roots dbd root image rows ≡ false → length (roots (with_record root image rows)) ≤ dbd.roots
  few_roots root image under free = by image (record_of root rows) refl refl
    where
      counted : (middle : List Row) → length (roots (rows_before root rows ++ middle ++ rows_after root rows))
          ≡ (length (roots (rows_before root rows)) + length (roots middle)) + length (roots (rows_after root rows))
      counted middle =
          ap length (roots_append (rows_before root rows ++ middle) (rows_after root rows))
          ∙ (length-append (roots (rows_before root rows ++ middle)) (roots (rows_after root rows))
          ∙ ap (λ n. n + length (roots (rows_after root rows)))
          (ap length (roots_append (rows_before root rows) middle) ∙ length-append (roots (rows_before root rows)) (roots middle)))

      before : length (roots rows) ≡ (length (roots (rows_before root rows)) + length (roots (record_of root rows))) + length (roots (rows_after root rows))
      before = ap (λ rs. length (roots rs)) (split_at_root root rows (rows_rising dbd all rows valid)) ∙ counted (record_of root rows)

      one : (some : List Row) → some ≢ [] → IsUnder dbd.types root some → length (roots some) ≡ 1
      one some h u = ap length (record_roots dbd.types all root some (record { some = h; under = u }))

      by : (new old : List Row) → image ≡ new → record_of root rows ≡ old → length (roots (with_record root image rows)) ≤ dbd.roots
      by [] old e f =
          let none : length (roots image) ≡ 0 = ap (λ rs. length (roots rs)) e in
          omega (arith, counted image, before, valid.within_roots)
      by (x ∷ new) [] e f =
          let some : length (roots image) ≡ 1 = one image (λ g. let clash : x ∷ new ≡ [] = sym e ∙ g in absurd (cc)) under in
          let none : length (roots (record_of root rows)) ≡ 0 = ap (λ rs. length (roots rs)) f in
          let size : length image ≡ suc (length new) = ap length e in
          let long : eqb (length image) 0 ≡ false = ne_eqb (length image) 0 (λ z. absurd (omega arith)) in
          let empty : eqb (length (record_of root rows)) 0 ≡ true = eq-eqb (length (record_of root rows)) 0 (ap length f) in
          let less : length (roots rows) < dbd.roots =
          leb-false dbd.roots (length (roots rows))
          (sym (λ i. not (long i) && empty i && nat_le dbd.roots (length (roots rows))) ∙ free) in
          omega (arith, counted image, before)
      by (x ∷ new) (y ∷ old) e f =
          let some : length (roots image) ≡ 1 = one image (λ g. let clash : x ∷ new ≡ [] = sym e ∙ g in absurd (cc)) under in
          let there : length (roots (record_of root rows)) ≡ 1 =
          ap length (record_roots dbd.types all root (record_of root rows) (record_is dbd rows root valid (λ g. let clash : y ∷ old ≡ [] = sym f ∙ g in absurd (cc))).whole) in
          omega (arith, counted image, before, valid.within_roots)

  -- so rows with it are rows of the database
  pub limits_kept : (root : List ℕ) (image new : List Row) → new ≡ with_record root image rows → IsUnder dbd.types root image → passed_limit dbd root new rows ≡ None → AreRows dbd new
  limits_kept root image new is under none =
      let own : record_of root new ≡ image = ap (record_of root) is ∙ with_record_itself root image rows under.one_root in
      let free = no_limit (passes_roots dbd root (record_of root new) rows) (passes_length dbd (record_of root new)) none in
      subst (AreRows dbd) (sym is)
      (with_record_are_rows dbd all root image rows valid under
      (ltb-false (record_limit dbd) (length (rows_spelling image)) (ap (passes_length dbd) (sym own) ∙ free.1))
      (few_roots root image under (ap (λ im. passes_roots dbd root im rows) (sym own) ∙ free.0)))

  -- a call leaves rows of the database
  pub rows_kept : (call : DbCall) (at : Position) → IsPosition dbd.types at → IsDbCall dbd.types call → AreRows dbd (dli dbd call at rows).rows
  rows_kept call at position ok = by alike.change alike.rows_a alike.under alike.within
    where
      alike : AreAlike dbd rows rows (dli dbd call at rows) (dli dbd call at rows)
      alike = same_call dbd all rows rows valid valid call at position ok (agree_itself rows (footprint dbd call at rows))

      by : (o : Option (List ℕ × List Row)) → (dli dbd call at rows).rows ≡ rows_changed o rows → IfSome o (λ c. IsUnder dbd.types c.0 c.1)
          → IfSome o (λ c. passed_limit dbd c.0 (dli dbd call at rows).rows rows ≡ None) → AreRows dbd (dli dbd call at rows).rows
      by None is under within = subst (AreRows dbd) (sym is) valid
      by (Some change) is under within = limits_kept change.0 change.1 (dli dbd call at rows).rows is under within
