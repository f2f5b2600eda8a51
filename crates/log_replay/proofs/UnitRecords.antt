-- What a change of one unit's records leaves.
use Rattle.std.proofs.Common.{◌≡◌, ℕ, [], List, refl, sym, ◌∙◌, ap, Bool, true, false}
use Rattle.std.specs.Prelude.{if◌then◌else◌, ◌==◌, Option}
use Rattle.std.specs.BTreeMap.{is_at}
use Rattle.std.specs.Map.{lookup}
use Rattle.std.specs.Option.{unwrap_or}
use Rattle.std.specs.Ordering.{nat_cmp}
use Rattle.std.proofs.lemmas.Bool.{eqb-true, eq-eqb}
use Rattle.log_records.specs.declared.record.Record.{Record}
use Rattle.msg_queues.proofs.Keys.{at_key}
use Rattle.log_replay.specs.WaitingRecords.{of_unit, ChangesUnit}

module _ (unit : ℕ) (change : List Record → List Record) (old new : List (ℕ × List Record)) where
  -- a look-up of the unit, and then of another one
  test_is : (other : ℕ) → is_at (nat_cmp unit) other ≡ (other == unit)
  test_is other = at_key unit other

  turned : (other : ℕ) (a b : Bool) → other == unit ≡ a → unit == other ≡ b → a ≡ b
  turned other true true isa isb = refl
  turned other false false isa isb = refl
  turned other true false isa isb = sym isb_true ∙ isb where
    isb_true : unit == other ≡ true
    isb_true = ap (λ n. unit == n) (eqb-true other unit isa) ∙ same unit where
      same : (n : ℕ) → n == n ≡ true
      same n = eq-eqb n n refl
  turned other false true isa isb = sym isa ∙ ap (λ n. n == unit) (sym (eqb-true unit other isb)) ∙ eq-eqb unit unit refl

  -- the records of the unit were written, or are gone
  pub changed : (w : Option (List Record)) → unwrap_or w [] ≡ change (of_unit unit old) →
      ((q : ℕ) → lookup (is_at (nat_cmp q)) new ≡ (if is_at (nat_cmp unit) q then w else lookup (is_at (nat_cmp q)) old)) → ChangesUnit unit change old new
  changed w is all other =
      ap (λ o. unwrap_or o []) (all other ∙ ap (λ b. if b then w else lookup (is_at (nat_cmp other)) old) (test_is other ∙ turned other (other == unit) (unit == other) refl refl))
      ∙ by_unit (unit == other) refl where
        by_unit : (b : Bool) → unit == other ≡ b → unwrap_or (if b then w else lookup (is_at (nat_cmp other)) old) [] ≡ (if b then change (of_unit other old) else of_unit other old)
        by_unit true same = is ∙ ap (λ n. change (of_unit n old)) (eqb-true unit other same)
        by_unit false same = refl
