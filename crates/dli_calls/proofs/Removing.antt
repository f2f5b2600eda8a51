-- A record that is removed is there.
use Rattle.std.proofs.Common.{◌≡◌, ◌≢◌, ℕ, ◌++◌, ◌∷◌, [], List, Bool, true, false, cond, not, refl, sym, ◌∙◌, ap, subst}
use Rattle.std.specs.Prelude.{Some, None, Result, Ok, Err, IfOk, filter}
use Rattle.std.specs.Ordering.{is_eq, is_gt, is_lt}
use Rattle.tm_types.specs.declared.dbd.SegType.{SegType}
use Rattle.tm_types.specs.declared.status.Status.TheVariants.{DA, DJ}
use Rattle.model_data.specs.declared.row.Row.{Row}
use Rattle.model_data.specs.Path.{key_cmp, end_key, end_type, root_of}
use Rattle.model_data.specs.Row.{row_cmp}
use Rattle.model_data.specs.Rows.{record_of}
use Rattle.model_data.specs.Search.{fitted_key, is_row_there, key_length}
use Rattle.model_data.specs.ChangeCalls.{delete_fault, replace_fault, with_row}
use Rattle.dli_calls.specs.declared.planned.Edit.{Edit}
use Rattle.dli_calls.specs.declared.planned.Planned.{Planned}
use Rattle.dli_calls.specs.CallPlan.{IsThere}
use Rattle.row_search.proofs.Places.{there_in_record}

pub some_in : {A : Type 0} (front : List A) (x : A) (back : List A) → front ++ x ∷ back ≢ []
some_in [] x back = λ e. absurd (cc)
some_in (y ∷ front) x back = λ e. absurd (cc)

-- rows with one more are some
pub some_with : {E : Type 0} (image : Result (List Row) E) (row : Row) (rows : List Row) → IfOk image (λ i. i ≡ with_row row rows) → IfOk image (λ i. i ≢ [])
some_with (Ok image) row rows e =
    subst (λ i. i ≢ []) (sym e) (some_in (filter (λ r. is_gt (row_cmp row r)) rows) row (filter (λ r. is_lt (row_cmp row r)) rows))
some_with (Err error) row rows e = tt

-- a segment that is deleted is in its record
pub held_there : (held : List (ℕ × List ℕ)) (rows : List Row) (root : List ℕ) → root_of held ≡ root → delete_fault held rows ≡ None → record_of root rows ≢ []
held_there held rows root same none = λ empty. by (is_row_there held rows) refl empty none
  where
    by : (b : Bool) → is_row_there held rows ≡ b → record_of root rows ≡ [] → cond b None (Some DJ) ≡ None → ⊥
    by true there empty e =
        let found : is_row_there held [] ≡ true =
        ap (is_row_there held) (sym empty ∙ ap (λ k. record_of k rows) (sym same)) ∙ (there_in_record held rows ∙ there) in
        absurd (cc)
    by false there empty e = absurd (cc)

-- and so is one that is replaced
pub kept_there : (types : List SegType) (held : List (ℕ × List ℕ)) (area : List ℕ) (rows : List Row) → replace_fault types held area rows ≡ None → delete_fault held rows ≡ None
kept_there types held area rows e = by (is_eq (key_cmp (end_key held) (fitted_key (key_length types (end_type held)) area))) e
  where
    by : (b : Bool) → cond (not b) (Some DA) (delete_fault held rows) ≡ None → delete_fault held rows ≡ None
    by true f = f
    by false f = absurd (cc)

pub plan_there : (rows : List Row) (p : Planned) (edit : Edit) → p.edit ≡ Some edit → (edit.image ≡ [] → record_of edit.root rows ≢ []) → IsThere rows p.edit
plan_there rows p edit e there = subst (IsThere rows) (sym e) there
