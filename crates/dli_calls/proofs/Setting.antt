-- A change of the rows by a change of one record, and what a plan of it says.
use Rattle.std.proofs.Common.{◌≡◌, ℕ, List, refl, sym, ◌∙◌, ap, subst, Bool, true, false, cond, Option, None, Some}
use Rattle.std.specs.Prelude.{Result, Ok, Err, IfOk, IfSome}
use Rattle.std.specs.Option.{option_map, option_map_or}
use Rattle.tm_types.specs.declared.dbd.Dbd.{Dbd}
use Rattle.tm_types.specs.declared.status.Status.TheVariants.{Blank}
use Rattle.model_data.specs.declared.row.Row.{Row}
use Rattle.model_data.specs.Rows.{record_of, with_record, IsImage, passes_roots, passes_length}
use Rattle.model_data.proofs.Records.{HaveRoot, with_record_itself}
use Rattle.model_data.specs.declared.call.Position.{Position}
use Rattle.model_data.specs.declared.call.RowsLimit.{RowsLimit}
use Rattle.model_data.specs.declared.call.RowsLimit.TheVariants.{Roots, RecordLength}
use Rattle.model_data.specs.Path.{root_of}
use Rattle.model_data.specs.declared.call.DbCall.{DbCall}
use Rattle.model_data.specs.ChangeCalls.{passed_limit, insert_fault, insert_path, insert_row, with_row}
use Rattle.model_data.specs.DatabaseCalls.{DliResult, answered_unchanged, unheld, changed_to, insert}
use Rattle.seg_rows.specs.declared.rows.RowsRefused.{RowsRefused}
use Rattle.seg_rows.specs.declared.rows.RowsRefused.TheVariants.{RootLimit, RecordTooLong, Disk, Damaged, Memory}
use Rattle.seg_rows.specs.RowsRefused.{set_refusal, RefusesToSet, RefusesToRead}
use Rattle.dli_calls.specs.declared.planned.Edit.{Edit}
use Rattle.dli_calls.specs.declared.planned.Planned.{Planned}
use Rattle.dli_calls.specs.PerformedCall.{Performs, RefusesCall}
use Rattle.dli_calls.specs.CallPlan.{limit_of, PlansEdit, PlansTo, Plans}
use Rattle.dli_calls.specs.ChangeEdit.{IsEdit, rows_set, edit_limit}

-- an image that is an edited record
pub edit_is : (dbd : Dbd) (root : List ℕ) (old new at image : List Row) → image ≡ at → IsImage dbd root at → with_record root at old ≡ new → HaveRoot root at
    → IsEdit dbd root old new image
edit_is dbd root old new at image is valid whole rooted =
    record {
      valid = subst (IsImage dbd root) (sym is) valid;
      rows = ap (λ im. with_record root im old) is ∙ whole;
      own = ap (record_of root) (sym whole) ∙ (with_record_itself root at old rooted ∙ sym is);
    }

-- the same of what an edit answers
pub edits : {E : Type 0} (r : Result (List Row) E) (dbd : Dbd) (root : List ℕ) (old new given at : List Row) → IfOk r (λ image. image ≡ given) → given ≡ at → IsImage dbd root at
    → with_record root at old ≡ new → HaveRoot root at → IfOk r (IsEdit dbd root old new)
edits (Ok image) dbd root old new given at h is valid whole rooted = edit_is dbd root old new at image (h ∙ is) valid whole rooted
edits (Err e) dbd root old new given at h is valid whole rooted = tt

same_limits : (a b : Bool) → cond a (Some Roots) (cond b (Some RecordLength) None) ≡ limit_of (cond a (Some RootLimit) (cond b (Some RecordTooLong) None))
same_limits true b = refl
same_limits false true = refl
same_limits false false = refl

-- the limit that the change passes is the one by which its image isn't set
edit_limits : (dbd : Dbd) (root : List ℕ) (old new image : List Row) → IsEdit dbd root old new image → passed_limit dbd root new old ≡ limit_of (set_refusal dbd root image old)
edit_limits dbd root old new image e =
    ap (λ im. cond (passes_roots dbd root im old) (Some Roots) (cond (passes_length dbd im) (Some RecordLength) None)) e.own
    ∙ same_limits (passes_roots dbd root image old) (passes_length dbd image)

-- the plan of a change
pub plans_change : (dbd : Dbd) (root : List ℕ) (old new : List Row) (before after : Position) (image : List Row) → IsEdit dbd root old new image
    → Plans dbd old (changed_to dbd root old before new after) (record { status = Blank; area = None; position = after; edit = Some (record { root = root; image = image }) })
plans_change dbd root old new before after image e = by (passed_limit dbd root new old) (edit_limits dbd root old new image e)
  where
    by : (o : Option RowsLimit) → o ≡ limit_of (set_refusal dbd root image old)
        → PlansEdit dbd old (option_map_or {U = DliResult} (λ limit. record { status = Blank; area = None; rows = old; position = before; changed = Some root; refusal = Some limit }) o
        (record { status = Blank; area = None; rows = new; position = after; changed = Some root; refusal = None }))
        (record { status = Blank; area = None; position = after; edit = Some (record { root = root; image = image }) }) (record { root = root; image = image })
    by None q =
        record {
          changed = refl;
          image = e.valid;
          refusal = q;
          rows = λ h. sym e.rows;
          answer = λ h. record { status = refl; area = refl; position = refl };
        }
    by (Some limit) q =
        record {
          changed = refl;
          image = e.valid;
          refusal = q;
          rows = λ h. (let clash : Some limit ≡ None = h in absurd (cc));
          answer = λ h. (let clash : Some limit ≡ None = h in absurd (cc));
        }

-- the plan of an ISRT whose segment may be inserted
pub plans_insert : (dbd : Dbd) (call : DbCall) (at : Position) (rows : List Row) (row : Row) (root : List ℕ) (image : List Row) (p : Planned)
    → insert_fault (insert_path dbd.types call.ssas call.area) rows ≡ None → row ≡ insert_row dbd.types call.ssas call.area → root ≡ root_of row.path
    → IsEdit dbd root rows (with_row row rows) image
    → p ≡ record { status = Blank; area = None; position = record { position = Some row.path; parentage = at.parentage; hold = None }; edit = Some (record { root = root; image = image }) }
    → Plans dbd rows (insert dbd call at rows) p
plans_insert dbd call at rows row root image p none is rooted e planned =
    subst (Plans dbd rows (insert dbd call at rows)) (sym planned)
    (subst (λ (d : DliResult). Plans dbd rows d (record { status = Blank; area = None; position = record { position = Some row.path; parentage = at.parentage; hold = None }; edit = Some (record { root = root; image = image }) }))
    (sym whole)
    (plans_change dbd root rows (with_row row rows) at (record { position = Some row.path; parentage = at.parentage; hold = None }) image e))
  where
    root_is : root_of (insert_path dbd.types call.ssas call.area) ≡ root
    root_is = sym (rooted ∙ ap (λ (r : Row). root_of r.path) is)

    path_is : insert_path dbd.types call.ssas call.area ≡ row.path
    path_is = sym (ap (λ (r : Row). r.path) is)

    whole : insert dbd call at rows ≡ changed_to dbd root rows at (with_row row rows) (record { position = Some row.path; parentage = at.parentage; hold = None })
    whole =
        ap (λ o. option_map_or {U = DliResult} (λ status. answered_unchanged status None rows (unheld at)) o
        (changed_to dbd (root_of (insert_path dbd.types call.ssas call.area)) rows at (with_row (insert_row dbd.types call.ssas call.area) rows)
        (record { position = Some (insert_path dbd.types call.ssas call.area); parentage = at.parentage; hold = None }))) none
        ∙ (λ t. changed_to dbd (root_is t) rows at (with_row (sym is t) rows) (record { position = Some (path_is t); parentage = at.parentage; hold = None }))

-- a refusal to set is one of the call
pub refuses_call : (due : Option RowsRefused) (told : Bool) (before now : ℕ) (refusal : RowsRefused) → RefusesToSet due refusal → RefusesCall (limit_of due) told before now refusal
refuses_call due told before now RootLimit h = ap limit_of h
refuses_call due told before now RecordTooLong h = ap limit_of h
refuses_call due told before now Disk h = absurd h
refuses_call due told before now (Damaged sector) h = absurd h
refuses_call due told before now Memory h = tt

-- and so is a refusal to read
pub refuses_read : (limit : Option RowsLimit) (told : Bool) (before now : ℕ) (refusal : RowsRefused) → RefusesToRead told before now refusal → RefusesCall limit told before now refusal
refuses_read limit told before now RootLimit h = absurd h
refuses_read limit told before now RecordTooLong h = absurd h
refuses_read limit told before now Disk h = h
refuses_read limit told before now (Damaged sector) h = h
refuses_read limit told before now Memory h = tt

-- a plan that is carried out is the call
pub performs : (dbd : Dbd) (rows left : List Row) (d : DliResult) (p : Planned) → Plans dbd rows d p → edit_limit dbd p.edit rows ≡ None → left ≡ rows_set p.edit rows
    → Performs d (record { status = p.status; area = p.area; changed = option_map (λ e. e.root) p.edit }) left p.position
performs dbd rows left d p plans accepted is = by p.edit plans accepted is
  where
    by : (o : Option Edit) → PlansTo dbd rows d p o → edit_limit dbd o rows ≡ None → left ≡ rows_set o rows
        → Performs d (record { status = p.status; area = p.area; changed = option_map (λ e. e.root) o }) left p.position
    by None h a i =
        record {
          answer = λ t. record { status = h.answer.status t; area = h.answer.area t; changed = sym h.changed t };
          rows = i ∙ sym h.rows;
          position = h.answer.position;
          accepted = h.refusal;
        }
    by (Some e) h a i =
        let none : d.refusal ≡ None = h.refusal ∙ a in
        let answer = h.answer none in
        record {
          answer = λ t. record { status = answer.status t; area = answer.area t; changed = sym h.changed t };
          rows = i ∙ sym (h.rows none);
          position = answer.position;
          accepted = none;
        }

-- the limit that a refused plan passes
pub refused_limit : (dbd : Dbd) (rows : List Row) (d : DliResult) (p : Planned) → Plans dbd rows d p → d.refusal ≡ edit_limit dbd p.edit rows
refused_limit dbd rows d p plans = by p.edit plans
  where
    by : (o : Option Edit) → PlansTo dbd rows d p o → d.refusal ≡ edit_limit dbd o rows
    by None h = h.refusal
    by (Some e) h = h.refusal

-- the record that a plan sets is an image of its root
pub plans_image : (dbd : Dbd) (rows : List Row) (d : DliResult) (p : Planned) → Plans dbd rows d p → IfSome p.edit (λ e. IsImage dbd e.root e.image)
plans_image dbd rows d p plans = by p.edit plans
  where
    by : (o : Option Edit) → PlansTo dbd rows d p o → IfSome o (λ e. IsImage dbd e.root e.image)
    by None h = tt
    by (Some e) h = h.image
