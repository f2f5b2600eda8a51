-- Where a call leaves a PCB are paths of the database.
use Rattle.std.proofs.Common.{◌≡◌, ℕ, ◌-◌, ◌≤◌, List, length, Bool, true, false, cond, ◌&&◌, Option, None, Some, refl, sym, subst}
use Rattle.std.specs.Option.{option_map_or}
use Rattle.std.specs.Prelude.{◌==◌, All, IfOk, IfSome, IsSomeAnd, Result, Ok, Err, slice_get}
use Rattle.std.proofs.lemmas.Option.{none-some, get_or_from_slice_get, slice_get_within}
use Rattle.std.proofs.lemmas.List.Elements.{All-get_or}
use Rattle.tm_types.specs.declared.dbd.Dbd.{Dbd}
use Rattle.tm_types.specs.declared.dbd.SegType.{SegType}
use Rattle.tm_types.specs.declared.ssa.Ssa.{Ssa}
use Rattle.tm_types.specs.declared.status.Status.{Status}
use Rattle.tm_types.specs.declared.status.Status.TheVariants.{Blank, QC, QD, A2, A3, A6, A7, QH, GE, GB, GP, GA, GK, II, DJ, DA, AM}
use Rattle.model_data.specs.declared.row.Row.{Row}
use Rattle.model_data.specs.Path.{IsPath}
use Rattle.model_data.specs.Row.{IsRow}
use Rattle.model_data.specs.Rows.{AreRows}
use Rattle.tm_types.specs.Segment.{IsSegmentText}
use Rattle.tm_types.specs.SegTypes.{type_at}
use Rattle.model_data.specs.Path.{end_type}
use Rattle.model_data.specs.declared.call.Position.{Position}
use Rattle.model_data.specs.declared.call.Reach.{Reach}
use Rattle.model_data.specs.declared.call.Reach.TheVariants.{Start, Next, Parent}
use Rattle.model_data.specs.Search.{is_after, is_path_below, fits, is_row_there, first_below}
use Rattle.model_data.specs.GetCalls.{row_reached, position_at, position_failed, position_missed}
use Rattle.model_data.specs.Conditions.{IsPosition}
use Rattle.dli_calls.specs.declared.planned.Planned.{Planned}
use Rattle.row_search.proofs.Finding.{find_has}

-- a row that a get reaches is one of the rows
pub reached_row : (dbd : Dbd) (reach : Reach) (ssas : List Ssa) (at : Position) (rows : List Row) (row : Row) → AreRows dbd rows
    → row_reached reach dbd.types ssas at rows ≡ Some row → IsRow dbd.types rows row
reached_row dbd Start ssas at rows row h e =
    find_has (IsRow dbd.types rows) (λ r. is_after None r.path && fits dbd.types ssas r.path) rows row h.each e
reached_row dbd Next ssas at rows row h e =
    find_has (IsRow dbd.types rows) (λ r. is_after at.position r.path && fits dbd.types ssas r.path) rows row h.each e
reached_row dbd Parent ssas at rows row h e = by at.parentage e
  where
    by : (o : Option (List (ℕ × List ℕ))) → option_map_or (λ parent. cond (is_row_there parent rows) (first_below dbd.types ssas at.position parent rows) None) o None ≡ Some row → IsRow dbd.types rows row
    by None f = absurd (none-some row f)
    by (Some parent) f = there (is_row_there parent rows) f
      where
        there : (b : Bool) → cond b (first_below dbd.types ssas at.position parent rows) None ≡ Some row → IsRow dbd.types rows row
        there true k =
            find_has (IsRow dbd.types rows) (λ r. is_after at.position r.path && is_after (Some parent) r.path && is_path_below parent r.path && fits dbd.types ssas r.path) rows row h.each k
        there false k = absurd (none-some row k)

-- so it has a path of the database
pub reached_path : (dbd : Dbd) (reach : Reach) (ssas : List Ssa) (at : Position) (rows : List Row) (row : Row) → AreRows dbd rows
    → row_reached reach dbd.types ssas at rows ≡ Some row → IsPath dbd.types row.path
reached_path dbd reach ssas at rows row h e = (reached_row dbd reach ssas at rows row h e).path

short_type : (found : Option SegType) (n : ℕ) → IfSome found (λ s. s.bytes ≤ 1996) → IsSomeAnd found (λ s. n ≡ s.bytes) → n ≤ 1996
short_type (Some s) n short whole = subst (λ m. m ≤ 1996) (sym whole) short
short_type None n short whole = absurd whole

short_at : (types : List SegType) (number : ℕ) → All (λ s. s.bytes ≤ 1996) types → IfSome (type_at types number) (λ s. s.bytes ≤ 1996)
short_at types number short = by (number == 0) (slice_get types (number - 1)) refl
  where
    by : (b : Bool) (found : Option SegType) → slice_get types (number - 1) ≡ found → IfSome (cond b None found) (λ s. s.bytes ≤ 1996)
    by true found e = tt
    by false None e = tt
    by false (Some s) e = subst (λ (t : SegType). t.bytes ≤ 1996) (get_or_from_slice_get types (number - 1) s s e) (All-get_or (λ t. t.bytes ≤ 1996) types (number - 1) s (slice_get_within types (number - 1) s e) short)

-- and where no type has more bytes than a segment's text, its data is such a text
pub reached_text : (dbd : Dbd) (reach : Reach) (ssas : List Ssa) (at : Position) (rows : List Row) (row : Row) → AreRows dbd rows
    → row_reached reach dbd.types ssas at rows ≡ Some row → All (λ s. s.bytes ≤ 1996) dbd.types → IsSegmentText row.bytes
reached_text dbd reach ssas at rows row h e short =
    let r = reached_row dbd reach ssas at rows row h e in
    (short_type (type_at dbd.types (end_type row.path)) (length row.bytes) (short_at dbd.types (end_type row.path) short) r.whole, r.printable)

-- what holds of a plan holds of what comes to just that plan
pub as_planned : {E : Type 0} (P : Planned → Type 0) (result : Result Planned E) (plan : Planned) → IfOk result (λ p. p ≡ plan) → P plan → IfOk result P
as_planned P (Ok p) plan e h = subst P (sym e) h
as_planned P (Err x) plan e h = tt

-- a PCB on a path of the database stands on paths of the database
pub stands_at : (types : List SegType) (reach : Reach) (hold : Bool) (at : Position) (path : List (ℕ × List ℕ)) → IsPosition types at → IsPath types path
    → IsPosition types (position_at reach hold at path)
stands_at types Start true at path h p = record { position = p; parentage = p; hold = p }
stands_at types Start false at path h p = record { position = p; parentage = p; hold = tt }
stands_at types Next true at path h p = record { position = p; parentage = p; hold = p }
stands_at types Next false at path h p = record { position = p; parentage = p; hold = tt }
stands_at types Parent true at path h p = record { position = p; parentage = h.parentage; hold = p }
stands_at types Parent false at path h p = record { position = p; parentage = h.parentage; hold = tt }

pub stands_failed : (types : List SegType) (reach : Reach) (at : Position) → IsPosition types at → IsPosition types (position_failed reach at)
stands_failed types Start at h = record { position = h.position; parentage = tt; hold = tt }
stands_failed types Next at h = record { position = h.position; parentage = tt; hold = tt }
stands_failed types Parent at h = record { position = h.position; parentage = h.parentage; hold = tt }

pub stands_missed : (types : List SegType) (reach : Reach) (status : Status) (at : Position) → IsPosition types at → IsPosition types (position_missed reach status at)
stands_missed types reach GB at h = let k = stands_failed types reach at h in record { position = tt; parentage = k.parentage; hold = k.hold }
stands_missed types reach Blank at h = stands_failed types reach at h
stands_missed types reach QC at h = stands_failed types reach at h
stands_missed types reach QD at h = stands_failed types reach at h
stands_missed types reach A2 at h = stands_failed types reach at h
stands_missed types reach A3 at h = stands_failed types reach at h
stands_missed types reach A6 at h = stands_failed types reach at h
stands_missed types reach A7 at h = stands_failed types reach at h
stands_missed types reach QH at h = stands_failed types reach at h
stands_missed types reach GE at h = stands_failed types reach at h
stands_missed types reach GP at h = stands_failed types reach at h
stands_missed types reach GA at h = stands_failed types reach at h
stands_missed types reach GK at h = stands_failed types reach at h
stands_missed types reach II at h = stands_failed types reach at h
stands_missed types reach DJ at h = stands_failed types reach at h
stands_missed types reach DA at h = stands_failed types reach at h
stands_missed types reach AM at h = stands_failed types reach at h
