-- Records of slots that are appended, one after another.
use Rattle.std.proofs.Common.{◌≡◌, ℕ, ◌+◌, List, [], ◌∷◌, ◌++◌, map, drop, sym, ap, subst, Some}
use Rattle.std.specs.Prelude.{slice_get}
use Rattle.seg_store.specs.Slots.{Stored}
use Rattle.unit_work.specs.declared.change.Change.{Change}
use Rattle.log_records.specs.declared.record.Record.{Record}
use Rattle.log_records.specs.RecordSpelling.{record_spelling, IsLogRecord}
use Rattle.log_records.specs.ToldRecords.{AddsRecords}
use Rattle.log_records.proofs.Told.{adds_both, adds_one}
use Rattle.program_rows.specs.ToldChanges.{back_out_told}
use Rattle.tm_types.proofs.Parted.{drop_more}

-- All that is to come comes to these records.
abbrev pub Comes : List Record → List Record → List ℕ → List ℕ → Type 0
Comes rest whole before now = (after : List ℕ) → AddsRecords rest now after → AddsRecords whole before after

comes_more : (r : Record) (rest all whole : List Record) (before now next : List ℕ) → all ≡ r ∷ rest → next ≡ now ++ record_spelling r → IsLogRecord r → Comes all whole before now → Comes rest whole before next
comes_more r rest all whole before now next is one valid comes after adds =
    comes after (subst (λ (l : List Record). AddsRecords l now after) (sym is) (adds_both (r ∷ []) rest now next after (adds_one r now next one valid) adds))

pub slots_more : (unit : ℕ) (stores : List Stored) (slots : List Change) (i : ℕ) (s : Change) (before now next : List ℕ) → slice_get slots i ≡ Some s
    → next ≡ now ++ record_spelling (back_out_told unit stores s) → IsLogRecord (back_out_told unit stores s)
    → Comes (map (back_out_told unit stores) (drop i slots)) (map (back_out_told unit stores) slots) before now
    → Comes (map (back_out_told unit stores) (drop (i + 1) slots)) (map (back_out_told unit stores) slots) before next
slots_more unit stores slots i s before now next at one valid comes =
    comes_more (back_out_told unit stores s) (map (back_out_told unit stores) (drop (i + 1) slots)) (map (back_out_told unit stores) (drop i slots)) (map (back_out_told unit stores) slots) before now next
    (ap (map (back_out_told unit stores)) (drop_more slots i s at)) one valid comes
