use Rattle.std.proofs.Common.{◌≡◌, ◌≤◌, ◌<◌, [], Some, None, length, sym, subst, ap, ◌∙◌}
use Rattle.std.specs.List.{slice_get}
use Rattle.model_data.specs.Record.{rows_spelling, record_limit}
use Rattle.model_data.specs.Rows.{record_of}
use Rattle.seg_rows.specs.RowsRefused.{set_refusal}
use Rattle.seg_rows.specs.declared.rows.RowsRefused.TheVariants.{RootLimit, RecordTooLong}
use Rattle.seg_rows.proofs.Kept.{passed}
use Rattle.seg_store.specs.ChangedSlots.{Kept, with_changed_number}
use Rattle.seg_store.specs.Slots.{first_slot_of, slot_for, slot_of_root, lowest_free, rows_of_slots}
use Rattle.seg_store.proofs.Numbers.{lowest_first}
use Rattle.seg_store.proofs.SlotRows.{record_none, due_full, due_long, due_fits, room_new, free_at, root_new}
use Rattle.seg_store.proofs.store.Store.add.Goals as goal

pub returns-in_default-clause-refused : goal.returns-in_default-clause-refused
returns-in_default-clause-refused c =
    let new : slot_of_root c.args.root.now c.self.inside.slots.items ≡ None = subst (λ (s : Kept). slot_of_root c.args.root.now s.slots ≡ None) (sym c.self.view_is) c.requires.new in
    let full : lowest_free c.self.inside.slots.items ≡ None =
    sym (lowest_first c.self.inside.slots.items) ∙ (ap (λ xs. slice_get xs 0) (sym (c.deref.ensures.value ∙ c.self.invariant.indexed.free_is)) ∙ sym c.in_default.ensures) in
    subst (λ (s : Kept). set_refusal s.dbd c.args.root.now c.args.image (rows_of_slots s.slots) ≡ Some RootLimit) c.self.view_is
    (due_full c.self.inside.dbd c.self.inside.slots.items c.self.invariant.indexed.valid c.args.root.now c.args.image c.requires.image.some new full)

pub returns-then-not-fits-clause-refused : goal.returns-then-not-fits-clause-refused
returns-then-not-fits-clause-refused c =
    let new : slot_of_root c.args.root.now c.self.inside.slots.items ≡ None = subst (λ (s : Kept). slot_of_root c.args.root.now s.slots ≡ None) (sym c.self.view_is) c.requires.new in
    let low : lowest_free c.self.inside.slots.items ≡ Some c.in-Some.slot =
    sym (lowest_first c.self.inside.slots.items) ∙ (ap (λ xs. slice_get xs 0) (sym (c.deref.ensures.value ∙ c.self.invariant.indexed.free_is)) ∙ sym c.in-Some.ensures) in
    let long : record_limit c.self.inside.dbd < length (rows_spelling c.args.image) =
    subst (λ n. n < length (rows_spelling c.args.image)) c.record_limit.ensures (passed c.fits.result _ _ c.fits.ensures c.if-not-fits.true) in
    subst (λ (s : Kept). set_refusal s.dbd c.args.root.now c.args.image (rows_of_slots s.slots) ≡ Some RecordTooLong) c.self.view_is
    (due_long c.self.inside.dbd c.self.inside.slots.items c.self.invariant.indexed.valid c.args.root.now c.args.image c.requires.image.some
    (room_new c.self.inside.dbd c.self.inside.slots.items c.self.invariant.indexed.valid c.args.root.now c.args.image c.requires.image.some c.in-Some.slot new low) long)

pub fill-requires-clause-free : goal.fill-requires-clause-free
fill-requires-clause-free c =
    let low : lowest_free c.self.inside.slots.items ≡ Some c.in-Some.slot =
    sym (lowest_first c.self.inside.slots.items) ∙ (ap (λ xs. slice_get xs 0) (sym (c.deref.ensures.value ∙ c.self.invariant.indexed.free_is)) ∙ sym c.in-Some.ensures) in
    subst (λ (s : Kept). slice_get s.slots c.in-Some.slot ≡ Some []) c.self.view_is (free_at c.self.inside.slots.items c.in-Some.slot low)

pub returns-clause-slots : goal.returns-clause-slots
returns-clause-slots c =
    let low : lowest_free c.self.inside.slots.items ≡ Some c.in-Some.slot =
    sym (lowest_first c.self.inside.slots.items) ∙ (ap (λ xs. slice_get xs 0) (sym (c.deref.ensures.value ∙ c.self.invariant.indexed.free_is)) ∙ sym c.in-Some.ensures) in
    let low' : lowest_free c.args.self.now.slots ≡ Some c.in-Some.slot = subst (λ (s : Kept). lowest_free s.slots ≡ Some c.in-Some.slot) c.self.view_is low in
    c.fill.ensures.slots ∙ sym (root_new c.args.root.now c.args.image c.args.self.now.slots c.in-Some.slot c.requires.new low')

pub returns-clause-accepted : goal.returns-clause-accepted
returns-clause-accepted c =
    let new : slot_of_root c.args.root.now c.self.inside.slots.items ≡ None = subst (λ (s : Kept). slot_of_root c.args.root.now s.slots ≡ None) (sym c.self.view_is) c.requires.new in
    let low : lowest_free c.self.inside.slots.items ≡ Some c.in-Some.slot =
    sym (lowest_first c.self.inside.slots.items) ∙ (ap (λ xs. slice_get xs 0) (sym (c.deref.ensures.value ∙ c.self.invariant.indexed.free_is)) ∙ sym c.in-Some.ensures) in
    let fits : length (rows_spelling c.args.image) ≤ record_limit c.self.inside.dbd =
    subst (λ n. length (rows_spelling c.args.image) ≤ n) c.record_limit.ensures (c.fits.ensures.0 c.if-not-fits.false) in
    subst (λ (s : Kept). set_refusal s.dbd c.args.root.now c.args.image (rows_of_slots s.slots) ≡ None) c.self.view_is
    (due_fits c.self.inside.dbd c.self.inside.slots.items c.self.invariant.indexed.valid c.args.root.now c.args.image c.requires.image.some
    (room_new c.self.inside.dbd c.self.inside.slots.items c.self.invariant.indexed.valid c.args.root.now c.args.image c.requires.image.some c.in-Some.slot new low) fits)

pub returns-clause-changed : goal.returns-clause-changed
returns-clause-changed c =
    let low : lowest_free c.self.inside.slots.items ≡ Some c.in-Some.slot =
    sym (lowest_first c.self.inside.slots.items) ∙ (ap (λ xs. slice_get xs 0) (sym (c.deref.ensures.value ∙ c.self.invariant.indexed.free_is)) ∙ sym c.in-Some.ensures) in
    let low' : lowest_free c.args.self.now.slots ≡ Some c.in-Some.slot = subst (λ (s : Kept). lowest_free s.slots ≡ Some c.in-Some.slot) c.self.view_is low in
    let taken : slot_for c.args.root.now c.args.self.now.slots ≡ Some c.in-Some.slot =
    ap (λ o. first_slot_of o (lowest_free c.args.self.now.slots)) c.requires.new ∙ low' in
    c.fill.ensures.changed ∙ sym (ap (λ o. with_changed_number o c.args.self.now.changed) taken)

pub returns-clause-was : goal.returns-clause-was
returns-clause-was c =
    let new : slot_of_root c.args.root.now c.self.inside.slots.items ≡ None = subst (λ (s : Kept). slot_of_root c.args.root.now s.slots ≡ None) (sym c.self.view_is) c.requires.new in
    c.new.ensures
    ∙ sym (subst (λ (s : Kept). record_of c.args.root.now (rows_of_slots s.slots) ≡ []) c.self.view_is
    (record_none c.self.inside.dbd c.self.inside.slots.items c.args.root.now c.self.invariant.indexed.valid new))
