use Rattle.std.specs.Vec.{vec_capacity}
use Rattle.seg_store.proofs.Changes.{changed_more, changed_room}
use Rattle.std.proofs.Common.{arith, ◌≡◌, ◌≤◌, ◌<◌, Some, None, length, sym, subst, ap, ◌∙◌}
use Rattle.model_data.specs.Record.{IsLongRecord, rows_spelling, record_limit}
use Rattle.model_data.specs.Rows.{record_of, with_record}
use Rattle.seg_rows.specs.RowsRefused.{set_refusal}
use Rattle.seg_rows.specs.declared.rows.RowsRefused.TheVariants.{RecordTooLong}
use Rattle.seg_rows.proofs.Kept.{passed}
use Rattle.seg_store.specs.ChangedSlots.{Kept}
use Rattle.seg_store.specs.Slots.{slot_of_root, rows_of_slots}
use Rattle.seg_store.proofs.SlotRows.{record_was, due_long, due_fits, passes_there, slot_within, rows_replaced}
use Rattle.seg_store.proofs.Indexed.{indexed_same}
use Rattle.seg_store.proofs.store.Store.replace.Goals as goal

pub returns-then-not-fits-clause-refused : goal.returns-then-not-fits-clause-refused
returns-then-not-fits-clause-refused c =
    let there : slot_of_root c.args.root.now c.self.inside.slots.items ≡ Some c.args.slot = subst (λ (s : Kept). slot_of_root c.args.root.now s.slots ≡ Some c.args.slot) (sym c.self.view_is) c.requires.there in
    let long : record_limit c.self.inside.dbd < length (rows_spelling c.args.image) =
    subst (λ n. n < length (rows_spelling c.args.image)) c.record_limit.ensures (passed c.fits.result _ _ c.fits.ensures c.if-not-fits.true) in
    subst (λ (s : Kept). set_refusal s.dbd c.args.root.now c.args.image (rows_of_slots s.slots) ≡ Some RecordTooLong) c.self.view_is
    (due_long c.self.inside.dbd c.self.inside.slots.items c.self.invariant.indexed.valid c.args.root.now c.args.image c.requires.image.some
    (passes_there c.self.inside.dbd c.self.inside.slots.items c.self.invariant.indexed.valid c.args.root.now c.args.image c.requires.image.some c.args.slot there) long)

pub swap-before-requires : goal.swap-before-requires
swap-before-requires c =
    slot_within c.args.root.now c.self.inside.slots.items c.args.slot (subst (λ (s : Kept). slot_of_root c.args.root.now s.slots ≡ Some c.args.slot) (sym c.self.view_is) c.requires.there)

pub invariant_of-self : goal.invariant_of-self
invariant_of-self c =
    let there : slot_of_root c.args.root.now c.self.inside.slots.items ≡ Some c.args.slot = subst (λ (s : Kept). slot_of_root c.args.root.now s.slots ≡ Some c.args.slot) (sym c.self.view_is) c.requires.there in
    let fits : length (rows_spelling c.args.image) ≤ record_limit c.self.inside.dbd =
    subst (λ n. length (rows_spelling c.args.image) ≤ n) c.record_limit.ensures (c.fits.ensures.0 c.if-not-fits.false) in
    let long : IsLongRecord c.self.inside.dbd.types c.args.root.now c.args.image = subst (λ (s : Kept). IsLongRecord s.dbd.types c.args.root.now c.args.image) (sym c.self.view_is) c.requires.image in
    let within : c.args.slot < c.self.inside.dbd.roots = omega (arith, slot_within c.args.root.now c.self.inside.slots.items c.args.slot there, c.self.invariant.indexed.valid.count) in
    record {
      changes = changed_more c.self.inside.dbd.roots c.self.inside.changed.items c.args.slot c.self.invariant.changes within _ c.add_changed.ensures.items;
      changed_enough = omega (arith, c.self.invariant.changed_enough, c.add_changed.ensures.room);
      indexed = indexed_same _ _ _ _ _ _ c.self.invariant.indexed c.args.root.now c.args.slot c.args.image _ (record { whole = long; within = fits }) there c.swap-before.ensures.slots;
    }

pub add_changed-requires-clause-room : goal.add_changed-requires-clause-room
add_changed-requires-clause-room c =
    let there : slot_of_root c.args.root.now c.self.inside.slots.items ≡ Some c.args.slot = subst (λ (s : Kept). slot_of_root c.args.root.now s.slots ≡ Some c.args.slot) (sym c.self.view_is) c.requires.there in
    changed_room c.self.inside.dbd.roots c.self.inside.changed.items c.args.slot c.self.invariant.changes (omega (arith, slot_within c.args.root.now c.self.inside.slots.items c.args.slot there, c.self.invariant.indexed.valid.count)) (vec_capacity c.self.inside.changed) c.self.invariant.changed_enough

pub returns-clause-accepted : goal.returns-clause-accepted
returns-clause-accepted c =
    let there : slot_of_root c.args.root.now c.self.inside.slots.items ≡ Some c.args.slot = subst (λ (s : Kept). slot_of_root c.args.root.now s.slots ≡ Some c.args.slot) (sym c.self.view_is) c.requires.there in
    let fits : length (rows_spelling c.args.image) ≤ record_limit c.self.inside.dbd =
    subst (λ n. length (rows_spelling c.args.image) ≤ n) c.record_limit.ensures (c.fits.ensures.0 c.if-not-fits.false) in
    subst (λ (s : Kept). set_refusal s.dbd c.args.root.now c.args.image (rows_of_slots s.slots) ≡ None) c.self.view_is
    (due_fits c.self.inside.dbd c.self.inside.slots.items c.self.invariant.indexed.valid c.args.root.now c.args.image c.requires.image.some
    (passes_there c.self.inside.dbd c.self.inside.slots.items c.self.invariant.indexed.valid c.args.root.now c.args.image c.requires.image.some c.args.slot there) fits)

pub returns-clause-rows : goal.returns-clause-rows
returns-clause-rows c =
    let there : slot_of_root c.args.root.now c.self.inside.slots.items ≡ Some c.args.slot = subst (λ (s : Kept). slot_of_root c.args.root.now s.slots ≡ Some c.args.slot) (sym c.self.view_is) c.requires.there in
    let fits : length (rows_spelling c.args.image) ≤ record_limit c.self.inside.dbd =
    subst (λ n. length (rows_spelling c.args.image) ≤ n) c.record_limit.ensures (c.fits.ensures.0 c.if-not-fits.false) in
    let long : IsLongRecord c.self.inside.dbd.types c.args.root.now c.args.image = subst (λ (s : Kept). IsLongRecord s.dbd.types c.args.root.now c.args.image) (sym c.self.view_is) c.requires.image in
    ap rows_of_slots c.swap-before.ensures.slots
    ∙ (rows_replaced c.self.inside.dbd c.self.inside.slots.items c.args.root.now c.args.slot c.args.image c.self.invariant.indexed.valid (record { whole = long; within = fits }) there
    ∙ ap (λ (s : Kept). with_record c.args.root.now c.args.image (rows_of_slots s.slots)) c.self.view_is)

pub returns-clause-valid : goal.returns-clause-valid
returns-clause-valid c = (invariant_of-self c).indexed.valid

pub returns-clause-was : goal.returns-clause-was
returns-clause-was c =
    let there : slot_of_root c.args.root.now c.self.inside.slots.items ≡ Some c.args.slot = subst (λ (s : Kept). slot_of_root c.args.root.now s.slots ≡ Some c.args.slot) (sym c.self.view_is) c.requires.there in
    subst (λ (s : Kept). c.swap-before.result ≡ record_of c.args.root.now (rows_of_slots s.slots)) c.self.view_is
    (record_was c.self.inside.dbd c.self.inside.slots.items c.args.root.now c.args.slot c.swap-before.result c.self.invariant.indexed.valid there c.swap-before.ensures.was)
