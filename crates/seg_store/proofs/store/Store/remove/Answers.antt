use Rattle.std.specs.Vec.{vec_capacity}
use Rattle.seg_store.proofs.Changes.{changed_more, changed_room}
use Rattle.std.proofs.Common.{◌<◌, arith, ◌≡◌, [], Some, sym, subst, ap, ◌∙◌, set}
use Rattle.std.specs.List.Sorted.{IsStrictlySortedBy}
use Rattle.std.specs.Ordering.{nat_cmp}
use Rattle.model_data.specs.Rows.{record_of, with_record}
use Rattle.seg_store.specs.ChangedSlots.{Kept}
use Rattle.seg_store.specs.Slots.{without_root, slot_of_root, with_root, rows_of_slots}
use Rattle.seg_store.proofs.Entries.{remove_none}
use Rattle.seg_store.proofs.Indexed.{free_room, indexed_gone, indexed_absent}
use Rattle.seg_store.proofs.Numbers.{numbers_sorted}
use Rattle.seg_store.proofs.SlotRows.{without_absent, without_there, record_none, record_was, root_absent, rows_absent, rows_gone, gone_leaves, slot_within, slots_gone}
use Rattle.seg_store.proofs.store.Store.remove.Goals as goal

pub invariant_of-self : goal.invariant_of-self
invariant_of-self c =
    record {
      changes = c.self.invariant.changes;
      changed_enough = c.self.invariant.changed_enough;
      indexed = indexed_absent _ _ _ _ _ _ c.self.invariant.indexed _ _ (c.take_root.ensures.items ∙ remove_none _ _ (sym c.in_default.ensures.value)) c.take_root.ensures.room;
    }

pub returns-in_default-clause-slots : goal.returns-in_default-clause-slots
returns-in_default-clause-slots c =
    sym (root_absent c.args.root.now c.self.inside.slots.items (sym (c.self.invariant.indexed.found c.args.root.now) ∙ sym c.in_default.ensures.value))
    ∙ ap (λ (s : Kept). with_root c.args.root.now [] s.slots) c.self.view_is

pub returns-in_default-clause-rows : goal.returns-in_default-clause-rows
returns-in_default-clause-rows c =
    rows_absent _ _ c.args.root.now c.self.invariant.indexed.valid.each (sym (c.self.invariant.indexed.found c.args.root.now) ∙ sym c.in_default.ensures.value)
    ∙ ap (λ (s : Kept). with_record c.args.root.now [] (rows_of_slots s.slots)) c.self.view_is

pub swap-before-requires : goal.swap-before-requires
swap-before-requires c =
    slot_within c.args.root.now c.self.inside.slots.items c.in-Some.slot (sym (c.self.invariant.indexed.found c.args.root.now) ∙ sym c.in-Some.ensures.value)

pub add_slot-requires-clause-ascending : goal.add_slot-requires-clause-ascending
add_slot-requires-clause-ascending c = subst (IsStrictlySortedBy nat_cmp) (sym c.self.invariant.indexed.free_is) (numbers_sorted 0 c.self.inside.slots.items)

pub add_slot-requires-clause-room : goal.add_slot-requires-clause-room
add_slot-requires-clause-room c =
    free_room _ _ _ _ _ _ c.self.invariant.indexed c.args.root.now c.in-Some.slot (sym (c.self.invariant.indexed.found c.args.root.now) ∙ sym c.in-Some.ensures.value)

pub invariant_of-self-2 : goal.invariant_of-self-2
invariant_of-self-2 c =
    let within : c.in-Some.slot < c.self.inside.dbd.roots = omega (arith, slot_within c.args.root.now c.self.inside.slots.items c.in-Some.slot (sym (c.self.invariant.indexed.found c.args.root.now) ∙ sym c.in-Some.ensures.value), c.self.invariant.indexed.valid.count) in
    record {
      changes = changed_more c.self.inside.dbd.roots c.self.inside.changed.items c.in-Some.slot c.self.invariant.changes within _ c.add_changed.ensures.items;
      changed_enough = omega (arith, c.self.invariant.changed_enough, c.add_changed.ensures.room);
      indexed = indexed_gone _ _ _ _ _ _ c.self.invariant.indexed c.args.root.now c.in-Some.slot _ _ _ _ _ (sym (c.self.invariant.indexed.found c.args.root.now) ∙ sym c.in-Some.ensures.value)
          (c.swap-before.ensures.slots ∙ ap (set c.self.inside.slots.items c.in-Some.slot) c.new-2.ensures) c.take_root.ensures.items c.take_root.ensures.room c.add_slot.ensures.items c.add_slot.ensures.room;
    }

pub add_changed-requires-clause-room : goal.add_changed-requires-clause-room
add_changed-requires-clause-room c =
    changed_room c.self.inside.dbd.roots c.self.inside.changed.items c.in-Some.slot c.self.invariant.changes (omega (arith, slot_within c.args.root.now c.self.inside.slots.items c.in-Some.slot (sym (c.self.invariant.indexed.found c.args.root.now) ∙ sym c.in-Some.ensures.value), c.self.invariant.indexed.valid.count)) (vec_capacity c.self.inside.changed) c.self.invariant.changed_enough

pub returns-clause-rows : goal.returns-clause-rows
returns-clause-rows c =
    let there : slot_of_root c.args.root.now c.self.inside.slots.items ≡ Some c.in-Some.slot = sym (c.self.invariant.indexed.found c.args.root.now) ∙ sym c.in-Some.ensures.value in
    let is : c.swap-before.new.slots.items ≡ set c.self.inside.slots.items c.in-Some.slot [] = c.swap-before.ensures.slots ∙ ap (set c.self.inside.slots.items c.in-Some.slot) c.new-2.ensures in
    ap rows_of_slots is
    ∙ (rows_gone c.self.inside.dbd c.self.inside.slots.items (set c.self.inside.slots.items c.in-Some.slot []) c.args.root.now c.self.invariant.indexed.valid.each
    (slots_gone c.self.inside.dbd c.self.inside.slots.items c.in-Some.slot c.self.invariant.indexed.valid).each
    (gone_leaves c.self.inside.slots.items c.args.root.now c.in-Some.slot c.self.invariant.indexed.valid.apart there)
    ∙ ap (λ (s : Kept). with_record c.args.root.now [] (rows_of_slots s.slots)) c.self.view_is)

pub returns-clause-valid : goal.returns-clause-valid
returns-clause-valid c = (invariant_of-self-2 c).indexed.valid

pub returns-in_default-clause-freed : goal.returns-in_default-clause-freed
returns-in_default-clause-freed c =
    without_absent c.args.root.now c.self.inside.slots.items (sym (c.self.invariant.indexed.found c.args.root.now) ∙ sym c.in_default.ensures.value)
    ∙ ap (λ (s : Kept). without_root c.args.root.now s.slots) c.self.view_is

pub returns-clause-freed : goal.returns-clause-freed
returns-clause-freed c =
    let there : slot_of_root c.args.root.now c.self.inside.slots.items ≡ Some c.in-Some.slot = sym (c.self.invariant.indexed.found c.args.root.now) ∙ sym c.in-Some.ensures.value in
    c.swap-before.ensures.slots
    ∙ (ap (set c.self.inside.slots.items c.in-Some.slot) c.new-2.ensures
    ∙ (without_there c.args.root.now c.self.inside.slots.items c.in-Some.slot (c.self.invariant.indexed.valid.apart c.args.root.now) there
    ∙ ap (λ (s : Kept). without_root c.args.root.now s.slots) c.self.view_is))

pub returns-in_default-clause-was : goal.returns-in_default-clause-was
returns-in_default-clause-was c =
    c.new.ensures
    ∙ sym (subst (λ (s : Kept). record_of c.args.root.now (rows_of_slots s.slots) ≡ []) c.self.view_is
    (record_none c.self.inside.dbd c.self.inside.slots.items c.args.root.now c.self.invariant.indexed.valid (sym (c.self.invariant.indexed.found c.args.root.now) ∙ sym c.in_default.ensures.value)))

pub returns-clause-was : goal.returns-clause-was
returns-clause-was c =
    let there : slot_of_root c.args.root.now c.self.inside.slots.items ≡ Some c.in-Some.slot = sym (c.self.invariant.indexed.found c.args.root.now) ∙ sym c.in-Some.ensures.value in
    subst (λ (s : Kept). c.swap-before.result ≡ record_of c.args.root.now (rows_of_slots s.slots)) c.self.view_is
    (record_was c.self.inside.dbd c.self.inside.slots.items c.args.root.now c.in-Some.slot c.swap-before.result c.self.invariant.indexed.valid there c.swap-before.ensures.was)
