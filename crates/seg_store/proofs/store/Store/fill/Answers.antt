use Rattle.std.specs.Vec.{vec_capacity}
use Rattle.seg_store.proofs.Changes.{changed_more, changed_room}
use Rattle.std.proofs.Common.{◌≡◌, ◌<◌, arith, [], Some, None, sym, subst, ap, ◌∙◌}
use Rattle.std.specs.List.{slice_get}
use Rattle.std.specs.List.Sorted.{IsStrictlySortedBy}
use Rattle.std.specs.Ordering.{nat_cmp}
use Rattle.std.proofs.lemmas.Option.{slice_get_within}
use Rattle.seg_store.specs.ChangedSlots.{Kept}
use Rattle.seg_store.specs.Slots.{slot_of_root, rows_of_slots}
use Rattle.model_data.specs.Rows.{with_record}
use Rattle.seg_store.proofs.SlotRows.{rows_filled}
use Rattle.model_data.specs.Record.{IsRecord}
use Rattle.seg_store.proofs.Indexed.{index_room, free_there, indexed_new}
use Rattle.seg_store.proofs.Numbers.{numbers_sorted}
use Rattle.seg_store.proofs.store.Store.fill.Goals as goal

pub add_root-requires-clause-room : goal.add_root-requires-clause-room
add_root-requires-clause-room c =
    index_room _ _ _ _ _ _ c.self.invariant.indexed c.args.slot (subst (λ (s : Kept). slice_get s.slots c.args.slot ≡ Some []) (sym c.self.view_is) c.requires.free)

pub take_slot-requires-clause-ascending : goal.take_slot-requires-clause-ascending
take_slot-requires-clause-ascending c = subst (IsStrictlySortedBy nat_cmp) (sym c.self.invariant.indexed.free_is) (numbers_sorted 0 c.self.inside.slots.items)

pub take_slot-requires-clause-there : goal.take_slot-requires-clause-there
take_slot-requires-clause-there c =
    free_there _ _ _ _ _ _ c.self.invariant.indexed c.args.slot (subst (λ (s : Kept). slice_get s.slots c.args.slot ≡ Some []) (sym c.self.view_is) c.requires.free)

pub put-requires : goal.put-requires
put-requires c =
    let free : slice_get c.self.inside.slots.items c.args.slot ≡ Some [] = subst (λ (s : Kept). slice_get s.slots c.args.slot ≡ Some []) (sym c.self.view_is) c.requires.free in
    slice_get_within _ _ _ free

pub invariant_of-self : goal.invariant_of-self
invariant_of-self c =
    let free : slice_get c.self.inside.slots.items c.args.slot ≡ Some [] = subst (λ (s : Kept). slice_get s.slots c.args.slot ≡ Some []) (sym c.self.view_is) c.requires.free in
    let within : c.args.slot < c.self.inside.dbd.roots = omega (arith, slice_get_within c.self.inside.slots.items c.args.slot [] free, c.self.invariant.indexed.valid.count) in
    record {
      changes = changed_more c.self.inside.dbd.roots c.self.inside.changed.items c.args.slot c.self.invariant.changes within _ c.add_changed.ensures.items;
      changed_enough = omega (arith, c.self.invariant.changed_enough, c.add_changed.ensures.room);
      indexed = indexed_new _ _ _ _ _ _ c.self.invariant.indexed c.args.root.now c.args.slot c.args.image _ _ _ _ _
          (subst (λ (s : Kept). IsRecord s.dbd c.args.root.now c.args.image) (sym c.self.view_is) c.requires.valid)
          (subst (λ (s : Kept). slice_get s.slots c.args.slot ≡ Some []) (sym c.self.view_is) c.requires.free)
          (subst (λ (s : Kept). slot_of_root c.args.root.now s.slots ≡ None) (sym c.self.view_is) c.requires.new)
          c.put.ensures c.add_root.ensures.items c.add_root.ensures.room c.take_slot.ensures.items c.take_slot.ensures.room;
    }

pub add_changed-requires-clause-room : goal.add_changed-requires-clause-room
add_changed-requires-clause-room c =
    let free : slice_get c.self.inside.slots.items c.args.slot ≡ Some [] = subst (λ (s : Kept). slice_get s.slots c.args.slot ≡ Some []) (sym c.self.view_is) c.requires.free in
    changed_room c.self.inside.dbd.roots c.self.inside.changed.items c.args.slot c.self.invariant.changes (omega (arith, slice_get_within c.self.inside.slots.items c.args.slot [] free, c.self.invariant.indexed.valid.count)) (vec_capacity c.self.inside.changed) c.self.invariant.changed_enough

pub returns-clause-valid : goal.returns-clause-valid
returns-clause-valid c = (invariant_of-self c).indexed.valid

pub returns-clause-rows : goal.returns-clause-rows
returns-clause-rows c =
    ap rows_of_slots c.put.ensures
    ∙ (rows_filled c.self.inside.dbd c.self.inside.slots.items c.args.root.now c.args.slot c.args.image c.self.invariant.indexed.valid
    (subst (λ (s : Kept). IsRecord s.dbd c.args.root.now c.args.image) (sym c.self.view_is) c.requires.valid)
    (subst (λ (s : Kept). slice_get s.slots c.args.slot ≡ Some []) (sym c.self.view_is) c.requires.free)
    (subst (λ (s : Kept). slot_of_root c.args.root.now s.slots ≡ None) (sym c.self.view_is) c.requires.new)
    ∙ ap (λ (s : Kept). with_record c.args.root.now c.args.image (rows_of_slots s.slots)) c.self.view_is)
