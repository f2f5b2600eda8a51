use Rattle.std.proofs.Common.{◌≡◌, sym, ap, ◌∙◌, subst, false}
use Rattle.unit_work.specs.Changes.{Changes, AreSlotsInOrder, AreChangesKept, is_full, with_change, with_slot}
use Rattle.unit_work.specs.ReadyTouch.{with_image}
use Rattle.unit_work.proofs.Keeping.{kept_touch}
use Rattle.unit_work.proofs.Ordered.{order_with}
use Rattle.unit_work.proofs.unit.Unit.prepare.Goals as goal

pub invariant_of-result : goal.invariant_of-result
invariant_of-result c =
    let room : is_full c.args.db c.args.root c.self.inside.records.items ≡ false = ap (λ (u : Changes). is_full c.args.db c.args.root u.records) c.self.view_is ∙ c.requires in
    record {
      unit = record {
        records = subst AreChangesKept (sym c.in-Ok.ensures.records_stay) c.self.invariant.records;
        slots = subst AreSlotsInOrder (sym c.in-Ok.ensures.slots_stay) c.self.invariant.slots;
      };
      touched = record {
        records = kept_touch (record { db = c.args.db; slot = c.args.slot; root = c.args.root; before = c.args.before.now }) c.self.inside.records.items
            (with_change c.in-Ok.touch.record c.ready.new.records.items) c.self.invariant.records room (ap (with_change c.in-Ok.touch.record) c.in-Ok.ensures.records_stay ∙ c.in-Ok.ensures.record);
        slots = subst AreSlotsInOrder (sym (ap (with_slot (with_image c.in-Ok.touch.moves c.in-Ok.touch.record.before c.in-Ok.touch.slot)) c.in-Ok.ensures.slots_stay ∙ c.in-Ok.ensures.slot))
            (order_with (record { db = c.args.db; slot = c.args.slot; root = c.args.root; before = c.args.before.now }) c.self.inside.slots.items c.self.invariant.slots c.in-Ok.ensures.place);
      };
      record_fits = c.in-Ok.ensures.record_room;
      slot_fits = c.in-Ok.ensures.slot_room;
    }
