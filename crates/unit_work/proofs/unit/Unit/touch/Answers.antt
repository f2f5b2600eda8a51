use Rattle.std.proofs.Common.{◌≡◌, sym, ap, ◌∙◌, subst, false}
use Rattle.unit_work.specs.Changes.{AreSlotsInOrder, AreChangesKept, is_full}
use Rattle.unit_work.proofs.Keeping.{kept_touch}
use Rattle.unit_work.proofs.Ordered.{order_with}
use Rattle.unit_work.proofs.unit.Unit.touch.Goals as goal
use Rattle.unit_work.proofs.unit.Unit.touch.Goals.{in-Ok, in-Err}

pub invariant_of-self : goal.invariant_of-self
invariant_of-self c =
    let room : is_full c.args.db c.args.root c.self.inside.records.items ≡ false = ap (is_full c.args.db c.args.root) (sym c.deref.ensures.value) ∙ (sym c.is_full.ensures ∙ c.if-is_full.false) in
    elim c.match-keep.branch [
      | in-Ok w ↦ record {
        records = kept_touch (record { db = c.args.db; slot = c.args.slot; root = c.args.root; before = c.args.before }) c.self.inside.records.items c.keep.new.records.items c.self.invariant.records room w.in-Ok.ensures.records;
        slots = subst AreSlotsInOrder (sym w.in-Ok.ensures.slots)
            (order_with (record { db = c.args.db; slot = c.args.slot; root = c.args.root; before = c.args.before }) c.self.inside.slots.items c.self.invariant.slots w.in-Ok.ensures.place);
      }
      | in-Err w ↦ record {
        records = subst AreChangesKept (sym w.in-Err.ensures.records_stay) c.self.invariant.records;
        slots = subst AreSlotsInOrder (sym w.in-Err.ensures.slots_stay) c.self.invariant.slots;
      }
    ]
