use Rattle.std.proofs.Common.{sym, ap, ◌∙◌}
use Rattle.unit_work.specs.Changes.{has_place, is_seen}
use Rattle.unit_work.proofs.Keeping.{slot_ready, image_ready}
use Rattle.unit_work.proofs.change.ready.Goals as goal

pub returns-clause-slot : goal.returns-clause-slot
returns-clause-slot c =
    slot_ready c.args.db c.args.slot c.args.root c.args.before.now c.in_ok-first.first c.in_ok-touched.touched c.args.slots.now.items c.is_changed-known.result c.is_seen-seen.result c.are_both_new.result c.are_both_new.ensures
    (c.is_seen-seen.ensures ∙ ap (is_seen c.args.db c.args.slot) c.deref-3.ensures.value) c.in_ok-first.ensures c.in_ok-touched.ensures

pub returns-clause-image : goal.returns-clause-image
returns-clause-image c = image_ready c.is_changed-known.result c.is_seen-seen.result c.are_both_new.result c.args.before.now c.in_ok-first.first c.are_both_new.ensures c.in_ok-first.ensures

pub returns-clause-place : goal.returns-clause-place
returns-clause-place c = ap (has_place c.args.db c.args.slot) (sym c.deref.ensures.value) ∙ (sym c.has_place.ensures ∙ c.if-not-has_place.false)
