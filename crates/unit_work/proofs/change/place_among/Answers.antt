use Rattle.std.proofs.Common.{◌≤◌, sym, ap, ◌∙◌, arith, length}
use Rattle.std.proofs.lemmas.List.{get_or_read}
use Rattle.seg_store.proofs.Places.{prefix_is}
use Rattle.unit_work.specs.Changes.{is_slot_before}
use Rattle.unit_work.proofs.change.place_among.Goals as goal

pub returns-then-not-is_before : goal.returns-then-not-is_before
returns-then-not-is_before c =
    let within : c.loop-i.i ≤ length c.args.slots.now = omega arith in
    prefix_is (is_slot_before c.args.db c.args.slot) c.args.slots.now c.loop-i.i within c.loop-i.invariant
    (λ d h. ap (is_slot_before c.args.db c.args.slot) (sym (get_or_read c.args.slots.now c.loop-i.i c.index-slots-i.result h c.index-slots-i.is d))
    ∙ (sym c.is_before.ensures ∙ c.if-not-is_before.true))

pub returns : goal.returns
returns c =
    prefix_is (is_slot_before c.args.db c.args.slot) c.args.slots.now (length c.args.slots.now) (omega arith)
    (λ k d h. c.loop-i.invariant k d (omega arith)) (λ d h. absurd (omega arith))
