use Rattle.std.proofs.Common.{◌-◌, ◌∙◌, drop, sym, arith}
use Rattle.std.proofs.lemmas.List.{length-drop}
use Rattle.image_records.proofs.Fronts.{ascend_short}
use Rattle.image_records.proofs.order.ascend.Goals as goal

pub returns : goal.returns
returns c =
    sym (ascend_short (drop (c.loop-place.place - 1) c.args.records.now)
    (omega (arith, length-drop (c.loop-place.place - 1) c.args.records.now, c.loop-place-test.false, c.loop-place.invariant.0)))
    ∙ c.loop-place.invariant.1
