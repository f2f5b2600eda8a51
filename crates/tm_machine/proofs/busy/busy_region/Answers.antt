use Rattle.std.proofs.Common.{◌<◌, length, sym, ◌∙◌, arith}
use Rattle.tm_machine.proofs.Regions.{busy_found, busy_next}
use Rattle.tm_machine.proofs.busy.busy_region.Goals as goal

pub returns-in-Some : goal.returns-in-Some
returns-in-Some c =
    let slots = c.args.parts.now.moment.slots in
    let within : c.loop-place.place < length slots = omega (arith, c.loop-place-test.true, c.region_count-place-end.ensures.slots) in
    busy_found slots c.loop-place.place c.in-Some.work within c.in-Some.ensures ∙ sym c.loop-place.invariant

pub loop-place-preserved : goal.loop-place-preserved
loop-place-preserved c =
    let slots = c.args.parts.now.moment.slots in
    let within : c.loop-place.place < length slots = omega (arith, c.loop-place-test.true, c.region_count-place-end.ensures.slots) in
    c.loop-place.invariant ∙ busy_next slots c.loop-place.place within c.in_default.ensures
