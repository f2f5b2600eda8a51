use Rattle.std.proofs.Common.{◌+◌, ◌<◌, ◌++◌, List, length, drop, ap, ◌∙◌, arith}
use Rattle.model_machine.specs.declared.active.ActiveRegion.{ActiveRegion}
use Rattle.model_machine.specs.CommandAnswers.{active_from}
use Rattle.tm_machine.proofs.Regions.{active_more}
use Rattle.tm_machine.proofs.active.regions_of.Goals as goal

pub loop-place-preserved : goal.loop-place-preserved
loop-place-preserved c =
    let databases = c.args.parts.now.system.databases in
    let table = c.args.parts.now.moment.enqueues in
    let slots = c.args.parts.now.moment.slots in
    let within : c.loop-place.place < length slots = omega (arith, c.loop-place-test.true, c.region_count-place-end.ensures.slots) in
    ap (λ (rs : List ActiveRegion). rs ++ active_from databases table (c.loop-place.place + 1 + 1) (drop (c.loop-place.place + 1) slots)) c.in_ok-push.ensures.ok
    ∙ active_more databases table slots c.loop-place.place c.loop-place.regions (active_from databases table 1 slots) c.work_of.result within c.work_of.ensures c.loop-place.invariant
