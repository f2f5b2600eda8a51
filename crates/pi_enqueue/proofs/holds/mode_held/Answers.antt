use Rattle.std.proofs.Common.{◌∙◌}
use Rattle.pi_enqueue.proofs.Keys.{held_as}
use Rattle.pi_enqueue.proofs.holds.mode_held.Goals as goal

pub returns-in-Some-clause-value : goal.returns-in-Some-clause-value
returns-in-Some-clause-value c = c.in-Some.ensures.value ∙ held_as c.args.request.now c.asker.result c.args.holds.now.entries c.asker.ensures

pub returns-in-None-clause-value : goal.returns-in-None-clause-value
returns-in-None-clause-value c = c.in-None.ensures.value ∙ held_as c.args.request.now c.asker.result c.args.holds.now.entries c.asker.ensures
