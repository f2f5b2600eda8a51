-- as it was closed
use Rattle.std.proofs.Common.{◌∙◌, ap}
use Rattle.tm_session.specs.BegunSession.{by_standing}
use Rattle.tm_session.proofs.session.finish.Goals as goal

pub returns-clause-closed : goal.returns-clause-closed
returns-clause-closed g c = c.close-disk.ensures.closed

pub returns-clause-leaves : goal.returns-clause-leaves
returns-clause-leaves g c = c.close-disk.ensures.leaves

pub returns-clause-status : goal.returns-clause-status
returns-clause-status g c = c.by_standing.ensures ∙ ap (λ b. by_standing b c.args.status) c.close-disk.ensures.stopped
