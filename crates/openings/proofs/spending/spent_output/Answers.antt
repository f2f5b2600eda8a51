use Rattle.std.proofs.Common.{arith}
use Rattle.openings.proofs.Unspent.{none_spent}
use Rattle.openings.proofs.spending.spent_output.Goals as goal

pub returns-then-highest : goal.returns-then-highest
returns-then-highest c = none_spent c.highest.result c.args.outputs.now (omega (arith, c.if-highest.true)) c.highest.ensures
