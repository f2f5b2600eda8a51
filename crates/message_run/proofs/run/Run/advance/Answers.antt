use Rattle.std.proofs.Common.{sym}
use Rattle.message_run.proofs.run.Run.advance.Goals as goal

pub returns-clause-tells : goal.returns-clause-tells
returns-clause-tells c = rw (sym c.self.view_is) c.advance.ensures.tells
