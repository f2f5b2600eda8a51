use Rattle.std.proofs.Common.{arith}
use Rattle.tm_edge.proofs.Held.{told_behind}
use Rattle.tm_edge.proofs.steps.take_behind.Goals as goal

pub returns-clause-told : goal.returns-clause-told
returns-clause-told g c = told_behind c.args.end _ c.args.bytes.now c.take.new.into _ _ c.take.result (omega arith) c.take.ensures.within c.take.ensures.taken
