use Rattle.std.proofs.Common.{[], None, refl}
use Rattle.log_replay.proofs.UnitRecords.{changed}
use Rattle.log_replay.proofs.waiting.take.Goals as goal

pub returns-in-Some-clause-rest : goal.returns-in-Some-clause-rest
returns-in-Some-clause-rest c = changed c.args.unit (λ _. []) c.args.units.now.entries c.remove.new.self.entries None refl c.remove.ensures.updates.0

pub returns-in-None-clause-rest : goal.returns-in-None-clause-rest
returns-in-None-clause-rest c = changed c.args.unit (λ _. []) c.args.units.now.entries c.remove.new.self.entries None refl c.remove.ensures.updates.0
