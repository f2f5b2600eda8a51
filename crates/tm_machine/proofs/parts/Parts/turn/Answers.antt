use Rattle.tm_machine.proofs.Breaking.{turned_answered}
use Rattle.tm_machine.proofs.parts.Parts.turn.Goals as goal

pub returns-in-Ok-clause-answer : goal.returns-in-Ok-clause-answer
returns-in-Ok-clause-answer c = turned_answered c.args.self.now c.step.new.self c.args.region c.in-Ok.turned c.requires c.in-Ok.ensures.turned
