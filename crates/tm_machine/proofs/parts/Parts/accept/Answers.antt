use Rattle.std.proofs.Common.{sym}
use Rattle.tm_machine.proofs.Asked.{refused_input, refused_unfaulted}
use Rattle.tm_machine.proofs.Telling.{refused_tells}
use Rattle.tm_machine.proofs.parts.Parts.accept.Goals as goal

pub returns-in-Err-clause-answer : goal.returns-in-Err-clause-answer
returns-in-Err-clause-answer c =
    rw (sym c.self.view_is) (refused_input c.self.inside.system c.self.inside.tables c.self.inside.codes c.self.inside.regions.items c.self.invariant c.args.terminal.now c.args.number c.args.segments.now c.in-Err.answer c.requires (rw (← c.self.view_is) at c.in-Err.ensures.refused))

pub returns-in-Err-clause-told : goal.returns-in-Err-clause-told
returns-in-Err-clause-told c =
    rw (sym c.self.view_is) (refused_tells c.self.inside.system _ c.args.telling.now.room c.args.terminal.now c.args.number c.args.segments.now c.args.telling.now.told.items c.in-Err.answer (rw (← c.self.view_is) at c.in-Err.ensures.refused))

pub returns-in-Err-clause-no_fault : goal.returns-in-Err-clause-no_fault
returns-in-Err-clause-no_fault c = refused_unfaulted _ c.in-Err.answer c.in-Err.ensures.refused
