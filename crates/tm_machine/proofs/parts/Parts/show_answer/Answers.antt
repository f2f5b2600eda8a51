use Rattle.std.proofs.Common.{refl, sym, ap}
use Rattle.model_machine.specs.declared.entry.Entry.TheVariants.{Show}
use Rattle.tm_machine.proofs.Leaving.{moment_stays}
use Rattle.tm_machine.proofs.parts.Parts.show_answer.Goals as goal

pub returns-clause-answers : goal.returns-clause-answers
returns-clause-answers c =
    rw (sym c.self.view_is) (record {
      may = record { call = tt; victims = refl; answer = ap (Show c.args.terminal.now) (rw (← c.self.view_is) at c.shown_answer.ensures) };
      after = moment_stays c.self.inside.system c.self.inside.tables c.self.inside.codes c.self.inside.regions.items c.self.invariant;
      system = refl;
    })
