use Rattle.std.proofs.Common.{◌∙◌, ap, sym, subst, rules}
use Rattle.tm_machine.specs.LastingCommands.{EndsNoneBusy}
use Rattle.tm_machine.specs.Parts.{PartsState, settings_of}
use Rattle.tm_machine.proofs.Commanded.{parts_commanded, commanded_is, same_databases}
use Rattle.model_machine.specs.LastingSteps.LastingStep.{Commands}
use Rattle.lasting_state.specs.ToldSteps.{AreRecordsLonger}
use Rattle.tm_machine.proofs.Full.{err_where}
use Rattle.tm_machine.proofs.parts.Parts.do_command.Goals as goal

pub invariant_of-self-2 : goal.invariant_of-self-2
invariant_of-self-2 c =
    let free = subst (λ (p : PartsState). EndsNoneBusy c.args.command.now p.moment.lasting) (sym c.self.view_is) c.requires in
    parts_commanded c.self.inside.system c.self.inside.tables c.self.inside.codes c.self.inside.regions.items c.self.invariant c.args.command.now free
    c.command.new.self c.set_states.new.codes c.in_ok-command.ensures.done c.in_ok-command.ensures.applies c.set_states.ensures

pub returns-clause-done : goal.returns-clause-done
returns-clause-done c =
    let free = subst (λ (p : PartsState). EndsNoneBusy c.args.command.now p.moment.lasting) (sym c.self.view_is) c.requires in
    rw (sym c.self.view_is)
    (commanded_is c.self.inside.system c.self.inside.tables c.self.inside.codes c.self.inside.regions.items c.self.invariant c.args.command.now free
    c.command.new.self c.set_states.new.codes c.in_ok-command.ensures.done c.in_ok-command.ensures.applies c.set_states.ensures)

pub returns-clause-told : goal.returns-clause-told
returns-clause-told c =
    let t = c.in_ok-command.ensures.told in
    let settings = settings_of c.self.inside.codes in
    rw (sym c.self.view_is) (record { told = t.told settings; valid = t.valid settings; fits = t.fits settings })

pub returns-clause-databases : goal.returns-clause-databases
returns-clause-databases c =
    rw (sym c.self.view_is)
    (ap (λ t. t.databases) c.in_ok-command.ensures.done
    ∙ same_databases c.self.inside.system c.self.inside.tables c.self.inside.codes c.self.inside.regions.items c.self.invariant c.args.command.now)

pub returns-in_err-command-clause-full : goal.returns-in_err-command-clause-full
returns-in_err-command-clause-full c =
    err_where c.from_residual.result (λ (h : AreRecordsLonger 0 c.args.telling.now.room (Commands c.args.command.now) c.self.inside.tables). h (settings_of c.self.inside.codes)) (search rules)
