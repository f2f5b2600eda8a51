-- the text that was made before is that of the answer
use Rattle.std.proofs.Common.{◌≡◌, ◌++◌, ◌∙◌, ap, sym, subst, refl, ◌*◌, arith}
use Rattle.model_machine.specs.CommandAnswers.{command_answer}
use Rattle.model_machine.specs.History.{control_moment}
use Rattle.model_session.specs.Text.{command_text, entry_text}
use Rattle.session_lives.specs.AskedControl.{BindsBy}
use Rattle.session_lives.proofs.Asked.{asked_call, stays_so_on}
use Rattle.session_lives.proofs.Bound.{up_where_bound}
use Rattle.model_machine.specs.declared.entry.Entry.{Entry}
use Rattle.openings.specs.Faults.{fault_in}
use Rattle.session_lives.proofs.Counting.{pace_call, pace_on}
use Rattle.model_machine.specs.declared.entry.Entry.TheVariants.{Commanded}
use Rattle.session_lives.proofs.asking.answer_command.Goals as goal

pub bind-requires : goal.bind-requires
bind-requires g c = record {
  up = λ binding.
      up_where_bound g.D.Disk.state (Commanded c.args.command.now c.command-answer.result) c.args.control.now c.command-answer.new.self c.command-answer.ensures.adds (sym c.is_done.ensures ∙ binding);
}

pub returns-clause-asked : goal.returns-clause-asked
returns-clause-asked g c =
    let printed : c.push.new.self.text ≡ command_text (command_answer c.args.control.now.control.system (control_moment c.args.control.now.control) c.args.command.now) =
    c.push.ensures.text ∙ ap (λ t. c.make_room.new.self.text ++ t) c.deref.ensures.value ∙ ap (λ t. t ++ c.in-Ok.text.items) (c.make_room.ensures.text ∙ c.requires.empty) ∙ c.in-Ok.ensures in
    asked_call g.D.Disk.state (Commanded c.args.command.now c.command-answer.result) c.args.control.now c.command-answer.new.self c.bind.new.control c.push.new.self.text
    c.command_called.result c.bind.result refl (c.command_called.ensures c.args.command.now) c.command-answer.ensures.spent c.command-answer.ensures.nothing c.command-answer.ensures.adds
    c.requires.up c.is_up.ensures.lasts c.command-answer.ensures.forced (λ may. printed ∙ sym (ap (entry_text c.args.control.now.control.system (control_moment c.args.control.now.control)) may.answer)) refl (λ system disk. tt)
    (subst (λ b. BindsBy g.D.Disk.state b c.command_called.result c.bind.result c.command-answer.new.self c.bind.new.control) c.is_done.ensures c.bind.ensures.bound)

pub returns-clause-pace : goal.returns-clause-pace
returns-clause-pace g c =
    let entry : Entry = Commanded c.args.command.now c.command-answer.result in
    pace_on g.D.Disk.state c.args.control.now c.command-answer.new.self c.bind.new.control c.command-answer.ensures.stays
    (pace_call g.D.Disk.state (2 * c.args.control.now.control.system.logs) (fault_in entry) entry c.args.control.now c.command-answer.new.self (omega arith) c.requires.up (g.met.D.Disk.is_disk c.command-answer.new.self.disk) c.command-answer.ensures.stays
    c.command-answer.ensures.raises c.command-answer.ensures.counts c.command-answer.ensures.adds c.command-answer.ensures.nothing c.command-answer.ensures.undone)
    c.bind.ensures.pace

pub returns-clause-stays : goal.returns-clause-stays
returns-clause-stays g c = stays_so_on g.D.Disk.state c.args.control.now c.command-answer.new.self c.bind.new.control c.command-answer.ensures.stays c.bind.ensures.stays
