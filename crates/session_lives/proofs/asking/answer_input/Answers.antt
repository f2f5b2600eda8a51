-- by the fault that the call met
use Rattle.std.proofs.Common.{◌≡◌, ◌∙◌, rules, refl, sym, subst, ◌*◌, arith}
use Rattle.model_machine.specs.declared.entry.Entry.TheVariants.{Accept}
use Rattle.model_machine.specs.LastingSteps.{code_word}
use Rattle.model_session.specs.Text.{input_text, shown_word}
use Rattle.session_lives.specs.AskedControl.{BindsBy}
use Rattle.session_lives.proofs.Asked.{asked_call, stays_so_on}
use Rattle.session_lives.proofs.Bound.{up_where_bound}
use Rattle.model_machine.specs.declared.entry.Entry.{Entry}
use Rattle.openings.specs.Faults.{fault_in}
use Rattle.session_lives.proofs.Counting.{pace_call, pace_on}
use Rattle.session_lives.proofs.asking.answer_input.Goals as goal

pub bind-requires : goal.bind-requires
bind-requires g c = record {
  up = λ binding.
      up_where_bound g.D.Disk.state (Accept c.args.terminal.now c.args.number c.args.segments c.input-answer.result) c.args.control.now c.input-answer.new.self c.input-answer.ensures.adds
      (sym (c.is_taken.ensures c.args.terminal.now c.args.number c.args.segments) ∙ binding);
}

pub returns-clause-asked : goal.returns-clause-asked
returns-clause-asked g c =
    let printed : c.input_line.new.out.text ≡ input_text c.args.terminal.now c.args.number (shown_word (code_word c.args.segments)) c.input-answer.result = search rules in
    asked_call g.D.Disk.state (Accept c.args.terminal.now c.args.number c.args.segments c.input-answer.result) c.args.control.now c.input-answer.new.self c.bind.new.control c.input_line.new.out.text
    c.input_called.result c.bind.result refl (c.input_called.ensures c.args.terminal.now c.args.number c.args.segments) c.input-answer.ensures.spent c.input-answer.ensures.nothing c.input-answer.ensures.adds
    c.requires.up c.is_up.ensures.lasts c.input-answer.ensures.forced (λ may. printed) refl (λ system disk. tt)
    (subst (λ b. BindsBy g.D.Disk.state b c.input_called.result c.bind.result c.input-answer.new.self c.bind.new.control) (c.is_taken.ensures c.args.terminal.now c.args.number c.args.segments) c.bind.ensures.bound)

pub returns-clause-pace : goal.returns-clause-pace
returns-clause-pace g c =
    let entry : Entry = Accept c.args.terminal.now c.args.number c.args.segments c.input-answer.result in
    pace_on g.D.Disk.state c.args.control.now c.input-answer.new.self c.bind.new.control c.input-answer.ensures.stays
    (pace_call g.D.Disk.state (2 * c.args.control.now.control.system.logs) (fault_in entry) entry c.args.control.now c.input-answer.new.self (omega arith) c.requires.up (g.met.D.Disk.is_disk c.input-answer.new.self.disk) c.input-answer.ensures.stays
    c.input-answer.ensures.raises c.input-answer.ensures.counts c.input-answer.ensures.adds c.input-answer.ensures.nothing c.input-answer.ensures.undone)
    c.bind.ensures.pace

pub returns-clause-stays : goal.returns-clause-stays
returns-clause-stays g c = stays_so_on g.D.Disk.state c.args.control.now c.input-answer.new.self c.bind.new.control c.input-answer.ensures.stays c.bind.ensures.stays
