-- by the fault that the call met
use Rattle.std.proofs.Common.{◌≡◌, ◌∙◌, rules, refl, sym, subst, ◌*◌, arith}
use Rattle.model_machine.specs.declared.entry.Entry.TheVariants.{Acked}
use Rattle.model_session.specs.Text.{ack_text}
use Rattle.session_lives.specs.AskedControl.{BindsBy}
use Rattle.session_lives.proofs.Asked.{asked_call, stays_so_on}
use Rattle.session_lives.proofs.Bound.{up_where_bound}
use Rattle.model_machine.specs.declared.entry.Entry.{Entry}
use Rattle.openings.specs.Faults.{fault_in}
use Rattle.session_lives.proofs.Counting.{pace_call, pace_on}
use Rattle.session_lives.proofs.asking.answer_acknowledge.Goals as goal

pub bind-requires : goal.bind-requires
bind-requires g c = record {
  up = λ binding.
      up_where_bound g.D.Disk.state (Acked c.args.terminal.now c.args.number c.acknowledge-answer.result) c.args.control.now c.acknowledge-answer.new.self c.acknowledge-answer.ensures.adds
      (sym (c.is_removed.ensures c.args.terminal.now c.args.number) ∙ binding);
}

pub returns-clause-asked : goal.returns-clause-asked
returns-clause-asked g c =
    let printed : c.ack_line.new.out.text ≡ ack_text c.args.terminal.now c.args.number c.acknowledge-answer.result = search rules in
    asked_call g.D.Disk.state (Acked c.args.terminal.now c.args.number c.acknowledge-answer.result) c.args.control.now c.acknowledge-answer.new.self c.bind.new.control c.ack_line.new.out.text
    c.ack_called.result c.bind.result refl (c.ack_called.ensures c.args.terminal.now c.args.number) c.acknowledge-answer.ensures.spent c.acknowledge-answer.ensures.nothing c.acknowledge-answer.ensures.adds
    c.requires.up c.is_up.ensures.lasts c.acknowledge-answer.ensures.forced (λ may. printed) refl (λ system disk. tt)
    (subst (λ b. BindsBy g.D.Disk.state b c.ack_called.result c.bind.result c.acknowledge-answer.new.self c.bind.new.control) (c.is_removed.ensures c.args.terminal.now c.args.number) c.bind.ensures.bound)

pub returns-clause-pace : goal.returns-clause-pace
returns-clause-pace g c =
    let entry : Entry = Acked c.args.terminal.now c.args.number c.acknowledge-answer.result in
    pace_on g.D.Disk.state c.args.control.now c.acknowledge-answer.new.self c.bind.new.control c.acknowledge-answer.ensures.stays
    (pace_call g.D.Disk.state (2 * c.args.control.now.control.system.logs) (fault_in entry) entry c.args.control.now c.acknowledge-answer.new.self (omega arith) c.requires.up (g.met.D.Disk.is_disk c.acknowledge-answer.new.self.disk) c.acknowledge-answer.ensures.stays
    c.acknowledge-answer.ensures.raises c.acknowledge-answer.ensures.counts c.acknowledge-answer.ensures.adds c.acknowledge-answer.ensures.nothing c.acknowledge-answer.ensures.undone)
    c.bind.ensures.pace

pub returns-clause-stays : goal.returns-clause-stays
returns-clause-stays g c = stays_so_on g.D.Disk.state c.args.control.now c.acknowledge-answer.new.self c.bind.new.control c.acknowledge-answer.ensures.stays c.bind.ensures.stays
