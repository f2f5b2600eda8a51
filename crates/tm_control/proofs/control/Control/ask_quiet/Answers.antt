-- the machine stands, and the new entry says whether nothing is left to do
use Rattle.std.proofs.Common.{◌-◌, ◌∙◌, sym, subst, ap, arith, refl}
use Rattle.model_machine.specs.declared.entry.Entry.TheVariants.{Quiet}
use Rattle.model_machine.specs.Machine.{Moment}
use Rattle.model_machine.specs.MachineCalls.{is_machine_quiet}
use Rattle.model_machine.specs.History.{control_moment}
use Rattle.tm_control.specs.ControlCalls.{Shows}
use Rattle.tm_control.specs.ControlOnDisk.{ControlOnDisk}
use Rattle.tm_control.proofs.Going.{is_served, lasts_now, seen, shown_holds, shows_now}
use Rattle.tm_control.proofs.control.Control.ask_quiet.Goals as goal

pub invariant_of-self : goal.invariant_of-self
invariant_of-self g c = record {
  holds =
      shown_holds g.D.Disk.state c.self.inside.machine c.self.inside.opening c.self.inside.checkpoint c.self.inside.history.items c.push_reserved.new.self.items
      (Quiet c.quiet_answer-quiet.result) c.self.inside.steps
      (ap (λ (v : ControlOnDisk _). v.up) c.self.view_is ∙ c.requires.up) c.self.invariant.holds c.push_reserved.ensures.items c.quiet_answer-quiet.ensures.answers refl tt;
  room = λ served. omega (arith, c.requires.room, ap (λ (v : ControlOnDisk _). v.control.room) c.self.view_is, c.push_reserved.ensures.len, c.push_reserved.ensures.capacity);
}

pub returns-clause-lasts : goal.returns-clause-lasts
returns-clause-lasts g c =
    lasts_now g.D.Disk.state c.self.inside.machine c.self.inside.opening c.self.inside.checkpoint c.push_reserved.new.self.items _ c.self.inside.began c.self.inside.steps
    (shown_holds g.D.Disk.state c.self.inside.machine c.self.inside.opening c.self.inside.checkpoint c.self.inside.history.items c.push_reserved.new.self.items
    (Quiet c.quiet_answer-quiet.result) c.self.inside.steps
    (ap (λ (v : ControlOnDisk _). v.up) c.self.view_is ∙ c.requires.up) c.self.invariant.holds c.push_reserved.ensures.items c.quiet_answer-quiet.ensures.answers refl tt)
    c.is_served-before.ensures.lasts

pub returns-clause-adds : goal.returns-clause-adds
returns-clause-adds g c =
    subst (λ (v : ControlOnDisk _). Shows g.D.Disk.state v
    (seen c.self.inside.machine c.self.inside.opening c.self.inside.checkpoint c.push_reserved.new.self.items (c.push_reserved.new.self.cap - c.push_reserved.new.self.len - 1) c.self.inside.began)
    (Quiet (is_machine_quiet v.control.system (control_moment v.control)))) c.self.view_is
    (subst (λ b. Shows g.D.Disk.state (seen c.self.inside.machine c.self.inside.opening c.self.inside.checkpoint c.self.inside.history.items (c.self.inside.history.cap - c.self.inside.history.len - 1) c.self.inside.began)
    (seen c.self.inside.machine c.self.inside.opening c.self.inside.checkpoint c.push_reserved.new.self.items (c.push_reserved.new.self.cap - c.push_reserved.new.self.len - 1) c.self.inside.began) (Quiet b))
    (c.quiet_answer-quiet.ensures.value ∙ ap (λ (m : Moment). is_machine_quiet c.self.inside.machine.machine.system m)
    (sym (is_served g.D.Disk.state c.self.inside.machine c.self.inside.opening c.self.inside.checkpoint c.self.inside.history.items c.self.inside.steps (ap (λ (v : ControlOnDisk _). v.up) c.self.view_is ∙ c.requires.up) c.self.invariant.holds).moment))
    (shows_now g.D.Disk.state c.self.inside.machine c.self.inside.opening c.self.inside.checkpoint c.self.inside.history.items c.push_reserved.new.self.items (Quiet c.quiet_answer-quiet.result)
    (c.self.inside.history.cap - c.self.inside.history.len - 1) (c.push_reserved.new.self.cap - c.push_reserved.new.self.len - 1) c.self.inside.began c.self.inside.steps
    (ap (λ (v : ControlOnDisk _). v.up) c.self.view_is ∙ c.requires.up) c.self.invariant.holds c.push_reserved.ensures.items c.quiet_answer-quiet.ensures.answers
    (omega (arith, c.requires.room, ap (λ (v : ControlOnDisk _). v.control.room) c.self.view_is, c.push_reserved.ensures.len, c.push_reserved.ensures.capacity))))
