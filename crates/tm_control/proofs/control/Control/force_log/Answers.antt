-- all that was done is forced, or the disk failed
use Rattle.std.proofs.Common.{◌≡◌, ◌-◌, ◌∙◌, Bool, true, false, ap, arith, subst, sym}
use Rattle.std.specs.Prelude.{if◌then◌else◌}
use Rattle.tm_disk.proofs.States.{at_err, at_ok}
use Rattle.logged_machine.specs.CallOutcome.{Failed, HasForced}
use Rattle.tm_control.specs.ControlOnDisk.{ControlOnDisk}
use Rattle.tm_control.specs.ControlParts.{HoldsBy}
use Rattle.tm_control.proofs.Along.{forced_within}
use Rattle.tm_control.proofs.Going.{force_crash, force_failed, force_stands, forced_holds, forces_log, is_served, lasts_now}
use Rattle.tm_control.proofs.control.Control.force_log.Goals as goal

-- where the disk failed

apart : true ≡ false → ⊥
apart e = cc

pub invariant_of-self : goal.invariant_of-self
invariant_of-self g c = record {
  holds = (force_failed g.D.Disk.state c.self.inside.machine c.force_log.new.self c.self.inside.opening c.self.inside.checkpoint c.self.inside.history.items c.push_reserved.new.self.items 0 0 c.self.inside.began c.self.inside.steps
      (ap (λ (v : ControlOnDisk _). v.up) c.self.view_is ∙ c.requires.up)
      (is_served g.D.Disk.state c.self.inside.machine c.self.inside.opening c.self.inside.checkpoint c.self.inside.history.items c.self.inside.steps (ap (λ (v : ControlOnDisk _). v.up) c.self.view_is ∙ c.requires.up) c.self.invariant.holds)
      c.force_log.ensures.keeps c.force_log.ensures.lasts (g.met.D.Disk.is_disk c.force_log.new.self.disk)
      (at_err c.force_log.result (Failed g.D.Disk.state c.self.inside.machine c.force_log.new.self) (sym c.if-is_err.ensures.value) c.force_log.ensures.fault)
      c.force_log.ensures.crash c.push_reserved.ensures.items).1;
  room = λ served. absurd (apart (sym served ∙ (at_err c.force_log.result (Failed g.D.Disk.state c.self.inside.machine c.force_log.new.self) (sym c.if-is_err.ensures.value) c.force_log.ensures.fault).served));
}

pub returns-then-is_err-clause-crash : goal.returns-then-is_err-clause-crash
returns-then-is_err-clause-crash g c = rw (sym c.self.view_is)
    (force_crash g.D.Disk.state c.self.inside.machine c.force_log.new.self c.self.inside.opening c.self.inside.checkpoint c.self.inside.history.items c.push_reserved.new.self.items 0 0 c.self.inside.began c.self.inside.steps
    (is_served g.D.Disk.state c.self.inside.machine c.self.inside.opening c.self.inside.checkpoint c.self.inside.history.items c.self.inside.steps (ap (λ (v : ControlOnDisk _). v.up) c.self.view_is ∙ c.requires.up) c.self.invariant.holds) c.force_log.ensures.crash)

pub returns-then-is_err-clause-lasts : goal.returns-then-is_err-clause-lasts
returns-then-is_err-clause-lasts g c =
    lasts_now g.D.Disk.state c.force_log.new.self c.self.inside.opening c.self.inside.checkpoint c.push_reserved.new.self.items _ c.self.inside.began c.self.inside.steps
    ((force_failed g.D.Disk.state c.self.inside.machine c.force_log.new.self c.self.inside.opening c.self.inside.checkpoint c.self.inside.history.items c.push_reserved.new.self.items 0 0 c.self.inside.began c.self.inside.steps
    (ap (λ (v : ControlOnDisk _). v.up) c.self.view_is ∙ c.requires.up)
    (is_served g.D.Disk.state c.self.inside.machine c.self.inside.opening c.self.inside.checkpoint c.self.inside.history.items c.self.inside.steps (ap (λ (v : ControlOnDisk _). v.up) c.self.view_is ∙ c.requires.up) c.self.invariant.holds)
    c.force_log.ensures.keeps c.force_log.ensures.lasts (g.met.D.Disk.is_disk c.force_log.new.self.disk)
    (at_err c.force_log.result (Failed g.D.Disk.state c.self.inside.machine c.force_log.new.self) (sym c.if-is_err.ensures.value) c.force_log.ensures.fault)
    c.force_log.ensures.crash c.push_reserved.ensures.items).1)
    c.force_log.ensures.lasts

pub returns-then-is_err-clause-counts : goal.returns-then-is_err-clause-counts
returns-then-is_err-clause-counts g c = rw (sym c.self.view_is) c.force_log.ensures.counts

-- where it was done

pub steps_since-requires : goal.steps_since-requires
steps_since-requires g c =
    let h = (is_served g.D.Disk.state c.self.inside.machine c.self.inside.opening c.self.inside.checkpoint c.self.inside.history.items c.self.inside.steps (ap (λ (v : ControlOnDisk _). v.up) c.self.view_is ∙ c.requires.up) c.self.invariant.holds) in
    omega (arith, h.more, forced_within g.D.Disk.state c.self.inside.machine c.self.inside.opening c.self.inside.checkpoint c.self.inside.history.items c.self.inside.steps h, (at_ok c.force_log.result (HasForced g.D.Disk.state c.self.inside.machine c.force_log.new.self) (sym c.if-is_err.ensures.value) c.force_log.ensures.done).forced, c.forced-all.ensures)

pub invariant_of-self-2 : goal.invariant_of-self-2
invariant_of-self-2 g c = record {
  holds = (subst (λ (b : Bool). HoldsBy b g.D.Disk.state c.force_log.new.self c.self.inside.opening c.self.inside.checkpoint c.self.inside.history.items c.steps_of-self-inside.result) (sym (at_ok c.force_log.result (HasForced g.D.Disk.state c.self.inside.machine c.force_log.new.self) (sym c.if-is_err.ensures.value) c.force_log.ensures.done).served)
      (forced_holds g.D.Disk.state c.self.inside.machine c.force_log.new.self c.self.inside.opening c.self.inside.checkpoint c.self.inside.history.items c.self.inside.steps c.steps_of-self-inside.result
      (is_served g.D.Disk.state c.self.inside.machine c.self.inside.opening c.self.inside.checkpoint c.self.inside.history.items c.self.inside.steps (ap (λ (v : ControlOnDisk _). v.up) c.self.view_is ∙ c.requires.up) c.self.invariant.holds)
      (at_ok c.force_log.result (HasForced g.D.Disk.state c.self.inside.machine c.force_log.new.self) (sym c.if-is_err.ensures.value) c.force_log.ensures.done)
      (c.steps_of-self-inside.ensures ∙ ap (λ (b : Bool). if b then c.force_log.new.self.machine.moment.lasting.steps else c.self.inside.steps) (at_ok c.force_log.result (HasForced g.D.Disk.state c.self.inside.machine c.force_log.new.self) (sym c.if-is_err.ensures.value) c.force_log.ensures.done).served)));
  room = λ served. c.self.invariant.room (ap (λ (v : ControlOnDisk _). v.up) c.self.view_is ∙ c.requires.up);
}

pub returns-clause-forces : goal.returns-clause-forces
returns-clause-forces g c = rw (sym c.self.view_is)
    (forces_log g.D.Disk.state c.self.inside.machine c.force_log.new.self c.self.inside.opening c.self.inside.checkpoint c.self.inside.history.items (c.self.inside.history.cap - c.self.inside.history.len - 1) c.self.inside.began c.self.inside.steps
    (is_served g.D.Disk.state c.self.inside.machine c.self.inside.opening c.self.inside.checkpoint c.self.inside.history.items c.self.inside.steps (ap (λ (v : ControlOnDisk _). v.up) c.self.view_is ∙ c.requires.up) c.self.invariant.holds)
    (at_ok c.force_log.result (HasForced g.D.Disk.state c.self.inside.machine c.force_log.new.self) (sym c.if-is_err.ensures.value) c.force_log.ensures.done))

pub returns-clause-crash : goal.returns-clause-crash
returns-clause-crash g c = rw (sym c.self.view_is)
    (force_crash g.D.Disk.state c.self.inside.machine c.force_log.new.self c.self.inside.opening c.self.inside.checkpoint c.self.inside.history.items c.self.inside.history.items 0 0 c.self.inside.began c.self.inside.steps
    (is_served g.D.Disk.state c.self.inside.machine c.self.inside.opening c.self.inside.checkpoint c.self.inside.history.items c.self.inside.steps (ap (λ (v : ControlOnDisk _). v.up) c.self.view_is ∙ c.requires.up) c.self.invariant.holds) c.force_log.ensures.crash)

pub returns-clause-lasts : goal.returns-clause-lasts
returns-clause-lasts g c =
    lasts_now g.D.Disk.state c.force_log.new.self c.self.inside.opening c.self.inside.checkpoint c.self.inside.history.items _ c.self.inside.began c.steps_of-self-inside.result
    (subst (λ (b : Bool). HoldsBy b g.D.Disk.state c.force_log.new.self c.self.inside.opening c.self.inside.checkpoint c.self.inside.history.items c.steps_of-self-inside.result) (sym (at_ok c.force_log.result (HasForced g.D.Disk.state c.self.inside.machine c.force_log.new.self) (sym c.if-is_err.ensures.value) c.force_log.ensures.done).served)
    (forced_holds g.D.Disk.state c.self.inside.machine c.force_log.new.self c.self.inside.opening c.self.inside.checkpoint c.self.inside.history.items c.self.inside.steps c.steps_of-self-inside.result
    (is_served g.D.Disk.state c.self.inside.machine c.self.inside.opening c.self.inside.checkpoint c.self.inside.history.items c.self.inside.steps (ap (λ (v : ControlOnDisk _). v.up) c.self.view_is ∙ c.requires.up) c.self.invariant.holds)
    (at_ok c.force_log.result (HasForced g.D.Disk.state c.self.inside.machine c.force_log.new.self) (sym c.if-is_err.ensures.value) c.force_log.ensures.done)
    (c.steps_of-self-inside.ensures ∙ ap (λ (b : Bool). if b then c.force_log.new.self.machine.moment.lasting.steps else c.self.inside.steps) (at_ok c.force_log.result (HasForced g.D.Disk.state c.self.inside.machine c.force_log.new.self) (sym c.if-is_err.ensures.value) c.force_log.ensures.done).served)))
    c.force_log.ensures.lasts

pub returns-clause-counts : goal.returns-clause-counts
returns-clause-counts g c = rw (sym c.self.view_is) c.force_log.ensures.counts

pub returns-clause-raises : goal.returns-clause-raises
returns-clause-raises g c = rw (sym c.self.view_is)
    (λ up. force_stands g.D.Disk.state c.self.inside.machine c.force_log.new.self (at_ok c.force_log.result (HasForced g.D.Disk.state c.self.inside.machine c.force_log.new.self) (sym c.if-is_err.ensures.value) c.force_log.ensures.done))
