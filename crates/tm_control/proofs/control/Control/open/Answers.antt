-- what lasts as a life begins
use Rattle.std.proofs.Common.{◌∙◌, Bool, sym, ap, subst, arith}
use Rattle.model_machine.specs.Machine.{start_of}
use Rattle.model_system.specs.System.{System}
use Rattle.tm_control.proofs.Counting.{begins_up_to}
use Rattle.tm_control.specs.ControlParts.{HoldsBy}
use Rattle.tm_control.proofs.Going.{opened_holds, lasts_open}
use Rattle.tm_control.proofs.control.Control.open.Goals as goal

pub invariant_of-result : goal.invariant_of-result
invariant_of-result g c = record {
  holds =
      subst (λ (b : Bool). HoldsBy b g.D.Disk.state c.in-Ok-open.machine c.in-Ok-open.opening c.checkpoint_number-checkpoint.result c.in-Ok.history.items c.steps-steps.result)
      (sym c.in-Ok-open.ensures.opened.served)
      (opened_holds g.D.Disk.state c.in-Ok-open.machine c.in-Ok-open.opening c.checkpoint_number-checkpoint.result c.in-Ok.history.items c.steps-steps.result c.in-Ok.ensures.items
      (c.in-Ok-open.ensures.opened.moment ∙ ap (λ (s : System). start_of s c.in-Ok-open.opening) (sym c.in-Ok-open.ensures.opened.system_is)) c.in-Ok-open.ensures.opened.forced c.in-Ok-open.ensures.opened.pends
      c.steps-steps.ensures c.checkpoint_number-checkpoint.ensures);
  room = λ served. omega (arith, c.in-Ok.ensures.len, c.in-Ok.ensures.capacity);
}

pub returns-in-Ok-open-clause-lasts : goal.returns-in-Ok-open-clause-lasts
returns-in-Ok-open-clause-lasts g c =
    lasts_open g.D.Disk.state c.in-Ok-open.machine c.in-Ok-open.opening c.checkpoint_number-checkpoint.result c.in-Ok.history.items _ c.faults-began.result c.in-Ok.ensures.items
    (c.in-Ok-open.ensures.opened.moment ∙ ap (λ (s : System). start_of s c.in-Ok-open.opening) (sym c.in-Ok-open.ensures.opened.system_is)) c.in-Ok-open.ensures.opened.forced c.in-Ok-open.ensures.opened.pends c.in-Ok-open.ensures.opened.served c.checkpoint_number-checkpoint.ensures c.in-Ok-open.ensures.lasts

pub returns-in-Ok-open-clause-stands : goal.returns-in-Ok-open-clause-stands
returns-in-Ok-open-clause-stands g c high tells counts =
    begins_up_to c.args.how c.args.system c.args.text (g.D.Disk.state c.args.disk) c.in-Ok-open.opening c.in-Ok-open.machine.journal c.in-Ok-open.machine.next_unit c.in-Ok-open.ensures.opened.begins high tells counts

pub returns-in_default-clause-refused : goal.returns-in_default-clause-refused
returns-in_default-clause-refused g c = c.without_memory.ensures.refused c.args.how
