use Rattle.std.proofs.Common.{subst}
use Rattle.model_system.specs.System.{System}
use Rattle.logged_machine.specs.MachineOpening.{BeginsOn}
use Rattle.logged_machine.proofs.Begun.{opened_with, opens_on, logged_on}
use Rattle.logged_machine.proofs.opening.open.Goals as goal

pub begin-journal-requires-clause-some : goal.begin-journal-requires-clause-some
begin-journal-requires-clause-some g c = (
  c.in-Ok.lasting,
  opened_with c.args.parts.now.system c.args.text.now c.in-Ok.opening c.in-Ok.lasting (g.D.Disk.state c.look.new.disk)
      (subst (λ (y : System). BeginsOn y c.args.text.now c.in-Ok.opening c.in-Ok.lasting (g.D.Disk.state c.look.new.disk)) c.system.ensures c.in-Ok.ensures.begins),
)

pub begin-journal-requires-clause-restart : goal.begin-journal-requires-clause-restart
begin-journal-requires-clause-restart g c = c.in-Ok.ensures.begins.may.restart

pub returns-in-Ok-clause-opens : goal.returns-in-Ok-clause-opens
returns-in-Ok-clause-opens g c =
    opens_on c.args.how c.system.result.now c.args.parts.now.system c.args.text.now (g.D.Disk.state c.args.disk.now) (g.D.Disk.state c.look.new.disk) c.begin-journal.new.parts c.in-Ok.opening c.in-Ok.lasting c.begin-journal.result.0 c.begin-journal.result.1
    c.begin-journal.ensures.log c.begin-journal.ensures.restart c.begin-journal.ensures.unit c.system.ensures c.in-Ok.ensures.begins c.in-Ok.ensures.size c.in-Ok.ensures.cause c.in-Ok.ensures.found c.in-Ok.ensures.cold c.begin-journal.ensures.moment c.begin-journal.ensures.slots

pub returns-in-Ok-clause-logged : goal.returns-in-Ok-clause-logged
returns-in-Ok-clause-logged g c =
    logged_on c.system.result.now c.args.parts.now.system c.system.ensures c.begin-journal.new.parts c.args.text.now c.in-Ok.opening c.in-Ok.lasting (g.D.Disk.state c.look.new.disk) c.in-Ok.ensures.begins c.begin-journal.ensures.system
    c.begin-journal.ensures.has c.begin-journal.ensures.moment c.begin-journal.ensures.slots c.begin-journal.result.0 c.begin-journal.ensures.log c.begin-journal.ensures.restart c.begin-journal.result.1 c.begin-journal.ensures.unit
