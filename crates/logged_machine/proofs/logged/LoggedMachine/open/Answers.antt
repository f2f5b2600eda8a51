use Rattle.std.proofs.Common.{subst, sym, arith}
use Rattle.model_system.specs.System.{System}
use Rattle.openings.specs.declared.refusals.OpenError.TheVariants.{Memory}
use Rattle.openings.specs.LifeBeginning.{HandsBack}
use Rattle.logged_machine.proofs.Handed.{no_memory}
use Rattle.logged_machine.proofs.logged.LoggedMachine.open.Goals as goal

pub returns-in-Err-clause-refused : goal.returns-in-Err-clause-refused
returns-in-Err-clause-refused g c =
    subst (λ (system : System). HandsBack g.D.Disk.state c.args.how c.args.system c.args.text c.args.disk Memory c.args.disk system c.args.text) (sym c.in-Err.ensures.back)
    (no_memory g.D.Disk.state c.args.how c.args.system c.args.text c.args.disk (omega (arith, c.sectors_needed-needed.ensures.value, c.sectors-has.ensures)))
