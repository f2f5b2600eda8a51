-- nothing was touched
use Rattle.std.proofs.Common.{arith}
use Rattle.logged_machine.proofs.Handed.{no_memory}
use Rattle.tm_control.proofs.control.without_memory.Goals as goal

pub returns-clause-refused : goal.returns-clause-refused
returns-clause-refused g c how = no_memory g.D.Disk.state how c.args.system c.args.text c.args.disk (omega (arith, c.sectors_needed-needed.ensures.value, c.sectors-has.ensures))
