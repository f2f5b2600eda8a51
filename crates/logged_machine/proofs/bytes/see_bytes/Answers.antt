use Rattle.std.proofs.Common.{arith}
use Rattle.logged_machine.proofs.bytes.see_bytes.Goals as goal

pub returns : goal.returns
returns c i = omega (arith, c.type_inv.bytes i)
