-- The arguments of a call.
use Rattle.std.specs.Prelude.{List}
use Rattle.tm_types.specs.declared.dbd.Dbd.{Dbd}
use Rattle.tm_types.specs.declared.ssa.Ssa.{Ssa}

-- a database, and what a call on it asks for
pub record Arguments : Type 0 where
  pub dbd : Dbd
  pub ssas : List Ssa
