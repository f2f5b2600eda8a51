-- A system, as its lists. They have the order of the definition's lines.
use Rattle.std.specs.Prelude.{ℕ, List}
use Rattle.tm_types.specs.declared.dbd.Dbd.{Dbd}
use Rattle.model_system.specs.declared.code.Code.{Code}
use Rattle.model_system.specs.declared.screen.Screen.{Screen}
use Rattle.model_system.specs.declared.screen.SystemFormat.{SystemFormat}
use Rattle.model_system.specs.declared.system_program.SystemProgram.{SystemProgram}

-- the bytes of the queues, the sectors of a log area, and what is defined; databases and regions
-- are numbered from 1, and the screens are the terminals that have a format
pub record System : Type 0 where
  pub qbytes : ℕ
  pub logs : ℕ
  pub databases : List Dbd
  pub programs : List SystemProgram
  pub codes : List Code
  pub terminals : List (List ℕ)
  pub screens : List Screen
  pub formats : List SystemFormat
  pub regions : List (List ℕ)
