-- A region's work on one message between two turns: how many calls the script has made, where it stands,
-- how far the message and the output have come, and where the program's PCBs stand in the databases.
use Rattle.std.specs.Prelude.{◌≡◌, ℕ, ◌-◌, ◌≤◌, List, Option, None, Some, IsSomeAnd, length, slice_get}
use Rattle.tm_types.specs.declared.dbd.Dbd.{Dbd}
use Rattle.model_system.specs.declared.need.CallText.{CallText}
use Rattle.model_system.specs.declared.pcb.Pcb.{Pcb}
use Rattle.model_system.specs.declared.pcb.Pcb.TheVariants.{Database, Destination, Modifiable}
use Rattle.model_system.specs.Pcbs.{pcb_at}
use Rattle.script_run.specs.RunningScript.{Running}
use Rattle.model_messages.specs.MessageWork.{MessageWork}
use Rattle.model_data.specs.declared.call.Position.{Position}
use Rattle.model_data.specs.Conditions.{AreSsasOf, IsPosition}

pub record RunState : Type 0 where
  pub calls : ℕ
  pub machine : Running
  pub work : MessageWork
  pub positions : List Position

-- Between two turns the script waits for no answer, and each of its calls was one of its statements.
abbrev pub IsBetweenTurns : RunState → Type 0
IsBetweenTurns run = (run.machine.waiting ≡ None) × (run.calls ≤ run.machine.script.executed)

-- Each PCB has a position, and that of a PCB of a database is one of this database.
pub record AreStanding (databases : List Dbd) (pcbs : List Pcb) (positions : List Position) : Type 0 where
  pub count : length positions ≡ length pcbs
  pub each : (place number options : ℕ) (dbd : Dbd) (at : Position)
      → slice_get pcbs place ≡ Some (Database number options) → slice_get databases (number - 1) ≡ Some dbd → slice_get positions place ≡ Some at
      → IsPosition dbd.types at

-- the call is one that this PCB has: of a PCB of a database, one on a database that is there, with
-- arguments in order
abbrev pub IsCallBy : List Dbd → CallText → Option Pcb → Type 0
IsCallBy databases call (Some (Database number options)) =
    (1 ≤ number) × IsSomeAnd (slice_get databases (number - 1)) (λ dbd. AreSsasOf call.function dbd.types call.ssas)
IsCallBy databases call (Some (Destination name)) = Unit {0}
IsCallBy databases call (Some Modifiable) = Unit {0}
IsCallBy databases call None = ⊥

-- a call of a program with these PCBs: on PCB 0, or one that its PCB has
abbrev pub IsCallOf : List Dbd → List Pcb → CallText → Type 0
IsCallOf databases pcbs call = 1 ≤ call.pcb → IsCallBy databases call (pcb_at pcbs call.pcb)
