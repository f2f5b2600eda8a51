-- The numbers of checkpoints, as entries are added.
use Rattle.std.proofs.Common.{◌≡◌, ◌<◌, ◌≤◌, ℕ, Bool, List, [], ◌∷◌, ◌++◌, refl, arith}
use Rattle.std.specs.Prelude.{⊤, Some, Result, Ok, Err, IfOk}
use Rattle.model_machine.specs.declared.entry.CheckpointRefused.{CheckpointRefused}
use Rattle.model_machine.specs.declared.entry.ControlFault.{ControlFault}
use Rattle.model_machine.specs.declared.entry.Entry.{Entry}
use Rattle.model_machine.specs.declared.entry.Entry.TheVariants.{Accept, Show, Acked, Turn, Commanded, Checked, Quiet}
use Rattle.model_machine.specs.History.{AscendAbove}
use Rattle.tm_disk.specs.Disk.{DiskState}
use Rattle.model_system.specs.System.{System}
use Rattle.disk_law.specs.JournalState.{JournalState}
use Rattle.openings.specs.Faults.{fault_in}
use Rattle.logged_machine.specs.TakenCheckpoint.{IsTaken}
use Rattle.tm_control.specs.ControlOnDisk.{last_checked}
use Rattle.tm_control.proofs.Closing.{none_some}

pub ascend_more : (least : ℕ) (entries more : List Entry) → AscendAbove least entries → AscendAbove (last_checked least entries) more → AscendAbove least (entries ++ more)
ascend_more least [] more before behind = behind
ascend_more least (Checked freeze (Ok number) ∷ entries) more before behind = (before.0, ascend_more number entries more before.1 behind)
ascend_more least (Checked freeze (Err refused) ∷ entries) more before behind = ascend_more least entries more before behind
ascend_more least (Accept terminal number segments answer ∷ entries) more before behind = ascend_more least entries more before behind
ascend_more least (Show terminal answer ∷ entries) more before behind = ascend_more least entries more before behind
ascend_more least (Acked terminal number answer ∷ entries) more before behind = ascend_more least entries more before behind
ascend_more least (Turn region answer ∷ entries) more before behind = ascend_more least entries more before behind
ascend_more least (Commanded command answer ∷ entries) more before behind = ascend_more least entries more before behind
ascend_more least (Quiet quiet ∷ entries) more before behind = ascend_more least entries more before behind

pub last_more : (least : ℕ) (entries more : List Entry) → last_checked least (entries ++ more) ≡ last_checked (last_checked least entries) more
last_more least [] more = refl
last_more least (Checked freeze (Ok number) ∷ entries) more = last_more number entries more
last_more least (Checked freeze (Err refused) ∷ entries) more = last_more least entries more
last_more least (Accept terminal number segments answer ∷ entries) more = last_more least entries more
last_more least (Show terminal answer ∷ entries) more = last_more least entries more
last_more least (Acked terminal number answer ∷ entries) more = last_more least entries more
last_more least (Turn region answer ∷ entries) more = last_more least entries more
last_more least (Commanded command answer ∷ entries) more = last_more least entries more
last_more least (Quiet quiet ∷ entries) more = last_more least entries more

-- what an entry says of the number of the checkpoint before its call, and of the one behind it
abbrev pub Numbers : Entry → ℕ → ℕ → Type 0
Numbers (Checked freeze (Ok number)) before now = (before < number) × (number ≤ now)
Numbers _ before now = ⊤

pub record Next (entry : Entry) (last now : ℕ) : Type 0 where
  pub ascend : AscendAbove last (entry ∷ [])
  pub reached : last_checked last (entry ∷ []) ≤ now

pub next_number : (entry : Entry) (last before now : ℕ) → last ≤ before → before ≤ now → Numbers entry before now → Next entry last now
next_number (Checked freeze (Ok number)) last before now a b h = record { ascend = (omega (arith, a, h.0), tt); reached = h.1 }
next_number (Checked freeze (Err refused)) last before now a b h = record { ascend = tt; reached = omega (arith, a, b) }
next_number (Accept terminal number segments answer) last before now a b h = record { ascend = tt; reached = omega (arith, a, b) }
next_number (Show terminal answer) last before now a b h = record { ascend = tt; reached = omega (arith, a, b) }
next_number (Acked terminal number answer) last before now a b h = record { ascend = tt; reached = omega (arith, a, b) }
next_number (Turn region answer) last before now a b h = record { ascend = tt; reached = omega (arith, a, b) }
next_number (Commanded command answer) last before now a b h = record { ascend = tt; reached = omega (arith, a, b) }
next_number (Quiet quiet) last before now a b h = record { ascend = tt; reached = omega (arith, a, b) }

-- a fault tells no number
pub fault_ascends : (entry : Entry) (fault : ControlFault) (last : ℕ) → fault_in entry ≡ Some fault → AscendAbove last (entry ∷ [])
fault_ascends (Checked freeze (Ok number)) fault last e = absurd (none_some fault e)
fault_ascends (Checked freeze (Err refused)) fault last e = tt
fault_ascends (Accept terminal number segments answer) fault last e = tt
fault_ascends (Show terminal answer) fault last e = tt
fault_ascends (Acked terminal number answer) fault last e = tt
fault_ascends (Turn region answer) fault last e = tt
fault_ascends (Commanded command answer) fault last e = tt
fault_ascends (Quiet quiet) fault last e = tt

pub fault_tells : (entry : Entry) (fault : ControlFault) (last : ℕ) → fault_in entry ≡ Some fault → last_checked last (entry ∷ []) ≡ last
fault_tells (Checked freeze (Ok number)) fault last e = absurd (none_some fault e)
fault_tells (Checked freeze (Err refused)) fault last e = refl
fault_tells (Accept terminal number segments answer) fault last e = refl
fault_tells (Show terminal answer) fault last e = refl
fault_tells (Acked terminal number answer) fault last e = refl
fault_tells (Turn region answer) fault last e = refl
fault_tells (Commanded command answer) fault last e = refl
fault_tells (Quiet quiet) fault last e = refl

-- a checkpoint's number is the one that holds behind it
pub taken_numbers : (freeze : Bool) (result : Result ℕ CheckpointRefused) (system : System) (old new : JournalState) (disk : DiskState)
    → IfOk result (λ number. IsTaken system number old new disk) → Numbers (Checked freeze result) old.restart.checkpoint new.restart.checkpoint
taken_numbers freeze (Ok number) system old new disk h = (omega (arith, h.next), omega (arith, h.now))
taken_numbers freeze (Err refused) system old new disk h = tt
