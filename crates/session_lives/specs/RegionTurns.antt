-- Turns of the regions, one after another.
use Rattle.std.specs.Prelude.{◌≡◌, ℕ, Bool, true, false, List, length}
use Rattle.tm_disk.specs.Disk.{DiskState}
use Rattle.model_machine.specs.declared.entry.Entry.{Entry}
use Rattle.model_machine.specs.MachineCalls.{is_machine_quiet}
use Rattle.model_machine.specs.History.{AreSteps, control_moment, moment_after}
use Rattle.model_session.specs.QuietTurns.{AreTurns, IsQuieted}
use Rattle.tm_control.specs.ControlOnDisk.{ControlOnDisk}
use Rattle.tm_control.specs.ControlCalls.{StaysSo}
use Rattle.session_lives.specs.declared.turns.Turning.{Turning}
use Rattle.session_lives.specs.declared.turns.Turning.TheVariants.{Ended, Broke, Memory, Spent}
use Rattle.session_lives.specs.ControlCounts.{KeepsPace}
use Rattle.session_lives.specs.AskedControl.{AddsEntries, IsBound, FailsTurning, TurnsStand, IsSpentUp}

-- so many turns were done so far
pub record TurnsSoFar {D : Type 0} (state : D → DiskState) (count : ℕ) (old new : ControlOnDisk D) : Type 0 where
  pub entries : List Entry
  pub adds : AddsEntries old.control new.control entries
  pub steps : AreSteps old.control.system (control_moment old.control) entries
  pub turns : AreTurns old.control.system 0 (control_moment old.control) entries
  pub counted : length entries ≡ count
  pub forced : IsBound false old new
  pub up : new.up ≡ true
  pub no_fault : (state new.disk).faults ≡ (state old.disk).faults
  pub stays : StaysSo state old new
  pub pace : KeepsPace state old new

-- So many turns were done and no more, and nothing is left to do; or something is left.
pub record HasEnded {D : Type 0} (state : D → DiskState) (most count : ℕ) (quiet : Bool) (old new : ControlOnDisk D) : Type 0 where
  pub entries : List Entry
  pub adds : AddsEntries old.control new.control entries
  pub steps : AreSteps old.control.system (control_moment old.control) entries
  pub quieted : IsQuieted most old.control.system (control_moment old.control) entries
  pub counted : length entries ≡ count
  pub forced : IsBound false old new
  pub left : is_machine_quiet old.control.system (moment_after old.control.system (control_moment old.control) entries) ≡ quiet
  pub up : new.up ≡ true
  pub no_fault : (state new.disk).faults ≡ (state old.disk).faults

abbrev pub HasTurned : {D : Type 0} → (D → DiskState) → ℕ → Turning → ControlOnDisk D → ControlOnDisk D → Type 0
HasTurned state most (Ended count quiet) old new = HasEnded state most count quiet old new
HasTurned state most Broke old new = FailsTurning state most old new
HasTurned state most Memory old new = TurnsStand state most old new
HasTurned state most Spent old new = TurnsStand state most old new × IsSpentUp new
