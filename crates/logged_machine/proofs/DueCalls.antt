-- A call behind a checkpoint that was due before it.
use Rattle.std.proofs.Common.{◌≡◌, ℕ, Bool, true, List, Some, subst}
use Rattle.tm_disk.specs.Disk.{DiskState, WritesAtMost}
use Rattle.model_machine.specs.declared.entry.Entry.{Entry}
use Rattle.model_machine.specs.declared.entry.ControlFault.{ControlFault}
use Rattle.log_records.specs.declared.record.Record.{Record}
use Rattle.disk_law.specs.JournalState.{JournalState}
use Rattle.tm_machine.specs.Parts.{PartsState}
use Rattle.logged_machine.specs.LoggedParts.{PendSome}
use Rattle.logged_machine.specs.UntakenCheckpoint.{Untaken, checkpoint_sectors}
use Rattle.logged_machine.specs.ToldCheckpoint.{HasBehindDue, CountsWithin, KeepsOnDisk}
use Rattle.logged_machine.specs.Attempts.{Done, is_memory}
use Rattle.logged_machine.proofs.Checkpointed.{before, behind, pending_by, unrefreshed_by}
use Rattle.logged_machine.proofs.Frugality.{done_untaken}

-- by the numbers of the units that were given
pub behind_of : {D : Type 0} (state : D → DiskState) (parts : PartsState) (units given : List ℕ) (next : ℕ) (records : List Record) (old new : JournalState) (disk disk' : D) → given ≡ units
    → HasBehindDue state parts given next records old new disk disk' → HasBehindDue state parts units next records old new disk disk'
behind_of state parts units given next records old new disk disk' same b = subst (λ (us : List ℕ). HasBehindDue state parts us next records old new disk disk') same b

-- ---- where none was taken

module _ {D : Type 0} (state : D → DiskState) (parts parts' : PartsState) (text : List ℕ) (journal journal' : JournalState) (units : List ℕ) (next : ℕ) (disk disk' : D) (up : Bool) (forced : ℕ)
    (keeps : KeepsOnDisk parts.system journal.log (state disk) (state disk')) (counts : CountsWithin parts.system journal next (state disk) (state disk'))
    (most : WritesAtMost (checkpoint_sectors parts.system parts.databases.stores parts.databases.changed journal) (state disk) (state disk')) (system : parts'.system ≡ parts.system) where
  pub done_refused : (fault : ControlFault) (entry : Entry) → up ≡ true → Untaken state parts parts' journal journal' disk disk' fault
      → Done state (Some fault) (before state parts parts' text journal journal' units next disk disk' up forced system keeps.stays keeps.any_moment keeps.texts counts most)
      (behind state parts parts' text journal journal' units next disk disk' up forced system keeps.stays keeps.any_moment keeps.texts counts most (is_memory fault)) entry
  done_refused fault entry served u =
      done_untaken state (before state parts parts' text journal journal' units next disk disk' up forced system keeps.stays keeps.any_moment keeps.texts counts most)
      (behind state parts parts' text journal journal' units next disk disk' up forced system keeps.stays keeps.any_moment keeps.texts counts most (is_memory fault)) entry fault served
      (unrefreshed_by state parts parts' text journal journal' units next disk disk' up forced system keeps.stays keeps.any_moment keeps.texts counts most fault u served)

  pub pending_refused : (fault : ControlFault) → Untaken state parts parts' journal journal' disk disk' fault → is_memory fault ≡ true → PendSome parts units next journal text forced (state disk)
      → PendSome parts' units next journal' text forced (state disk')
  pending_refused fault u memory p = pending_by state parts parts' text journal journal' units next disk disk' up forced system keeps.stays keeps.any_moment keeps.texts counts most fault u memory p
