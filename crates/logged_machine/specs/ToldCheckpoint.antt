-- A checkpoint with the records of a call behind it.
use Rattle.std.specs.Prelude.{◌≡◌, ℕ, ◌+◌, List, [], ◌∷◌}
use Rattle.tm_disk.specs.Disk.{DiskState, Stays, Within, Follows, Only}
use Rattle.model_system.specs.System.{System}
use Rattle.model_machine.specs.Machine.{LastingState}
use Rattle.log_records.specs.declared.record.Record.{Record}
use Rattle.log_writer.specs.Writer.{Writer}
use Rattle.log_writer.specs.ForcedLog.{IsWriterReady}
use Rattle.seg_store.specs.ChangedSlots.{AllStores}
use Rattle.disk_law.specs.CommittedBytes.{Touches}
use Rattle.checkpointing.specs.Counts.{CountsUpTo}
use Rattle.checkpointing.specs.CheckpointParts.{next_restart, next_writer}
use Rattle.checkpointing.specs.DefinitionText.{KeepsText}
use Rattle.disk_law.specs.LifeCheckpoint.{after_checkpoint}
use Rattle.disk_law.specs.UnitCounts.{StandsUpTo}
use Rattle.disk_law.specs.JournalState.{JournalState}
use Rattle.disk_law.specs.PendingMoves.{KeepsBehindForce, PendsBehind}
use Rattle.disk_law.specs.Life.{LifeOnDisk}
use Rattle.journal.specs.CheckpointFor.{AreCheckpointPartsOf, IsCheckpointedBehindForce, parts_for}
use Rattle.journal.specs.JournalDisk.{holding}
use Rattle.tm_machine.specs.Parts.{PartsState}
use Rattle.logged_machine.specs.LoggedParts.{IsLogged}
use Rattle.logged_machine.specs.UntakenCheckpoint.{TakesNext, settled_parts}
use Rattle.logged_machine.specs.RecordsBehindLog.{Appends}

-- Whatever was written, what a crash leaves got a front of what was appended, or recovers as with all of it; and it is of the same text.
pub record KeepsOnDisk (system : System) (log : Writer) (old new : DiskState) : Type 0 where
  pub stays : Stays old new
  pub any_moment : Within (KeepsBehindForce system log) old new
  pub texts : Within (KeepsText system) old new

-- The checkpoint of these stores was written with these bytes as its snapshot, and all is synced; these bytes were appended behind
-- it.
pub record WroteTold (system : System) (stores : AllStores) (bytes told : List ℕ) (old new : JournalState) (disk disk' : DiskState) : Type 0 where
  pub log : new.log ≡ holding told (next_writer (parts_for system old.restart bytes) old.log)
  pub restart : new.restart ≡ next_restart (parts_for system old.restart bytes) old.log
  pub kept : (life : LifeOnDisk) → (touches : Touches) → (records : List Record) → (states : List LastingState) → AreCheckpointPartsOf system old stores bytes touches records states disk life
      → PendsBehind (life.lasting ∷ []) (after_checkpoint bytes touches life) disk'
  pub ready : IsWriterReady (next_writer (parts_for system old.restart bytes) old.log) disk'
  pub follows : Follows (IsCheckpointedBehindForce (parts_for system old.restart bytes) old.log stores) disk disk'
  pub synced : Only disk'.shown disk'
  pub no_fault : disk'.faults ≡ disk.faults

-- nothing was appended, in an area of so many sectors
pub record IsEmptyLog (count : ℕ) (log : Writer) : Type 0 where
  pub count_is : log.count ≡ count
  pub place_is : log.place ≡ 0
  pub appended_is : log.appended ≡ []

-- Where what is counted on stands up to a bound, each image counts further by the sectors of a log area at most.
abbrev pub CountsWithin : System → JournalState → ℕ → DiskState → DiskState → Type 0
CountsWithin system journal next old new = (high : ℕ) → StandsUpTo high journal next → Within (λ before after. CountsUpTo system (high + system.logs) after) old new

-- A checkpoint of these parts was taken: no slot counts as changed then, and all that lasts is forced.
pub record Checkpointed {D : Type 0} (state : D → DiskState) (parts : PartsState) (units : List ℕ) (next : ℕ) (old new : JournalState) (disk disk' : D) : Type 0 where
  pub takes : TakesNext parts.system old new
  pub raised : (high : ℕ) → StandsUpTo high old next → StandsUpTo (high + parts.system.logs) new next
  pub logged : (text : List ℕ) → (states : List LastingState) → IsLogged parts units next old text states (state disk)
      → IsLogged (settled_parts parts) units next new text (parts.moment.lasting ∷ []) (state disk')
  pub synced : Only (state disk').shown (state disk')
  pub no_fault : (state disk').faults ≡ (state disk).faults

-- And these records were appended behind it.
pub record HasBehindDue {D : Type 0} (state : D → DiskState) (parts : PartsState) (units : List ℕ) (next : ℕ) (records : List Record) (old new : JournalState) (disk disk' : D) : Type 0 where
  pub middle : JournalState
  pub checkpointed : Checkpointed state parts units next old middle disk disk'
  pub appends : Appends records middle new
