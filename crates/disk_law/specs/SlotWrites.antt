-- Slots of a life that are written by themselves, while its log and its snapshot stay.
use Rattle.std.specs.Prelude.{◌≡◌, ◌⊎◌, ℕ, ◌+◌, ◌<◌, Bool, true, false, List, slice_get, Some}
use Rattle.tm_types.specs.declared.dbd.Dbd.{Dbd}
use Rattle.tm_disk.specs.Disk.{Image, sector_at}
use Rattle.model_system.specs.System.{System}
use Rattle.model_system.specs.Areas.{slot_first, slot_size}
use Rattle.log_writer.specs.Writer.{Writer}
use Rattle.log_writer.specs.ForcedLog.{AddsFront, AddsAll}
use Rattle.seg_store.specs.DataSectors.{MayPut, HasPut}
use Rattle.checkpointing.specs.CheckpointSteps.{Then}
use Rattle.disk_law.specs.CommittedBytes.{Bytes}
use Rattle.disk_law.specs.Life.{LifeOnDisk, EachSlot}
use Rattle.disk_law.specs.KeptImages.{StandsAt}
use Rattle.disk_law.specs.SlotChanges.{put_at}

-- A sector of a slot that counts as changed.
pub record OfChangedSlot (system : System) (changed : ℕ → ℕ → Bool) (k : ℕ) : Type 0 where
  pub place : ℕ
  pub number : ℕ
  pub dbd : Dbd
  pub found : slice_get system.databases place ≡ Some dbd
  pub below : number < dbd.roots
  pub counts : changed (place + 1) number ≡ true
  pub index : ℕ
  pub within : index < slot_size system place
  pub sector : k ≡ slot_first system place number + index

-- Only such sectors are others, whole or in part.
abbrev pub MayWriteSlots : System → (ℕ → ℕ → Bool) → Image → Image → Type 0
MayWriteSlots system changed before after =
    (k : ℕ) → (sector_at after k ≡ sector_at before k) ⊎ OfChangedSlot system changed k

-- The pieces are of slots that count as changed: while they are put, only sectors of these are others. Behind them no other slots count as
-- changed, and each that doesn't any more stands in its sectors as in the stores, once they are put.
pub record ArePiecesOfSlots (system : System) (present : Bytes) (changed behind : ℕ → ℕ → Bool) (first : ℕ) (pieces : List (ℕ × List ℕ)) : Type 0 where
  pub only : (before after : Image) → MayPut first pieces before after → MayWriteSlots system changed before after
  pub fewer : EachSlot system (λ place number. behind (place + 1) number ≡ true → changed (place + 1) number ≡ true)
  pub stand : EachSlot system (λ place number. changed (place + 1) number ≡ true → behind (place + 1) number ≡ false →
      (before after : Image) → HasPut first pieces before after → StandsAt system after place number (present (place + 1) number))

-- the life, of which these slots count as changed
abbrev pub with_changed_slots : (ℕ → ℕ → Bool) → LifeOnDisk → LifeOnDisk
with_changed_slots changed life = record life { changed = changed }

-- the life behind one slot that is written: it doesn't count as changed any more
abbrev pub slot_written_life : ℕ → ℕ → LifeOnDisk → LifeOnDisk
slot_written_life database slot life = with_changed_slots (put_at database slot false life.changed) life

-- ---- behind a force

-- A front of what was appended is forced; or all of it, and pieces are written since.
abbrev pub PutsBehindForce : Writer → ℕ → List (ℕ × List ℕ) → Image → Image → Type 0
PutsBehindForce log first pieces before after = AddsFront log before after ⊎ Then (AddsAll log) (MayPut first pieces) before after

-- All of it is forced, and all pieces stand in their sectors.
abbrev pub HasPutBehindForce : Writer → ℕ → List (ℕ × List ℕ) → Image → Image → Type 0
HasPutBehindForce log first pieces = Then (AddsAll log) (HasPut first pieces)
