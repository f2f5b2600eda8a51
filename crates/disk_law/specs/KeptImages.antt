-- What each image that a stop may leave has of a life.
use Rattle.std.specs.Prelude.{◌≡◌, ℕ, ◌+◌, ◌*◌, true, false, List, [], slice_get, IsSome, Some, None, Ok}
use Rattle.std.specs.List.{flat_map, AllByRecursion}
use Rattle.tm_disk.specs.Disk.{Image, DiskState}
use Rattle.model_system.specs.System.{System}
use Rattle.model_machine.specs.Machine.{LastingState}
use Rattle.log_records.specs.declared.record.Record.{Record}
use Rattle.log_records.specs.RecordSpelling.{record_spelling, IsLogRecord}
use Rattle.log_records.proofs.Takes.{IsBytes}
use Rattle.log_writer.specs.ForcedLog.{log_of_writer}
use Rattle.restart_data.specs.Restart.{restart_in}
use Rattle.model_image.specs.SectorsAhead.{NoneAhead}
use Rattle.model_image.specs.HeldStores.{HoldsBytes}
use Rattle.model_system.specs.Areas.{is_single, snapshot_area, log_first}
use Rattle.model_image.specs.Snapshot.{snapshot_state}
use Rattle.model_image.specs.Slots.{named_by, slot_at}
use Rattle.model_image.specs.Replay.{Replay, replay_all}
use Rattle.model_image.specs.RecoveredState.{snapshot_from, first_later, Recovers}
use Rattle.disk_law.specs.CommittedBytes.{AreCommitted}
use Rattle.disk_law.specs.Life.{LifeOnDisk, EachSlot, but_rows}
use Rattle.model_image.specs.Text.{text_in}

-- these bytes stand in the sectors of a slot
abbrev pub StandsAt : System → Image → ℕ → ℕ → List ℕ → Type 0
StandsAt system image place number bytes = HoldsBytes bytes (slot_at system image place number)

-- the state of a snapshot, from which its log is done again
abbrev pub beginning : System → List Record → Replay
beginning system snapshot = record { lasting = snapshot_state system snapshot; waiting = [] }

-- Records of a life behind those of a snapshot, and an image with these sectors in the slots. Done again, the records leave what lasts
-- but for the rows, and nothing that waits. The rows come from the slots: each slot that a record names, it names with its committed
-- bytes; one that none names has its committed bytes in its sectors.
--
-- For the checkpoint to come, each slot that was not changed since its sectors were written stands there as in the stores,
-- and each one that was is named by a record.
pub record AreRecordsOf (life : LifeOnDisk) (snapshot log : List Record) (image : Image) : Type 0 where
  pub lasts : replay_all life.system log (beginning life.system snapshot) ≡ Some (record { lasting = but_rows life.system life.lasting; waiting = [] })
  pub slots : AreCommitted snapshot log life.may_sync life.touches life.committed
  pub unnamed : EachSlot life.system (λ place number. named_by snapshot log (place + 1) number ≡ None → StandsAt life.system image place number (life.committed (place + 1) number))
  pub written : EachSlot life.system (λ place number. life.changed (place + 1) number ≡ false → StandsAt life.system image place number (life.present (place + 1) number))
  pub named : EachSlot life.system (λ place number. life.changed (place + 1) number ≡ true → IsSome (named_by snapshot log (place + 1) number))

-- The image has all of a life, of which nothing waits for a force: its restart sector and text, and its records, with no rest. No
-- sector of the logs is of a later epoch, or ahead of the writer.
pub record IsImageKept (life : LifeOnDisk) (image : Image) : Type 0 where
  pub restart : restart_in (snapshot_area life.system) (is_single life.system) image ≡ Ok (Some life.now)
  pub has_text : text_in image life.now.text ≡ life.text
  -- the records on the disk
  pub snapshot : List Record
  pub log : List Record
  pub has_snapshot : snapshot_from life.system image life.now ≡ Ok snapshot
  pub has_log : log_of_writer life.log image ≡ flat_map record_spelling log
  pub records : AllByRecursion IsLogRecord log
  pub bytes : IsBytes (flat_map record_spelling log)
  pub are : AreRecordsOf life snapshot log image
  -- the sectors of the logs
  pub not_later : first_later (2 * life.system.logs) image (log_first life.system 0) life.now.epoch ≡ None
  pub none_ahead : NoneAhead life.system image life.now.epoch (life.log.sequence + life.log.place)

-- Each image that a crash may leave is one of the life.
abbrev pub AreImagesKept : LifeOnDisk → DiskState → Type 0
AreImagesKept life disk = (image : Image) → disk.may_leave image → IsImageKept life image

-- The image recovers to one of these states.
pub record RecoversOne (system : System) (states : List LastingState) (image : Image) : Type 0 where
  pub place : ℕ
  pub state : LastingState
  pub found : slice_get states place ≡ Some state
  pub recovers : Recovers system image (Ok state)
