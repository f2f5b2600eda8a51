-- A life as it is opened.
use Rattle.std.specs.Prelude.{◌≡◌, ℕ, ◌-◌, ◌^◌, ◌<◌, true, false, List, [], map, Some, None, Ok}
use Rattle.std.specs.List.{AllByRecursion}
use Rattle.tm_disk.specs.Disk.{Image}
use Rattle.model_system.specs.System.{System}
use Rattle.model_machine.specs.Machine.{LastingState}
use Rattle.log_records.specs.declared.record.Record.{Record}
use Rattle.restart_data.specs.declared.restart.RestartSector.{RestartSector}
use Rattle.restart_data.specs.Restart.{IsRestart, restart_in}
use Rattle.seg_store.specs.Slots.{Stored, AreSlots}
use Rattle.model_image.specs.SectorsAhead.{NoneAhead}
use Rattle.model_system.specs.Areas.{is_single, snapshot_area, log_first}
use Rattle.model_image.specs.HeldStores.{HoldsStores}
use Rattle.model_image.specs.RecoveredState.{snapshot_from, Recovers}
use Rattle.model_image.specs.States.{breaks_a_rule}
use Rattle.disk_law.specs.CommittedBytes.{Bytes, Touches, changes_of_slot}
use Rattle.disk_law.specs.Life.{LifeOnDisk, store_bytes_at}
use Rattle.model_image.specs.Text.{text_in}

-- the bytes of the slots of stores, by database from 1 on and number
abbrev pub bytes_in_stores : List Stored → Bytes
bytes_in_stores stores database number = store_bytes_at stores (database - 1) number

abbrev pub no_touches : Touches
no_touches unit database number = None

-- The life that begins with these stores: the writer stands at the start of the log area that the restart sector names, nothing
-- is appended, no slot counts as changed, and no unit is open.
abbrev pub opened_life : System → List ℕ → RestartSector → List Stored → LastingState → LifeOnDisk
opened_life system text now stores state = record {
  system = system;
  text = text;
  now = now;
  log = record { first = log_first system now.log; count = system.logs; sequence = now.sequence; epoch = now.epoch; place = 0; appended = [] };
  appended = [];
  lasting = state;
  committed = bytes_in_stores stores;
  present = bytes_in_stores stores;
  changed = λ database number. false;
  touches = no_touches;
  may_sync = λ unit. true;
}

-- The restart sector is in its range; what lasts breaks no rule; the stores are those of the system; and no record of the
-- snapshot is a change.
pub record MayOpenLife (system : System) (now : RestartSector) (stores : List Stored) (state : LastingState) (told : List Record) : Type 0 where
  pub in_range : IsRestart now
  pub few : system.logs < 2 ^ 32
  pub sound : breaks_a_rule system state ≡ false
  pub databases : map (λ s. s.dbd) stores ≡ system.databases
  pub valid : AllByRecursion (λ s. AreSlots s.dbd s.slots) stores
  pub plain : (database slot : ℕ) → changes_of_slot told database slot ≡ []

-- The image has the restart sector, the text and a snapshot of these records, recovers to the state, has no log behind it, and
-- each slot of the stores in its sectors.
pub record IsOpened (system : System) (text : List ℕ) (now : RestartSector) (stores : List Stored) (state : LastingState) (told : List Record) (image : Image) : Type 0 where
  pub restart : restart_in (snapshot_area system) (is_single system) image ≡ Ok (Some now)
  pub has_text : text_in image now.text ≡ text
  pub has_snapshot : snapshot_from system image now ≡ Ok told
  pub recovers : Recovers system image (Ok state)
  pub none_ahead : NoneAhead system image now.epoch now.sequence
  pub holds : HoldsStores system stores image
