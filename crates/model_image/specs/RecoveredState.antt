-- What an image recovers to.
use Rattle.std.specs.Prelude.{◌≡◌, ℕ, zero, suc, ◌+◌, ◌*◌, Bool, ◌&&◌, nat_lt, List, [], codes, Option, Some, None, Result, Ok, Err, Decides, if◌then◌else◌}
use Rattle.std.specs.Option.{option_map}
use Rattle.std.specs.Str.{bytes_eq}
use Rattle.tm_disk.specs.Disk.{Image, sector_at}
use Rattle.model_system.specs.System.{System}
use Rattle.model_machine.specs.Machine.{LastingState, empty_state}
use Rattle.log_records.specs.declared.record.Record.{Record}
use Rattle.log_records.specs.RecordReader.{◌>>=◌}
use Rattle.log_sectors.specs.Chain.{chain, joined_payloads}
use Rattle.restart_data.specs.declared.restart.RestartSector.{RestartSector}
use Rattle.restart_data.specs.Fields.{bytes_at, number8_at}
use Rattle.restart_data.specs.Restart.{restart_in}
use Rattle.restart_data.specs.Snapshot.{snapshot_in}
use Rattle.model_system.specs.Areas.{is_single, snapshot_area, snapshot_first, log_first}
use Rattle.model_image.specs.CutRecords.{Cut, cut_of, records_cut, IsRecordCutOff}
use Rattle.model_image.specs.Faults.{Fault, in_sector, unless_any, or_fault, unless_fault}
use Rattle.model_image.specs.Snapshot.{snapshot_state, snapshot_rules}
use Rattle.model_image.specs.Replay.{replay_of}
use Rattle.model_image.specs.Slots.{image_rows_from}

-- The records of the snapshot that the restart sector names. Rules 7 to 9 are on its sectors; 10: its bytes are records;
-- 11 to 17 are on these.
abbrev pub snapshot_from : System → Image → RestartSector → Result (List Record) Fault
snapshot_from system image restart =
    let first = snapshot_first system restart.snapshot in
    snapshot_in restart.sectors image first restart.checkpoint
    >>= λ bytes. or_fault (10, first) (records_cut bytes)
    >>= λ records. unless_any first (snapshot_rules system records) records

-- the log of the area that the restart sector names, cut into records and a rest
abbrev pub log_in : System → Image → RestartSector → Cut
log_in system image restart =
    cut_of (joined_payloads (chain system.logs image (log_first system restart.log) restart.sequence restart.epoch))

-- The records of that log. 18: its rest is cut off, and is dropped.
abbrev pub log_from : System → Image → RestartSector → Bool → Result (List Record) Fault
log_from system image restart is_cut_off =
    if is_cut_off then Ok (log_in system image restart).records else Err (18, log_first system restart.log)

-- the snapshot's state with the log's records done again; 19 is on these
abbrev pub state_from : System → RestartSector → List Record → List Record → Result LastingState Fault
state_from system restart snapshot log =
    or_fault (19, log_first system restart.log) (replay_of system log (snapshot_state system snapshot))

-- 24: no sector of either log area has a later epoch
abbrev pub is_later : ℕ → List ℕ → Bool
is_later epoch sector = bytes_eq (bytes_at 0 4 sector) (codes "IMSL") && nat_lt epoch (number8_at 8 sector)

-- the first of so many sectors from one on that has a later epoch
abbrev pub first_later : ℕ → Image → ℕ → ℕ → Option ℕ
first_later zero image at epoch = None
first_later (suc n) image at epoch = if is_later epoch (sector_at image at) then Some at else first_later n image (at + 1) epoch

abbrev pub later_sector : System → Image → RestartSector → Option Fault
later_sector system image restart =
    option_map (λ sector. (24, sector)) (first_later (2 * system.logs) image (log_first system 0) restart.epoch)

-- What the snapshot and the log come to, with the rows of all slots (20 to 22 are on these); or the lowest rule that is
-- broken, and of it the lowest sector.
abbrev pub state_with : System → Image → Bool → RestartSector → Result LastingState Fault
state_with system image is_cut_off restart =
    snapshot_from system image restart
    >>= λ snapshot. log_from system image restart is_cut_off
    >>= λ log. state_from system restart snapshot log
    >>= λ lasting. image_rows_from system image snapshot log
    >>= λ rows. unless_fault (later_sector system image restart) (record lasting { rows = rows })

-- an image whose sector 0 is all zeros has the empty state
abbrev pub state_by_restart : System → Image → Bool → Option RestartSector → Result LastingState Fault
state_by_restart system image is_cut_off None = Ok (empty_state system)
state_by_restart system image is_cut_off (Some restart) = state_with system image is_cut_off restart

-- rules 1 to 6 are on sector 0
abbrev pub recovered : System → Image → Bool → Result LastingState Fault
recovered system image is_cut_off =
    in_sector 0 (restart_in (snapshot_area system) (is_single system) image) >>= λ restart. state_by_restart system image is_cut_off restart

-- the rest of an image's log
abbrev pub rest_by : System → Image → Result (Option RestartSector) ℕ → List ℕ
rest_by system image (Ok (Some restart)) = (log_in system image restart).rest
rest_by system image (Ok None) = []
rest_by system image (Err rule) = []

abbrev pub log_rest : System → Image → List ℕ
log_rest system image = rest_by system image (restart_in (snapshot_area system) (is_single system) image)

-- An image recovers to a state, or to the lowest rule that it breaks and of it the lowest sector.
pub record Recovers (system : System) (image : Image) (answer : Result LastingState Fault) : Type 0 where
  pub is_cut_off : Bool
  pub decides : Decides is_cut_off (IsRecordCutOff (log_rest system image))
  pub is : recovered system image is_cut_off ≡ answer
