-- The answers of this crate are those of an image.
use Rattle.std.proofs.Common.{◌≡◌, ℕ, Bool, true, false, List, refl, ◌∙◌, ap, Some, None, Ok, Err}
use Rattle.std.specs.Prelude.{Option, Result, if◌then◌else◌}
use Rattle.model_system.specs.System.{System}
use Rattle.model_machine.specs.Machine.{LastingState}
use Rattle.log_records.specs.declared.record.Record.{Record}
use Rattle.log_records.specs.RecordReader.{◌>>=◌}
use Rattle.restart_data.specs.declared.restart.RestartSector.{RestartSector}
use Rattle.tm_disk.specs.Disk.{Image}
use Rattle.restart_data.specs.Snapshot.{snapshot_in}
use Rattle.log_sectors.specs.Chain.{chain, joined_payloads}
use Rattle.model_system.specs.Areas.{snapshot_first, log_first}
use Rattle.model_image.specs.CutRecords.{cut_of, records_cut}
use Rattle.model_image.specs.Faults.{Fault, in_sector, unless_any, or_fault}
use Rattle.model_image.specs.Snapshot.{snapshot_rules, snapshot_state}
use Rattle.model_image.specs.Replay.{replay_of}
use Rattle.model_image.specs.RecoveredState.{snapshot_from, log_in, log_from, state_from}
use Rattle.image_records.specs.RecordAnswers.{judged_records, snapshot_of, replayed_to, replayed_log}

judged_is : (system : System) (first : ℕ) (found : Option (List Record)) →
    (or_fault (10, first) found >>= λ records. unless_any first (snapshot_rules system records) records) ≡ in_sector first (judged_records system found)
judged_is system first (Some records) = refl
judged_is system first None = refl

-- A snapshot of an image is what its bytes are judged as.
pub snapshot_is : (system : System) (image : Image) (restart : RestartSector) (bytes : List ℕ) →
    snapshot_in restart.sectors image (snapshot_first system restart.snapshot) restart.checkpoint ≡ Ok bytes →
    snapshot_from system image restart ≡ in_sector (snapshot_first system restart.snapshot) (snapshot_of system bytes)
snapshot_is system image restart bytes is =
    let first = snapshot_first system restart.snapshot in
    ap (λ (read : Result (List ℕ) Fault). read >>= λ bytes. or_fault (10, first) (records_cut bytes) >>= λ records. unless_any first (snapshot_rules system records) records) is
    ∙ judged_is system first (records_cut bytes)

log_where : (system : System) (restart : RestartSector) (snapshot log : List Record) (cut_off : Bool) (found : Option LastingState) →
    replay_of system log (snapshot_state system snapshot) ≡ found →
    ((if cut_off then Ok log else Err (18, log_first system restart.log)) >>= λ log. state_from system restart snapshot log)
    ≡ in_sector (log_first system restart.log) (if cut_off then replayed_to found else Err 18)
log_where system restart snapshot log true (Some lasting) is = ap (or_fault (19, log_first system restart.log)) is
log_where system restart snapshot log true None is = ap (or_fault (19, log_first system restart.log)) is
log_where system restart snapshot log false found is = refl

-- A log of an image comes to what its bytes come to.
pub log_is : (system : System) (image : Image) (restart : RestartSector) (snapshot : List Record) (cut_off : Bool) (bytes : List ℕ) →
    joined_payloads (chain system.logs image (log_first system restart.log) restart.sequence restart.epoch) ≡ bytes →
    (log_from system image restart cut_off >>= λ log. state_from system restart snapshot log)
    ≡ in_sector (log_first system restart.log) (replayed_log system cut_off bytes (snapshot_state system snapshot))
log_is system image restart snapshot cut_off bytes is =
    let first = log_first system restart.log in
    log_where system restart snapshot (log_in system image restart).records cut_off (replay_of system (log_in system image restart).records (snapshot_state system snapshot)) refl
    ∙ ap (λ (b : List ℕ). in_sector first (if cut_off then replayed_to (replay_of system (cut_of b).records (snapshot_state system snapshot)) else Err 18)) is
