-- What the records of a snapshot and of a log come to.
use Rattle.std.specs.Prelude.{◌≡◌, ℕ, ◌+◌, Bool, true, if◌then◌else◌, List, Option, Some, None, filter, Result, Ok, Err, Decides}
use Rattle.std.specs.List.{list_all}
use Rattle.model_system.specs.System.{System}
use Rattle.model_machine.specs.Machine.{LastingState}
use Rattle.log_records.specs.declared.record.Record.{Record}
use Rattle.image_records.specs.ChangeRecords.{tells_change}
use Rattle.restart_data.specs.Rules.{first_broken, unless_rule_broken}
use Rattle.model_image.specs.CutRecords.{cut_of, records_cut, IsRecordCutOff}
use Rattle.model_image.specs.Snapshot.{snapshot_state, snapshot_rules}
use Rattle.model_image.specs.Replay.{replay_of}
use Rattle.model_image.specs.Counters.{told_unit, next_unit}
use Rattle.image_records.specs.declared.fault.RecordsFault.{RecordsFault}
use Rattle.image_records.specs.declared.fault.RecordsFault.TheVariants.{Bad, Memory}
use Rattle.image_records.specs.declared.slots.NamedSlot.{NamedSlot}
use Rattle.image_records.specs.KeptState.{KeptState, KeepsState}
use Rattle.image_records.specs.NamedSlots.{is_slot_of, AreSlotsNamed}

-- ---- a snapshot

-- The records that its bytes are, or the lowest rule that is broken. 10: they are no records; 11 to 17 are on these.
abbrev pub judged_records : System → Option (List Record) → Result (List Record) ℕ
judged_records system (Some records) = unless_rule_broken (first_broken (snapshot_rules system records)) records
judged_records system None = Err 10

abbrev pub snapshot_of : System → List ℕ → Result (List Record) ℕ
snapshot_of system bytes = judged_records system (records_cut bytes)

-- what is kept of a snapshot: its state, the changes that it tells of, and the next unit
pub record SnapshotState : Type 0 where
  pub kept : KeptState
  pub changes : List Record
  pub next_unit : ℕ

-- it is that of these records
pub record IsSnapshotStateOf (system : System) (records : List Record) (snapshot : SnapshotState) : Type 0 where
  pub kept : KeepsState system (snapshot_state system records) snapshot.kept
  pub changes : snapshot.changes ≡ filter tells_change records
  pub unit : snapshot.next_unit ≡ told_unit records

-- A snapshot's bytes were read, or refused by the lowest rule that they break.
abbrev pub TellsRecords : System → List ℕ → Result SnapshotState RecordsFault → Type 0
TellsRecords system bytes (Ok snapshot) =
    (records : List Record) × (snapshot_of system bytes ≡ Ok records) × IsSnapshotStateOf system records snapshot
TellsRecords system bytes (Err (Bad rule)) = snapshot_of system bytes ≡ Err rule
TellsRecords system bytes (Err Memory) = Unit {0}

-- the same of records
abbrev pub TellsSnapshotState : System → List Record → Result SnapshotState RecordsFault → Type 0
TellsSnapshotState system records (Ok snapshot) = (judged_records system (Some records) ≡ Ok records) × IsSnapshotStateOf system records snapshot
TellsSnapshotState system records (Err (Bad rule)) = judged_records system (Some records) ≡ Err rule
TellsSnapshotState system records (Err Memory) = Unit {0}

-- ---- a log behind it

-- What lasts behind the records of the log. 18: what is left of its bytes is not cut off; 19 is on its records.
abbrev pub replayed_to : Option LastingState → Result LastingState ℕ
replayed_to (Some lasting) = Ok lasting
replayed_to None = Err 19

abbrev pub replayed_log : System → Bool → List ℕ → LastingState → Result LastingState ℕ
replayed_log system is_cut_off bytes lasting =
    if is_cut_off then replayed_to (replay_of system (cut_of bytes).records lasting) else Err 18

-- what lasts, which slots records name, and the last unit: the next one may have no number any more
pub record ReplayedState : Type 0 where
  pub kept : KeptState
  pub slots : List NamedSlot
  pub last_unit : ℕ

-- these come from the records of a snapshot and of a log, which leave this state
pub record IsBehindLog (system : System) (snapshot log : List Record) (lasting : LastingState) (replayed : ReplayedState) : Type 0 where
  pub kept : KeepsState system lasting replayed.kept
  pub slots : AreSlotsNamed snapshot log replayed.slots
  pub images : list_all (is_slot_of system) replayed.slots ≡ true
  pub unit : replayed.last_unit + 1 ≡ next_unit snapshot log

-- The log of these bytes was done again, or refused by the lower rule that it breaks.
abbrev pub LogComesTo : System → List Record → List ℕ → Result LastingState ℕ → Result ReplayedState RecordsFault → Type 0
LogComesTo system snapshot bytes answer (Ok replayed) =
    (lasting : LastingState) × (answer ≡ Ok lasting) × IsBehindLog system snapshot (cut_of bytes).records lasting replayed
LogComesTo system snapshot bytes answer (Err (Bad rule)) = answer ≡ Err rule
LogComesTo system snapshot bytes answer (Err Memory) = Unit {0}

pub record Replays (system : System) (snapshot : List Record) (bytes : List ℕ) (result : Result ReplayedState RecordsFault) : Type 0 where
  pub is_cut_off : Bool
  pub decides : Decides is_cut_off (IsRecordCutOff (cut_of bytes).rest)
  pub comes : LogComesTo system snapshot bytes (replayed_log system is_cut_off bytes (snapshot_state system snapshot)) result

-- want of memory leaves open whether the rest is cut off
abbrev pub TellsLog : System → List Record → List ℕ → Result ReplayedState RecordsFault → Type 0
TellsLog system snapshot bytes (Ok replayed) = Replays system snapshot bytes (Ok replayed)
TellsLog system snapshot bytes (Err (Bad rule)) = Replays system snapshot bytes (Err (Bad rule))
TellsLog system snapshot bytes (Err Memory) = Unit {0}
