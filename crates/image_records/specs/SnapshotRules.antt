-- How the records of a snapshot are judged.
use Rattle.std.specs.Prelude.{◌≡◌, ℕ, Bool, ◌||◌, List, [], ◌∷◌, filter, Result, Ok, Err}
use Rattle.model_system.specs.System.{System}
use Rattle.model_machine.specs.Machine.{LastingState}
use Rattle.log_records.specs.declared.record.Record.{Record}
use Rattle.image_records.specs.ChangeRecords.{tells_change}
use Rattle.image_records.specs.declared.telling.Told.{Told}
use Rattle.model_image.specs.Snapshot.{out_of_order, missing_or_twice, reply_of_none, wrong_changes, snapshot_state}
use Rattle.model_image.specs.States.{wrong_values, wrong_ids, unknown_messages, wrong_replies, over_full}
use Rattle.image_records.specs.declared.reading.RecordRules.{RecordRules}
use Rattle.image_records.specs.declared.fault.RecordsFault.{RecordsFault}
use Rattle.image_records.specs.declared.fault.RecordsFault.TheVariants.{Bad, Memory}
use Rattle.image_records.specs.KeptState.{KeepsState}
use Rattle.image_records.specs.RecordAnswers.{SnapshotState}

-- which rules on the records alone are broken
pub record AreRecordRules (system : System) (records : List Record) (broken : RecordRules) : Type 0 where
  pub order : broken.order ≡ out_of_order system records
  pub names : broken.names ≡ missing_or_twice system records
  pub replies : broken.replies ≡ reply_of_none system records
  pub changes : broken.changes ≡ wrong_changes system records

-- the rules on the records and on the state that they tell of
abbrev pub rules_by : System → RecordRules → LastingState → List (ℕ × Bool)
rules_by system broken lasting =
    (11, broken.order)
    ∷ (12, broken.names || wrong_values system lasting)
    ∷ (13, wrong_ids lasting)
    ∷ (14, unknown_messages system lasting)
    ∷ (15, wrong_replies lasting || broken.replies)
    ∷ (16, over_full system lasting)
    ∷ (17, broken.changes)
    ∷ []

-- what the records tell of
pub record IsToldByRecords (system : System) (records : List Record) (told : Told) : Type 0 where
  pub lasting : told.lasting ≡ snapshot_state system records
  pub changes : told.changes.items ≡ filter tells_change records

-- what is kept of what was told
pub record IsKeptOf (system : System) (told : Told) (unit : ℕ) (snapshot : SnapshotState) : Type 0 where
  pub kept : KeepsState system told.lasting snapshot.kept
  pub changes : snapshot.changes ≡ told.changes.items
  pub next : snapshot.next_unit ≡ unit

-- it is kept, or there was no memory
abbrev pub KeepsTold : System → Told → ℕ → Result SnapshotState RecordsFault → Type 0
KeepsTold system told unit (Ok snapshot) = IsKeptOf system told unit snapshot
KeepsTold system told unit (Err (Bad rule)) = ⊥
KeepsTold system told unit (Err Memory) = Unit {0}
