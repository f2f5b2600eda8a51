-- A snapshot's bytes are read as its records, which break no rule and tell the state and the next unit.
use Rattle.std.proofs.Common.{◌≡◌, ℕ, List, [], refl, ◌∙◌, ap, Some, None, Ok, false}
use Rattle.std.specs.Prelude.{Option, Result}
use Rattle.std.specs.List.{AllByRecursion, flat_map}
use Rattle.tm_disk.specs.Disk.{Image}
use Rattle.model_system.specs.System.{System}
use Rattle.model_machine.specs.Machine.{LastingState}
use Rattle.log_records.specs.declared.record.Record.{Record}
use Rattle.log_records.specs.RecordSpelling.{record_spelling, IsLogRecord}
use Rattle.log_records.specs.RecordReader.{◌>>=◌}
use Rattle.restart_data.specs.declared.restart.RestartSector.{RestartSector}
use Rattle.restart_data.specs.Rules.{first_broken, unless_rule_broken}
use Rattle.restart_data.specs.Snapshot.{snapshot_in}
use Rattle.model_system.specs.Areas.{snapshot_first}
use Rattle.model_image.specs.Counters.{told_unit}
use Rattle.model_image.specs.CutRecords.{records_cut}
use Rattle.model_image.specs.Faults.{Fault, in_sector, unless_any, or_fault}
use Rattle.model_image.specs.RecoveredState.{snapshot_from}
use Rattle.model_image.specs.Snapshot.{snapshot_state, snapshot_rules, code_names}
use Rattle.model_image.specs.States.{breaks_a_rule}
use Rattle.model_image.proofs.Cutting.{records_whole}
use Rattle.checkpointing.specs.SnapshotRecords.{snapshot_records, AreApart, IsOfSystem}
use Rattle.checkpointing.specs.Changes.{AreChanges}
use Rattle.checkpointing.proofs.Told.{without_rows, state_told}
use Rattle.checkpointing.proofs.Judged.{AreCounts, no_rule_broken}

pub no_changes : (system : System) → AreChanges system []
no_changes system = record { each = tt; ascending = refl; images = refl }

-- the bytes are cut into these records, which tell the state, but for its rows, and the next unit
pub record IsRead (system : System) (checkpoint unit : ℕ) (state : LastingState) (changes : List Record) : Type 0 where
  pub cut : records_cut (flat_map record_spelling (snapshot_records checkpoint unit state changes)) ≡ Some (snapshot_records checkpoint unit state changes)
  pub unbroken : first_broken (snapshot_rules system (snapshot_records checkpoint unit state changes)) ≡ None
  pub state_is : snapshot_state system (snapshot_records checkpoint unit state changes) ≡ without_rows system state
  pub unit_is : told_unit (snapshot_records checkpoint unit state changes) ≡ unit

module _ (system : System) (state : LastingState) (checkpoint unit : ℕ) (terminals_apart : AreApart system.terminals) (codes_apart : AreApart (code_names system)) (is : IsOfSystem system state) (counts : AreCounts checkpoint unit) (sound : breaks_a_rule system state ≡ false) (changes : List Record) (changed : AreChanges system changes) (valid : AllByRecursion IsLogRecord (snapshot_records checkpoint unit state changes)) where
  pub read : IsRead system checkpoint unit state changes
  read = record {
    cut = records_whole (snapshot_records checkpoint unit state changes) valid;
    unbroken = no_rule_broken system state checkpoint unit terminals_apart codes_apart is counts sound changes changed;
    state_is = state_told system state terminals_apart codes_apart is checkpoint unit changes changed.each;
    unit_is = refl;
  }

  -- An image that has these bytes in the snapshot area of its restart sector has this snapshot.
  pub read_from : (now : RestartSector) (image : Image) → snapshot_in now.sectors image (snapshot_first system now.snapshot) now.checkpoint ≡ Ok (flat_map record_spelling (snapshot_records checkpoint unit state changes))
      → snapshot_from system image now ≡ Ok (snapshot_records checkpoint unit state changes)
  read_from now image found =
      let records : List Record = snapshot_records checkpoint unit state changes in
      let first : ℕ = snapshot_first system now.snapshot in
      ap (λ (bytes : Result (List ℕ) Fault). bytes >>= λ bytes. or_fault (10, first) (records_cut bytes) >>= λ found. unless_any first (snapshot_rules system found) found) found
      ∙ ap (λ (cut : Option (List Record)). or_fault (10, first) cut >>= λ found. unless_any first (snapshot_rules system found) found) read.cut
      ∙ ap (λ (broken : Option ℕ). in_sector first (unless_rule_broken broken records)) read.unbroken
