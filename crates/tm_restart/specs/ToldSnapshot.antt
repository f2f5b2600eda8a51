-- A snapshot that tells a state.
use Rattle.std.specs.Prelude.{◌≡◌, ℕ, List, [], None, Some, map}
use Rattle.model_system.specs.System.{System}
use Rattle.model_machine.specs.Machine.{LastingState}
use Rattle.log_records.specs.declared.record.Record.{Record}
use Rattle.restart_data.specs.Rules.{first_broken}
use Rattle.model_image.specs.CutRecords.{records_cut}
use Rattle.model_image.specs.Slots.{named_by}
use Rattle.model_image.specs.Snapshot.{snapshot_state, snapshot_rules}

-- Bytes are these records, which break no rule on a snapshot, tell of this state but for its rows, and name no slot.
pub record TellsState (system : System) (bytes : List ℕ) (records : List Record) (state : LastingState) : Type 0 where
  pub reads : records_cut bytes ≡ Some records
  pub keep_rules : first_broken (snapshot_rules system records) ≡ None
  pub told : snapshot_state system records ≡ record state { rows = map (λ dbd. []) system.databases }
  pub unnamed : (database number : ℕ) → named_by records [] database number ≡ None
