-- What is written of a state that keeps the rules: the bytes fit their area, and are read as the same state.
use Rattle.std.proofs.Common.{◌≡◌, ℕ, ◌*◌, ◌<◌, ◌≤◌, false, List, [], length, ◌∙◌, sym, ap, subst, Ok}
use Rattle.std.specs.List.{flat_map}
use Rattle.tm_disk.specs.Disk.{Image}
use Rattle.model_system.specs.System.{System}
use Rattle.model_machine.specs.Machine.{LastingState}
use Rattle.log_records.specs.declared.record.Record.{Record}
use Rattle.log_records.specs.RecordSpelling.{record_spelling}
use Rattle.restart_data.specs.declared.restart.RestartSector.{RestartSector}
use Rattle.restart_data.specs.Snapshot.{snapshot_in}
use Rattle.model_system.specs.Areas.{snapshot_area, snapshot_first, most_sectors}
use Rattle.model_image.specs.RecoveredState.{snapshot_from}
use Rattle.model_image.specs.States.{breaks_a_rule}
use Rattle.system_types.specs.ValidSystem.{IsSystem}
use Rattle.checkpointing.specs.SnapshotRecords.{snapshot_records, IsOfSystem}
use Rattle.checkpointing.specs.Changes.{AreChanges}
use Rattle.checkpointing.specs.SpelledRecords.{AddsSpelled}
use Rattle.checkpointing.proofs.Apart.{codes_apart}
use Rattle.checkpointing.proofs.Judged.{AreCounts}
use Rattle.checkpointing.proofs.Read.{IsRead}
use Rattle.checkpointing.proofs.Read as reading
use Rattle.checkpointing.proofs.Sizes.{size}
use Rattle.checkpointing.proofs.Fits as fitting

-- bytes that are read as this state, and that fit a snapshot area
pub record IsWhole (system : System) (checkpoint unit : ℕ) (state : LastingState) (changes : List Record) (bytes : List ℕ) : Type 0 where
  pub some : 0 < length bytes
  pub fits : length bytes ≤ snapshot_area system * 4064
  pub spelled : bytes ≡ flat_map record_spelling (snapshot_records checkpoint unit state changes)
  pub read : IsRead system checkpoint unit state changes
  pub from : (now : RestartSector) (image : Image) → snapshot_in now.sectors image (snapshot_first system now.snapshot) now.checkpoint ≡ Ok bytes
      → snapshot_from system image now ≡ Ok (snapshot_records checkpoint unit state changes)

-- so for what `write` answers
pub whole : (system : System) (checkpoint unit : ℕ) (state : LastingState) (changes : List Record) (bytes : List ℕ) → IsSystem system → IsOfSystem system state → AreCounts checkpoint unit → breaks_a_rule system state ≡ false → AreChanges system changes
    → size changes ≤ 262144 * most_sectors system * length system.regions → AddsSpelled (snapshot_records checkpoint unit state changes) [] bytes → IsWhole system checkpoint unit state changes bytes
whole system checkpoint unit state changes bytes defined is counts sound changed few adds =
    let apart = codes_apart system defined in
    record {
      some = subst (λ (l : List ℕ). 0 < length l) (sym adds.bytes) (fitting.some system state checkpoint unit changes defined is sound adds.valid few);
      fits = subst (λ (l : List ℕ). length l ≤ snapshot_area system * 4064) (sym adds.bytes) (fitting.fits system state checkpoint unit changes defined is sound adds.valid few);
      spelled = adds.bytes;
      read = reading.read system state checkpoint unit defined.terminals_apart apart is counts sound changes changed adds.valid;
      from = λ now image found. reading.read_from system state checkpoint unit defined.terminals_apart apart is counts sound changes changed adds.valid now image (found ∙ ap (λ (l : List ℕ). Ok l) adds.bytes);
    }
