-- What is made of an empty machine before a cold start writes.
use Rattle.std.specs.Prelude.{◌≡◌, ℕ, ◌<◌, ◌≤◌, List, [], length}
use Rattle.model_system.specs.System.{System}
use Rattle.model_machine.specs.Machine.{LastingState, empty_state}
use Rattle.restart_data.specs.declared.restart.RestartSector.{RestartSector}
use Rattle.restart_data.specs.Restart.{IsRestart}
use Rattle.restart_data.specs.Snapshot.{snapshot_sectors_of}
use Rattle.seg_store.specs.Stores.{empty_stores}
use Rattle.system_types.specs.ValidSystem.{IsSystem}
use Rattle.checkpointing.specs.SpelledRecords.{AddsSpelled}
use Rattle.openings.specs.FirstImage.{IsFirstRestart, first_records}
use Rattle.openings.specs.OpeningParts.{OpeningParts, AreOpeningParts}

-- The parts and the state are those of the empty machine, and these are the bytes of its first snapshot. The restart sector
-- is the first one, for that snapshot and a text of so many bytes, and the parts have it.
pub record IsFirstMade (system : System) (text : ℕ) (parts : OpeningParts) (state : LastingState) (bytes : List ℕ) (now : RestartSector) : Type 0 where
  pub defined : IsSystem system
  pub are : AreOpeningParts system (empty_state system) parts
  pub stores : parts.stores.stores ≡ empty_stores system.databases
  pub next_unit : parts.next_unit ≡ 1
  pub state_is : state ≡ empty_state system
  pub records : AddsSpelled (first_records system) [] bytes
  pub some : 0 < length bytes
  pub few : length bytes ≤ 8192
  pub has_sector : parts.now ≡ now
  pub first : IsFirstRestart now
  pub valid : IsRestart now
  pub sectors : now.sectors ≡ snapshot_sectors_of (length bytes)
  pub text_size : now.text ≡ text
