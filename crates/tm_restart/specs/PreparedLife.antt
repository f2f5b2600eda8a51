-- What is made of an image that was found, before anything is written.
use Rattle.std.specs.Prelude.{◌≡◌, ℕ, ◌+◌, ◌-◌, List, [], length, map, None, Ok}
use Rattle.tm_disk.specs.Disk.{Image}
use Rattle.model_messages.specs.Queue.{messages_of}
use Rattle.model_system.specs.System.{System}
use Rattle.model_machine.specs.Machine.{LastingState, setting_of}
use Rattle.log_records.specs.declared.record.Record.{Record}
use Rattle.restart_data.specs.declared.restart.RestartSector.{RestartSector}
use Rattle.restart_data.specs.Restart.{IsRestart}
use Rattle.restart_data.specs.Snapshot.{snapshot_sectors_of}
use Rattle.model_image.specs.RecoveredState.{log_in, Recovers}
use Rattle.model_image.specs.Text.{text_in, first_difference}
use Rattle.checkpointing.proofs.Whole.{IsWhole}
use Rattle.tm_restart.specs.GivenSlots.{GivenSlots, AreGiven}
use Rattle.tm_restart.specs.UnpreparedImage.{IsUnprepared}
use Rattle.tm_restart.specs.LoadedStores.{AreStoresLoaded}
use Rattle.openings.specs.OpeningParts.{OpeningParts, AreOpeningParts}
use Rattle.openings.specs.OpenedImage.{MayBegin, IsReopened}

-- the state that the tables of a life show, but for its rows
abbrev pub state_in : OpeningParts → LastingState
state_in parts = record {
  rows = [];
  messages = messages_of parts.queues.queued;
  next_id = parts.next_id;
  terminals = parts.terminals;
  outputs = parts.outputs;
  conversations = parts.conversations;
  codes = map setting_of parts.codes;
  steps = parts.steps;
}

-- The restart sector behind one: the next epoch, the next checkpoint, and the areas that are free; for a log with this first
-- sequence, a snapshot and a text of so many bytes.
abbrev pub sector_behind : RestartSector → (sequence bytes text : ℕ) → RestartSector
sector_behind restart sequence bytes text = record {
  epoch = restart.epoch + 1;
  snapshot = 1 - restart.snapshot;
  log = 1 - restart.log;
  sectors = snapshot_sectors_of bytes;
  sequence = sequence;
  checkpoint = restart.checkpoint + 1;
  text = text;
}

-- On every disk: the parts are those of this state, and a life may begin with them; the bytes are the state's snapshot, and the
-- restart sector is for it.
pub record IsPrepared (system : System) (text : List ℕ) (given : GivenSlots) (parts : OpeningParts) (state : LastingState) (bytes : List ℕ) (now : RestartSector) : Type 0 where
  pub are : AreOpeningParts system state parts
  pub begins : MayBegin system text parts state
  pub has_sector : parts.now ≡ now
  pub slots : AreGiven system given
  pub whole : IsWhole system now.checkpoint parts.next_unit state [] bytes
  pub valid : IsRestart now
  pub sectors : now.sectors ≡ snapshot_sectors_of (length bytes)

-- It is made of this image, which recovers to the state.
pub record IsMadeOf (system : System) (text : List ℕ) (given : GivenSlots) (parts : OpeningParts) (state : LastingState) (now : RestartSector) (image : Image) : Type 0 where
  pub restart : RestartSector
  pub snapshot : List Record
  pub before : IsUnprepared system restart snapshot given now image
  pub recovers : Recovers system image (Ok state)
  pub has_text : first_difference text (text_in image restart.text) ≡ None
  pub same_text : now.text ≡ restart.text
  pub epoch : now.epoch ≡ restart.epoch + 1
  pub loaded : AreStoresLoaded system image snapshot (log_in system image restart).records parts.stores.stores
  pub reopened : IsReopened system text image parts state
