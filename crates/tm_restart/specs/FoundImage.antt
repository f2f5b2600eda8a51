-- What an image is found to be, before anything is written.
use Rattle.std.specs.Prelude.{◌≡◌, ℕ, ◌+◌, ◌≤◌, List, length, Option, None, Some, Result, Ok, Err}
use Rattle.tm_disk.specs.Disk.{Image, DiskState}
use Rattle.model_system.specs.System.{System}
use Rattle.model_machine.specs.Machine.{LastingState}
use Rattle.restart_data.specs.declared.restart.RestartSector.{RestartSector}
use Rattle.restart_data.specs.Restart.{restart_in}
use Rattle.restart_data.specs.WrittenSectors.{IsValid}
use Rattle.model_system.specs.Areas.{is_single, snapshot_area, sectors_needed}
use Rattle.model_image.specs.Text.{text_in, first_difference}
use Rattle.image_reading.specs.NamedBytes.{AreNamedBytes}
use Rattle.image_loading.specs.LoadedStores.{AreAllMade}
use Rattle.tm_restart.specs.declared.looking.Looked.{Looked}
use Rattle.tm_restart.specs.ReplayedImage.{ComesBehind}
use Rattle.tm_restart.specs.LookedImage.{IsLooked}
use Rattle.openings.specs.declared.refusals.OpenError.{OpenError}
use Rattle.tm_restart.specs.declared.finding.Found.{Found}
use Rattle.openings.specs.OpenedImage.{SizeFirst, TellsOpening, OpeningCause, counters, first_spent}

-- No counter is spent of a life behind this restart sector, and behind what the image comes to.
abbrev pub IsUnspent : RestartSector → Looked → Type 0
IsUnspent restart looked =
    (state : LastingState) → state.next_id ≡ looked.reread.replayed.kept.next_id → state.steps ≡ looked.reread.replayed.kept.steps → state.outputs ≡ looked.reread.replayed.kept.outputs
    → first_spent (counters restart.epoch looked.reread.next_sequence restart.checkpoint (looked.reread.replayed.last_unit + 1) state) ≡ None

-- What is judged of what was found, on every disk.
pub record IsFoundJudged (system : System) (text : List ℕ) (found : Found) : Type 0 where
  pub valid : IsValid (snapshot_area system) found.restart
  pub text_size : length text ≡ found.restart.text
  pub behind : ComesBehind system found.looked.reread.replayed
  pub least : found.restart.sequence ≤ found.looked.reread.next_sequence
  pub few : found.looked.reread.next_sequence ≤ found.restart.sequence + system.logs
  pub given : AreNamedBytes (length system.databases) found.looked.reread.replayed.slots found.looked.named.given.items
  pub made : AreAllMade system.databases found.looked.named.loaded.stores
  pub unspent : IsUnspent found.restart found.looked

-- The image has this restart sector, the text is its definition's, and it comes to what was looked at.
pub record IsSeen (system : System) (text : List ℕ) (image : Image) (found : Found) : Type 0 where
  pub has_restart : restart_in (snapshot_area system) (is_single system) image ≡ Ok (Some found.restart)
  pub has_text : first_difference text (text_in image found.restart.text) ≡ None
  pub looked : IsLooked system image found.restart found.looked

-- ---- answers: each refusal is that of an opening

abbrev pub TellsFound : System → List ℕ → Image → Result Found OpenError → Type 0
TellsFound system text image (Ok found) = IsSeen system text image found
TellsFound system text image (Err error) = TellsOpening system text image (Err error)

abbrev pub FoundAlways : System → List ℕ → Result Found OpenError → Type 0
FoundAlways system text (Ok found) = IsFoundJudged system text found
FoundAlways system text (Err error) = Unit {0}

-- Nothing is found exactly where sector 0 is all zeros.
abbrev pub TellsFind : System → List ℕ → Image → Result (Option Found) OpenError → Type 0
TellsFind system text image (Ok (Some found)) = IsSeen system text image found
TellsFind system text image (Ok None) = restart_in (snapshot_area system) (is_single system) image ≡ Ok None
TellsFind system text image (Err error) = TellsOpening system text image (Err error)

abbrev pub FindAlways : System → List ℕ → Result (Option Found) OpenError → Type 0
FindAlways system text (Ok (Some found)) = IsFoundJudged system text found
FindAlways system text (Ok None) = Unit {0}
FindAlways system text (Err error) = Unit {0}

-- the size of the disk is known to be enough
abbrev pub SizeKnown : {A : Type 0} → System → ℕ → Result A OpenError → Type 0
SizeKnown system size (Ok found) = sectors_needed system ≤ size
SizeKnown system size (Err error) = SizeFirst system size (Err error)

abbrev pub FoundCause : {A : Type 0} → Result A OpenError → DiskState → DiskState → Type 0
FoundCause (Ok found) old new = new.faults ≡ old.faults
FoundCause (Err error) old new = OpeningCause (Err error) old new
