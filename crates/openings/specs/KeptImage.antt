-- What an opening keeps of an image, whenever a crash comes in it.
use Rattle.std.specs.Prelude.{◌≡◌, ◌⊎◌, ℕ, List, Ok}
use Rattle.tm_disk.specs.Disk.{Image}
use Rattle.model_system.specs.System.{System}
use Rattle.model_machine.specs.Machine.{empty_state}
use Rattle.model_image.specs.AlikeImages.{RecoversAlike}
use Rattle.model_image.specs.RecoveredState.{Recovers}
use Rattle.checkpointing.specs.DefinitionText.{HasText, KeepsNumber}

-- The image recovers as the one before, and its checkpoint has no lower number. It is the same; or both are of the definition with this
-- text.
pub record KeepsImage (system : System) (text : List ℕ) (before after : Image) : Type 0 where
  pub alike : RecoversAlike system before after
  pub texts : (after ≡ before) ⊎ (HasText system text before × HasText system text after)
  pub number : KeepsNumber system before after

-- The image recovers to the empty state, and is of the definition with this text.
pub record IsImageEmptied (system : System) (text : List ℕ) (image : Image) : Type 0 where
  pub recovers : Recovers system image (Ok (empty_state system))
  pub has_text : HasText system text image

-- The image is the one before, or is emptied.
abbrev pub KeepsOrEmpties : System → List ℕ → Image → Image → Type 0
KeepsOrEmpties system text before after = (after ≡ before) ⊎ IsImageEmptied system text after
