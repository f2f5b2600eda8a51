-- The text of the definition on a disk, and the number of its checkpoint, over a further one.
use Rattle.std.specs.Prelude.{◌≡◌, ℕ, ◌≤◌, List, Some, Ok}
use Rattle.tm_disk.specs.Disk.{Image}
use Rattle.model_system.specs.System.{System}
use Rattle.restart_data.specs.declared.restart.RestartSector.{RestartSector}
use Rattle.restart_data.specs.Restart.{restart_in}
use Rattle.model_system.specs.Areas.{is_single, snapshot_area}
use Rattle.model_image.specs.Text.{text_in}

-- The image is of a definition with this text.
abbrev pub HasText : System → List ℕ → Image → Type 0
HasText system text image = (restart : RestartSector) → restart_in (snapshot_area system) (is_single system) image ≡ Ok (Some restart) → text_in image restart.text ≡ text

-- The image has a restart sector, whose checkpoint has this number or a higher one.
pub record IsNumberedFrom (system : System) (low : ℕ) (image : Image) : Type 0 where
  pub restart : RestartSector
  pub found : restart_in (snapshot_area system) (is_single system) image ≡ Ok (Some restart)
  pub least : low ≤ restart.checkpoint

-- what comes from an image with a restart sector has no lower number
abbrev pub KeepsNumber : System → Image → Image → Type 0
KeepsNumber system before after = (low : ℕ) → IsNumberedFrom system low before → IsNumberedFrom system low after

-- An image that comes from one of a definition is of it, too, and its checkpoint has no lower number.
pub record KeepsText (system : System) (before after : Image) : Type 0 where
  pub text : (text : List ℕ) → HasText system text before → HasText system text after
  pub number : KeepsNumber system before after
