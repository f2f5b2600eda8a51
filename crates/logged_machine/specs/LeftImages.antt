-- What crashes leave since a call began.
use Rattle.std.specs.Prelude.{◌⊎◌, ℕ, ◌≤◌, List}
use Rattle.tm_disk.specs.Disk.{Image, DiskState}
use Rattle.model_system.specs.System.{System}
use Rattle.model_machine.specs.Machine.{LastingState}
use Rattle.checkpointing.specs.DefinitionText.{HasText, IsNumberedFrom}
use Rattle.disk_law.specs.KeptImages.{RecoversOne}

-- The image is of this text, its checkpoint has this number or a higher one, and it recovers to one of these states.
pub record Brings (system : System) (text : List ℕ) (low : ℕ) (states : List LastingState) (image : Image) : Type 0 where
  pub recovers : RecoversOne system states image
  pub has_text : HasText system text image
  pub numbered : IsNumberedFrom system low image

-- Whatever a crash might have left since a time before, it might have left then already, or this holds of it.
pub record CrashesLeave (P : Image → Type 0) (old new : DiskState) : Type 0 where
  pub later : old.clock ≤ new.clock
  pub from : (time : ℕ) (image : Image) → time ≤ old.clock → new.left_since time image → old.left_since time image ⊎ P image
