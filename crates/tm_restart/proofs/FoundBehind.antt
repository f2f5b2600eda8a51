-- What a call that finds an image answers behind a reading.
use Rattle.std.proofs.Common.{◌≡◌, ℕ, ◌∙◌, subst, Ok, Err}
use Rattle.std.specs.Prelude.{Result}
use Rattle.tm_disk.specs.Disk.{DiskState, IsDisk, Keeps}
use Rattle.model_system.specs.System.{System}
use Rattle.openings.specs.declared.refusals.OpenError.{OpenError}
use Rattle.openings.proofs.Reading.{read_cause}
use Rattle.tm_restart.specs.FoundImage.{SizeKnown, FoundCause}

pub found_cause : {A : Type 0} (old mid new : DiskState) (result : Result A OpenError) → IsDisk old → Keeps old mid → mid.faults ≡ old.faults → FoundCause result mid new → FoundCause result old new
found_cause old mid new (Ok found) is_disk keeps faults cause = cause ∙ faults
found_cause old mid new (Err error) is_disk keeps faults cause = read_cause old mid new (Err error) is_disk keeps faults cause

pub found_size : {A : Type 0} (system : System) (old mid : DiskState) (result : Result A OpenError) → Keeps old mid → SizeKnown system mid.size result → SizeKnown system old.size result
found_size system old mid result keeps size = subst (λ (n : ℕ). SizeKnown system n result) keeps.stays.size size
