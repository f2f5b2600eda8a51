-- What a call answers that reads a disk and then goes on.
use Rattle.std.proofs.Common.{◌≡◌, ℕ, sym, ◌∙◌, subst, inl, inr, ⊎_elim, arith, Ok, Err, IsTrue}
use Rattle.std.specs.Prelude.{Result}
use Rattle.tm_disk.specs.Disk.{Image, DiskState, IsDisk, Only, Keeps}
use Rattle.tm_disk.proofs.Words.{keeps_on}
use Rattle.model_system.specs.System.{System}
use Rattle.model_machine.specs.Machine.{LastingState}
use Rattle.openings.specs.declared.refusals.OpenError.{OpenError}
use Rattle.openings.specs.declared.refusals.OpenError.TheVariants.{BadImage, WrongDefinition, TooSmall, Spent, Disk, Memory}
use Rattle.openings.specs.OpeningParts.{OpeningParts}
use Rattle.openings.specs.OpenedImage.{SizeFirst, OpeningCause, WroteNothing}

pub read_only : (old mid : DiskState) → Keeps old mid → Only old.shown old → Only mid.shown mid
read_only old mid keeps only image left = only image (keeps.no_more image left) ∙ sym keeps.shown

-- ---- the cause

wrote_nothing : (old mid new : DiskState) → IsDisk old → Keeps old mid → mid.faults ≡ old.faults → WroteNothing mid new → WroteNothing old new
wrote_nothing old mid new is_disk keeps faults nothing = record {
  keeps = keeps_on old mid new is_disk keeps nothing.keeps;
  no_fault = nothing.no_fault ∙ faults;
}

pub read_cause : (old mid new : DiskState) (result : Result (OpeningParts × LastingState) OpenError) → IsDisk old → Keeps old mid → mid.faults ≡ old.faults → OpeningCause result mid new → OpeningCause result old new
read_cause old mid new (Ok opened) is_disk keeps faults cause = cause ∙ faults
read_cause old mid new (Err (TooSmall needed has)) is_disk keeps faults cause = wrote_nothing old mid new is_disk keeps faults cause
read_cause old mid new (Err (BadImage rule sector)) is_disk keeps faults cause = wrote_nothing old mid new is_disk keeps faults cause
read_cause old mid new (Err (WrongDefinition place)) is_disk keeps faults cause = wrote_nothing old mid new is_disk keeps faults cause
read_cause old mid new (Err (Spent counter)) is_disk keeps faults cause = wrote_nothing old mid new is_disk keeps faults cause
read_cause old mid new (Err Disk) is_disk keeps faults cause = ⊎_elim (λ rose. inl (omega (arith, rose, faults))) (λ last. inr last) cause
read_cause old mid new (Err Memory) is_disk keeps faults cause = wrote_nothing old mid new is_disk keeps faults cause

pub read_size : (system : System) (old mid : DiskState) (result : Result (OpeningParts × LastingState) OpenError) → Keeps old mid → SizeFirst system mid.size result → SizeFirst system old.size result
read_size system old mid result keeps size = subst (λ (n : ℕ). SizeFirst system n result) keeps.stays.size size

-- what is told of the disk behind a reading is told of it before
pub told_before : (P : Image → Type 0) (old mid : DiskState) → Keeps old mid → (IsTrue mid.tells → P mid.shown) → IsTrue old.tells → P old.shown
told_before P old mid keeps told tells = subst P keeps.shown (told (subst IsTrue (sym keeps.stays.tells) tells))

pub told_behind : (P : Image → Type 0) (old mid : DiskState) → Keeps old mid → (IsTrue old.tells → P old.shown) → IsTrue mid.tells → P mid.shown
told_behind P old mid keeps told tells = subst P (sym keeps.shown) (told (subst IsTrue keeps.stays.tells tells))
