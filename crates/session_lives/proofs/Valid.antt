-- A disk that can be opened is not refused, and one that was opened could be.
use Rattle.std.proofs.Common.{ℕ, ◌≤◌, List, Ok, Err, refl, sym, subst, arith}
use Rattle.std.specs.Prelude.{IsTrue}
use Rattle.model_machine.specs.Machine.{LastingState}
use Rattle.model_image.specs.RecoveredState.{Recovers}
use Rattle.model_system.specs.Areas.{sectors_needed}
use Rattle.checkpointing.specs.DefinitionText.{HasText}
use Rattle.openings.specs.OpeningParts.{OpeningParts}
use Rattle.tm_disk.specs.Disk.{Image, DiskState, IsDisk, Only}
use Rattle.model_system.specs.System.{System}
use Rattle.model_image.proofs.Answers.{one_answer_of}
use Rattle.model_session.specs.declared.asked.ImageRefused.{ImageRefused}
use Rattle.model_session.specs.declared.asked.ImageRefused.TheVariants.{Rule, Text, Size}
use Rattle.openings.specs.OpenedImage.{IsOther, TellsOpening}
use Rattle.openings.specs.declared.how.How.TheVariants.{Found}
use Rattle.openings.specs.LifeBeginning.{Refuses}
use Rattle.session_lives.specs.RunningSession.{IsValidDisk, error_of}
use Rattle.session_lives.proofs.Told.{told_state, told_text}
use Rattle.session_lives.proofs.Restarted.{no_difference, ok_or_err}

pub valid_opens : (system : System) (source : List ℕ) (disk : DiskState) (refusal : ImageRefused) → IsDisk disk → IsValidDisk system source disk → Refuses Found system source disk (error_of refusal) → ⊥
valid_opens system source disk (Size needed has) is_disk valid refuses =
    omega (arith, valid.size, refuses.size.right_need, refuses.size.right_size, refuses.size.less)
valid_opens system source disk (Rule rule sector) is_disk valid refuses =
    let good = valid.recovers disk.shown (is_disk.shown_left valid.tells) in
    ok_or_err good.state (rule, sector) (one_answer_of system disk.shown (Ok good.state) (Err (rule, sector)) good.recovers (refuses.found refl valid.tells).recovers)
valid_opens system source disk (Text place) is_disk valid refuses =
    let other : IsOther system source disk.shown place = refuses.found refl valid.tells in
    no_difference source _ place (valid.texts disk.shown (is_disk.shown_left valid.tells) other.restart other.has_restart) other.differs

-- ---- one that was opened

-- where it tells its contents and was opened, it is valid
pub opened_valid : (system : System) (source : List ℕ) (disk : DiskState) (parts : OpeningParts) (opening : LastingState) → Only disk.shown disk → sectors_needed system ≤ disk.size → IsTrue disk.tells
    → TellsOpening system source disk.shown (Ok (parts, opening)) → IsValidDisk system source disk
opened_valid system source disk parts opening alone size tells told = record {
  tells = tells;
  size = size;
  recovers = λ image left. record { state = opening; recovers = subst (λ (i : Image). Recovers system i (Ok opening)) (sym (alone image left)) (told_state system source disk.shown parts opening told) };
  texts = λ image left. subst (λ (i : Image). HasText system source i) (sym (alone image left)) (told_text system source disk.shown parts opening told);
}
