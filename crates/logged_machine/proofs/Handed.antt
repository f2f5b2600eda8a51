-- What opening a machine with its log answers, by what opening its parts does.
use Rattle.std.proofs.Common.{◌≡◌, ℕ, ◌<◌, ◌≤◌, List, Err, refl}
use Rattle.tm_disk.specs.Disk.{DiskState, Stays, Within}
use Rattle.tm_disk.proofs.Words.{keeps_same, stays_same, within_same}
use Rattle.model_system.specs.System.{System}
use Rattle.model_system.specs.Areas.{sectors_needed}
use Rattle.openings.specs.declared.refusals.OpenError.{OpenError}
use Rattle.openings.specs.declared.refusals.OpenError.TheVariants.{TooSmall, Memory}
use Rattle.openings.specs.OpenedImage.{OpeningCause, WroteNothing}
use Rattle.openings.specs.declared.how.How.{How}
use Rattle.openings.specs.LifeBeginning.{KeepsBy, Refuses}
use Rattle.openings.specs.LifeBeginning.{HandsBack}

module _ {D : Type 0} (state : D → DiskState) (how : How) (system : System) (text : List ℕ) where
  -- nothing was written
  wrote_nothing : (disk : DiskState) → WroteNothing disk disk
  wrote_nothing disk = record { keeps = keeps_same disk; no_fault = refl }

  -- The disk is too small.
  pub too_small : (disk : D) (needed has : ℕ) → needed ≡ sectors_needed system → has ≡ (state disk).size → has < needed → HandsBack state how system text disk (TooSmall needed has) disk system text
  too_small disk needed has need size less = record {
    refuses = record { size = record { right_need = need; right_size = size; less = less }; found = λ is tells. tt; cold = λ is. tt };
    system_is = refl;
    text_is = refl;
    stays = stays_same (state disk);
    cause = wrote_nothing (state disk);
    any_moment = within_same (KeepsBy how system text) (state disk);
  }

  -- There is no memory.
  pub no_memory : (disk : D) → sectors_needed system ≤ (state disk).size → HandsBack state how system text disk Memory disk system text
  no_memory disk size = record {
    refuses = record { size = size; found = λ is tells. tt; cold = λ is. tt };
    system_is = refl;
    text_is = refl;
    stays = stays_same (state disk);
    cause = wrote_nothing (state disk);
    any_moment = within_same (KeepsBy how system text) (state disk);
  }

  -- They were not.
  pub refused_so : (old new : D) (error : OpenError) (back : System) → back ≡ system → Refuses how system text (state old) error → OpeningCause (Err error) (state old) (state new) → Stays (state old) (state new)
      → Within (KeepsBy how system text) (state old) (state new) → HandsBack state how system text old error new back text
  refused_so old new error back same refuses cause stays any = record { refuses = refuses; system_is = same; text_is = refl; stays = stays; cause = cause; any_moment = any }
