-- A force of all that a life has appended, by what it leaves on the disk.
use Rattle.std.proofs.Common.{List, [], ◌∷◌, ◌≡◌, refl, subst, sym, Ok, Err}
use Rattle.std.specs.Prelude.{Result, OnOk}
use Rattle.tm_disk.specs.Disk.{DiskState, IsDisk, Within, Follows}
use Rattle.model_machine.specs.Machine.{LastingState}
use Rattle.log_writer.specs.Writer.{Writer}
use Rattle.log_writer.specs.ForcedLog.{AddsFront, AddsAll}
use Rattle.disk_law.specs.Life.{LifeOnDisk}
use Rattle.disk_law.specs.KeptImages.{AreImagesKept}
use Rattle.disk_law.specs.LifeSteps.{forced_life}
use Rattle.disk_law.specs.PendingMoves.{PendsBehind}
use Rattle.disk_law.proofs.OnDisk.{forced_is_life, force_at_any_moment, force_done, pending_life, settled}
use Rattle.journal.specs.JournalDisk.{RecoverOne}

module _ (log : Writer) (states : List LastingState) (life : LifeOnDisk) (of : life.log ≡ log) (old : DiskState) (p : PendsBehind states life old) where
  pub within_recovers : (new : DiskState) → IsDisk old → Within (AddsFront log) old new → RecoverOne life.system states old new
  within_recovers new disk within image left =
      force_at_any_moment states life old new p disk (subst (λ (w : Writer). Within (AddsFront w) old new) (sym of) within) image left

  -- once it is done, each image has all of the life
  pub follows_kept : (new : DiskState) → Follows (AddsAll log) old new → AreImagesKept (forced_life life) new
  follows_kept new follows = force_done states life old new p (subst (λ (w : Writer). Follows (AddsAll w) old new) (sym of) follows)

  -- and nothing pends but what lasts
  pub follows_pends : (new : DiskState) → Follows (AddsAll log) old new → PendsBehind (life.lasting ∷ []) (forced_life life) new
  follows_pends new follows = settled (forced_life life) new (forced_is_life life (pending_life states life old p)) refl (follows_kept new follows)

-- what holds once a call is done gives what follows from it
pub when_done : {A E : Type 0} (result : Result A E) (P Q : Type 0) → (P → Q) → OnOk result P → OnOk result Q
when_done (Ok x) P Q f p = f p
when_done (Err e) P Q f p = tt
