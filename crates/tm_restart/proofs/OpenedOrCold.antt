-- What a call leaves that reads an image, and then opens it or begins it cold.
use Rattle.std.proofs.Common.{◌≡◌, ℕ, false, sym, subst, refl, inl, inr, ⊎_elim, arith, None, Ok, Err, IsTrue}
use Rattle.std.specs.Prelude.{Option, Some, Result, List}
use Rattle.std.proofs.lemmas.Bool.{cases_Bool}
use Rattle.tm_disk.specs.Disk.{Image, DiskState, IsDisk, ComesFrom, Within, Only, Keeps}
use Rattle.tm_disk.proofs.Words.{leaves_none}
use Rattle.model_system.specs.System.{System}
use Rattle.model_machine.specs.Machine.{LastingState, empty_state}
use Rattle.restart_data.specs.declared.restart.RestartSector.{RestartSector}
use Rattle.restart_data.specs.Restart.{restart_in}
use Rattle.checkpointing.specs.DefinitionText.{HasText, IsNumberedFrom, KeepsNumber}
use Rattle.model_image.specs.AlikeImages.{RecoversAlike}
use Rattle.model_system.specs.Areas.{is_single, snapshot_area}
use Rattle.model_image.specs.Faults.{Fault}
use Rattle.model_image.specs.RecoveredState.{Recovers}
use Rattle.model_image.proofs.Answers.{one_answer_of, zeros_are_empty}
use Rattle.checkpointing.specs.Counts.{RaisesCounts}
use Rattle.checkpointing.proofs.Counted.{same_raises}
use Rattle.openings.specs.KeptImage.{KeepsImage, IsImageEmptied, KeepsOrEmpties}
use Rattle.openings.specs.declared.refusals.OpenError.{OpenError}
use Rattle.openings.specs.declared.refusals.OpenError.TheVariants.{BadImage, WrongDefinition, TooSmall, Spent, Disk, Memory}
use Rattle.openings.specs.OpeningParts.{OpeningParts}
use Rattle.openings.specs.OpenedImage.{TellsCold, TellsOpening}

-- ---- what is left

-- what each image has by itself, a reading leaves
module _ (step : Image → Image → Type 0) (still : (image : Image) → step image image) (old mid : DiskState) (keeps : Keeps old mid) where
  pub reads : Within step old mid
  reads = record {
    later = keeps.elapses.later;
    from = λ time image early left.
        ⊎_elim (λ past. inl past) (λ now. inr (record { before = image; left = keeps.no_more image now; by = still image })) (keeps.elapses.nothing_else time image early left);
    keeps = λ time image early left. keeps.elapses.keeps time image early left;
  }

  -- and what is done behind it
  pub reads_then : (new : DiskState) → Within step mid new → Within step old new
  reads_then new after = record {
    later = omega (arith, keeps.elapses.later, after.later);
    from = λ time image early left.
        ⊎_elim
        (λ past. ⊎_elim (λ older. inl older) (λ now. inr (record { before = image; left = keeps.no_more image now; by = still image })) (keeps.elapses.nothing_else time image early past))
        (λ (w : ComesFrom step mid image). inr (record { before = w.before; left = keeps.no_more w.before w.left; by = w.by }))
        (after.from time image (omega (arith, early, keeps.elapses.later)) left);
    keeps = λ time image early left. after.keeps time image (omega (arith, early, keeps.elapses.later)) (keeps.elapses.keeps time image early left);
  }

module _ (system : System) (text : List ℕ) (old mid : DiskState) (keeps : Keeps old mid) where
  -- the same image
  same_image : (image : Image) → KeepsImage system text image image
  same_image image = record { alike = λ answer is. is; texts = inl refl; number = λ low is. is }

  -- reading leaves what was there
  pub read_within : Within (KeepsImage system text) old mid
  read_within = reads (KeepsImage system text) same_image old mid keeps

  -- what recovers alike behind a reading does so before
  pub read_then : (new : DiskState) → Within (KeepsImage system text) mid new → Within (KeepsImage system text) old new
  read_then new after = reads_then (KeepsImage system text) same_image old mid keeps new after

  -- so it is of what is counted on
  pub read_counts : Within (RaisesCounts 1 system) old mid
  read_counts = reads (RaisesCounts 1 system) (λ image. same_raises 1 system image image refl) old mid keeps

  pub read_counts_then : (new : DiskState) → Within (RaisesCounts 1 system) mid new → Within (RaisesCounts 1 system) old new
  read_counts_then new after = reads_then (RaisesCounts 1 system) (λ image. same_raises 1 system image image refl) old mid keeps new after

  module _ (new : DiskState) (is_disk : IsDisk old) (only : Only old.shown old) (zeros : IsTrue old.tells → restart_in (snapshot_area system) (is_single system) old.shown ≡ Ok None) where
    emptied : (a e : Image) → old.may_leave a → Recovers system e (Ok (empty_state system)) → RecoversAlike system a e
    emptied a e left empty answer is =
        ⊎_elim
        (λ (tells : IsTrue old.tells).
        subst (λ (found : Result LastingState Fault). Recovers system e found)
        (one_answer_of system a (Ok (empty_state system)) answer (zeros_are_empty system a (subst (λ (i : Image). restart_in (snapshot_area system) (is_single system) i ≡ Ok None) (sym (only a left)) (zeros tells))) is)
        empty)
        (λ (silent : old.tells ≡ false). absurd (leaves_none old is_disk silent a left))
        (cases_Bool old.tells)

    -- one without a restart sector is of any text
    no_restart : {F : Type 0} (restart : RestartSector) (found : Result (Option RestartSector) F) → found ≡ Ok None → found ≡ Ok (Some restart) → ⊥
    no_restart restart found none other = cc

    none_text : (a : Image) → old.may_leave a → HasText system text a
    none_text a left restart found =
        ⊎_elim
        (λ (tells : IsTrue old.tells).
        absurd (no_restart restart (restart_in (snapshot_area system) (is_single system) a) (subst (λ (i : Image). restart_in (snapshot_area system) (is_single system) i ≡ Ok None) (sym (only a left)) (zeros tells)) found))
        (λ (silent : old.tells ≡ false). absurd (leaves_none old is_disk silent a left))
        (cases_Bool old.tells)

    -- and it has no number
    none_number : (a e : Image) → old.may_leave a → KeepsNumber system a e
    none_number a e left low is =
        ⊎_elim
        (λ (tells : IsTrue old.tells).
        absurd (no_restart is.restart (restart_in (snapshot_area system) (is_single system) a) (subst (λ (i : Image). restart_in (snapshot_area system) (is_single system) i ≡ Ok None) (sym (only a left)) (zeros tells)) is.found))
        (λ (silent : old.tells ≡ false). absurd (leaves_none old is_disk silent a left))
        (cases_Bool old.tells)

    alike : (a e : Image) → old.may_leave a → KeepsOrEmpties system text a e → KeepsImage system text a e
    alike a e left by =
        ⊎_elim
        (λ (same : e ≡ a). record { alike = λ (answer : Result LastingState Fault) (is : Recovers system a answer). subst (λ (i : Image). Recovers system i answer) (sym same) is; texts = inl same; number = λ low is. subst (IsNumberedFrom system low) (sym same) is })
        (λ (empty : IsImageEmptied system text e). record { alike = emptied a e left empty.recovers; texts = inr (none_text a left, empty.has_text); number = none_number a e left })
        by

    -- an image of zeros that was read, and begun cold, recovers alike
    pub cold_within : Within (KeepsOrEmpties system text) mid new → Within (KeepsImage system text) old new
    cold_within after = record {
      later = omega (arith, keeps.elapses.later, after.later);
      from = λ time image early left.
          ⊎_elim
          (λ past. ⊎_elim (λ older. inl older) (λ now. inr (record { before = image; left = keeps.no_more image now; by = same_image image })) (keeps.elapses.nothing_else time image early past))
          (λ (w : ComesFrom (KeepsOrEmpties system text) mid image). inr (record { before = w.before; left = keeps.no_more w.before w.left; by = alike w.before image (keeps.no_more w.before w.left) w.by }))
          (after.from time image (omega (arith, early, keeps.elapses.later)) left);
      keeps = λ time image early left. after.keeps time image (omega (arith, early, keeps.elapses.later)) (keeps.elapses.keeps time image early left);
    }

-- ---- what is told

pub cold_tells : (system : System) (text : List ℕ) (image : Image) (result : Result (OpeningParts × LastingState) OpenError) → restart_in (snapshot_area system) (is_single system) image ≡ Ok None → TellsCold system result → TellsOpening system text image result
cold_tells system text image (Ok opened) zeros tells = inr (record { zeros = zeros; begun = tells })
cold_tells system text image (Err (TooSmall needed has)) zeros tells = tt
cold_tells system text image (Err (BadImage rule sector)) zeros tells = absurd tells
cold_tells system text image (Err (WrongDefinition place)) zeros tells = absurd tells
cold_tells system text image (Err (Spent counter)) zeros tells = absurd tells
cold_tells system text image (Err Disk) zeros tells = tt
cold_tells system text image (Err Memory) zeros tells = tt
