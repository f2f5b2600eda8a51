-- What an opening that was answered tells of the image.
use Rattle.std.proofs.Common.{◌≡◌, ℕ, suc, Bool, true, false, List, [], ◌∷◌, Ok, sym, ◌∙◌, ap, subst, inl, inr, refl}
use Rattle.std.proofs.lemmas.Bool.{eqb-true}
use Rattle.std.specs.Prelude.{◌==◌, if◌then◌else◌, Option, Some, None, Result}
use Rattle.std.specs.Option.{option_map}
use Rattle.tm_disk.specs.Disk.{Image}
use Rattle.model_system.specs.System.{System}
use Rattle.model_machine.specs.Machine.{LastingState}
use Rattle.model_system.specs.Areas.{is_single, snapshot_area}
use Rattle.model_image.specs.RecoveredState.{Recovers}
use Rattle.model_image.specs.Text.{text_in, first_difference}
use Rattle.model_image.proofs.Answers.{zeros_are_empty}
use Rattle.restart_data.specs.declared.restart.RestartSector.{RestartSector}
use Rattle.restart_data.specs.Restart.{restart_in}
use Rattle.checkpointing.specs.DefinitionText.{HasText}
use Rattle.openings.specs.OpeningParts.{OpeningParts}
use Rattle.openings.specs.OpenedImage.{TellsOpening}

none_some : (n : Option ℕ) → option_map (λ n. suc n) n ≡ None → n ≡ None
none_some None e = refl
none_some (Some n) e = cc

same_by : (a b : ℕ) (xs ys : List ℕ) (same : Bool) → a == b ≡ same → (first_difference xs ys ≡ None → xs ≡ ys)
    → (if same then option_map (λ n. suc n) (first_difference xs ys) else Some 0) ≡ None → a ∷ xs ≡ b ∷ ys
same_by a b xs ys true is rest e = ap (λ n. n ∷ xs) (eqb-true a b is) ∙ ap (λ zs. b ∷ zs) (rest (none_some (first_difference xs ys) e))
same_by a b xs ys false is rest e = cc

same_text : (xs ys : List ℕ) → first_difference xs ys ≡ None → xs ≡ ys
same_text [] [] e = refl
same_text [] (b ∷ ys) e = cc
same_text (a ∷ xs) [] e = cc
same_text (a ∷ xs) (b ∷ ys) e = same_by a b xs ys (a == b) refl (same_text xs ys) e

module _ {F : Type 0} where
  pub one_restart : (a b : RestartSector) (found : Result (Option RestartSector) F) → found ≡ Ok (Some a) → found ≡ Ok (Some b) → a ≡ b
  one_restart a b found one other = cc

  pub no_restart : (b : RestartSector) (found : Result (Option RestartSector) F) → found ≡ Ok None → found ≡ Ok (Some b) → ⊥
  no_restart b found none other = cc

module _ (system : System) (source : List ℕ) (image : Image) (parts : OpeningParts) (opening : LastingState) where
  pub told_state : TellsOpening system source image (Ok (parts, opening)) → Recovers system image (Ok opening)
  told_state (inl reopened) = reopened.found.recovers
  told_state (inr cold) = subst (λ s. Recovers system image (Ok s)) (sym cold.begun.empty) (zeros_are_empty system image cold.zeros)

  pub told_text : TellsOpening system source image (Ok (parts, opening)) → HasText system source image
  told_text (inl reopened) restart has =
      ap (λ (r : RestartSector). text_in image r.text) (one_restart restart reopened.restart (restart_in (snapshot_area system) (is_single system) image) has reopened.found.has_restart)
      ∙ sym (same_text source (text_in image reopened.restart.text) reopened.found.has_text)
  told_text (inr cold) restart has = absurd (no_restart restart (restart_in (snapshot_area system) (is_single system) image) cold.zeros has)
