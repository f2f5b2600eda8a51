-- The sectors behind the chain of an area.
use Rattle.std.proofs.Common.{◌≡◌, ℕ, zero, suc, ◌+◌, ◌-◌, ◌<◌, ◌^◌, Bool, false, List, length, refl, sym, ◌∙◌, ap, subst, arith, Some, None, IsSome}
use Rattle.std.specs.Prelude.{Option, if◌then◌else◌}
use Rattle.tm_disk.specs.Disk.{Image, sector_at}
use Rattle.log_sectors.specs.SealedSector.{opened_payload}
use Rattle.log_sectors.specs.Chain.{before, chain}
use Rattle.model_image.specs.RecoveredState.{is_later, first_later}
use Rattle.model_image.proofs.Readings.{opened_not_later}

some_is : (o : Option (List ℕ)) (bytes : List ℕ) → o ≡ Some bytes → IsSome o
some_is (Some x) bytes is = refl
some_is None bytes is = cc

-- before others, a sector that is of no later epoch
later_on : (n at k : ℕ) (image : Image) (epoch : ℕ) → is_later epoch (sector_at image at) ≡ false → first_later n image (at + 1) epoch ≡ first_later (n - k) image (at + 1 + k) epoch → first_later (suc n) image at epoch ≡ first_later (suc n - suc k) image (at + suc k) epoch
later_on n at k image epoch not behind =
    let left : n - k ≡ suc n - suc k = omega arith in
    let place : at + 1 + k ≡ at + suc k = omega arith in
    ap (λ (b : Bool). if b then Some at else first_later n image (at + 1) epoch) not
    ∙ behind
    ∙ ap (λ m. first_later m image (at + 1 + k) epoch) left
    ∙ ap (λ m. first_later (suc n - suc k) image m epoch) place

by_sector : (n : ℕ) (image : Image) (first sequence epoch : ℕ) → epoch < 2 ^ 64 → (rest : List (List ℕ)) → first_later n image (first + 1) epoch ≡ first_later (n - length rest) image (first + 1 + length rest) epoch
    → (o : Option (List ℕ)) → opened_payload epoch sequence (sector_at image first) ≡ o → first_later (suc n) image first epoch ≡ first_later (suc n - length (before o rest)) image (first + length (before o rest)) epoch
by_sector n image first sequence epoch small rest behind None is =
    let left : suc n ≡ suc n - 0 = omega arith in
    let place : first ≡ first + 0 = omega arith in
    ap (λ m. first_later m image first epoch) left ∙ ap (λ m. first_later (suc n - 0) image m epoch) place
by_sector n image first sequence epoch small rest behind (Some bytes) is =
    later_on n first (length rest) image epoch (opened_not_later epoch sequence (sector_at image first) small (some_is (opened_payload epoch sequence (sector_at image first)) bytes is)) behind

-- those of the chain are of no later epoch
behind_chain : (count : ℕ) (image : Image) (first sequence epoch : ℕ) → epoch < 2 ^ 64 → first_later count image first epoch ≡ first_later (count - length (chain count image first sequence epoch)) image (first + length (chain count image first sequence epoch)) epoch
behind_chain zero image first sequence epoch small = refl
behind_chain (suc n) image first sequence epoch small =
    by_sector n image first sequence epoch small (chain n image (first + 1) (sequence + 1) epoch) (behind_chain n image (first + 1) (sequence + 1) epoch small) (opened_payload epoch sequence (sector_at image first)) refl

module _ (count : ℕ) (image : Image) (first sequence epoch place : ℕ) (small : epoch < 2 ^ 64) (is : place ≡ length (chain count image first sequence epoch)) where
  pub later_behind : first_later (count - place) image (first + place) epoch ≡ first_later count image first epoch
  later_behind = sym (subst (λ k. first_later count image first epoch ≡ first_later (count - k) image (first + k) epoch) (sym is) (behind_chain count image first sequence epoch small))

  pub none_behind : count ≡ place → None ≡ first_later count image first epoch
  none_behind whole =
      let none : count - place ≡ 0 = omega (arith, whole) in
      sym (ap (λ k. first_later k image (first + place) epoch) none) ∙ later_behind
