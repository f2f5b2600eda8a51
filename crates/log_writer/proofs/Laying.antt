-- Sectors are laid one by one.
use Rattle.std.proofs.Common.{◌≡◌, ◌⊎◌, ℕ, suc, zero, ◌+◌, ◌-◌, ◌*◌, ◌<◌, ◌≤◌, List, [], ◌++◌, length, take, drop, refl, sym, ◌∙◌, ap, subst, inl, inr, ⊎_elim, arith}
use Rattle.std.proofs.lemmas.Bool.{cases_lt}
use Rattle.std.proofs.lemmas.List.{get_or-set_same, get_or-set_other, length-set, length-drop, drop-drop, take-append-drop, nil_from_length, set_past}
use Rattle.tm_disk.specs.Disk.{Image, sector_at, with_sector, MayWrite}
use Rattle.log_sectors.specs.SealedSector.{sealed}
use Rattle.log_sectors.specs.Chain.{joined_payloads}
use Rattle.log_writer.specs.ForcedLog.{log_pieces, log_piece, Lays, HasLaid}

-- the pieces of bytes

pub length-pieces : (n : ℕ) (bytes : List ℕ) → length (log_pieces n bytes) ≡ n
length-pieces zero bytes = refl
length-pieces (suc n) bytes = ap suc (length-pieces n (drop 4064 bytes))

pub piece-pieces : (n x : ℕ) (bytes : List ℕ) → x < n → log_piece (log_pieces n bytes) x ≡ take 4064 (drop (x * 4064) bytes)
piece-pieces zero x bytes lt = absurd (omega (arith, lt))
piece-pieces (suc n) zero bytes lt = refl
piece-pieces (suc n) (suc x) bytes lt =
    piece-pieces n x (drop 4064 bytes) (omega (arith, lt))
    ∙ ap (λ (l : List ℕ). take 4064 l) (drop-drop (x * 4064) 4064 bytes ∙ ap (λ k. drop k bytes) (omega arith))

pub joined-pieces : (n : ℕ) (bytes : List ℕ) → length bytes ≤ n * 4064 → joined_payloads (log_pieces n bytes) ≡ bytes
joined-pieces zero bytes le = sym (nil_from_length bytes (omega (arith, le)))
joined-pieces (suc n) bytes le =
    ap (λ (l : List ℕ). take 4064 bytes ++ l) (joined-pieces n (drop 4064 bytes) (omega (arith, le, length-drop 4064 bytes)))
    ∙ take-append-drop 4064 bytes

-- one sector more

module _ (at sequence epoch : ℕ) (payloads : List (List ℕ)) where
  pub lays_none : (image : Image) → Lays at sequence epoch payloads 0 image image
  lays_none image = record { size = refl; below = λ k lt. refl; above = λ k le. refl; each = λ x lt. inl refl }

  pub has_laid_none : (image : Image) → HasLaid at sequence epoch payloads 0 image image
  has_laid_none image = record { size = refl; below = λ k lt. refl; above = λ k le. refl; each = λ x lt. absurd (omega (arith, lt)) }

  pub lays_same : (n : ℕ) (image : Image) → Lays at sequence epoch payloads n image image
  lays_same n image = record { size = refl; below = λ k lt. refl; above = λ k le. refl; each = λ x lt. inl refl }

  pub lays_more : (n m : ℕ) (before after : Image) → n ≤ m → Lays at sequence epoch payloads n before after → Lays at sequence epoch payloads m before after
  lays_more n m before after le lays = record {
    size = lays.size;
    below = lays.below;
    above = λ k far. lays.above k (omega (arith, far, le));
    each = λ x lt. ⊎_elim (λ (near : x < n). lays.each x near) (λ (far : n ≤ x). inl (lays.above (at + x) (omega (arith, far)))) (cases_lt x n);
  }

  other_sector : (image : Image) (p k : ℕ) (sector : List ℕ) → (k ≡ p → ⊥) → sector_at (with_sector image p sector) k ≡ sector_at image k
  other_sector image p k sector ne = get_or-set_other image p k sector [] ne

  lays_write : (n p : ℕ) (before mid : Image) (sector : List ℕ) → p ≡ at + n → sector ≡ sealed epoch (sequence + n) (log_piece payloads n) → Lays at sequence epoch payloads n before mid → Lays at sequence epoch payloads (n + 1) before (with_sector mid p sector)
  lays_write n p before mid sector is is_sealed lays = record {
    size = length-set mid p sector ∙ lays.size;
    below = λ k lt. other_sector mid p k sector (λ e. omega (arith, e, is, lt)) ∙ lays.below k lt;
    above = λ k far. other_sector mid p k sector (λ e. omega (arith, e, is, far)) ∙ lays.above k (omega (arith, far));
    each = λ x lt.
        ⊎_elim
        (λ (near : x < n).
        let same : sector_at (with_sector mid p sector) (at + x) ≡ sector_at mid (at + x) = other_sector mid p (at + x) sector (λ e. omega (arith, e, is, near)) in
        ⊎_elim (λ old. inl (same ∙ old)) (λ new. inr (same ∙ new)) (lays.each x near))
        (λ (far : n ≤ x).
        let here : x ≡ n = omega (arith, lt, far) in
        let place : at + x ≡ p = omega (arith, here, is) in
        ⊎_elim
        (λ (within : p < length mid).
        inr (ap (λ k. sector_at (with_sector mid p sector) k) place ∙ get_or-set_same mid p sector [] within ∙ is_sealed ∙ ap (λ k. sealed epoch (sequence + k) (log_piece payloads k)) (sym here)))
        (λ (past : length mid ≤ p).
        inl (ap (λ (i : Image). sector_at i (at + x)) (set_past mid p sector past) ∙ lays.above (at + x) (omega (arith, far))))
        (cases_lt p (length mid)))
        (cases_lt x n);
  }

  -- the sector is written, or may be
  pub lays_step : (n p : ℕ) (before mid after : Image) (sector : List ℕ) → p ≡ at + n → sector ≡ sealed epoch (sequence + n) (log_piece payloads n) → Lays at sequence epoch payloads n before mid → MayWrite p sector mid after → Lays at sequence epoch payloads (n + 1) before after
  lays_step n p before mid after sector is is_sealed lays may =
      ⊎_elim
      (λ same. subst (λ (i : Image). Lays at sequence epoch payloads (n + 1) before i) (sym same) (lays_more n (n + 1) before mid (omega arith) lays))
      (λ new. subst (λ (i : Image). Lays at sequence epoch payloads (n + 1) before i) (sym new) (lays_write n p before mid sector is is_sealed lays))
      may

  pub has_laid_step : (n p : ℕ) (before mid after : Image) (sector : List ℕ) → p ≡ at + n → p < length mid → sector ≡ sealed epoch (sequence + n) (log_piece payloads n) → HasLaid at sequence epoch payloads n before mid → after ≡ with_sector mid p sector → HasLaid at sequence epoch payloads (n + 1) before after
  has_laid_step n p before mid after sector is within is_sealed laid new =
      subst (λ (i : Image). HasLaid at sequence epoch payloads (n + 1) before i) (sym new) (record {
        size = length-set mid p sector ∙ laid.size;
        below = λ k lt. other_sector mid p k sector (λ e. omega (arith, e, is, lt)) ∙ laid.below k lt;
        above = λ k far. other_sector mid p k sector (λ e. omega (arith, e, is, far)) ∙ laid.above k (omega (arith, far));
        each = λ x lt.
            ⊎_elim
            (λ (near : x < n). other_sector mid p (at + x) sector (λ e. omega (arith, e, is, near)) ∙ laid.each x near)
            (λ (far : n ≤ x).
            let here : x ≡ n = omega (arith, lt, far) in
            let place : at + x ≡ p = omega (arith, here, is) in
            ap (λ k. sector_at (with_sector mid p sector) k) place ∙ get_or-set_same mid p sector [] within ∙ is_sealed ∙ ap (λ k. sealed epoch (sequence + k) (log_piece payloads k)) (sym here))
            (cases_lt x n);
      })
