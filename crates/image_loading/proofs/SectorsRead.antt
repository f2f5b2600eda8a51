-- The sectors of a slot that are read, and those still to come.
use Rattle.std.proofs.Common.{◌≡◌, ℕ, ◌+◌, ◌-◌, ◌*◌, ◌<◌, ◌≤◌, ◌++◌, ◌∷◌, [], suc, List, length, drop, refl, sym, ◌∙◌, ap, arith, Bool, true, false, cond, eqb, nat_lt, not, ◌&&◌, ◌||◌, None, Some, append_assoc}
use Rattle.std.proofs.lemmas.Bool.{ltb-false}
use Rattle.std.proofs.lemmas.List.{append-nil, length-append}
use Rattle.tm_disk.specs.Disk.{Image, sector_at}
use Rattle.restart_data.specs.Fields.{are_zeros}
use Rattle.model_image.specs.Slots.{used_in, payload_in, spelled_in, is_wrong_sector, wrong_from, sectors_from}

-- So many of the sectors from a place on are read: all of them full or not, and with these bytes.
pub record AreReadTo (image : Image) (at sectors index : ℕ) (full : Bool) (bytes : List ℕ) : Type 0 where
  pub right : wrong_from true at (sectors_from image at sectors) ≡ wrong_from full (at + index) (sectors_from image (at + index) (sectors - index))
  pub spelled : spelled_in (sectors_from image at sectors) ≡ bytes ++ spelled_in (sectors_from image (at + index) (sectors - index))

pub sectors_begin : (image : Image) (at sectors : ℕ) (bytes : List ℕ) → bytes ≡ [] → AreReadTo image at sectors 0 true bytes
sectors_begin image at sectors bytes none =
    let here : at ≡ at + 0 = omega arith in
    let count : sectors ≡ sectors - 0 = omega arith in
    record {
      right = λ i. wrong_from true (here i) (sectors_from image (here i) (count i));
      spelled = (λ i. spelled_in (sectors_from image (here i) (count i)))
          ∙ ap (λ (l : List ℕ). l ++ spelled_in (sectors_from image (at + 0) (sectors - 0))) (sym none);
    }

-- the sectors still to come begin with the next one
module _ (image : Image) (at sectors index : ℕ) (below : index < sectors) where
  next_sector : sectors_from image (at + index) (sectors - index) ≡ sector_at image (at + index) ∷ sectors_from image (at + (index + 1)) (sectors - (index + 1))
  next_sector =
      let count : sectors - index ≡ suc (sectors - (index + 1)) = omega (arith, below) in
      let place : at + index + 1 ≡ at + (index + 1) = omega arith in
      ap (λ n. sectors_from image (at + index) n) count
      ∙ ap (λ p. sector_at image (at + index) ∷ sectors_from image p (sectors - (index + 1))) place

  -- what is wrong from here on, by whether the next one is
  next_wrong : (full : Bool) → wrong_from full (at + index) (sectors_from image (at + index) (sectors - index))
      ≡ cond (is_wrong_sector full (sector_at image (at + index))) (Some (at + index)) (wrong_from (full && eqb (used_in (sector_at image (at + index))) 4000) (at + (index + 1)) (sectors_from image (at + (index + 1)) (sectors - (index + 1))))
  next_wrong full =
      let place : at + index + 1 ≡ at + (index + 1) = omega arith in
      ap (λ (l : List (List ℕ)). wrong_from full (at + index) l) next_sector
      ∙ ap (λ p. cond (is_wrong_sector full (sector_at image (at + index))) (Some (at + index)) (wrong_from (full && eqb (used_in (sector_at image (at + index))) 4000) p (sectors_from image (at + (index + 1)) (sectors - (index + 1))))) place

  pub sector_wrong : (full : Bool) (bytes sector : List ℕ) → AreReadTo image at sectors index full bytes → sector ≡ sector_at image (at + index) → is_wrong_sector full sector ≡ true
      → wrong_from true at (sectors_from image at sectors) ≡ Some (at + index)
  sector_wrong full bytes sector read is wrong =
      read.right ∙ next_wrong full
      ∙ ap (λ b. cond b (Some (at + index)) (wrong_from (full && eqb (used_in (sector_at image (at + index))) 4000) (at + (index + 1)) (sectors_from image (at + (index + 1)) (sectors - (index + 1)))))
      (ap (is_wrong_sector full) (sym is) ∙ wrong)

  pub sector_read : (full full' : Bool) (bytes bytes' sector payload : List ℕ) → AreReadTo image at sectors index full bytes → sector ≡ sector_at image (at + index) → is_wrong_sector full sector ≡ false
      → payload ≡ payload_in sector → length payload ≡ used_in sector → full' ≡ (full && eqb (length payload) 4000) → bytes' ≡ bytes ++ payload → AreReadTo image at sectors (index + 1) full' bytes'
  sector_read full full' bytes bytes' sector payload read is right holds used fills more =
      let last : full && eqb (used_in (sector_at image (at + index))) 4000 ≡ full' =
      ap (λ n. full && eqb n 4000) (ap used_in (sym is) ∙ sym used) ∙ sym fills in
      record {
        right =
            read.right ∙ next_wrong full
            ∙ ap (λ b. cond b (Some (at + index)) (wrong_from (full && eqb (used_in (sector_at image (at + index))) 4000) (at + (index + 1)) (sectors_from image (at + (index + 1)) (sectors - (index + 1)))))
            (ap (is_wrong_sector full) (sym is) ∙ right)
            ∙ ap (λ b. wrong_from b (at + (index + 1)) (sectors_from image (at + (index + 1)) (sectors - (index + 1)))) last;
        spelled =
            read.spelled
            ∙ ap (λ (l : List (List ℕ)). bytes ++ spelled_in l) next_sector
            ∙ ap (λ (l : List ℕ). bytes ++ (l ++ spelled_in (sectors_from image (at + (index + 1)) (sectors - (index + 1))))) (ap payload_in (sym is) ∙ sym holds)
            ∙ sym (append_assoc bytes payload (spelled_in (sectors_from image (at + (index + 1)) (sectors - (index + 1)))))
            ∙ ap (λ (l : List ℕ). l ++ spelled_in (sectors_from image (at + (index + 1)) (sectors - (index + 1)))) (sym more);
      }

-- all are read
pub record AreAllRead (image : Image) (at sectors : ℕ) (bytes : List ℕ) : Type 0 where
  pub right : wrong_from true at (sectors_from image at sectors) ≡ None
  pub spelled : bytes ≡ spelled_in (sectors_from image at sectors)

pub sectors_end : (image : Image) (at sectors index : ℕ) (full : Bool) (bytes : List ℕ) → sectors ≤ index → AreReadTo image at sectors index full bytes → AreAllRead image at sectors bytes
sectors_end image at sectors index full bytes past read =
    let none : sectors - index ≡ 0 = omega (arith, past) in
    record {
      right = read.right ∙ ap (λ n. wrong_from full (at + index) (sectors_from image (at + index) n)) none;
      spelled = sym (read.spelled ∙ ap (λ n. bytes ++ spelled_in (sectors_from image (at + index) n)) none ∙ append-nil bytes);
    }

-- one that isn't wrong has few bytes
pub right_short : (full : Bool) (sector : List ℕ) → is_wrong_sector full sector ≡ false → used_in sector ≤ 4000
right_short full sector right = omega (arith, ltb-false 4000 (used_in sector) (first (nat_lt 4000 (used_in sector)) (not (are_zeros (drop (2 + used_in sector) sector))) (not full && nat_lt 0 (used_in sector)) right))
  where
    first : (a b c : Bool) → a || b || c ≡ false → a ≡ false
    first true b c e = let clash : true ≡ false = e in absurd (cc)
    first false b c e = refl

-- and so many fit
pub bytes_short : (before payload bytes : List ℕ) (index : ℕ) → bytes ≡ before ++ payload → length payload ≤ 4000 → length before ≤ 4000 * index → length bytes ≤ 4000 * (index + 1)
bytes_short before payload bytes index is short so_far = omega (arith, ap (length {A = ℕ}) is, length-append before payload, short, so_far)
