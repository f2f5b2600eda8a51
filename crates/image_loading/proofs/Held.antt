-- The sectors of a slot that is written hold its bytes.
use Rattle.std.proofs.Common.{◌≡◌, ◌⊎◌, ℕ, ◌+◌, ◌-◌, ◌*◌, ◌≤◌, zero, suc, Bool, true, false, not, ◌&&◌, ◌||◌, List, [], ◌++◌, length, take, drop, refl, sym, ◌∙◌, ap, inl, inr, ⊎_elim, arith, nat_lt, eqb, cond, Some, None}
use Rattle.std.proofs.lemmas.Bool.{le-ltb, eq-eqb, cases_eq}
use Rattle.std.proofs.lemmas.List.{take_at, drop_at, drop-drop, drop_all, length-take, length-drop, take-append-drop, nil_from_length}
use Rattle.std.proofs.lemmas.Nat.{from_be_bytes-to_be_bytes_2}
use Rattle.tm_disk.specs.Sector.{zeros}
use Rattle.restart_data.specs.Fields.{number2_at, are_zeros}
use Rattle.restart_data.proofs.Zeros.{are_zeros-zeros}
use Rattle.seg_store.specs.DataSectors.{data_sector, slot_spelling}
use Rattle.model_image.specs.Slots.{used_in, payload_in, spelled_in, is_wrong_sector, wrong_from}
use Rattle.model_image.specs.HeldStores.{HoldsBytes}

-- ---- one sector

pub used_is : (bytes : List ℕ) → length bytes ≤ 4000 → used_in (data_sector bytes) ≡ length bytes
unfolding data_sector number2_at
used_is bytes fits = from_be_bytes-to_be_bytes_2 (length bytes) (omega (arith, fits))

pub behind_two : (bytes : List ℕ) → drop 2 (data_sector bytes) ≡ bytes ++ zeros (4094 - length bytes)
unfolding data_sector
behind_two bytes = refl

pub payload_is : (bytes : List ℕ) → length bytes ≤ 4000 → payload_in (data_sector bytes) ≡ bytes
payload_is bytes fits =
    ap (λ n. take n (drop 2 (data_sector bytes))) (used_is bytes fits)
    ∙ ap (λ (l : List ℕ). take (length bytes) l) (behind_two bytes)
    ∙ take_at bytes (zeros (4094 - length bytes)) (length bytes) refl

pub zeros_behind : (bytes : List ℕ) → length bytes ≤ 4000 → are_zeros (drop (2 + used_in (data_sector bytes)) (data_sector bytes)) ≡ true
zeros_behind bytes fits =
    ap (λ n. are_zeros (drop (2 + n) (data_sector bytes))) (used_is bytes fits)
    ∙ ap are_zeros (sym (drop-drop (length bytes) 2 (data_sector bytes)) ∙ ap (λ (l : List ℕ). drop (length bytes) l) (behind_two bytes) ∙ drop_at bytes (zeros (4094 - length bytes)) (length bytes) refl)
    ∙ are_zeros-zeros (4094 - length bytes)

-- all before it are full, or it has no bytes
abbrev MayStand : Bool → List ℕ → Type 0
MayStand full bytes = (full ≡ true) ⊎ (bytes ≡ [])

right_sector : (full : Bool) (bytes : List ℕ) → length bytes ≤ 4000 → MayStand full bytes → is_wrong_sector full (data_sector bytes) ≡ false
right_sector full bytes fits may =
    ap (λ n. nat_lt 4000 n || not (are_zeros (drop (2 + used_in (data_sector bytes)) (data_sector bytes))) || (not full && nat_lt 0 (used_in (data_sector bytes)))) (used_is bytes fits)
    ∙ ap (λ b. b || not (are_zeros (drop (2 + used_in (data_sector bytes)) (data_sector bytes))) || (not full && nat_lt 0 (used_in (data_sector bytes)))) (le-ltb 4000 (length bytes) fits)
    ∙ ap (λ b. not b || (not full && nat_lt 0 (used_in (data_sector bytes)))) (zeros_behind bytes fits)
    ∙ ap (λ n. not full && nat_lt 0 n) (used_is bytes fits)
    ∙ last full may
  where
    last : (b : Bool) → MayStand b bytes → not b && nat_lt 0 (length bytes) ≡ false
    last true h = refl
    last false h = ⊎_elim (λ clash. absurd cc) (λ none. ap (λ (l : List ℕ). nat_lt 0 (length l)) none) h

-- ---- those of a slot

short_part : (bytes : List ℕ) → length (take 4000 bytes) ≤ 4000
short_part bytes = omega (arith, length-take 4000 bytes)

-- where a sector isn't full, no bytes are left
part_stands : (full : Bool) (bytes : List ℕ) → MayStand full bytes → MayStand (full && eqb (used_in (data_sector (take 4000 bytes))) 4000) (drop 4000 bytes)
part_stands false bytes may = ⊎_elim (λ clash. absurd cc) (λ none. inr (ap (λ (l : List ℕ). drop 4000 l) none)) may
part_stands true bytes may =
    let used : used_in (data_sector (take 4000 bytes)) ≡ length (take 4000 bytes) = used_is (take 4000 bytes) (short_part bytes) in
    ⊎_elim
    (λ is. inl (eq-eqb (used_in (data_sector (take 4000 bytes))) 4000 (used ∙ is)))
    (λ isnt. inr (drop_all 4000 bytes (omega (arith, length-take 4000 bytes, isnt))))
    (cases_eq (length (take 4000 bytes)) 4000)

right_from : (n : ℕ) (full : Bool) (at : ℕ) (bytes : List ℕ) → MayStand full bytes → wrong_from full at (slot_spelling n bytes) ≡ None
right_from zero full at bytes may = refl
right_from (suc n) full at bytes may =
    let here = right_sector full (take 4000 bytes) (short_part bytes) (⊎_elim (λ is. inl is) (λ none. inr (ap (λ (l : List ℕ). take 4000 l) none)) may) in
    ap (λ b. cond b (Some at) (wrong_from (full && eqb (used_in (data_sector (take 4000 bytes))) 4000) (at + 1) (slot_spelling n (drop 4000 bytes)))) here
    ∙ right_from n (full && eqb (used_in (data_sector (take 4000 bytes))) 4000) (at + 1) (drop 4000 bytes) (part_stands full bytes may)

spelled_is : (n : ℕ) (bytes : List ℕ) → length bytes ≤ 4000 * n → spelled_in (slot_spelling n bytes) ≡ bytes
spelled_is zero bytes fits = sym (nil_from_length bytes (omega (arith, fits)))
spelled_is (suc n) bytes fits =
    ap (λ (l : List ℕ). l ++ spelled_in (slot_spelling n (drop 4000 bytes))) (payload_is (take 4000 bytes) (short_part bytes))
    ∙ ap (λ (l : List ℕ). take 4000 bytes ++ l) (spelled_is n (drop 4000 bytes) (omega (arith, fits, length-drop 4000 bytes)))
    ∙ take-append-drop 4000 bytes

-- the sectors of a slot with these bytes hold them
pub data_holds : (n : ℕ) (bytes : List ℕ) → length bytes ≤ 4000 * n → HoldsBytes bytes (slot_spelling n bytes)
data_holds n bytes fits = record { right = λ at. right_from n true at bytes (inl refl); spelled = spelled_is n bytes fits }
