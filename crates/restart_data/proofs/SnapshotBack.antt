-- A snapshot that was written is read.
use Rattle.std.proofs.Common.{◌≡◌, ◌⊎◌, ℕ, zero, suc, ◌+◌, ◌-◌, ◌*◌, ◌<◌, ◌≤◌, ◌^◌, Bool, true, false, not, ◌&&◌, ◌||◌, List, [], ◌∷◌, ◌++◌, length, take, drop, refl, sym, ◌∙◌, ap, inl, inr, ⊎_elim, arith, None, Ok}
use Rattle.std.specs.Prelude.{Result, codes, ◌==◌, nat_lt}
use Rattle.std.proofs.lemmas.Bool.{le-ltb, ne_eqb, eq-eqb}
use Rattle.std.proofs.lemmas.Nat.{from_be_bytes-to_be_bytes_2, from_be_bytes-to_be_bytes_8}
use Rattle.std.proofs.lemmas.List.{take_at, drop_at, drop-drop, take-append-drop, length-take, length-drop, nil_from_length}
use Rattle.tm_disk.specs.Disk.{Image, sector_at}
use Rattle.tm_disk.specs.Sector.{zeros}
use Rattle.restart_data.specs.Fields.{bytes_at, number2_at, number8_at, are_zeros}
use Rattle.restart_data.specs.Rules.{first_broken}
use Rattle.restart_data.specs.Snapshot.{snapshot_header, snapshot_sector, snapshot_sectors_of, snapshot_piece, used_of, snapshot_payload_of, other_letters, other_place, wrong_used, stray_snapshot, snapshot_sector_rules, part_of, part_in, bytes_and_then, parts_in}
use Rattle.restart_data.proofs.Zeros.{are_zeros-zeros}
use Rattle.restart_data.proofs.Judging.{not_broken, neither, same_bytes, unbroken}

-- ---- what stands in a sealed sector

module _ (checkpoint place : ℕ) (payload : List ℕ) where
  letters_at : bytes_at 0 4 (snapshot_sector checkpoint place payload) ≡ codes "IMSS"
  unfolding snapshot_sector snapshot_header
  letters_at = refl

  checkpoint_at : checkpoint < 2 ^ 64 → number8_at 8 (snapshot_sector checkpoint place payload) ≡ checkpoint
  unfolding snapshot_sector snapshot_header number8_at
  checkpoint_at lt = from_be_bytes-to_be_bytes_8 checkpoint lt

  place_at : place < 2 ^ 64 → number8_at 16 (snapshot_sector checkpoint place payload) ≡ place
  unfolding snapshot_sector snapshot_header number8_at
  place_at lt = from_be_bytes-to_be_bytes_8 place lt

  used_at : length payload ≤ 4064 → used_of (snapshot_sector checkpoint place payload) ≡ length payload
  unfolding snapshot_sector snapshot_header number2_at
  used_at fits = from_be_bytes-to_be_bytes_2 (length payload) (omega (arith, fits))

  rest_at : drop 32 (snapshot_sector checkpoint place payload) ≡ payload ++ zeros (4064 - length payload)
  unfolding snapshot_sector snapshot_header
  rest_at = refl

  four_zeros : are_zeros (bytes_at 4 4 (snapshot_sector checkpoint place payload)) ≡ true
  unfolding snapshot_sector snapshot_header are_zeros
  four_zeros = refl

  six_zeros : are_zeros (bytes_at 26 6 (snapshot_sector checkpoint place payload)) ≡ true
  unfolding snapshot_sector snapshot_header are_zeros
  six_zeros = refl

  payload_back : length payload ≤ 4064 → snapshot_payload_of (snapshot_sector checkpoint place payload) ≡ payload
  payload_back fits =
      ap (λ k. take k (drop 32 (snapshot_sector checkpoint place payload))) (used_at fits)
      ∙ ap (λ (l : List ℕ). take (length payload) l) rest_at
      ∙ take_at payload (zeros (4064 - length payload)) (length payload) refl

  zeros_behind : length payload ≤ 4064 → are_zeros (drop (32 + used_of (snapshot_sector checkpoint place payload)) (snapshot_sector checkpoint place payload)) ≡ true
  zeros_behind fits =
      ap (λ k. are_zeros (drop (32 + k) (snapshot_sector checkpoint place payload))) (used_at fits)
      ∙ ap are_zeros (sym (drop-drop (length payload) 32 (snapshot_sector checkpoint place payload)))
      ∙ ap (λ (l : List ℕ). are_zeros (drop (length payload) l)) rest_at
      ∙ ap are_zeros (drop_at payload (zeros (4064 - length payload)) (length payload) refl)
      ∙ are_zeros-zeros (4064 - length payload)

three_kept : (a b c : Bool) → a ≡ false → b ≡ false → c ≡ false → first_broken ((7, a) ∷ (8, b) ∷ (9, c) ∷ []) ≡ None
three_kept a b c is_a is_b is_c = rw (is_a, is_b, is_c) refl

-- the count of a sector's bytes: none behind it, or it is full
used_kept : (behind used : ℕ) → 0 < used → used ≤ 4064 → (behind ≡ 0) ⊎ (used ≡ 4064) → wrong_used behind used ≡ false
used_kept behind used some fits full =
    neither (used == 0 || nat_lt 4064 used) (nat_lt 0 behind && not (used == 4064))
    (neither (used == 0) (nat_lt 4064 used) (ne_eqb used 0 (λ e. omega (arith, some, e))) (le-ltb 4064 used fits))
    (⊎_elim
    (λ (none : behind ≡ 0). ap (λ k. nat_lt 0 k && not (used == 4064)) none)
    (λ (is : used ≡ 4064). not_both (nat_lt 0 behind) (used == 4064) (eq-eqb used 4064 is))
    full) where
      not_both : (a b : Bool) → b ≡ true → (a && not b) ≡ false
      not_both true b is = not_broken b is
      not_both false b is = refl

-- a sector that was written is read
pub part_back : (behind checkpoint place : ℕ) (payload : List ℕ) → checkpoint < 2 ^ 64 → place < 2 ^ 64 → 0 < length payload → length payload ≤ 4064 → (behind ≡ 0) ⊎ (length payload ≡ 4064) → part_of behind checkpoint place (snapshot_sector checkpoint place payload) ≡ Ok payload
unfolding part_of
part_back behind checkpoint place payload small far some fits full =
    let s = snapshot_sector checkpoint place payload in
    let used = used_at checkpoint place payload fits in
    unbroken (first_broken (snapshot_sector_rules behind checkpoint place s)) (snapshot_payload_of s)
    (three_kept (other_place checkpoint place s) (wrong_used behind (used_of s)) (stray_snapshot s)
    (neither (other_letters s || not (number8_at 8 s == checkpoint)) (not (number8_at 16 s == place))
    (neither (other_letters s) (not (number8_at 8 s == checkpoint)) (same_bytes (bytes_at 0 4 s) (codes "IMSS") (letters_at checkpoint place payload)) (not_broken (number8_at 8 s == checkpoint) (eq-eqb (number8_at 8 s) checkpoint (checkpoint_at checkpoint place payload small))))
    (not_broken (number8_at 16 s == place) (eq-eqb (number8_at 16 s) place (place_at checkpoint place payload far))))
    (ap (wrong_used behind) used ∙ used_kept behind (length payload) some fits full)
    (neither (not (are_zeros (bytes_at 4 4 s)) || not (are_zeros (bytes_at 26 6 s))) (not (are_zeros (drop (32 + used_of s) s)))
    (neither (not (are_zeros (bytes_at 4 4 s))) (not (are_zeros (bytes_at 26 6 s))) (not_broken (are_zeros (bytes_at 4 4 s)) (four_zeros checkpoint place payload)) (not_broken (are_zeros (bytes_at 26 6 s)) (six_zeros checkpoint place payload)))
    (not_broken (are_zeros (drop (32 + used_of s) s)) (zeros_behind checkpoint place payload fits))))
    ∙ ap (λ (l : List ℕ). Ok l) (payload_back checkpoint place payload fits)

-- ---- all sectors

-- so many bytes need so many sectors: the last has one byte at least
pub record Needs (n : ℕ) (bytes : List ℕ) : Type 0 where
  pub enough : length bytes ≤ n * 4064
  pub all_needed : n * 4064 < length bytes + 4064

pub needs_sectors : (bytes : List ℕ) → Needs (snapshot_sectors_of (length bytes)) bytes
needs_sectors bytes = record { enough = omega arith; all_needed = omega arith }

next_piece : (x : ℕ) (bytes : List ℕ) → snapshot_piece x (drop 4064 bytes) ≡ snapshot_piece (x + 1) bytes
next_piece x bytes = ap (λ (l : List ℕ). take 4064 l) (drop-drop (x * 4064) 4064 bytes ∙ ap (λ k. drop k bytes) (omega arith))

pub parts_back : (n : ℕ) (image : Image) (at checkpoint place : ℕ) (bytes : List ℕ) → checkpoint < 2 ^ 64 → place + n ≤ 2 ^ 64 → Needs n bytes → ((x : ℕ) → x < n → sector_at image (at + x) ≡ snapshot_sector checkpoint (place + x) (snapshot_piece x bytes)) → parts_in n image at checkpoint place ≡ Ok bytes
parts_back zero image at checkpoint place bytes small far needs each =
    ap (λ (l : List ℕ). Ok l) (sym (nil_from_length bytes (omega (arith, needs.enough))))
parts_back (suc n) image at checkpoint place bytes small far needs each =
    let first = take 4064 bytes in
    let rest = drop 4064 bytes in
    let size : length first ≤ 4064 = omega (arith, length-take 4064 bytes) in
    let some : 0 < length first = omega (arith, length-take 4064 bytes, needs.all_needed) in
    let full : (n ≡ 0) ⊎ (length first ≡ 4064) =
    ⊎_elim
    (λ (none : n ≡ 0). inl none)
    (λ (more : 0 < n). inr (omega (arith, length-take 4064 bytes, needs.all_needed, more)))
    (zero_or_more n) in
    let here : sector_at image at ≡ snapshot_sector checkpoint place first =
    ap (λ k. sector_at image k) (omega arith) ∙ each 0 (omega arith) ∙ ap (λ k. snapshot_sector checkpoint k first) (omega arith) in
    let part : part_of n checkpoint place (sector_at image at) ≡ Ok first =
    ap (part_of n checkpoint place) here ∙ part_back n checkpoint place first small (omega (arith, far)) some size full in
    let others : parts_in n image (at + 1) checkpoint (place + 1) ≡ Ok rest =
    parts_back n image (at + 1) checkpoint (place + 1) rest small (omega (arith, far))
    (record { enough = omega (arith, length-drop 4064 bytes, needs.enough); all_needed = omega (arith, length-drop 4064 bytes, needs.all_needed, needs.enough) })
    (λ x lt.
    ap (λ k. sector_at image k) (omega arith) ∙ each (x + 1) (omega (arith, lt))
    ∙ ap (λ k. snapshot_sector checkpoint k (snapshot_piece (x + 1) bytes)) (omega arith)
    ∙ ap (snapshot_sector checkpoint ((place + 1) + x)) (sym (next_piece x bytes))) in
    ap (λ (r : Result (List ℕ) ℕ). bytes_and_then (part_in at r) (parts_in n image (at + 1) checkpoint (place + 1))) part
    ∙ ap (bytes_and_then (Ok first)) others
    ∙ ap (λ (l : List ℕ). Ok l) (take-append-drop 4064 bytes) where
      zero_or_more : (n : ℕ) → (n ≡ 0) ⊎ (0 < n)
      zero_or_more zero = inl refl
      zero_or_more (suc n) = inr (omega arith)
