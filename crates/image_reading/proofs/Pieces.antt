-- A text is compared with a definition, sector by sector.
use Rattle.std.proofs.Common.{◌≡◌, ℕ, zero, suc, ◌+◌, ◌-◌, ◌<◌, ◌≤◌, Bool, true, false, List, [], ◌∷◌, ◌++◌, length, take, drop, min, refl, sym, ◌∙◌, ap, arith, Some, None}
use Rattle.std.specs.Prelude.{Option, if◌then◌else◌, ◌==◌}
use Rattle.std.specs.Option.{option_map, is_some}
use Rattle.std.proofs.lemmas.Bool.{false≢true}
use Rattle.std.proofs.lemmas.List.{length-take, length-drop, take_min, drop-drop, drop_more, drop_all}
use Rattle.tm_disk.specs.Disk.{Image, sector_at}
use Rattle.model_image.specs.Text.{bytes_from, text_in, first_difference}
use Rattle.image_reading.proofs.Differing.{moved, moved_none, same_length}

-- ---- places

moved_both : (n m : ℕ) (o : Option ℕ) → moved n (moved m o) ≡ moved (n + m) o
moved_both n m None = refl
moved_both n m (Some k) = ap (λ (x : ℕ). Some x) (omega arith)

moved_suc : (n : ℕ) (o : Option ℕ) → option_map (λ k. suc k) (moved n o) ≡ moved (suc n) o
moved_suc n None = refl
moved_suc n (Some k) = ap (λ (x : ℕ). Some x) (omega arith)

map_none : (f : ℕ → ℕ) (o : Option ℕ) → option_map f o ≡ None → o ≡ None
map_none f None e = refl
map_none f (Some k) e = cc

map_some : (f : ℕ → ℕ) (o : Option ℕ) → is_some (option_map f o) ≡ true → is_some o ≡ true
map_some f None e = e
map_some f (Some k) e = refl

no_some : (o : Option ℕ) → is_some o ≡ false → o ≡ None
no_some None e = refl
no_some (Some k) e = absurd (false≢true (sym e))

-- ---- a piece, and what stands behind it

same_piece : (text piece rest : List ℕ) → first_difference (take (length piece) text) piece ≡ None → first_difference text (piece ++ rest) ≡ moved (length piece) (first_difference (drop (length piece) text) rest)
same_piece [] [] rest none = moved_none (first_difference [] rest)
same_piece (a ∷ text) [] rest none = moved_none (first_difference (a ∷ text) rest)
same_piece [] (b ∷ piece) rest none = cc
same_piece (a ∷ text) (b ∷ piece) rest none = by (a == b) none (same_piece text piece rest)
  where
    front : Option ℕ
    front = first_difference (take (length piece) text) piece

    whole : Option ℕ
    whole = first_difference text (piece ++ rest)

    behind : Option ℕ
    behind = first_difference (drop (length piece) text) rest

    by : (is : Bool) → (if is then option_map (λ n. suc n) front else Some 0) ≡ None → (front ≡ None → whole ≡ moved (length piece) behind) → (if is then option_map (λ n. suc n) whole else Some 0) ≡ moved (suc (length piece)) behind
    by true none rec = ap (option_map (λ n. suc n)) (rec (map_none (λ n. suc n) front none)) ∙ moved_suc (length piece) behind
    by false none rec = cc

other_piece : (text piece rest : List ℕ) → is_some (first_difference (take (length piece) text) piece) ≡ true → first_difference text (piece ++ rest) ≡ first_difference (take (length piece) text) piece
other_piece [] [] rest some = absurd (false≢true some)
other_piece (a ∷ text) [] rest some = absurd (false≢true some)
other_piece [] (b ∷ piece) rest some = refl
other_piece (a ∷ text) (b ∷ piece) rest some = by (a == b) some (other_piece text piece rest)
  where
    front : Option ℕ
    front = first_difference (take (length piece) text) piece

    whole : Option ℕ
    whole = first_difference text (piece ++ rest)

    by : (is : Bool) → is_some (if is then option_map (λ n. suc n) front else Some 0) ≡ true → (is_some front ≡ true → whole ≡ front) → (if is then option_map (λ n. suc n) whole else Some 0) ≡ (if is then option_map (λ n. suc n) front else Some 0)
    by true some rec = ap (option_map (λ n. suc n)) (rec (map_some (λ n. suc n) front some))
    by false some rec = refl

-- ---- the definition's bytes

-- what is left of so many bytes behind some of them, from a sector on
abbrev pub left_at : Image → (size at done : ℕ) → List ℕ
left_at image size at done = take (size - done) (bytes_from (65 - at) image at)

take_none : (xs : List ℕ) → take 0 xs ≡ []
take_none [] = refl
take_none (x ∷ xs) = refl

take_nothing : (n : ℕ) → take {A = ℕ} n [] ≡ []
take_nothing zero = refl
take_nothing (suc n) = refl

take_both : (n : ℕ) (xs ys : List ℕ) → take n (xs ++ ys) ≡ take n xs ++ take (n - length xs) ys
take_both n [] ys = let same : n ≡ n - 0 = omega arith in ap (λ k. take k ys) same ∙ ap (λ (l : List ℕ). l ++ take (n - 0) ys) (sym (take_nothing n))
take_both zero (x ∷ xs) ys = let none : 0 - length (x ∷ xs) ≡ 0 = omega arith in sym (ap (λ k. take k ys) none ∙ take_none ys)
take_both (suc n) (x ∷ xs) ys = let same : n - length xs ≡ suc n - length (x ∷ xs) = omega arith in ap (λ (l : List ℕ). x ∷ l) (take_both n xs ys) ∙ ap (λ k. x ∷ take n xs ++ take k ys) same

-- so many of these bytes at most a sector has
abbrev pub in_sector : (size done : ℕ) → ℕ
in_sector size done = min (size - done) 4096

split : (n : ℕ) (sector rest : List ℕ) → length sector ≡ 4096 → take n (sector ++ rest) ≡ take (min n 4096) sector ++ take (n - 4096) rest
split n sector rest size =
    take_both n sector rest
    ∙ ap (λ (l : List ℕ). l ++ take (n - length sector) rest) (sym (take_min n sector))
    ∙ ap (λ k. take (min n k) sector ++ take (n - k) rest) size

next_sector : (n at : ℕ) (image : Image) → 65 - at ≡ suc n → bytes_from (65 - at) image at ≡ sector_at image at ++ bytes_from (65 - (at + 1)) image (at + 1)
next_sector n at image is =
    let behind : n ≡ 65 - (at + 1) = omega (arith, is) in
    ap (λ k. bytes_from k image at) is ∙ ap (λ k. sector_at image at ++ bytes_from k image (at + 1)) behind

-- ---- one sector more

module _ (text : List ℕ) (size done : ℕ) (sector : List ℕ) (whole_sector : length sector ≡ 4096) (found : Option ℕ) (is : found ≡ moved done (first_difference (take (in_sector size done) (drop done text)) (take (in_sector size done) sector))) where
  abbrev piece : List ℕ
  piece = take (in_sector size done) sector

  many : length piece ≡ in_sector size done
  many = omega (arith, length-take (in_sector size done) sector, whole_sector)

  abbrev front : Option ℕ
  front = first_difference (take (length piece) (drop done text)) piece

  found_is : found ≡ moved done front
  found_is = is ∙ ap (λ k. moved done (first_difference (take k (drop done text)) piece)) (sym many)

  front_same : is_some found ≡ false → front ≡ None
  front_same none = map_none (λ k. done + k) front (sym found_is ∙ no_some found none)

  -- the text goes on at least as far
  pub reaches : done ≤ length text → is_some found ≡ false → done + in_sector size done ≤ length text
  reaches long none =
      omega (arith, long, same_length (take (length piece) (drop done text)) piece (front_same none), length-take (length piece) (drop done text), length-drop done text, many)

  module _ (image : Image) (at : ℕ) (sector_is : sector ≡ sector_at image at) (within : at < 65) where
    abbrev rest : List ℕ
    rest = left_at image size (at + 1) (done + in_sector size done)

    parts : left_at image size at done ≡ piece ++ rest
    parts =
        let all = bytes_from (65 - (at + 1)) image (at + 1) in
        let behind : size - done - 4096 ≡ size - (done + in_sector size done) = omega arith in
        ap (λ (l : List ℕ). take (size - done) l) (next_sector (65 - at - 1) at image (omega (arith, within)) ∙ ap (λ (l : List ℕ). l ++ all) (sym sector_is))
        ∙ split (size - done) sector all whole_sector
        ∙ ap (λ k. piece ++ take k all) behind

    module _ (whole : Option ℕ) (so_far : whole ≡ moved done (first_difference (drop done text) (left_at image size at done))) where
      by_parts : whole ≡ moved done (first_difference (drop done text) (piece ++ rest))
      by_parts = so_far ∙ ap (λ (l : List ℕ). moved done (first_difference (drop done text) l)) parts

      pub goes_on : is_some found ≡ false → whole ≡ moved (done + in_sector size done) (first_difference (drop (done + in_sector size done) text) (left_at image size (at + 1) (done + in_sector size done)))
      goes_on none =
          by_parts
          ∙ ap (λ (o : Option ℕ). moved done o) (same_piece (drop done text) piece rest (front_same none))
          ∙ ap (λ k. moved done (moved k (first_difference (drop k (drop done text)) rest))) many
          ∙ moved_both done (in_sector size done) (first_difference (drop (in_sector size done) (drop done text)) rest)
          ∙ ap (λ (l : List ℕ). moved (done + in_sector size done) (first_difference l rest)) (drop-drop (in_sector size done) done text)

      pub stops : is_some found ≡ true → found ≡ whole
      stops some =
          found_is ∙ sym (by_parts ∙ ap (λ (o : Option ℕ). moved done o) (other_piece (drop done text) piece rest (map_some (λ k. done + k) front (sym (ap is_some found_is) ∙ some))))

-- ---- the end of the definition

module _ (image : Image) (text : List ℕ) (size at done : ℕ) (end : size ≤ done) (whole : Option ℕ) (so_far : whole ≡ moved done (first_difference (drop done text) (left_at image size at done))) where
  at_end : whole ≡ moved done (first_difference (drop done text) [])
  at_end =
      let none : size - done ≡ 0 = omega (arith, end) in
      so_far ∙ ap (λ (l : List ℕ). moved done (first_difference (drop done text) l)) (ap (λ k. take k (bytes_from (65 - at) image at)) none ∙ take_none (bytes_from (65 - at) image at))

  pub text_ends : length text ≤ done → None ≡ whole
  text_ends ends = sym (at_end ∙ ap (λ (l : List ℕ). moved done (first_difference l [])) (drop_all done text ends))

  pub text_goes_on : done < length text → Some done ≡ whole
  text_goes_on longer =
      let place : done + 0 ≡ done = omega arith in
      sym (at_end ∙ ap (λ (l : List ℕ). moved done (first_difference l [])) (drop_more text done 0 longer) ∙ ap (λ (n : ℕ). Some n) place)

-- nothing is compared yet
pub begins : (image : Image) (text : List ℕ) (size : ℕ) → first_difference text (text_in image size) ≡ moved 0 (first_difference (drop 0 text) (left_at image size 1 0))
begins image text size =
    let all : size ≡ size - 0 = omega arith in
    ap (λ k. first_difference text (take k (bytes_from 64 image 1))) all ∙ moved_none (first_difference text (take (size - 0) (bytes_from 64 image 1)))
