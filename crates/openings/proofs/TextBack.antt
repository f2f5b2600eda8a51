-- A text that stands in its sectors is read back.
use Rattle.std.proofs.Common.{◌≡◌, ℕ, zero, suc, ◌+◌, ◌-◌, ◌*◌, ◌<◌, ◌≤◌, List, [], ◌++◌, length, take, drop, refl, sym, ◌∙◌, ap, ⊎_elim, arith, append_assoc, append-nil}
use Rattle.std.proofs.lemmas.Bool.{cases_lt}
use Rattle.std.proofs.lemmas.List.{take_all, drop_all, drop-drop, take-append-le, take-append-drop, length-take-le, length-drop}
use Rattle.std.proofs.Math.Seq.{take-append-add}
use Rattle.tm_disk.specs.Disk.{Image, sector_at}
use Rattle.tm_disk.specs.Sector.{zeros}
use Rattle.openings.specs.ColdWrites.{text_sectors, text_piece, text_sector}
use Rattle.model_image.specs.Text.{bytes_from, text_in}

no_zeros : (n : ℕ) → n ≡ 0 → zeros n ≡ []
unfolding zeros
no_zeros zero is = refl
no_zeros (suc n) is = absurd (omega (arith, is))

-- a full sector, and what is taken of it and of what stands behind
full : (rest more : List ℕ) (m : ℕ) → length rest ≡ m → 4096 ≤ m → take m ((take 4096 rest ++ zeros (4096 - length (take 4096 rest))) ++ more) ≡ take 4096 rest ++ take (m - 4096) more
full rest more m is le =
    let size : length (take 4096 rest) ≡ 4096 = length-take-le 4096 rest (omega (arith, is, le)) in
    let none : zeros (4096 - length (take 4096 rest)) ≡ [] = no_zeros (4096 - length (take 4096 rest)) (omega (arith, size)) in
    let whole : m ≡ length (take 4096 rest) + (m - 4096) = omega (arith, size, le) in
    ap (λ (z : List ℕ). take m ((take 4096 rest ++ z) ++ more)) none
    ∙ ap (λ (l : List ℕ). take m (l ++ more)) (append-nil (take 4096 rest))
    ∙ ap (λ (k : ℕ). take k (take 4096 rest ++ more)) whole
    ∙ take-append-add (take 4096 rest) more (m - 4096)

-- the last sector
last : (rest more zs : List ℕ) (m : ℕ) → length rest ≡ m → m < 4096 → take m ((take 4096 rest ++ zs) ++ more) ≡ rest
last rest more zs m is lt =
    let whole : take 4096 rest ≡ rest = take_all 4096 rest (omega (arith, is, lt)) in
    ap (λ (l : List ℕ). take m ((l ++ zs) ++ more)) whole
    ∙ ap (λ (l : List ℕ). take m l) (append_assoc rest zs more)
    ∙ take-append-le m rest (zs ++ more) (omega (arith, is))
    ∙ take_all m rest (omega (arith, is))

module _ (text : List ℕ) (image : Image) (has : (x : ℕ) → x < text_sectors (length text) → sector_at image (1 + x) ≡ text_sector text x) where
  sectors_back : (n p : ℕ) → length text ≤ (n + p) * 4096 → take (length text - p * 4096) (bytes_from n image (1 + p)) ≡ drop (p * 4096) text
  sectors_back zero p fits =
      let none : length text - p * 4096 ≡ 0 = omega (arith, fits) in
      ap (λ (k : ℕ). take k (bytes_from zero image (1 + p))) none ∙ sym (drop_all (p * 4096) text (omega (arith, fits)))
  sectors_back (suc n) p fits =
      let more : List ℕ = bytes_from n image (1 + p + 1) in
      let rest : List ℕ = drop (p * 4096) text in
      let m : ℕ = length text - p * 4096 in
      let size : length rest ≡ m = length-drop (p * 4096) text in
      ⊎_elim
      (λ (some : p * 4096 < length text).
      let here : sector_at image (1 + p) ≡ text_sector text p = has p (omega (arith, some)) in
      ap (λ (s : List ℕ). take m (s ++ more)) here
      ∙ ⊎_elim
      (λ (short : m < 4096). last rest more (zeros (4096 - length (text_piece text p))) m size short)
      (λ (long : 4096 ≤ m).
      let left : m - 4096 ≡ length text - (p + 1) * 4096 = omega (arith, long) in
      let at : 1 + p + 1 ≡ 1 + (p + 1) = omega arith in
      let next : p * 4096 + 4096 ≡ (p + 1) * 4096 = omega arith in
      let back : take (m - 4096) more ≡ drop 4096 rest =
      ap (λ (k : ℕ). take k more) left
      ∙ ap (λ (k : ℕ). take (length text - (p + 1) * 4096) (bytes_from n image k)) at
      ∙ sectors_back n (p + 1) (omega (arith, fits))
      ∙ ap (λ (k : ℕ). drop k text) (sym next)
      ∙ sym (drop-drop 4096 (p * 4096) text) in
      full rest more m size long ∙ ap (λ (l : List ℕ). take 4096 rest ++ l) back ∙ take-append-drop 4096 rest)
      (cases_lt m 4096))
      (λ (none : length text ≤ p * 4096).
      let left : length text - p * 4096 ≡ 0 = omega (arith, none) in
      ap (λ (k : ℕ). take k (bytes_from (suc n) image (1 + p))) left ∙ sym (drop_all (p * 4096) text none))
      (cases_lt (p * 4096) (length text))

  pub text_back : length text ≤ 262144 → text_in image (length text) ≡ text
  text_back fits =
      let same : length text ≡ length text - 0 * 4096 = omega arith in
      ap (λ (k : ℕ). take k (bytes_from 64 image 1)) same ∙ sectors_back 64 0 (omega (arith, fits))
