-- Short lists kept in eight places, of which those behind the list are filled in one way.
use Rattle.std.specs.Prelude.{◌≡◌, ℕ, ◌≤◌, ◌++◌, List, [], ◌∷◌, length, take, drop}
use Rattle.std.proofs.Common.{sym, ap, ◌∙◌, arith, length-take-le}
use Rattle.std.proofs.lemmas.List.{take-append-drop}

abbrev pub no_regions : List ℕ
no_regions = 0 ∷ 0 ∷ 0 ∷ 0 ∷ 0 ∷ 0 ∷ 0 ∷ 0 ∷ []

-- what is kept of a list gives it again
pub padded_list : {A : Type 0} (filling : List A) (n : ℕ) (kept : List A) → n ≤ 8 → length kept ≡ 8 → drop n kept ≡ drop n filling
    → (length (take n kept) ≡ n) × (take n kept ++ drop (length (take n kept)) filling ≡ kept)
padded_list filling n kept short full same =
    let within : n ≤ length kept = omega arith in
    let e : length (take n kept) ≡ n = length-take-le n kept within in (
      e,
      ap (λ k. take n kept ++ drop k filling) e
          ∙ (ap (λ rest. take n kept ++ rest) (sym same) ∙ take-append-drop n kept),
    )
