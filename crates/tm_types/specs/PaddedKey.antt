-- A key's bytes fix the bytes that it is kept in.
use Rattle.std.specs.Prelude.{◌≡◌, ℕ, ◌≤◌, ◌++◌, List, length, take, drop}
use Rattle.std.proofs.Common.{sym, ap, ◌∙◌, arith, length-take-le}
use Rattle.std.proofs.lemmas.List.{take-append-drop}
use Rattle.tm_types.specs.Key.{key_padding}

pub padded_key : (n : ℕ) (bytes : List ℕ) → n ≤ 32 → length bytes ≡ 32 → drop n bytes ≡ drop n key_padding
    → (length (take n bytes) ≡ n) × (take n bytes ++ drop (length (take n bytes)) key_padding ≡ bytes)
padded_key n bytes short full padded =
    let within : n ≤ length bytes = omega arith in
    let e : length (take n bytes) ≡ n = length-take-le n bytes within in (
      e,
      ap (λ k. take n bytes ++ drop k key_padding) e
          ∙ (ap (λ rest. take n bytes ++ rest) (sym padded) ∙ take-append-drop n bytes),
    )
