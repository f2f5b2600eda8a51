-- Bytes that are padded with blanks or cut.
use Rattle.std.proofs.Common.{◌≡◌, ℕ, ◌-◌, ◌≤◌, ◌++◌, ◌∷◌, [], List, length, take, drop, min, zero, suc, refl, sym, ap, ◌∙◌, arith}
use Rattle.std.specs.Prelude.{replicate}
use Rattle.std.proofs.lemmas.List.{drop-replicate, length-take}
use Rattle.model_messages.specs.Pads.{fitted_pad, code_field}

take_whole : (n : ℕ) (xs : List ℕ) → length xs ≤ n → take n xs ≡ xs
take_whole zero [] h = refl
take_whole zero (x ∷ xs) h = absurd (omega (arith, h))
take_whole (suc n) [] h = refl
take_whole (suc n) (x ∷ xs) h = λ i. x ∷ take_whole n xs (omega (arith, h)) i

take_short : (n : ℕ) (xs : List ℕ) (size : ℕ) → size ≡ min (length xs) n → take size xs ≡ take n xs
take_short zero [] zero e = refl
take_short zero [] (suc size) e = absurd (omega (arith, e))
take_short zero (x ∷ xs) zero e = refl
take_short zero (x ∷ xs) (suc size) e = absurd (omega (arith, e))
take_short (suc n) [] zero e = refl
take_short (suc n) [] (suc size) e = refl
take_short (suc n) (x ∷ xs) zero e = absurd (omega (arith, e))
take_short (suc n) (x ∷ xs) (suc size) e = λ i. x ∷ take_short n xs size (omega (arith, e)) i

-- the front of so many bytes, where there may be fewer
pub front_is : (n : ℕ) (bytes : List ℕ) → take (min (length bytes) n) bytes ≡ take n bytes
front_is n bytes = take_short n bytes (min (length bytes) n) refl

-- the front of a text, and blanks behind it up to a length
pub fits : (n size had : ℕ) (text front whole : List ℕ) → size ≡ min (length text) n → front ≡ take size text → had ≡ length front
    → whole ≡ take n front ++ replicate (n - had) 32
    → whole ≡ fitted_pad n text
fits n size had text front whole e is long grown =
    let cut : front ≡ take n text = is ∙ take_short n text size e in
    let count : n - had ≡ n - length text = omega (arith, e, long, ap length cut, length-take n text) in
    let again : take n front ≡ take n text = take_whole n front (omega (arith, ap length cut, length-take n text)) ∙ cut in
    grown ∙ (λ i. again i ++ replicate (count i) 32)

-- a code set into blanks
pub field_is : (code : List ℕ) → length code ≤ 8 → code ++ drop (length code) (replicate 8 32) ≡ code_field code
field_is code h =
    ap (λ front. front ++ drop (length code) (replicate 8 32)) (sym (take_whole 8 code h))
    ∙ ap (λ blanks. take 8 code ++ blanks) (drop-replicate (length code) 8 32)
