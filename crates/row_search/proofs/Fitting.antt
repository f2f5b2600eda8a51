-- Bytes that are padded with blanks or cut, and the last of some arguments.
use Rattle.std.proofs.Common.{◌≡◌, ℕ, ◌+◌, ◌-◌, ◌≤◌, ◌++◌, ◌∷◌, [], List, length, take, drop, min, get_or, zero, suc, refl, ap, ◌∙◌, arith}
use Rattle.std.specs.Prelude.{replicate}
use Rattle.std.proofs.lemmas.List.{length-take}
use Rattle.tm_types.specs.declared.dbd.SegType.{SegType}
use Rattle.tm_types.specs.declared.ssa.Ssa.{Ssa}
use Rattle.model_data.specs.Search.{number_named, asked_number}

pub asked_number_at : (types : List SegType) (ssas : List Ssa) (i : ℕ) (d : Ssa) → i + 1 ≡ length ssas → asked_number types ssas ≡ number_named types (get_or ssas i d).segment
asked_number_at types [] i d e = absurd (omega arith)
asked_number_at types (x ∷ []) zero d e = refl
asked_number_at types (x ∷ []) (suc i) d e = absurd (omega arith)
asked_number_at types (x ∷ y ∷ ssas) zero d e = absurd (omega arith)
asked_number_at types (x ∷ y ∷ ssas) (suc i) d e = asked_number_at types (y ∷ ssas) i d (omega arith)

pub take_blanks : (n m k : ℕ) → n ≤ m → n ≤ k → take {A = ℕ} n (replicate m 32) ≡ take n (replicate k 32)
take_blanks zero m k h g = refl
take_blanks (suc n) zero k h g = absurd (omega arith)
take_blanks (suc n) (suc m) zero h g = absurd (omega arith)
take_blanks (suc n) (suc m) (suc k) h g = λ i. 32 ∷ take_blanks n m k (omega arith) (omega arith) i

-- bytes set into blanks and cut are the bytes with blanks behind, cut
pub set_into_blanks : (bytes : List ℕ) (n m k size : ℕ) → n ≤ m → n ≤ k → size ≡ min (length bytes) n
    → take n (take size bytes ++ drop size (replicate m 32)) ≡ take n (bytes ++ replicate k 32)
set_into_blanks bytes zero m k size h g e = refl
set_into_blanks [] (suc n) m k zero h g e = take_blanks (suc n) m k h g
set_into_blanks [] (suc n) m k (suc size) h g e = absurd (omega arith)
set_into_blanks (b ∷ bs) (suc n) zero k size h g e = absurd (omega arith)
set_into_blanks (b ∷ bs) (suc n) (suc m) k zero h g e = absurd (omega arith)
set_into_blanks (b ∷ bs) (suc n) (suc m) k (suc size) h g e =
    λ i. b ∷ set_into_blanks bs n m k size (omega arith) (omega arith) (omega arith) i

-- the front of some bytes with blanks behind it is the bytes with blanks behind, cut
front_blanks : (bytes : List ℕ) (n k size : ℕ) → n ≤ k → size ≡ min (length bytes) n → take n (take size bytes) ++ replicate (n - size) 32 ≡ take n (bytes ++ replicate k 32)
front_blanks bytes zero k size h e = let none : zero - size ≡ 0 = omega arith in ap (λ (m : ℕ). replicate {A = ℕ} m 32) none
front_blanks [] (suc n) k zero h e = let all : suc n - zero ≡ suc n = omega arith in ap (λ (m : ℕ). replicate {A = ℕ} m 32) all ∙ whole (suc n) k h
  where
    whole : (m j : ℕ) → m ≤ j → replicate {A = ℕ} m 32 ≡ take m (replicate j 32)
    whole zero j g = refl
    whole (suc m) zero g = absurd (omega arith)
    whole (suc m) (suc j) g = λ i. 32 ∷ whole m j (omega arith) i
front_blanks [] (suc n) k (suc size) h e = absurd (omega arith)
front_blanks (b ∷ bs) (suc n) k zero h e = absurd (omega arith)
front_blanks (b ∷ bs) (suc n) k (suc size) h e =
    let count : suc n - suc size ≡ n - size = omega arith in
    (λ i. b ∷ (take n (take size bs) ++ replicate (count i) 32)) ∙ (λ i. b ∷ front_blanks bs n k size (omega arith) (omega arith) i)

pub blanks_behind : (n size had : ℕ) (bytes front whole : List ℕ) → size ≡ min (length bytes) n → front ≡ take size bytes → had ≡ length front
    → whole ≡ take n front ++ replicate (n - had) 32 → whole ≡ take n (bytes ++ replicate n 32)
blanks_behind n size had bytes front whole e is long grown =
    let count : n - had ≡ n - size = omega (arith, e, long, ap length is, length-take size bytes) in
    grown ∙ ((λ i. take n (is i) ++ replicate (count i) 32) ∙ front_blanks bytes n n size (omega arith) e)
