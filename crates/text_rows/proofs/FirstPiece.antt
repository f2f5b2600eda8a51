-- The first piece of a text, and the pieces behind it.
use Rattle.std.proofs.Common.{ℕ, ◌≡◌, suc, ◌<◌, ◌≤◌, Bool, true, false, List, [], ◌∷◌, length, take, drop, cond, refl, ap, arith}
use Rattle.text_rows.specs.declared.pieces.Place.{Place}
use Rattle.text_rows.specs.Pieces.{parts, place_after, pieces_from, with_front, first_length}

parted-by : (b : Bool) (byte n : ℕ) (bytes : List ℕ) (here behind : List (List ℕ)) (after : ℕ → List (List ℕ)) → (n < length bytes → behind ≡ take n bytes ∷ after (suc n)) → here ≡ after 0 → cond b 0 (suc n) < suc (length bytes) → cond b ([] ∷ here) (with_front byte behind) ≡ take (cond b 0 (suc n)) (byte ∷ bytes) ∷ after (cond b 0 (suc n))
parted-by true byte n bytes here behind after below e h = ap (λ ps. [] ∷ ps) e
parted-by false byte n bytes here behind after below e h = ap (with_front byte) (below (omega (arith, h)))

-- there is a first piece, and behind the byte that parts there are the others
pub parted : (first place : Place) (text : List ℕ) → first_length place text < length text → pieces_from first place text ≡ take (first_length place text) text ∷ pieces_from first first (drop (suc (first_length place text)) text)
parted first place [] h = absurd (omega (arith, h))
parted first place (byte ∷ bytes) h = parted-by (parts place byte) byte (first_length (place_after place byte) bytes) bytes (pieces_from first first bytes) (pieces_from first (place_after place byte) bytes) (λ n. pieces_from first first (drop n bytes)) (λ k. parted first (place_after place byte) bytes k) refl h

whole-by : (b : Bool) (byte n : ℕ) (bytes : List ℕ) (here behind : List (List ℕ)) → (length bytes ≤ n → behind ≡ bytes ∷ []) → suc (length bytes) ≤ cond b 0 (suc n) → cond b ([] ∷ here) (with_front byte behind) ≡ (byte ∷ bytes) ∷ []
whole-by true byte n bytes here behind below h = absurd (omega (arith, h))
whole-by false byte n bytes here behind below h = ap (with_front byte) (below (omega (arith, h)))

-- where no byte parts, the text is the only piece
pub whole : (first place : Place) (text : List ℕ) → length text ≤ first_length place text → pieces_from first place text ≡ text ∷ []
whole first place [] h = refl
whole first place (byte ∷ bytes) h = whole-by (parts place byte) byte (first_length (place_after place byte) bytes) bytes (pieces_from first first bytes) (pieces_from first (place_after place byte) bytes) (λ k. whole first (place_after place byte) bytes k) h
