-- What stands before the first quote has none.
use Rattle.std.proofs.Common.{ℕ, suc, ◌≡◌, ◌+◌, ◌==◌, Bool, true, false, cond, List, [], ◌∷◌, length, take, drop, nat_lt, refl, ap, sym, ◌∙◌, arith}
use Rattle.std.specs.Prelude.{Some, None, ◌||◌, ◌&&◌, not, IsTrue}
use Rattle.std.specs.List.{list_any, list_all, position_or_len}
use Rattle.std.specs.Option.{option_map}
use Rattle.std.proofs.lemmas.Option.{same_Some}
use Rattle.tm_types.specs.Segment.{is_printable}
use Rattle.text_rows.specs.Lines.{split_at}
use Rattle.model_system.specs.ValidFormat.{is_literal}

none_by : (p : ℕ → Bool) (byte n : ℕ) (bytes : List ℕ) (b : Bool) → p byte ≡ b → list_any p (take n bytes) ≡ false → list_any p (take (cond (not b) (1 + n) 0) (byte ∷ bytes)) ≡ false
none_by p byte n bytes true e rest = refl
none_by p byte n bytes false e rest =
    let more : 1 + n ≡ suc n = omega arith in
    ap (λ k. list_any p (take k (byte ∷ bytes))) more ∙ ap (λ b. b || list_any p (take n bytes)) e ∙ rest

none_before : (p : ℕ → Bool) (text : List ℕ) → list_any p (take (position_or_len p text) text) ≡ false
none_before p [] = refl
none_before p (byte ∷ bytes) = none_by p byte (position_or_len p bytes) bytes (p byte) refl (none_before p bytes)

front_by : (p : ℕ → Bool) (n : ℕ) (text front behind : List ℕ) (t : Bool) → list_any p (take n text) ≡ false
    → option_map {U = List ℕ × List ℕ} (λ k. (take k text, drop (suc k) text)) (cond t (Some n) None) ≡ Some (front, behind)
    → list_any p front ≡ false
front_by p n text front behind true none e =
    let same : take n text ≡ front = ap (λ q. q.0) (same_Some (take n text, drop (suc n) text) (front, behind) e) in
    ap (list_any p) (sym same) ∙ none
front_by p n text front behind false none e = cc

literal_by : (a b : Bool) → a ≡ true → b ≡ false → (a && not b) ≡ true
literal_by true true e f = cc
literal_by true false e f = refl
literal_by false b e f = cc

pub quote_literal : (text front behind : List ℕ) → split_at 39 text ≡ Some (front, behind) → list_all is_printable front ≡ true → IsTrue (is_literal front)
quote_literal text front behind e printable =
    literal_by (list_all is_printable front) (list_any (λ byte. byte == 39) front) printable
    (front_by (λ byte. byte == 39) (position_or_len (λ byte. byte == 39) text) text front behind (nat_lt (position_or_len (λ byte. byte == 39) text) (length text)) (none_before (λ byte. byte == 39) text) e)
