-- A PCB's number, and whether it is above 0.
use Rattle.std.proofs.Common.{ℕ, ◌≡◌, ◌&&◌, ◌==◌, cond, nat_le, Bool, true, false, List, Result, Ok, Err, IfOk, refl, subst, arith}
use Rattle.std.proofs.lemmas.Bool.{leb-false}
use Rattle.std.proofs.lemmas.Bool.Decides.{nat_tests}
use Rattle.text_rows.specs.Numbers.{is_number, number_between, number_of}
use Rattle.script_text.specs.Statements.{is_above_0}
use Rattle.script_text.specs.Values.{or_wrong_number, operand_number as number_in}

above_by : (n : ℕ) (number c b : Bool) → IfOk (or_wrong_number (cond number (cond (c && b) (Ok n) (Err 6)) (Err 5))) (λ m. (number && nat_le 1 n) ≡ nat_le 1 m)
above_by n false c b = tt
above_by n true true true = refl
above_by n true true false = tt
above_by n true false b = tt

-- a number that is in its range is above 0 exactly where it is at least 1
pub above_is : (high : ℕ) (text : List ℕ) → IfOk (number_in 0 high text) (λ number. is_above_0 text ≡ nat_le 1 number)
unfolding number_in number_between is_above_0
above_is high text = above_by (number_of text) (is_number text) (nat_le 0 (number_of text)) (nat_le (number_of text) high)

-- what a number reads as, by the three tests of its range
abbrev read : ℕ → Bool → Bool → Bool → Result ℕ ℕ
read n number c b = cond number (cond (c && b) (Ok n) (Err 6)) (Err 5)

-- a number is out of the range of 0 alone exactly where it is above 0
none_by : (n m : ℕ) (number c b : Bool) → nat_le n 0 ≡ b → read n number c b ≡ Ok m → false ≡ (number && nat_le 1 n)
none_by n m false c b e h = refl
none_by n m true true true e h = grind (arith, nat_tests)
none_by n m true true false e h = cc
none_by n m true false b e h = cc

pub none_above : (text : List ℕ) (m : ℕ) → number_between 0 0 text ≡ Ok m → false ≡ is_above_0 text
unfolding number_between is_above_0
none_above text m h = none_by (number_of text) m (is_number text) (nat_le 0 (number_of text)) (nat_le (number_of text) 0) refl h

out_by : (n rule : ℕ) (number c b : Bool) → nat_le n 0 ≡ b → nat_le 0 n ≡ c → read n number c b ≡ Err rule → (rule == 6) ≡ (number && nat_le 1 n)
out_by n rule false c b e f h = let same : 5 ≡ rule = cc in subst (λ r. (r == 6) ≡ false) same refl
out_by n rule true true true e f h = cc
out_by n rule true true false e f h =
    let same : 6 ≡ rule = cc in
    subst (λ r. (r == 6) ≡ nat_le 1 n) same (grind (arith, nat_tests))
out_by n rule true false b e f h = let below = leb-false 0 n f in absurd (omega (arith, below))

pub out_above : (text : List ℕ) (rule : ℕ) → number_between 0 0 text ≡ Err rule → (rule == 6) ≡ is_above_0 text
unfolding number_between is_above_0
out_above text rule h = out_by (number_of text) rule (is_number text) (nat_le 0 (number_of text)) (nat_le (number_of text) 0) refl refl h

pub ruleset above_tests = (none_above, out_above)
