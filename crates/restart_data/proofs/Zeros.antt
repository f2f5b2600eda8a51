-- Zeros, and a sector of them into which bytes are put.
use Rattle.std.proofs.Common.{◌≡◌, ℕ, zero, suc, ◌+◌, ◌-◌, true, List, ◌++◌, length, take, drop, refl, sym, ◌∙◌, ap, arith}
use Rattle.std.specs.Prelude.{replicate}
use Rattle.std.proofs.lemmas.List.{drop_at, take_at, drop-drop}
use Rattle.tm_disk.specs.Sector.{zeros, blank}
use Rattle.restart_data.specs.Fields.{are_zeros}
use Rattle.tm_disk.proofs.Zeros.{drop-zeros, blank_is}

are_zeros-replicate : (n : ℕ) → are_zeros (replicate n 0) ≡ true
unfolding are_zeros
are_zeros-replicate zero = refl
are_zeros-replicate (suc n) = are_zeros-replicate n

pub are_zeros-zeros : (n : ℕ) → are_zeros (zeros n) ≡ true
unfolding zeros
are_zeros-zeros n = are_zeros-replicate n

-- bytes put at the front of a blank sector, and more bytes behind them
pub put_twice : (a b front : List ℕ) (at : ℕ) → at ≡ length a → front ≡ take 0 blank ++ a ++ drop (0 + length a) blank → take at front ++ b ++ drop (at + length b) front ≡ a ++ b ++ zeros (4096 - (at + length b))
put_twice a b front at at_is is =
    let n = length b in
    let made : front ≡ a ++ zeros (4096 - at) =
    is ∙ ap (λ (l : List ℕ). a ++ l) (ap (λ k. drop k blank) (omega (arith, at_is)) ∙ ap (λ (l : List ℕ). drop at l) blank_is ∙ drop-zeros at 4096) in
    let first : take at front ≡ a = ap (λ (l : List ℕ). take at l) made ∙ take_at a (zeros (4096 - at)) at (sym at_is) in
    let last : drop (at + n) front ≡ zeros (4096 - (at + n)) =
    ap (λ k. drop k front) (omega arith) ∙ sym (drop-drop n at front) ∙ ap (λ (l : List ℕ). drop n (drop at l)) made ∙ ap (λ (l : List ℕ). drop n l) (drop_at a (zeros (4096 - at)) at (sym at_is)) ∙ drop-zeros n (4096 - at) ∙ ap zeros (omega arith) in
    ap (λ (l : List ℕ). l ++ b ++ drop (at + n) front) first ∙ ap (λ (l : List ℕ). a ++ b ++ l) last
