-- What is copied to the front of a buffer, and what is left behind it.
use Rattle.std.proofs.Common.{◌≡◌, ℕ, ◌+◌, ◌-◌, ◌≤◌, List, ◌++◌, length, take, drop, sym, ap, ◌∙◌, arith, take-append-drop, length-take-le, length-drop}
use Rattle.std.specs.Prelude.{slice_range}
use Rattle.std.proofs.lemmas.List.{take_at, drop-drop}

pub taken_part : (at n : ℕ) (bytes part tail : List ℕ) → at + n ≤ length bytes → part ≡ slice_range bytes at (at + n) →
    drop at bytes ≡ take n (part ++ tail) ++ drop (at + n) bytes
taken_part at n bytes part tail within is =
    let count : at + n - at ≡ n = omega arith in
    let front : part ≡ take n (drop at bytes) = is ∙ ap (λ k. take k (drop at bytes)) count in
    let room : n ≤ length (drop at bytes) = simp length-drop (omega arith) in
    let size : length part ≡ n = ap length front ∙ length-take-le n (drop at bytes) room in
    sym (ap (λ xs. xs ++ drop (at + n) bytes) (take_at part tail n size ∙ front)
    ∙ ap (λ xs. take n (drop at bytes) ++ xs) (sym (drop-drop n at bytes))
    ∙ take-append-drop n (drop at bytes))
