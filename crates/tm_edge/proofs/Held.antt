-- The bytes that a buffer holds, after it grew and after bytes were taken behind them.
use Rattle.std.proofs.Common.{◌≡◌, ℕ, ◌+◌, ◌≤◌, List, ◌++◌, length, take, drop, refl, sym, ap, ◌∙◌, append_assoc, length-take-le}
use Rattle.std.specs.Prelude.{Option, Some, None, Result, Ok, Err, IfOk}
use Rattle.std.specs.Io.KnownBytes.{prepend_known}
use Rattle.std.proofs.lemmas.List.{take_all, take-append-le}
use Rattle.std.proofs.Math.Seq.{take-append-add}
use Rattle.tm_edge.specs.declared.source.Failed.{Failed}
use borrow.Rule.Slice.PartMut.{put_mid, post_of}

pub held_grown : (s e n : ℕ) (xs ys : List ℕ) → e ≤ length xs → length xs ≤ n → drop s (take e (take n xs ++ ys)) ≡ drop s (take e xs)
held_grown s e n xs ys within fits = rw (take_all n xs fits) (rw (take-append-le e xs ys within) refl)

pub prepend_twice : (xs ys : List ℕ) (known : Option (List ℕ)) → prepend_known (xs ++ ys) known ≡ prepend_known xs (prepend_known ys known)
prepend_twice xs ys None = refl
prepend_twice xs ys (Some zs) = ap Some (append_assoc xs ys zs)

take_mid : (e n k : ℕ) (xs ys : List ℕ) → e ≤ length xs → n ≤ length ys → take (e + n) (put_mid e k xs ys) ≡ take e xs ++ take n ys
take_mid e n k xs ys within fits =
    let size : length (take e xs) ≡ e = length-take-le e xs within in
    ap (λ m. take (m + n) (take e xs ++ (ys ++ post_of e k xs))) (sym size)
    ∙ take-append-add (take e xs) (ys ++ post_of e k xs) n
    ∙ ap (λ zs. take e xs ++ zs) (take-append-le n ys (post_of e k xs) fits)

pub told_behind : (e k : ℕ) (xs ys : List ℕ) (left left' : Option (List ℕ)) (r : Result ℕ Failed) → e ≤ length xs → IfOk r (λ n. n ≤ length ys) →
    IfOk r (λ n. left ≡ prepend_known (take n ys) left') →
    IfOk r (λ n. prepend_known (take (e + n) (put_mid e k xs ys)) left' ≡ prepend_known (take e xs) left)
told_behind e k xs ys left left' (Err f) within fits taken = tt
told_behind e k xs ys left left' (Ok n) within fits taken =
    ap (λ zs. prepend_known zs left') (take_mid e n k xs ys within fits)
    ∙ prepend_twice (take e xs) (take n ys) left'
    ∙ ap (prepend_known (take e xs)) (sym taken)

pub told_held : (s e m : ℕ) (xs ys held : List ℕ) (left left' : Option (List ℕ)) → s ≡ 0 → drop s (take e xs) ≡ held →
    prepend_known (take m ys) left' ≡ prepend_known (take e xs) left → prepend_known (drop s (take m ys)) left' ≡ prepend_known held left
told_held s e m xs ys held left left' front same told =
    ap (λ k. prepend_known (drop k (take m ys)) left') front ∙ told
    ∙ ap (λ k. prepend_known (drop k (take e xs)) left) (sym front) ∙ ap (λ zs. prepend_known zs left) same
