-- The zeros at a sector's end.
use Rattle.std.proofs.Common.{◌≡◌, ℕ, ◌+◌, ◌-◌, ◌<◌, ◌≤◌, List, [], ◌∷◌, ◌++◌, length, take, drop, sym, ◌∙◌, ap, arith, get_or}
use Rattle.std.specs.Prelude.{replicate}
use Rattle.std.proofs.lemmas.List.{take_more, take-append-drop, take-take, drop-take, drop-replicate, replicate-append-replicate, length-take-le, length-drop, append_assoc, append-nil, take_all}
use Rattle.tm_disk.specs.Sector.{blank, zeros}
use Rattle.tm_disk.specs.Record.{sector_of}

pub replicate-more : (n : ℕ) → ◌++◌ {A = ℕ} (replicate n 0) (0 ∷ []) ≡ replicate (n + 1) 0
replicate-more n = replicate-append-replicate n 1 0

pub zeros-more : (xs : List ℕ) (i x : ℕ) → i < length xs → take i xs ≡ replicate i 0 → get_or xs i 0 ≡ x → x ≡ 0 → take (i + 1) xs ≡ replicate (i + 1) 0
zeros-more xs i x lt before is none =
    take_more xs i 0 lt ∙ ap (λ (l : List ℕ). l ++ get_or xs i 0 ∷ []) before ∙ ap (λ (y : ℕ). replicate i 0 ++ y ∷ []) (is ∙ none) ∙ replicate-more i

blank-from : (n : ℕ) → drop n blank ≡ replicate (4096 - n) 0
unfolding blank zeros
blank-from n = drop-replicate n 4096 0

-- what is kept, with zeros behind it: it may be kept shorter by as many bytes as are zero at its end
pub sector_of-shorter : (xs : List ℕ) (len step : ℕ) → step ≤ len → len ≤ length xs → length xs ≡ 4096 → sector_of (take len xs) ≡ xs
    → take (len - (len - step)) (drop (len - step) xs) ≡ replicate (length (take (len - (len - step)) (drop (len - step) xs))) 0 → sector_of (take (len - step) xs) ≡ xs
sector_of-shorter xs len step less within size is none =
    let n = len - step in
    let up : n + step ≡ len = omega (arith, less) in
    let back : len - n ≡ step = omega (arith, less) in
    let rest : List ℕ = take (len - n) (drop n xs) in
    let some : length rest ≡ step = length-take-le (len - n) (drop n xs) (omega (arith, within, less, length-drop n xs)) ∙ back in
    let end : rest ≡ replicate step 0 = none ∙ ap (λ k. replicate k 0) some in
    let parts : take len xs ≡ take n xs ++ replicate step 0 =
    sym (take-append-drop n (take len xs))
    ∙ ap (λ l. l ++ drop n (take len xs)) (take-take n len xs (omega (arith, less)))
    ∙ ap (λ l. take n xs ++ l) (ap (λ k. drop n (take k xs)) (sym up) ∙ drop-take n step xs ∙ ap (λ k. take k (drop n xs)) (sym back) ∙ end) in
    let left : step + (4096 - len) ≡ 4096 - n = omega (arith, less, within, size) in
    let zeros_are : replicate step 0 ++ replicate (4096 - len) 0 ≡ replicate (4096 - n) 0 =
    replicate-append-replicate step (4096 - len) 0 ∙ ap (λ k. replicate k 0) left in
    let whole : take len xs ++ replicate (4096 - len) 0 ≡ xs =
    ap (λ l. take len xs ++ l) (sym (ap (λ k. drop k blank) (length-take-le len xs within) ∙ blank-from len)) ∙ is in
    ap (λ k. take n xs ++ drop k blank) (length-take-le n xs (omega (arith, less, within)))
    ∙ ap (λ l. take n xs ++ l) (blank-from n ∙ sym zeros_are)
    ∙ sym (append_assoc (take n xs) (replicate step 0) (replicate (4096 - len) 0))
    ∙ ap (λ l. l ++ replicate (4096 - len) 0) (sym parts)
    ∙ whole

-- all of it is kept at first
pub sector_of-whole : (xs : List ℕ) → length xs ≡ 4096 → sector_of (take 4096 xs) ≡ xs
sector_of-whole xs size =
    let all : take 4096 xs ≡ xs = take_all 4096 xs (omega (arith, size)) in
    let none : replicate (4096 - 4096) 0 ≡ [] = ap (λ k. replicate k 0) (let z : 4096 - 4096 ≡ 0 = omega arith in z) in
    ap (λ l. l ++ drop (length l) blank) all ∙ ap (λ k. xs ++ drop k blank) size ∙ ap (λ l. xs ++ l) (blank-from 4096 ∙ none) ∙ append-nil xs
