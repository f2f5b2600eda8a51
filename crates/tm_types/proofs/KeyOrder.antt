-- Keys are ordered by the numbers that eight bytes at once spell.
use Rattle.std.proofs.Common.{◌≡◌, ◌≢◌, ℕ, suc, zero, ◌+◌, ◌-◌, ◌*◌, ◌<◌, ◌≤◌, List, [], ◌∷◌, length, take, drop, refl, sym, ◌∙◌, ap, arith, get_or, Ordering, Less, Equal, Greater}
use Rattle.std.proofs.lemmas.Bool.Decides.{nat_tests}
use Rattle.std.specs.Prelude.{replicate}
use Rattle.std.specs.Ordering.{ordering_then, nat_cmp}
use Rattle.std.specs.Cmp.Lexicographic.{slice_cmp}
use Rattle.std.proofs.lemmas.List.{drop_more, get_or-drop}
use Rattle.tm_types.specs.Key.{key_padding, spelled}

pub digit : (n m x y : ℕ) (o : Ordering) → x < 256 → y < 256 → ordering_then (nat_cmp n m) (ordering_then (nat_cmp x y) o) ≡ ordering_then (nat_cmp (n * 256 + x) (m * 256 + y)) o
digit n m x y o small small' = grind (arith, nat_tests)

pub then_assoc : (p q r : Ordering) → ordering_then (ordering_then p q) r ≡ ordering_then p (ordering_then q r)
then_assoc Less q r = refl
then_assoc Equal q r = refl
then_assoc Greater q r = refl

pub same_cmp : (n : ℕ) → nat_cmp n n ≡ Equal
same_cmp n = grind (arith, nat_tests)

zero_first : (y : ℕ) (o : Ordering) → ordering_then o Less ≡ Less → ordering_then (ordering_then (nat_cmp 0 y) o) Less ≡ Less
zero_first y o rest = grind (arith, nat_tests)

zero_last : (x : ℕ) (o : Ordering) → ordering_then o Greater ≡ Greater → ordering_then (ordering_then (nat_cmp x 0) o) Greater ≡ Greater
zero_last x o rest = grind (arith, nat_tests)

none_first : (m : ℕ) → nat_cmp 0 (suc m) ≡ Less
none_first m = grind (arith, nat_tests)

none_last : (n : ℕ) → nat_cmp (suc n) 0 ≡ Greater
none_last n = grind (arith, nat_tests)

one_less : (n m : ℕ) → nat_cmp (suc n) (suc m) ≡ nat_cmp n m
one_less n m = grind (arith, nat_tests)

-- so many bytes compared as the number that they spell, and the rest behind
pub compared : (k at step n m : ℕ) (xs ys : List ℕ) → at + (step + k) ≤ length xs → at + (step + k) ≤ length ys → ((i : ℕ) → get_or xs i 0 < 256) → ((i : ℕ) → get_or ys i 0 < 256)
    → ordering_then (nat_cmp n m) (slice_cmp nat_cmp (drop (at + step) xs) (drop (at + step) ys))
    ≡ ordering_then (nat_cmp (spelled xs at step n k) (spelled ys at step m k)) (slice_cmp nat_cmp (drop (at + (step + k)) xs) (drop (at + (step + k)) ys))
compared zero at step n m xs ys lx ly bx by =
    let same : at + step ≡ at + (step + 0) = omega arith in
    ap (λ p. ordering_then (nat_cmp n m) (slice_cmp nat_cmp (drop p xs) (drop p ys))) same
compared (suc k) at step n m xs ys lx ly bx by =
    let place : ℕ = at + step in
    let x : ℕ = get_or xs place 0 in
    let y : ℕ = get_or ys place 0 in
    let next : place + 1 ≡ at + suc step = omega arith in
    let end : at + (suc step + k) ≡ at + (step + suc k) = omega arith in
    let xs_are : drop place xs ≡ x ∷ drop (place + 1) xs = drop_more xs place 0 (omega (arith, lx)) in
    let ys_are : drop place ys ≡ y ∷ drop (place + 1) ys = drop_more ys place 0 (omega (arith, ly)) in
    ap (λ l. ordering_then (nat_cmp n m) (slice_cmp nat_cmp l (drop place ys))) xs_are
    ∙ ap (λ l. ordering_then (nat_cmp n m) (slice_cmp nat_cmp (x ∷ drop (place + 1) xs) l)) ys_are
    ∙ digit n m x y (slice_cmp nat_cmp (drop (place + 1) xs) (drop (place + 1) ys)) (bx place) (by place)
    ∙ ap (λ p. ordering_then (nat_cmp (n * 256 + x) (m * 256 + y)) (slice_cmp nat_cmp (drop p xs) (drop p ys))) next
    ∙ compared k at (suc step) (n * 256 + x) (m * 256 + y) xs ys (omega (arith, lx)) (omega (arith, ly)) bx by
    ∙ ap (λ p. ordering_then (nat_cmp (spelled xs at step n (suc k)) (spelled ys at step m (suc k))) (slice_cmp nat_cmp (drop p xs) (drop p ys))) end

-- eight bytes at a place
pub eight : (at : ℕ) (xs ys : List ℕ) → at + 8 ≤ length xs → at + 8 ≤ length ys → ((i : ℕ) → get_or xs i 0 < 256) → ((i : ℕ) → get_or ys i 0 < 256)
    → slice_cmp nat_cmp (drop at xs) (drop at ys) ≡ ordering_then (nat_cmp (spelled xs at 0 0 8) (spelled ys at 0 0 8)) (slice_cmp nat_cmp (drop (at + 8) xs) (drop (at + 8) ys))
eight at xs ys lx ly bx by =
    let same : at ≡ at + 0 = omega arith in
    let more : 0 + 8 ≡ 8 = omega arith in
    ap (λ p. slice_cmp nat_cmp (drop p xs) (drop p ys)) same
    ∙ compared 8 at 0 0 0 xs ys (omega (arith, lx)) (omega (arith, ly)) bx by

-- ---- zeros behind a key

-- zeros come before all others
zeros_first : (xs ys : List ℕ) → length xs ≡ length ys → ((i : ℕ) → get_or xs i 0 ≡ 0) → ordering_then (slice_cmp nat_cmp xs ys) Less ≡ Less
zeros_first [] [] size zeros = refl
zeros_first [] (y ∷ ys) size zeros = refl
zeros_first (x ∷ xs) [] size zeros = absurd (omega (arith, size))
zeros_first (x ∷ xs) (y ∷ ys) size zeros =
    let rest = zeros_first xs ys (omega (arith, size)) (λ i. zeros (suc i)) in
    ap (λ n. ordering_then (ordering_then (nat_cmp n y) (slice_cmp nat_cmp xs ys)) Less) (zeros 0) ∙ zero_first y (slice_cmp nat_cmp xs ys) rest

zeros_last : (xs ys : List ℕ) → length xs ≡ length ys → ((i : ℕ) → get_or ys i 0 ≡ 0) → ordering_then (slice_cmp nat_cmp xs ys) Greater ≡ Greater
zeros_last [] [] size zeros = refl
zeros_last [] (y ∷ ys) size zeros = absurd (omega (arith, size))
zeros_last (x ∷ xs) [] size zeros = refl
zeros_last (x ∷ xs) (y ∷ ys) size zeros =
    let rest = zeros_last xs ys (omega (arith, size)) (λ i. zeros (suc i)) in
    ap (λ n. ordering_then (ordering_then (nat_cmp x n) (slice_cmp nat_cmp xs ys)) Greater) (zeros 0) ∙ zero_last x (slice_cmp nat_cmp xs ys) rest

zeros_same : (xs ys : List ℕ) → length xs ≡ length ys → ((i : ℕ) → get_or xs i 0 ≡ 0) → ((i : ℕ) → get_or ys i 0 ≡ 0) → slice_cmp nat_cmp xs ys ≡ Equal
zeros_same [] [] size zx zy = refl
zeros_same [] (y ∷ ys) size zx zy = absurd (omega (arith, size))
zeros_same (x ∷ xs) [] size zx zy = absurd (omega (arith, size))
zeros_same (x ∷ xs) (y ∷ ys) size zx zy =
    ap (λ n. ordering_then (nat_cmp n y) (slice_cmp nat_cmp xs ys)) (zx 0)
    ∙ ap (λ n. ordering_then (nat_cmp 0 n) (slice_cmp nat_cmp xs ys)) (zy 0)
    ∙ zeros_same xs ys (omega (arith, size)) (λ i. zx (suc i)) (λ i. zy (suc i))

-- keys compare as their bytes with the zeros behind, and then as their lengths
pub padded_cmp : (xs ys : List ℕ) (n m : ℕ) → length xs ≡ length ys → n ≤ length xs → m ≤ length ys → ((i : ℕ) → n ≤ i → get_or xs i 0 ≡ 0) → ((i : ℕ) → m ≤ i → get_or ys i 0 ≡ 0)
    → ordering_then (slice_cmp nat_cmp xs ys) (nat_cmp n m) ≡ slice_cmp nat_cmp (take n xs) (take m ys)
padded_cmp xs ys zero zero size ln lm zx zy = ap (λ o. ordering_then o Equal) (zeros_same xs ys size (λ i. zx i (omega arith)) (λ i. zy i (omega arith)))
padded_cmp xs [] n (suc m) size ln lm zx zy = absurd (omega (arith, lm))
padded_cmp [] ys (suc n) m size ln lm zx zy = absurd (omega (arith, ln))
padded_cmp xs (y ∷ ys) zero (suc m) size ln lm zx zy = ap (ordering_then (slice_cmp nat_cmp xs (y ∷ ys))) (none_first m) ∙ zeros_first xs (y ∷ ys) size (λ i. zx i (omega arith))
padded_cmp (x ∷ xs) ys (suc n) zero size ln lm zx zy = ap (ordering_then (slice_cmp nat_cmp (x ∷ xs) ys)) (none_last n) ∙ zeros_last (x ∷ xs) ys size (λ i. zy i (omega arith))
padded_cmp (x ∷ xs) (y ∷ ys) (suc n) (suc m) size ln lm zx zy =
    then_assoc (nat_cmp x y) (slice_cmp nat_cmp xs ys) (nat_cmp (suc n) (suc m))
    ∙ ap (ordering_then (nat_cmp x y))
    (ap (ordering_then (slice_cmp nat_cmp xs ys)) (one_less n m)
    ∙ padded_cmp xs ys n m (omega (arith, size)) (omega (arith, ln)) (omega (arith, lm)) (λ i le. zx (suc i) (omega (arith, le))) (λ i le. zy (suc i) (omega (arith, le))))

pub get_or_zeros : (i n : ℕ) → get_or {A = ℕ} (replicate n 0) i 0 ≡ 0
get_or_zeros i zero = refl
get_or_zeros zero (suc n) = refl
get_or_zeros (suc i) (suc n) = get_or_zeros i n

-- the bytes behind a key are zeros
pub behind : (bytes : List ℕ) (n i : ℕ) → n ≤ i → drop n bytes ≡ drop n key_padding → get_or bytes i 0 ≡ 0
behind bytes n i le same =
    let at : n + (i - n) ≡ i = omega (arith, le) in
    ap (λ k. get_or bytes k 0) (sym at) ∙ sym (get_or-drop n bytes (i - n) 0) ∙ ap (λ (l : List ℕ). get_or l (i - n) 0) same ∙ get_or-drop n key_padding (i - n) 0 ∙ get_or_zeros (n + (i - n)) 32

pub decided : (x y : ℕ) (o p : Ordering) → x ≢ y → ordering_then (ordering_then (nat_cmp x y) o) p ≡ nat_cmp x y
decided x y o p apart = grind (arith, nat_tests)
