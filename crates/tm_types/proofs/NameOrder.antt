-- Names compare as the numbers that their eight bytes spell, and then as their lengths.
use Rattle.std.proofs.Common.{◌≡◌, ℕ, ◌+◌, ◌-◌, ◌<◌, ◌≤◌, ◌++◌, List, [], length, take, drop, sym, ◌∙◌, ap, arith, get_or, length-take-le, Ordering, Less, Equal, Greater, refl, subst, ◌≢◌}
use Rattle.std.specs.Bool.{Decides}
use Rattle.std.specs.Prelude.{nat_eq}
use Rattle.std.specs.Ordering.{nat_cmp, ordering_then, is_eq}
use Rattle.std.specs.Cmp.Lexicographic.{pointwise, slice_cmp, texts_ties, bytes_decides}
use Rattle.std.proofs.lemmas.List.{drop_at, drop_all, get_or-drop}
use Rattle.tm_types.specs.Key.{spelled}
use Rattle.tm_types.specs.Name.{name_padding}
use Rattle.tm_types.proofs.KeyOrder.{eight, padded_cmp, get_or_zeros, decided, same_cmp}
use Rattle.tm_types.proofs.Ordered.{nat_ties}

then_nothing : (o : Ordering) → ordering_then o Equal ≡ o
then_nothing Less = refl
then_nothing Equal = refl
then_nothing Greater = refl

-- the bytes behind a name are zeros
behind : (bytes : List ℕ) (n i : ℕ) → length bytes ≡ 8 → n ≤ 8 → bytes ≡ take n bytes ++ drop n name_padding → n ≤ i → get_or bytes i 0 ≡ 0
behind bytes n i full short padded le =
    let size : length (take n bytes) ≡ n = length-take-le n bytes (omega (arith, full, short)) in
    let rest : drop n bytes ≡ drop n name_padding = ap (drop n) padded ∙ drop_at (take n bytes) (drop n name_padding) n size in
    let at : n + (i - n) ≡ i = omega (arith, le) in
    ap (λ k. get_or bytes k 0) (sym at) ∙ sym (get_or-drop n bytes (i - n) 0) ∙ ap (λ (l : List ℕ). get_or l (i - n) 0) rest ∙ get_or-drop n name_padding (i - n) 0 ∙ get_or_zeros (n + (i - n)) 8

module _ (xs ys : List ℕ) (n m : ℕ) (sx : length xs ≡ 8) (sy : length ys ≡ 8) (inx : n ≤ 8) (iny : m ≤ 8) (px : xs ≡ take n xs ++ drop n name_padding) (py : ys ≡ take m ys ++ drop m name_padding) (bx : (i : ℕ) → get_or xs i 0 < 256) (by : (i : ℕ) → get_or ys i 0 < 256) where
  -- all eight bytes as numbers
  words_cmp : slice_cmp nat_cmp xs ys ≡ nat_cmp (spelled xs 0 0 0 8) (spelled ys 0 0 0 8)
  words_cmp =
      let word : Ordering = nat_cmp (spelled xs 0 0 0 8) (spelled ys 0 0 0 8) in
      eight 0 xs ys (omega (arith, sx)) (omega (arith, sy)) bx by
      ∙ ap (λ l. ordering_then word (slice_cmp nat_cmp l (drop 8 ys))) (drop_all 8 xs (omega (arith, sx)))
      ∙ ap (λ l. ordering_then word (slice_cmp nat_cmp [] l)) (drop_all 8 ys (omega (arith, sy)))
      ∙ then_nothing word

  pub names_cmp : ordering_then (nat_cmp (spelled xs 0 0 0 8) (spelled ys 0 0 0 8)) (nat_cmp n m) ≡ slice_cmp nat_cmp (take n xs) (take m ys)
  names_cmp =
      ap (λ o. ordering_then o (nat_cmp n m)) (sym words_cmp)
      ∙ padded_cmp xs ys n m (sx ∙ sym sy) (omega (arith, inx, sx)) (omega (arith, iny, sy)) (λ i le. behind xs n i sx inx px le) (λ i le. behind ys m i sy iny py le)

-- where the numbers are the same, the lengths tell
pub lengths_cmp : (w v n m : ℕ) (o : Ordering) → w ≡ v → ordering_then (nat_cmp w v) (nat_cmp n m) ≡ o → nat_cmp n m ≡ o
lengths_cmp w v n m o same h = ap (λ p. ordering_then p (nat_cmp n m)) (sym (same_cmp v)) ∙ ap (λ x. ordering_then (nat_cmp x v) (nat_cmp n m)) (sym same) ∙ h

-- and else the numbers
pub words_tell : (w v : ℕ) (p o : Ordering) → w ≢ v → ordering_then (nat_cmp w v) p ≡ o → nat_cmp w v ≡ o
words_tell w v p o apart h = sym (decided w v Equal p apart) ∙ ap (λ q. ordering_then q p) (then_nothing (nat_cmp w v)) ∙ h

-- what is equal by lengths, where the order is that of the lengths
pub lengths_eq : (n m : ℕ) (a b : List ℕ) → nat_cmp n m ≡ slice_cmp nat_cmp a b → nat_eq n m ≡ pointwise nat_eq a b
lengths_eq n m a b h = sym (nat_ties n m) ∙ ap is_eq h ∙ sym (texts_ties a b)

pub lengths_same : (n m : ℕ) (a b : List ℕ) → nat_eq n m ≡ pointwise nat_eq a b → Decides (nat_eq n m) (a ≡ b)
lengths_same n m a b h = subst (λ t. Decides t (a ≡ b)) (sym h) (bytes_decides a b)
