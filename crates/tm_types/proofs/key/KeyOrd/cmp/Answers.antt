use Rattle.std.proofs.Common.{◌≡◌, ◌+◌, ◌*◌, ◌≤◌, ℕ, List, [], drop, take, length, arith, sym, ◌∙◌, ap, Ordering, Equal}
use Rattle.std.proofs.lemmas.List.{drop_all}
use Rattle.std.specs.Ordering.{nat_cmp, ordering_then}
use Rattle.std.specs.Cmp.Lexicographic.{slice_cmp}
use Rattle.tm_types.specs.Key.{key_padding, spelled}
use Rattle.tm_types.proofs.KeyOrder.{eight, padded_cmp, behind, decided, same_cmp}
use Rattle.tm_types.proofs.key.KeyOrd.cmp.Goals as goal

-- the bytes with the zeros behind, and then the lengths
module _ (xs ys : List ℕ) (n m : ℕ) (sx : length xs ≡ 32) (sy : length ys ≡ 32) (inx : n ≤ 32) (iny : m ≤ 32) (px : drop n xs ≡ drop n key_padding) (py : drop m ys ≡ drop m key_padding) where
  keys_cmp : ordering_then (slice_cmp nat_cmp xs ys) (nat_cmp n m) ≡ slice_cmp nat_cmp (take n xs) (take m ys)
  keys_cmp = padded_cmp xs ys n m (sx ∙ sym sy) (omega (arith, inx, sx)) (omega (arith, iny, sy)) (λ i le. behind xs n i le px) (λ i le. behind ys m i le py)

pub returns-then-mine-theirs : goal.returns-then-mine-theirs
returns-then-mine-theirs c =
    let xs : List ℕ = c.self.inside.bytes in
    let ys : List ℕ = c.other.inside.bytes in
    let at : ℕ = c.loop-index.index * 8 in
    let rest : Ordering = slice_cmp nat_cmp (drop (at + 8) xs) (drop (at + 8) ys) in
    let lens : Ordering = nat_cmp c.self.inside.len c.other.inside.len in
    let words : slice_cmp nat_cmp xs ys ≡ ordering_then (nat_cmp c.word-mine.result c.word-theirs.result) rest =
    c.loop-index.invariant
    ∙ eight at xs ys (omega (arith, c.loop-index-test.true, c.self.told)) (omega (arith, c.loop-index-test.true, c.other.told)) c.word-mine.ensures.bytes c.word-theirs.ensures.bytes
    ∙ ap (λ n. ordering_then (nat_cmp n (spelled ys at 0 0 8)) rest) (sym c.word-mine.ensures.value)
    ∙ ap (λ n. ordering_then (nat_cmp c.word-mine.result n) rest) (sym c.word-theirs.ensures.value) in
    c.cmp.ensures
    ∙ sym (decided c.word-mine.result c.word-theirs.result rest lens c.if-mine-theirs.true)
    ∙ ap (λ o. ordering_then o lens) (sym words)
    ∙ keys_cmp xs ys c.self.inside.len c.other.inside.len c.self.told c.other.told c.self.invariant.1 c.other.invariant.1 c.self.invariant.3 c.other.invariant.3
    ∙ ap (λ l. slice_cmp nat_cmp l (take c.other.inside.len ys)) c.self.view_is
    ∙ ap (λ l. slice_cmp nat_cmp c.args.self.now l) c.other.view_is

pub loop-index-preserved : goal.loop-index-preserved
loop-index-preserved c =
    let xs : List ℕ = c.self.inside.bytes in
    let ys : List ℕ = c.other.inside.bytes in
    let at : ℕ = c.loop-index.index * 8 in
    let next : at + 8 ≡ (c.loop-index.index + 1) * 8 = omega arith in
    let rest : Ordering = slice_cmp nat_cmp (drop (at + 8) xs) (drop (at + 8) ys) in
    c.loop-index.invariant
    ∙ eight at xs ys (omega (arith, c.loop-index-test.true, c.self.told)) (omega (arith, c.loop-index-test.true, c.other.told)) c.word-mine.ensures.bytes c.word-theirs.ensures.bytes
    ∙ ap (λ n. ordering_then (nat_cmp n (spelled ys at 0 0 8)) rest) (sym c.word-mine.ensures.value ∙ c.if-mine-theirs.false ∙ c.word-theirs.ensures.value)
    ∙ ap (λ o. ordering_then o rest) (same_cmp (spelled ys at 0 0 8))
    ∙ ap (λ p. slice_cmp nat_cmp (drop p xs) (drop p ys)) next

pub returns : goal.returns
returns c =
    let xs : List ℕ = c.self.inside.bytes in
    let ys : List ℕ = c.other.inside.bytes in
    let at : ℕ = c.loop-index.index * 8 in
    let same : slice_cmp nat_cmp xs ys ≡ Equal =
    c.loop-index.invariant
    ∙ ap (λ l. slice_cmp nat_cmp l (drop at ys)) (drop_all at xs (omega (arith, c.loop-index-test.false, c.self.told)))
    ∙ ap (λ l. slice_cmp nat_cmp [] l) (drop_all at ys (omega (arith, c.loop-index-test.false, c.other.told))) in
    c.cmp-2.ensures
    ∙ ap (λ o. ordering_then o (nat_cmp c.self.inside.len c.other.inside.len)) (sym same)
    ∙ keys_cmp xs ys c.self.inside.len c.other.inside.len c.self.told c.other.told c.self.invariant.1 c.other.invariant.1 c.self.invariant.3 c.other.invariant.3
    ∙ ap (λ l. slice_cmp nat_cmp l (take c.other.inside.len ys)) c.self.view_is
    ∙ ap (λ l. slice_cmp nat_cmp c.args.self.now l) c.other.view_is
