use Rattle.std.proofs.Common.{◌≡◌, ◌∙◌, ap, take, ℕ, List, sym}
use Rattle.std.specs.Ordering.{nat_cmp, ordering_then}
use Rattle.std.specs.Cmp.Lexicographic.{slice_cmp}
use Rattle.tm_types.specs.Key.{spelled}
use Rattle.tm_types.proofs.NameOrder.{names_cmp, lengths_cmp, words_tell}
use Rattle.tm_types.proofs.name.NameOrd.cmp.Goals as goal

pub returns-then-mine-theirs : goal.returns-then-mine-theirs
returns-then-mine-theirs c =
    let xs : List ℕ = c.self.inside.bytes in
    let ys : List ℕ = c.other.inside.bytes in
    let n : ℕ = c.self.inside.len in
    let m : ℕ = c.other.inside.len in
    let whole = names_cmp xs ys n m c.self.invariant.1 c.other.invariant.1 c.self.invariant.0 c.other.invariant.0 c.self.invariant.3 c.other.invariant.3 c.word-mine.ensures.bytes c.word-theirs.ensures.bytes in
    let seen : slice_cmp nat_cmp (take n xs) (take m ys) ≡ slice_cmp nat_cmp c.args.self.now c.args.other.now =
    ap (λ l. slice_cmp nat_cmp l (take m ys)) c.self.view_is ∙ ap (λ l. slice_cmp nat_cmp c.args.self.now l) c.other.view_is in
    let words : ordering_then (nat_cmp c.word-mine.result c.word-theirs.result) (nat_cmp n m) ≡ slice_cmp nat_cmp (take n xs) (take m ys) =
    ap (λ w. ordering_then (nat_cmp w c.word-theirs.result) (nat_cmp n m)) c.word-mine.ensures.value
    ∙ ap (λ w. ordering_then (nat_cmp (spelled xs 0 0 0 8) w) (nat_cmp n m)) c.word-theirs.ensures.value
    ∙ whole in
    c.cmp.ensures ∙ words_tell c.word-mine.result c.word-theirs.result (nat_cmp n m) (slice_cmp nat_cmp (take n xs) (take m ys)) c.if-mine-theirs.true words ∙ seen

pub returns : goal.returns
returns c =
    let xs : List ℕ = c.self.inside.bytes in
    let ys : List ℕ = c.other.inside.bytes in
    let n : ℕ = c.self.inside.len in
    let m : ℕ = c.other.inside.len in
    let whole = names_cmp xs ys n m c.self.invariant.1 c.other.invariant.1 c.self.invariant.0 c.other.invariant.0 c.self.invariant.3 c.other.invariant.3 c.word-mine.ensures.bytes c.word-theirs.ensures.bytes in
    let seen : slice_cmp nat_cmp (take n xs) (take m ys) ≡ slice_cmp nat_cmp c.args.self.now c.args.other.now =
    ap (λ l. slice_cmp nat_cmp l (take m ys)) c.self.view_is ∙ ap (λ l. slice_cmp nat_cmp c.args.self.now l) c.other.view_is in
    let same : spelled xs 0 0 0 8 ≡ spelled ys 0 0 0 8 = sym c.word-mine.ensures.value ∙ c.if-mine-theirs.false ∙ c.word-theirs.ensures.value in
    c.cmp-2.ensures ∙ lengths_cmp (spelled xs 0 0 0 8) (spelled ys 0 0 0 8) n m (slice_cmp nat_cmp (take n xs) (take m ys)) same whole ∙ seen
