use Rattle.std.proofs.Common.{◌≡◌, ◌∙◌, ap, take, ℕ, List, sym}
use Rattle.std.specs.Ordering.{nat_cmp}
use Rattle.std.specs.Cmp.Lexicographic.{slice_cmp}
use Rattle.tm_types.specs.Key.{spelled}
use Rattle.tm_types.proofs.NameOrder.{names_cmp, lengths_cmp, lengths_eq, lengths_same}
use Rattle.tm_types.proofs.name.NamePartialEq.eq.Goals as goal

pub returns-then-mine-theirs-clause-eq : goal.returns-then-mine-theirs-clause-eq
returns-then-mine-theirs-clause-eq c =
    let xs : List ℕ = c.self.inside.bytes in
    let ys : List ℕ = c.other.inside.bytes in
    let n : ℕ = c.self.inside.len in
    let m : ℕ = c.other.inside.len in
    let whole = names_cmp xs ys n m c.self.invariant.1 c.other.invariant.1 c.self.invariant.0 c.other.invariant.0 c.self.invariant.3 c.other.invariant.3 c.word-mine.ensures.bytes c.word-theirs.ensures.bytes in
    let seen : slice_cmp nat_cmp (take n xs) (take m ys) ≡ slice_cmp nat_cmp c.args.self.now c.args.other.now =
    ap (λ l. slice_cmp nat_cmp l (take m ys)) c.self.view_is ∙ ap (λ l. slice_cmp nat_cmp c.args.self.now l) c.other.view_is in
    let same : spelled xs 0 0 0 8 ≡ spelled ys 0 0 0 8 = sym c.word-mine.ensures.value ∙ c.if-mine-theirs.true ∙ c.word-theirs.ensures.value in
    lengths_eq n m c.args.self.now c.args.other.now (lengths_cmp (spelled xs 0 0 0 8) (spelled ys 0 0 0 8) n m (slice_cmp nat_cmp (take n xs) (take m ys)) same whole ∙ seen)

pub returns-then-mine-theirs-clause-same : goal.returns-then-mine-theirs-clause-same
returns-then-mine-theirs-clause-same c =
    lengths_same c.self.inside.len c.other.inside.len c.args.self.now c.args.other.now (returns-then-mine-theirs-clause-eq c)
