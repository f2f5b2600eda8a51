-- What stood in a vector before a part was added that found no memory still stands at its front.
use Rattle.std.proofs.Common.{◌≡◌, ℕ, ◌≤◌, List, ◌++◌, length, take, Result, Ok, Err, ap, ◌∙◌, sym, arith}
use Rattle.std.proofs.Math.Seq.{take-append_seam}
use Rattle.std.proofs.lemmas.List.{length-append, length-take, take-take, take_all}
use Rattle.std.specs.Result.{OnErr}

abbrev pub Keeps : List ℕ → List ℕ → Type 0
Keeps old new = take (length old) new ≡ old

pub failed : {T E P : Type 0} → (r : Result T E) → P → OnErr r P
failed (Ok x) p = tt
failed (Err e) p = p

-- the same
pub same : (old new : List ℕ) → new ≡ old → Keeps old new
same old new is = ap (take (length old)) is ∙ take_all (length old) old (omega arith)

-- one after the other
pub both : (old mid new : List ℕ) → Keeps old mid → Keeps mid new → Keeps old new
both old mid new first second =
    let longer : length old ≤ length mid = omega (arith, ap (length {A = ℕ}) first, length-take (length old) mid) in
    sym (take-take (length old) (length mid) new longer) ∙ ap (take (length old)) second ∙ first

-- and a part is added
pub more : (x old mid new : List ℕ) → Keeps old mid → new ≡ mid ++ x → Keeps old new
more x old mid new first is = both old mid new first (ap (take (length mid)) is ∙ take-append_seam mid x)

-- behind a part that was added
pub behind : (x old mid new : List ℕ) → mid ≡ old ++ x → Keeps mid new → Keeps old new
behind x old mid new is kept =
    let longer : length old ≤ length mid = omega (arith, ap (length {A = ℕ}) is, length-append old x) in
    sym (take-take (length old) (length mid) new longer) ∙ ap (take (length old)) (kept ∙ is) ∙ take-append_seam old x

pub behind2 : (x y old a b new : List ℕ) → a ≡ old ++ x → b ≡ a ++ y → Keeps b new → Keeps old new
behind2 x y old a b new first second kept = behind x old a new first (behind y a b new second kept)

pub behind3 : (x y z old a b c new : List ℕ) → a ≡ old ++ x → b ≡ a ++ y → c ≡ b ++ z → Keeps c new → Keeps old new
behind3 x y z old a b c new first second third kept = behind x old a new first (behind2 y z a b c new second third kept)

pub behind4 : (x y z u old a b c d new : List ℕ) → a ≡ old ++ x → b ≡ a ++ y → c ≡ b ++ z → d ≡ c ++ u → Keeps d new → Keeps old new
behind4 x y z u old a b c d new first second third fourth kept = behind x old a new first (behind3 y z u a b c d new second third fourth kept)

pub behind5 : (x y z u v old a b c d e new : List ℕ) → a ≡ old ++ x → b ≡ a ++ y → c ≡ b ++ z → d ≡ c ++ u → e ≡ d ++ v → Keeps e new → Keeps old new
behind5 x y z u v old a b c d e new first second third fourth fifth kept = behind x old a new first (behind4 y z u v a b c d e new second third fourth fifth kept)
