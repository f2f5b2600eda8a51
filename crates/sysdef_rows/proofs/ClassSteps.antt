-- Classes that are read one after another.
use Rattle.std.proofs.Common.{ℕ, ◌≡◌, List, [], ◌∷◌, ◌++◌, Result, Ok, Err, min, refl, ap, sym, append_assoc, append-nil, arith}
use Rattle.text_rows.specs.LowestRule.{both}
use Rattle.sysdef_rows.specs.Values.{with_class, with_last_class}

-- the classes so far, and those that are still to be read
abbrev pub joined : Result (List ℕ) ℕ → Result (List ℕ) ℕ → Result (List ℕ) ℕ
joined (Ok classes) (Ok more) = Ok (classes ++ more)
joined (Ok classes) (Err rule) = Err rule
joined (Err rule) (Ok more) = Err rule
joined (Err rule) (Err other) = Err (min rule other)

pub one_more : (classes : Result (List ℕ) ℕ) (class : Result ℕ ℕ) (more : Result (List ℕ) ℕ) → joined classes (with_class (both class more)) ≡ joined (with_last_class (both classes class)) more
unfolding both
one_more (Ok classes) (Ok class) (Ok more) = ap Ok (sym (append_assoc classes (class ∷ []) more))
one_more (Ok classes) (Ok class) (Err rule) = refl
one_more (Ok classes) (Err rule) (Ok more) = refl
one_more (Ok classes) (Err rule) (Err other) = refl
one_more (Err rule) (Ok class) (Ok more) = refl
one_more (Err rule) (Ok class) (Err other) = refl
one_more (Err rule) (Err other) (Ok more) = refl
one_more (Err rule) (Err other) (Err third) = ap Err (omega arith)

pub joined_nothing : (classes : Result (List ℕ) ℕ) → joined classes (Ok []) ≡ classes
joined_nothing (Ok classes) = ap Ok (append-nil classes)
joined_nothing (Err rule) = refl
