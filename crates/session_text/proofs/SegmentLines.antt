-- The text of a reply's segments, one after another.
use Rattle.std.proofs.Common.{◌≡◌, ℕ, zero, suc, ◌+◌, ◌≤◌, List, [], ◌∷◌, ◌++◌, take, sym, arith, add-one}
use Rattle.std.specs.Prelude.{Some, slice_get}
use Rattle.std.proofs.lemmas.List.{append-nil, flat_map_more, take_more}
use Rattle.std.proofs.lemmas.Option.{slice_get_within, get_or_from_slice_get}
use Rattle.model_session.specs.Text.{line_end, further_line, segments_text}

one_more : (first : List ℕ) (others : List (List ℕ)) (x : List ℕ) →
    segments_text (first ∷ (others ++ x ∷ [])) ≡ segments_text (first ∷ others) ++ further_line x
one_more first others x = sym (flat_map_more further_line (first ++ line_end) others x)

taken : (xs : List (List ℕ)) (i : ℕ) (x : List ℕ) → slice_get xs i ≡ Some x → take (i + 1) xs ≡ take i xs ++ x ∷ []
taken xs i x at = let here = get_or_from_slice_get xs i x [] at in let more = take_more xs i [] (slice_get_within xs i x at) in cc

-- the first segment's line, and each further one
pub first_segment : (xs : List (List ℕ)) (x : List ℕ) → slice_get xs 0 ≡ Some x → segments_text (take 1 xs) ≡ x ++ line_end
first_segment [] x at = cc
first_segment (y ∷ ys) x at = let same : y ≡ x = cc in rw same (append-nil (x ++ line_end))

pub further_segment : (xs : List (List ℕ)) (i : ℕ) (x : List ℕ) → 1 ≤ i → slice_get xs i ≡ Some x →
    segments_text (take (i + 1) xs) ≡ segments_text (take i xs) ++ further_line x
further_segment [] i x some at = cc
further_segment (y ∷ ys) zero x some at = absurd (omega arith)
further_segment (y ∷ ys) (suc j) x some at = let more = rw (add-one j) at (taken ys j x at) in rw (add-one (suc j), more) (one_more y (take j ys) x)

pub ruleset segment_steps = (first_segment, further_segment)
