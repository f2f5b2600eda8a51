-- The bytes of the segments that are still to come.
use Rattle.std.proofs.Common.{◌≡◌, ◌∙◌, ap, ℕ, ◌+◌, List, drop}
use Rattle.std.specs.Prelude.{Some}
use Rattle.std.specs.List.{slice_get, sum_by}
use Rattle.std.proofs.lemmas.List.Sums.{sum_by-drop_more}
use Rattle.std.proofs.lemmas.Option.{slice_get_within, get_or_from_slice_get}
use Rattle.tm_types.specs.Segment.{segment_length}

pub segment_first : (segments : List (List ℕ)) (place : ℕ) (segment : List ℕ) → slice_get segments place ≡ Some segment
    → sum_by segment_length (drop place segments) ≡ segment_length segment + sum_by segment_length (drop (place + 1) segments)
segment_first segments place segment at =
    sum_by-drop_more segment_length segments place segment (slice_get_within segments place segment at)
    ∙ ap (λ (s : List ℕ). segment_length s + sum_by segment_length (drop (place + 1) segments)) (get_or_from_slice_get segments place segment segment at)
