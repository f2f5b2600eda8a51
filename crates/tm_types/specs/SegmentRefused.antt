-- Why a text is no segment.
use Rattle.std.specs.Prelude.{◌≡◌, ℕ, ◌<◌, ◌≤◌, not, List, length, position, Some}
use Rattle.tm_types.specs.declared.segment.SegmentRefused.{SegmentRefused}
use Rattle.tm_types.specs.declared.segment.SegmentRefused.TheVariants.{TooLong, BadByte, Memory}
use Rattle.tm_types.specs.Segment.{IsSegmentText, is_printable}

-- A text past 1,996 bytes is too long, whatever its bytes are. Else the first byte that isn't
-- printable is the bad one. Memory is wanted only for a text that is a segment's.
abbrev pub RefusesText : List ℕ → SegmentRefused → Type 0
RefusesText text (TooLong len) = (1996 < length text) × (len ≡ length text)
RefusesText text (BadByte place) = (length text ≤ 1996) × (position (λ b. not (is_printable b)) text ≡ Some place)
RefusesText text Memory = IsSegmentText text
