-- What stands in a record byte by byte.
use Rattle.std.specs.Prelude.{ℕ, zero, suc, ◌+◌, ◌*◌, Bool, true, false, ◌&&◌, nat_le, ◌==◌, List, [], ◌∷◌, min, slice_get, Option, Some, None, if◌then◌else◌}
use Rattle.std.specs.Option.{option_map, option_and_then}
use Rattle.tm_types.specs.Name.{is_name_byte}
use Rattle.tm_types.specs.Segment.{is_printable}
use Rattle.image_reading.specs.declared.parts.Part.{Part}
use Rattle.image_reading.specs.declared.parts.Part.TheVariants.{Exactly, Flag, Positive, Any, Names, Abend, Name, Text, TextLow, Segments, Segment, SegmentLow, SegmentBytes}

-- so many bytes more, if there are any
abbrev pub any_left : ℕ → Option Part
any_left zero = None
any_left (suc n) = Some (Any n)

abbrev pub names_left : ℕ → Option Part
names_left zero = None
names_left (suc n) = Some (Names n)

-- so many segments more, and before them so many bytes of this one
abbrev pub segments_left : ℕ → Option Part
segments_left zero = None
segments_left (suc n) = Some (Segment n)

abbrev pub segment_left : ℕ → ℕ → Option Part
segment_left more zero = segments_left more
segment_left more (suc n) = Some (SegmentBytes more n)

abbrev pub if_so : Bool → Option Part → Option (Option Part)
if_so true left = Some left
if_so false left = None

-- What is left of a part behind its first byte: none, where the byte isn't one of it.
abbrev pub part_step : Part → ℕ → Option (Option Part)
part_step (Exactly byte) b = if_so (b == byte) None
part_step Flag b = if_so (nat_le b 1) None
part_step Positive b = if_so (nat_le 1 b) None
part_step (Any n) b = Some (any_left n)
part_step (Names n) b = if_so (is_name_byte b) (names_left n)
part_step Abend b = if_so (nat_le b 15) (if b == 0 then Some Positive else Some (Any 0))
part_step Name b = if_so (nat_le 1 b && nat_le b 8) (names_left b)
part_step (Text limit) b = if_so (nat_le (256 * b) limit) (Some (TextLow limit b))
part_step (TextLow limit high) b = if_so (nat_le b 255 && nat_le (256 * high + b) limit) (any_left (256 * high + b))
part_step Segments b = if_so (nat_le 1 b && nat_le b 32) (segments_left b)
part_step (Segment more) b = if_so (nat_le (256 * b) 1996) (Some (SegmentLow more b))
part_step (SegmentLow more high) b = if_so (nat_le b 255 && nat_le (256 * high + b) 1996) (segment_left more (256 * high + b))
part_step (SegmentBytes more n) b = if_so (is_printable b) (segment_left more n)

-- how few bytes a part has, and how many
abbrev pub least : Part → ℕ
least (Exactly byte) = 1
least Flag = 1
least Positive = 1
least (Any n) = n + 1
least (Names n) = n + 1
least Abend = 2
least Name = 2
least (Text limit) = 2
least (TextLow limit high) = 1 + 256 * high
least Segments = 3
least (Segment more) = 2 + 2 * more
least (SegmentLow more high) = 1 + 256 * high + 2 * more
least (SegmentBytes more n) = n + 1 + 2 * more

abbrev pub most : Part → ℕ
most (Exactly byte) = 1
most Flag = 1
most Positive = 1
most (Any n) = n + 1
most (Names n) = n + 1
most Abend = 2
most Name = 9
most (Text limit) = 2 + limit
most (TextLow limit high) = 1 + min (256 * high + 255) limit
most Segments = 63937
most (Segment more) = 1998 + 1998 * more
most (SegmentLow more high) = 1 + min (256 * high + 255) 1996 + 1998 * more
most (SegmentBytes more n) = n + 1 + 1998 * more

abbrev pub leasts : List Part → ℕ
leasts [] = 0
leasts (part ∷ parts) = least part + leasts parts

abbrev pub mosts : List Part → ℕ
mosts [] = 0
mosts (part ∷ parts) = most part + mosts parts

-- what is left of a part, before others
abbrev pub left_before : Option Part → List Part → List Part
left_before None parts = parts
left_before (Some part) parts = part ∷ parts

-- the part that the next byte stands in, and the place in the layout behind it
abbrev pub next_part : Option Part → List Part → ℕ → Option (Part × ℕ)
next_part (Some part) layout place = Some (part, place)
next_part None layout place = option_map (λ part. (part, place + 1)) (slice_get layout place)

-- what is left of it behind this byte, and that place
abbrev pub advanced : Option Part → List Part → ℕ → ℕ → Option (Option Part × ℕ)
advanced current layout place byte =
    option_and_then (λ next. option_map (λ left. (left, next.1)) (part_step next.0 byte)) (next_part current layout place)

-- behind a first byte
abbrev pub layout_goes_on : (List Part → Bool) → List Part → Option (Option Part) → Bool
layout_goes_on further parts None = false
layout_goes_on further parts (Some None) = further parts
layout_goes_on further parts (Some (Some part)) = further (part ∷ parts)

-- texts of so many bytes
abbrev pub have_room : ℕ → List Part → Bool
have_room size parts = nat_le (leasts parts) size && nat_le size (mosts parts)

-- The bytes are a front of these parts, and so many bytes are missing.
abbrev pub is_front : ℕ → List Part → List ℕ → Bool
is_front missing parts [] = have_room missing parts
is_front missing [] (b ∷ bytes) = false
is_front missing (part ∷ parts) (b ∷ bytes) = layout_goes_on (λ further. is_front missing further bytes) parts (part_step part b)
