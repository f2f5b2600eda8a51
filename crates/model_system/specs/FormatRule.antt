-- The rule that a format keeps among its lines: its fields have different names and share no place,
-- each SRC names a field, and there is an input segment, none of more than 1,996 bytes.
use Rattle.std.specs.Prelude.{◌≡◌, ℕ, ◌+◌, ◌==◌, nat_lt, Bool, true, ◌&&◌, ◌||◌, not, List, [], ◌∷◌, ◌++◌, length, find, Option, Some, None, if◌then◌else◌}
use Rattle.std.specs.List.{list_any}
use Rattle.std.specs.Option.{option_map, option_or}
use Rattle.std.specs.Str.{bytes_eq}
use Rattle.model_system.specs.declared.device_field.DeviceField.{DeviceField}
use Rattle.model_system.specs.declared.message_field.MessageField.{MessageField}
use Rattle.model_system.specs.declared.message_field.MessageField.TheVariants.{Source, Literal}
use Rattle.model_system.specs.declared.message_field.MessageFieldLine.{MessageFieldLine}
use Rattle.model_system.specs.declared.segment_line.SegmentLine.{SegmentLine}
use Rattle.model_system.specs.FormatLines.{FormatLines}

-- two fields of one row have a column in common
abbrev pub overlap : DeviceField → DeviceField → Bool
overlap one other = (one.row == other.row) && (nat_lt one.column (other.column + other.width) && nat_lt other.column (one.column + one.width))

-- two fields have one name, or a place in common
abbrev pub clash : DeviceField → DeviceField → Bool
clash one other = bytes_eq one.name other.name || overlap one other

abbrev pub line_if : ℕ → Bool → Option ℕ
line_if number broken = if broken then Some number else None

-- the first field that clashes with one before it
abbrev pub clashing_field : List DeviceField → List DeviceField → Option ℕ
clashing_field before [] = None
clashing_field before (field ∷ fields) = option_or (line_if field.number (list_any (clash field) before)) (clashing_field (before ++ field ∷ []) fields)

-- one of the fields has this name
abbrev pub has_field : List ℕ → List DeviceField → Bool
has_field name fields = list_any (λ field. bytes_eq field.name name) fields

-- the first MFLD of a segment whose SRC names no field
abbrev pub is_source_known : List DeviceField → MessageField → Bool
is_source_known fields (Source source) = has_field source.name fields
is_source_known fields (Literal text) = true

abbrev pub unknown_source : List DeviceField → List MessageFieldLine → Option ℕ
unknown_source fields lines = option_map (λ line. line.number) (find (λ line. not (is_source_known fields line.content)) lines)

-- how many bytes a segment has that goes in
abbrev pub field_bytes : MessageField → ℕ
field_bytes (Source source) = source.width
field_bytes (Literal text) = length text

abbrev pub segment_bytes_in : List MessageFieldLine → ℕ
segment_bytes_in [] = 0
segment_bytes_in (line ∷ lines) = field_bytes line.content + segment_bytes_in lines

-- the lowest line of the segments that go in: that of a SEG with too many bytes, or of an MFLD
abbrev pub broken_input : List DeviceField → List SegmentLine → Option ℕ
broken_input fields [] = None
broken_input fields (segment ∷ segments) = option_or (line_if segment.number (nat_lt 1996 (segment_bytes_in segment.fields))) (option_or (unknown_source fields segment.fields) (broken_input fields segments))

abbrev pub broken_output : List DeviceField → List SegmentLine → Option ℕ
broken_output fields [] = None
broken_output fields (segment ∷ segments) = option_or (unknown_source fields segment.fields) (broken_output fields segments)

-- a format without an input segment breaks the rule in the line of its FMT
abbrev pub no_input : ℕ → List SegmentLine → Option ℕ
no_input line [] = Some line
no_input line (segment ∷ segments) = None

-- The lowest line that breaks the rule, the format beginning with this line. Its lines stand in the
-- order of the text: FMT, the fields, the input and the output.
unfoldable pub broken_format_line : ℕ → FormatLines → Option ℕ
broken_format_line line format =
    option_or (no_input line format.input) (option_or (clashing_field [] format.fields) (option_or (broken_input format.fields format.input) (broken_output format.fields format.output)))

-- the format keeps the rule, whatever the line of its FMT is
abbrev pub KeepsRule : FormatLines → Type 0
KeepsRule format = (line : ℕ) → broken_format_line line format ≡ None
