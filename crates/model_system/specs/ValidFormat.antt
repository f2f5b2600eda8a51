-- What each line of a format keeps by itself.
use Rattle.std.specs.Prelude.{ℕ, ◌+◌, ◌==◌, nat_le, Bool, ◌&&◌, not, List, IsTrue}
use Rattle.std.specs.List.{list_all, list_any}
use Rattle.tm_types.specs.Segment.{are_printable, is_printable}
use Rattle.model_system.specs.declared.device_field.DeviceField.{DeviceField}
use Rattle.model_system.specs.declared.message_field.MessageField.{MessageField}
use Rattle.model_system.specs.declared.message_field.MessageField.TheVariants.{Source, Literal}
use Rattle.model_system.specs.declared.segment_line.SegmentLine.{SegmentLine}
use Rattle.model_system.specs.FormatLines.{FormatLines}

-- a field begins on the page of 24 rows of 80 bytes, and ends in its row
abbrev pub is_on_page : DeviceField → Bool
is_on_page field = nat_le 1 field.row && nat_le field.row 24 && nat_le 1 field.column && nat_le 1 field.width && nat_le (field.column + field.width) 81

-- a byte that fills: printable, and no comma
abbrev pub is_fill : ℕ → Bool
is_fill byte = is_printable byte && not (byte == 44)

-- a literal has printable bytes, and no quote among them
abbrev pub is_literal : List ℕ → Bool
is_literal text = are_printable text && not (list_any (λ byte. byte == 39) text)

-- the part of a field has 1 to 80 bytes
abbrev pub is_message_field : MessageField → Bool
is_message_field (Source source) = nat_le 1 source.width && nat_le source.width 80 && is_fill source.fill
is_message_field (Literal text) = is_literal text

abbrev pub is_segment_line : SegmentLine → Bool
is_segment_line segment = list_all (λ line. is_message_field line.content) segment.fields

pub record IsFormat (format : FormatLines) : Type 0 where
  pub fields : IsTrue (list_all is_on_page format.fields)
  pub input : IsTrue (list_all is_segment_line format.input)
  pub output : IsTrue (list_all is_segment_line format.output)
