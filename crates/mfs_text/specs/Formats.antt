-- Formats.
use Rattle.std.specs.Prelude.{ℕ, suc, Bool, true, false, List, [], ◌∷◌, Result, Ok, Err, if◌then◌else◌}
use Rattle.text_rows.specs.Refusals.{at_line}
use Rattle.model_system.specs.declared.device_field.DeviceField.{DeviceField}
use Rattle.model_system.specs.declared.message_field.MessageFieldLine.{MessageFieldLine}
use Rattle.model_system.specs.declared.segment_line.SegmentLine.{SegmentLine}
use Rattle.model_system.specs.FormatLines.{FormatLines}
use Rattle.mfs_text.specs.declared.lines.Direction.TheVariants.{Input, Output}
use Rattle.mfs_text.specs.declared.lines.Section.{Section}
use Rattle.mfs_text.specs.declared.lines.Section.TheVariants as section
use Rattle.mfs_text.specs.declared.lines.FormatLine.{FormatLine}
use Rattle.mfs_text.specs.declared.lines.FormatLine.TheVariants.{Nothing, Field, Message, Segment, MessageField, End}
use Rattle.mfs_text.specs.Lines.{line_of_format, section_after}

-- What the lines from a place on hold, up to FMTEND. The MFLDs before the next SEG or MSG belong to
-- the SEG before the place.
pub record LinesBehind : Type 0 where
  pub fields : List DeviceField
  pub loose : List MessageFieldLine
  pub input : List SegmentLine
  pub output : List SegmentLine

abbrev pub nothing : LinesBehind
nothing = record { fields = []; loose = []; input = []; output = [] }

-- a segment is one of the message that it stands in
abbrev pub with_format_segment : Section → SegmentLine → LinesBehind → LinesBehind
with_format_segment section.Fields segment rest = rest
with_format_segment (section.Message Input) segment rest = record rest { input = segment ∷ rest.input }
with_format_segment (section.Message Output) segment rest = record rest { output = segment ∷ rest.output }
with_format_segment (section.Segment Input) segment rest = record rest { input = segment ∷ rest.input }
with_format_segment (section.Segment Output) segment rest = record rest { output = segment ∷ rest.output }

-- a line, and what those behind it hold
abbrev pub with_format_line : Section → FormatLine → LinesBehind → LinesBehind
with_format_line before Nothing rest = rest
with_format_line before (Field field) rest = record rest { fields = field ∷ rest.fields }
with_format_line before (Message direction) rest = record rest { loose = [] }
with_format_line before (Segment number) rest = with_format_segment before (record { number = number; fields = rest.loose }) (record rest { loose = [] })
with_format_line before (MessageField line) rest = record rest { loose = line ∷ rest.loose }
with_format_line before End rest = rest

abbrev pub onto : Section → FormatLine → Result LinesBehind (ℕ × ℕ) → Result LinesBehind (ℕ × ℕ)
onto before line (Ok rest) = Ok (with_format_line before line rest)
onto before line (Err fault) = Err fault

-- FMTEND is the last line; nothing behind it is read
abbrev pub is_format_last : FormatLine → Bool
is_format_last End = true
is_format_last _ = false

abbrev pub format_follows : Section → Result FormatLine (ℕ × ℕ) → (Section → Result LinesBehind (ℕ × ℕ)) → Result LinesBehind (ℕ × ℕ)
format_follows before (Ok line) more = if is_format_last line then Ok nothing else onto before line (more (section_after before line))
format_follows before (Err fault) more = Err fault

-- The lines from this number on. Rule 13: where FMTEND doesn't come, END is missing too, one past the
-- last line.
abbrev pub lines_from : Section → ℕ → List (List ℕ) → Result LinesBehind (ℕ × ℕ)
lines_from before number [] = Err (number, 13)
lines_from before number (line ∷ lines) = format_follows before (at_line number (line_of_format before number line)) (λ next. lines_from next (suc number) lines)

abbrev pub format_made : Result LinesBehind (ℕ × ℕ) → Result FormatLines (ℕ × ℕ)
format_made (Ok rest) = Ok (record { fields = rest.fields; input = rest.input; output = rest.output })
format_made (Err fault) = Err fault

-- the format that the lines behind an FMT spell, the first of them having this number, or the line
-- and the rule that it breaks first
unfoldable pub read_format : ℕ → List (List ℕ) → Result FormatLines (ℕ × ℕ)
read_format number lines = format_made (lines_from section.Fields number lines)
