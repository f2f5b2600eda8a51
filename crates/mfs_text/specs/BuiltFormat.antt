-- A format as far as its lines have been read.
use Rattle.std.specs.Prelude.{List, [], ◌∷◌, ◌++◌}
use Rattle.model_system.specs.declared.message_field.MessageFieldLine.{MessageFieldLine}
use Rattle.model_system.specs.declared.segment_line.SegmentLine.{SegmentLine}
use Rattle.model_system.specs.FormatLines.{FormatLines}
use Rattle.mfs_text.specs.declared.built.Built.{Built}
use Rattle.mfs_text.specs.declared.lines.Direction.TheVariants.{Input, Output}
use Rattle.mfs_text.specs.declared.lines.Section.{Section}
use Rattle.mfs_text.specs.declared.lines.Section.TheVariants as section
use Rattle.mfs_text.specs.declared.lines.FormatLine.{FormatLine}
use Rattle.mfs_text.specs.declared.lines.FormatLine.TheVariants.{Field, Segment, MessageField}

abbrev pub lines_in : Built → FormatLines
lines_in built = record { fields = built.fields.items; input = built.input.items; output = built.output.items }

-- the segments with more MFLDs in the last one
abbrev pub with_last_fields : List SegmentLine → List MessageFieldLine → List SegmentLine
with_last_fields [] more = []
with_last_fields (segment ∷ []) more = record segment { fields = segment.fields ++ more } ∷ []
with_last_fields (segment ∷ next ∷ segments) more = segment ∷ with_last_fields (next ∷ segments) more

-- a segment, or an MFLD of the last one, of the message that the line stands in
abbrev pub segment_added : Section → SegmentLine → FormatLines → FormatLines
segment_added section.Fields segment lines = lines
segment_added (section.Message Input) segment lines = record lines { input = lines.input ++ segment ∷ [] }
segment_added (section.Message Output) segment lines = record lines { output = lines.output ++ segment ∷ [] }
segment_added (section.Segment Input) segment lines = record lines { input = lines.input ++ segment ∷ [] }
segment_added (section.Segment Output) segment lines = record lines { output = lines.output ++ segment ∷ [] }

abbrev pub field_added : Section → MessageFieldLine → FormatLines → FormatLines
field_added section.Fields line lines = lines
field_added (section.Message Input) line lines = record lines { input = with_last_fields lines.input (line ∷ []) }
field_added (section.Message Output) line lines = record lines { output = with_last_fields lines.output (line ∷ []) }
field_added (section.Segment Input) line lines = record lines { input = with_last_fields lines.input (line ∷ []) }
field_added (section.Segment Output) line lines = record lines { output = with_last_fields lines.output (line ∷ []) }

abbrev pub added : Section → FormatLine → FormatLines → FormatLines
added before (Field field) lines = record lines { fields = lines.fields ++ field ∷ [] }
added before (Segment number) lines = segment_added before (record { number = number; fields = [] }) lines
added before (MessageField line) lines = field_added before line lines
added before _ lines = lines
