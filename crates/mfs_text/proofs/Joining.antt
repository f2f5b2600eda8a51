-- A format as far as it has been read, and the lines that are still to be read.
use Rattle.std.proofs.Common.{ℕ, ◌≡◌, true, false, cond, List, [], ◌∷◌, ◌++◌, Result, Ok, Err, refl, ap, sym, ◌∙◌, append_assoc, append-nil}
use Rattle.model_system.specs.declared.device_field.DeviceField.{DeviceField}
use Rattle.model_system.specs.declared.message_field.MessageFieldLine.{MessageFieldLine}
use Rattle.model_system.specs.declared.segment_line.SegmentLine.{SegmentLine}
use Rattle.model_system.specs.FormatLines.{FormatLines}
use Rattle.mfs_text.specs.declared.lines.Direction.TheVariants.{Input, Output}
use Rattle.mfs_text.specs.declared.lines.Section.{Section}
use Rattle.mfs_text.specs.declared.lines.Section.TheVariants as section
use Rattle.mfs_text.specs.declared.lines.FormatLine.{FormatLine}
use Rattle.mfs_text.specs.declared.lines.FormatLine.TheVariants.{Nothing, Field, Message, Segment, MessageField, End}
use Rattle.mfs_text.specs.BuiltFormat.{with_last_fields, added}
use Rattle.mfs_text.specs.Formats.{LinesBehind, nothing, with_format_line, is_format_last, format_follows, onto, format_made}
use Rattle.mfs_text.specs.Lines.{is_line_allowed, section_after}

-- the segments so far with the MFLDs that belong to the last one, where there is an open one
abbrev pub input_with : Section → List SegmentLine → List MessageFieldLine → List SegmentLine
input_with (section.Segment Input) segments loose = with_last_fields segments loose
input_with _ segments loose = segments

abbrev pub output_with : Section → List SegmentLine → List MessageFieldLine → List SegmentLine
output_with (section.Segment Output) segments loose = with_last_fields segments loose
output_with _ segments loose = segments

abbrev pub joined : Section → FormatLines → LinesBehind → FormatLines
joined before lines rest = record {
  fields = lines.fields ++ rest.fields;
  input = input_with before lines.input rest.loose ++ rest.input;
  output = output_with before lines.output rest.loose ++ rest.output;
}

abbrev pub finished : Section → FormatLines → Result LinesBehind (ℕ × ℕ) → Result FormatLines (ℕ × ℕ)
finished before lines (Ok rest) = Ok (joined before lines rest)
finished before lines (Err fault) = Err fault

last_nothing : (segments : List SegmentLine) → with_last_fields segments [] ≡ segments
last_nothing [] = refl
last_nothing (segment ∷ []) = ap (λ fields. (record segment { fields = fields }) ∷ []) (append-nil segment.fields)
last_nothing (segment ∷ next ∷ segments) = ap (λ ss. segment ∷ ss) (last_nothing (next ∷ segments))

last_more : (segments : List SegmentLine) (line : MessageFieldLine) (loose : List MessageFieldLine) → with_last_fields (with_last_fields segments (line ∷ [])) loose ≡ with_last_fields segments (line ∷ loose)
last_more [] line loose = refl
last_more (segment ∷ []) line loose = ap (λ fields. (record segment { fields = fields }) ∷ []) (append_assoc segment.fields (line ∷ []) loose)
last_more (segment ∷ next ∷ []) line loose = ap (λ ss. segment ∷ ss) (last_more (next ∷ []) line loose)
last_more (segment ∷ next ∷ third ∷ segments) line loose = ap (λ ss. segment ∷ ss) (last_more (next ∷ third ∷ segments) line loose)

pub last_of : (segments : List SegmentLine) (segment : SegmentLine) (more : List MessageFieldLine) → with_last_fields (segments ++ segment ∷ []) more ≡ segments ++ (record segment { fields = segment.fields ++ more }) ∷ []
last_of [] segment more = refl
last_of (first ∷ []) segment more = refl
last_of (first ∷ next ∷ segments) segment more = ap (λ ss. first ∷ ss) (last_of (next ∷ segments) segment more)

-- a new segment takes the MFLDs behind it
opened : (segments more : List SegmentLine) (number : ℕ) (loose : List MessageFieldLine)
    → with_last_fields (segments ++ (record { number = number; fields = [] }) ∷ []) loose ++ more ≡ segments ++ (record { number = number; fields = loose }) ∷ more
opened segments more number loose =
    ap (λ ss. ss ++ more) (last_of segments (record { number = number; fields = [] }) loose)
    ∙ append_assoc segments ((record { number = number; fields = loose }) ∷ []) more

abbrev with_input : FormatLines → LinesBehind → List SegmentLine → FormatLines
with_input lines rest input = record { fields = lines.fields ++ rest.fields; input = input; output = lines.output ++ rest.output }

abbrev with_output : FormatLines → LinesBehind → List SegmentLine → FormatLines
with_output lines rest output = record { fields = lines.fields ++ rest.fields; input = lines.input ++ rest.input; output = output }

-- a line that was read goes behind those before it
one_more : (before : Section) (line : FormatLine) (lines : FormatLines) (rest : LinesBehind) → is_line_allowed before line ≡ true → is_format_last line ≡ false
    → joined (section_after before line) (added before line lines) rest ≡ joined before lines (with_format_line before line rest)
one_more section.Fields Nothing lines rest h e = refl
one_more (section.Message direction) Nothing lines rest h e = refl
one_more (section.Segment direction) Nothing lines rest h e = refl
one_more section.Fields (Field field) lines rest h e =
    ap (λ fields. record { fields = fields; input = lines.input ++ rest.input; output = lines.output ++ rest.output }) (append_assoc lines.fields (field ∷ []) rest.fields)
one_more (section.Message direction) (Field field) lines rest h e = cc
one_more (section.Segment direction) (Field field) lines rest h e = cc
one_more section.Fields (Message Input) lines rest h e = refl
one_more section.Fields (Message Output) lines rest h e = cc
one_more (section.Message Input) (Message Input) lines rest h e = cc
one_more (section.Message Input) (Message Output) lines rest h e = refl
one_more (section.Message Output) (Message direction) lines rest h e = cc
one_more (section.Segment Input) (Message Input) lines rest h e = cc
one_more (section.Segment Input) (Message Output) lines rest h e = ap (λ ss. with_input lines rest (ss ++ rest.input)) (sym (last_nothing lines.input))
one_more (section.Segment Output) (Message direction) lines rest h e = cc
one_more section.Fields (Segment number) lines rest h e = cc
one_more (section.Message Input) (Segment number) lines rest h e = ap (with_input lines rest) (opened lines.input rest.input number rest.loose)
one_more (section.Message Output) (Segment number) lines rest h e = ap (with_output lines rest) (opened lines.output rest.output number rest.loose)
one_more (section.Segment Input) (Segment number) lines rest h e =
    ap (with_input lines rest) (opened lines.input rest.input number rest.loose ∙ ap (λ ss. ss ++ (record { number = number; fields = rest.loose }) ∷ rest.input) (sym (last_nothing lines.input)))
one_more (section.Segment Output) (Segment number) lines rest h e =
    ap (with_output lines rest) (opened lines.output rest.output number rest.loose ∙ ap (λ ss. ss ++ (record { number = number; fields = rest.loose }) ∷ rest.output) (sym (last_nothing lines.output)))
one_more section.Fields (MessageField line) lines rest h e = cc
one_more (section.Message direction) (MessageField line) lines rest h e = cc
one_more (section.Segment Input) (MessageField line) lines rest h e = ap (λ ss. with_input lines rest (ss ++ rest.input)) (last_more lines.input line rest.loose)
one_more (section.Segment Output) (MessageField line) lines rest h e = ap (λ ss. with_output lines rest (ss ++ rest.output)) (last_more lines.output line rest.loose)
one_more before End lines rest h e = cc

pub line_added : (before : Section) (line : FormatLine) (lines : FormatLines) (rest : Result LinesBehind (ℕ × ℕ)) → is_line_allowed before line ≡ true → is_format_last line ≡ false
    → finished (section_after before line) (added before line lines) rest ≡ finished before lines (onto before line rest)
line_added before line lines (Ok rest) h e = ap Ok (one_more before line lines rest h e)
line_added before line lines (Err fault) h e = refl

same_lines : (lines : FormatLines) (fields : List DeviceField) (input output : List SegmentLine) → fields ≡ lines.fields → input ≡ lines.input → output ≡ lines.output
    → ◌≡◌ {A = FormatLines} (record { fields = fields; input = input; output = output }) lines
same_lines lines fields input output f i o =
    ap (λ fs. record { fields = fs; input = input; output = output }) f ∙ ap (λ ss. record { fields = lines.fields; input = ss; output = output }) i
    ∙ ap (λ ss. record { fields = lines.fields; input = lines.input; output = ss }) o

-- at the end nothing is still to be read
ended : (before : Section) (lines : FormatLines) → joined before lines nothing ≡ lines
ended section.Fields lines = same_lines lines _ _ _ (append-nil lines.fields) (append-nil lines.input) (append-nil lines.output)
ended (section.Message direction) lines = same_lines lines _ _ _ (append-nil lines.fields) (append-nil lines.input) (append-nil lines.output)
ended (section.Segment Input) lines = same_lines lines _ _ _ (append-nil lines.fields) (append-nil (with_last_fields lines.input []) ∙ last_nothing lines.input) (append-nil lines.output)
ended (section.Segment Output) lines = same_lines lines _ _ _ (append-nil lines.fields) (append-nil lines.input) (append-nil (with_last_fields lines.output []) ∙ last_nothing lines.output)

pub all_read : (before : Section) (lines : FormatLines) → finished before lines (Ok nothing) ≡ Ok lines
all_read before lines = ap Ok (ended before lines)

pub at_start : (read : Result LinesBehind (ℕ × ℕ)) → finished section.Fields (record { fields = []; input = []; output = [] }) read ≡ format_made read
at_start (Ok rest) = refl
at_start (Err fault) = refl

-- the next line, which isn't the last
pub next_read : (before : Section) (lines : FormatLines) (line : FormatLine) (read : Result FormatLine (ℕ × ℕ)) (more : Section → Result LinesBehind (ℕ × ℕ)) (all : Result FormatLines (ℕ × ℕ))
    → read ≡ Ok line → is_line_allowed before line ≡ true → is_format_last line ≡ false → finished before lines (format_follows before read more) ≡ all
    → finished (section_after before line) (added before line lines) (more (section_after before line)) ≡ all
next_read before lines line read more all e allowed last h =
    line_added before line lines (more (section_after before line)) allowed last
    ∙ ap (λ b. finished before lines (cond b (Ok nothing) (onto before line (more (section_after before line))))) (sym last)
    ∙ ap (λ r. finished before lines (format_follows before r more)) (sym e) ∙ h

-- the last line
pub last_read : (before : Section) (lines : FormatLines) (line : FormatLine) (read : Result FormatLine (ℕ × ℕ)) (more : Section → Result LinesBehind (ℕ × ℕ)) (all : Result FormatLines (ℕ × ℕ))
    → read ≡ Ok line → is_format_last line ≡ true → finished before lines (format_follows before read more) ≡ all → all ≡ Ok lines
last_read before lines line read more all e last h =
    sym h ∙ ap (λ r. finished before lines (format_follows before r more)) e
    ∙ ap (λ b. finished before lines (cond b (Ok nothing) (onto before line (more (section_after before line))))) last ∙ all_read before lines

-- a line that is refused
pub refused_read : (before : Section) (lines : FormatLines) (fault : ℕ × ℕ) (read : Result FormatLine (ℕ × ℕ)) (more : Section → Result LinesBehind (ℕ × ℕ)) (all : Result FormatLines (ℕ × ℕ))
    → read ≡ Err fault → finished before lines (format_follows before read more) ≡ all → all ≡ Err fault
refused_read before lines fault read more all e h = sym h ∙ ap (λ r. finished before lines (format_follows before r more)) e
