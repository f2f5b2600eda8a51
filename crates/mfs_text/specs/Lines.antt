-- What a line of a format is, and where it may stand.
use Rattle.std.specs.Prelude.{ℕ, min, Bool, true, false, ◌||◌, not, List, Option, Some, None, Result, Ok, Err, if◌then◌else◌}
use Rattle.text_rows.specs.Lines.{is_passed_over, printable_line}
use Rattle.text_rows.specs.LowestRule.{also}
use Rattle.text_rows.specs.Operands.{macro_name, macro_operands}
use Rattle.mfs_text.specs.declared.kinds.Kind.{Kind}
use Rattle.mfs_text.specs.declared.kinds.Kind.TheVariants.{Field as KindField, Message as KindMessage, Segment as KindSegment, MessageField as KindMessageField, End as KindEnd}
use Rattle.mfs_text.specs.declared.lines.Direction.{Direction}
use Rattle.mfs_text.specs.declared.lines.Direction.TheVariants.{Input, Output}
use Rattle.mfs_text.specs.declared.lines.Section.{Section}
use Rattle.mfs_text.specs.declared.lines.Section.TheVariants as section
use Rattle.mfs_text.specs.declared.lines.FormatLine.{FormatLine}
use Rattle.mfs_text.specs.declared.lines.FormatLine.TheVariants.{Nothing, Field, Message, Segment, MessageField, End}
use Rattle.mfs_text.specs.Kinds.{format_kind_of, format_keys_known}
use Rattle.mfs_text.specs.Rows.{format_macro_row}

abbrev pub is_in_fields : Section → Bool
is_in_fields section.Fields = true
is_in_fields (section.Message direction) = false
is_in_fields (section.Segment direction) = false

abbrev pub is_in_segment : Section → Bool
is_in_segment section.Fields = false
is_in_segment (section.Message direction) = false
is_in_segment (section.Segment direction) = true

-- the input comes first, and then the output
abbrev pub may_begin : Section → Direction → Bool
may_begin section.Fields Input = true
may_begin (section.Message Input) Output = true
may_begin (section.Segment Input) Output = true
may_begin _ _ = false

-- DFLD stands before each MSG, SEG behind a MSG and MFLD behind a SEG.
abbrev pub is_line_allowed : Section → FormatLine → Bool
is_line_allowed before Nothing = true
is_line_allowed before (Field field) = is_in_fields before
is_line_allowed before (Message direction) = may_begin before direction
is_line_allowed before (Segment number) = not (is_in_fields before)
is_line_allowed before (MessageField line) = is_in_segment before
is_line_allowed before End = true

-- a macro of this kind may stand there, whatever its operands are
abbrev pub may_stand_in_format : Section → Kind → Bool
may_stand_in_format before KindField = is_in_fields before
may_stand_in_format before KindMessage = may_begin before Input || may_begin before Output
may_stand_in_format before KindSegment = not (is_in_fields before)
may_stand_in_format before KindMessageField = is_in_segment before
may_stand_in_format before KindEnd = true

-- Rule 10: the line may stand there. Where its operands break a rule its kind alone tells, and the lower
-- rule counts.
unfoldable pub placed_line : Section → Kind → Result FormatLine ℕ → Result FormatLine ℕ
placed_line before kind (Ok line) = if is_line_allowed before line then Ok line else Err 10
placed_line before kind (Err rule) = Err (if may_stand_in_format before kind then rule else min rule 10)

-- what has come behind a line
abbrev pub section_after : Section → FormatLine → Section
section_after before (Message direction) = section.Message direction
section_after (section.Message direction) (Segment number) = section.Segment direction
section_after before _ = before

-- a macro with its operands, or the lowest rule that its line breaks
abbrev pub format_macro_line : Result Kind ℕ → Section → ℕ → List ℕ → Result FormatLine ℕ
format_macro_line (Ok kind) before number line =
    also (also (placed_line before kind (format_macro_row kind number (macro_operands line))) (format_keys_known kind (macro_operands line))) (printable_line line)
format_macro_line (Err rule) before number line = Err rule

-- the line of this number, or the lowest rule that it breaks
unfoldable pub line_of_format : Section → ℕ → List ℕ → Result FormatLine ℕ
line_of_format before number line = if is_passed_over line then Ok Nothing else format_macro_line (format_kind_of (macro_name line)) before number line

-- the lower of a rule and what else is broken
abbrev pub or_lower : {A : Type 0} → Result A ℕ → ℕ → ℕ
or_lower (Ok value) rule = rule
or_lower (Err other) rule = min other rule

-- A macro of a format is out of its place where it stands in none: rule 10, unless its operands break a
-- lower one. FMTEND is then no macro at all.
abbrev pub stray_by : Result Kind ℕ → List (List ℕ) → Option ℕ
stray_by (Ok KindEnd) ops = None
stray_by (Ok kind) ops = Some (or_lower (format_keys_known kind ops) (or_lower (format_macro_row kind 0 ops) 10))
stray_by (Err rule) ops = None

-- the rule that the line of such a macro breaks
unfoldable pub stray_rule : List ℕ → Option ℕ
stray_rule line = stray_by (format_kind_of (macro_name line)) (macro_operands line)
