-- A line more leaves a format whose lines keep their rules.
use Rattle.std.proofs.Common.{ℕ, ◌≡◌, Bool, true, ◌&&◌, List, [], ◌∷◌, ◌++◌, Result, Ok, Err, refl, sym, subst, ◌∙◌}
use Rattle.std.specs.Prelude.{IsTrue, OnOk}
use Rattle.std.specs.List.{list_all}
use Rattle.std.proofs.lemmas.List.Folds.{list_all-append}
use Rattle.model_system.specs.declared.message_field.MessageFieldLine.{MessageFieldLine}
use Rattle.model_system.specs.declared.segment_line.SegmentLine.{SegmentLine}
use Rattle.model_system.specs.FormatLines.{FormatLines}
use Rattle.model_system.specs.ValidFormat.{IsFormat, is_on_page, is_message_field, is_segment_line}
use Rattle.mfs_text.specs.declared.lines.Direction.TheVariants.{Input, Output}
use Rattle.mfs_text.specs.declared.lines.Section.{Section}
use Rattle.mfs_text.specs.declared.lines.Section.TheVariants as section
use Rattle.mfs_text.specs.declared.lines.FormatLine.{FormatLine}
use Rattle.mfs_text.specs.declared.lines.FormatLine.TheVariants.{Nothing, Field, Message, Segment, MessageField, End}
use Rattle.mfs_text.specs.BuiltFormat.{with_last_fields, added, segment_added, field_added}
use Rattle.mfs_text.specs.GoodLine.{is_good}
use Rattle.tm_types.proofs.Truths.{both_true, parts_true}

one_more : {A : Type 0} → (p : A → Bool) (xs : List A) (x : A) → list_all p xs ≡ true → p x ≡ true → list_all p (xs ++ x ∷ []) ≡ true
one_more p xs x all one = list_all-append p xs (x ∷ []) ∙ both_true (list_all p xs) (p x && true) all (both_true (p x) true one refl)

last_good : (segments : List SegmentLine) (line : MessageFieldLine) → list_all is_segment_line segments ≡ true → is_message_field line.content ≡ true
    → list_all is_segment_line (with_last_fields segments (line ∷ [])) ≡ true
last_good [] line all one = refl
last_good (segment ∷ []) line all one =
    both_true (is_segment_line (record segment { fields = segment.fields ++ line ∷ [] })) true
    (one_more (λ l. is_message_field l.content) segment.fields line (parts_true (is_segment_line segment) true all).0 one) refl
last_good (segment ∷ next ∷ segments) line all one =
    let parts = parts_true (is_segment_line segment) (list_all is_segment_line (next ∷ segments)) all in
    both_true (is_segment_line segment) (list_all is_segment_line (with_last_fields (next ∷ segments) (line ∷ []))) parts.0 (last_good (next ∷ segments) line parts.1 one)

segment_good : (before : Section) (number : ℕ) (lines : FormatLines) → IsFormat lines → IsFormat (segment_added before (record { number = number; fields = [] }) lines)
segment_good section.Fields number lines h = h
segment_good (section.Message Input) number lines h = record { fields = h.fields; input = one_more is_segment_line lines.input (record { number = number; fields = [] }) h.input refl; output = h.output }
segment_good (section.Message Output) number lines h = record { fields = h.fields; input = h.input; output = one_more is_segment_line lines.output (record { number = number; fields = [] }) h.output refl }
segment_good (section.Segment Input) number lines h = record { fields = h.fields; input = one_more is_segment_line lines.input (record { number = number; fields = [] }) h.input refl; output = h.output }
segment_good (section.Segment Output) number lines h = record { fields = h.fields; input = h.input; output = one_more is_segment_line lines.output (record { number = number; fields = [] }) h.output refl }

field_good : (before : Section) (line : MessageFieldLine) (lines : FormatLines) → is_message_field line.content ≡ true → IsFormat lines → IsFormat (field_added before line lines)
field_good section.Fields line lines one h = h
field_good (section.Message Input) line lines one h = record { fields = h.fields; input = last_good lines.input line h.input one; output = h.output }
field_good (section.Message Output) line lines one h = record { fields = h.fields; input = h.input; output = last_good lines.output line h.output one }
field_good (section.Segment Input) line lines one h = record { fields = h.fields; input = last_good lines.input line h.input one; output = h.output }
field_good (section.Segment Output) line lines one h = record { fields = h.fields; input = h.input; output = last_good lines.output line h.output one }

pub added_good : (before : Section) (line : FormatLine) (lines : FormatLines) → IsTrue (is_good line) → IsFormat lines → IsFormat (added before line lines)
added_good before Nothing lines good h = h
added_good before (Field field) lines good h = record { fields = one_more is_on_page lines.fields field h.fields good; input = h.input; output = h.output }
added_good before (Message direction) lines good h = h
added_good before (Segment number) lines good h = segment_good before number lines h
added_good before (MessageField line) lines good h = field_good before line lines good h
added_good before End lines good h = h

pub added_on : {A E : Type 0} → (answer : Result A E) (before : Section) (line : FormatLine) (lines new : FormatLines) → IsTrue (is_good line) → IsFormat lines
    → OnOk answer (new ≡ added before line lines) → OnOk answer (IsFormat new)
added_on (Ok value) before line lines new good h e = subst IsFormat (sym e) (added_good before line lines good h)
added_on (Err error) before line lines new good h e = tt
