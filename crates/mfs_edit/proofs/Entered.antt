-- What goes in from a screen: there is a segment, and each is a text that a segment may have.
use Rattle.std.proofs.Common.{ℕ, ◌≡◌, ◌≤◌, ◌&&◌, Bool, List, [], ◌∷◌, length, map, refl, ap, ◌∙◌, arith}
use Rattle.std.specs.Prelude.{Option, Some, None, Result, Ok, Err, IfOk, IsTrue}
use Rattle.std.specs.List.{list_all}
use Rattle.std.proofs.lemmas.List.{length-map}
use Rattle.model_system.specs.declared.fields.FieldValue.{FieldValue}
use Rattle.model_system.specs.declared.segment_line.SegmentLine.{SegmentLine}
use Rattle.model_system.specs.FormatRule.{KeepsRule, no_input}
use Rattle.model_system.specs.ScreenInput.{entered, field_texts_of, unless_unknown}
use Rattle.model_system.specs.FormatLines.{FormatLines}
use Rattle.model_system.specs.ValidFormat.{IsFormat}
use Rattle.mfs_edit.specs.declared.refused.EditRefused.{EditRefused}
use Rattle.mfs_edit.specs.InputAnswers.{AnswersInput}
use Rattle.mfs_edit.specs.Texts.{is_text, values_printable}
use Rattle.mfs_edit.proofs.Printable.{all_texts}
use Rattle.mfs_edit.proofs.Rules.{kept_input, some_input}

abbrev texts_in : List FieldValue → List SegmentLine → List (List ℕ)
texts_in values lines = map (λ line. field_texts_of values line.fields) lines

made_by : (found : Option (List ℕ)) (made segments : List (List ℕ)) → unless_unknown found made ≡ Ok segments → segments ≡ made
made_by None made segments h = cc
made_by (Some name) made segments h = cc

entered_is : (format : FormatLines) (values : List FieldValue) (segments : List (List ℕ)) → entered format values ≡ Ok segments → segments ≡ texts_in values format.input
unfolding entered
entered_is format values segments h = made_by _ (texts_in values format.input) segments h

some_line : (line : ℕ) (lines : List SegmentLine) → no_input line lines ≡ None → 1 ≤ length lines
some_line line [] h = cc
some_line line (segment ∷ lines) h = omega arith

pub entered_some : (format : FormatLines) (values : List FieldValue) (result : Result (List (List ℕ)) EditRefused) → KeepsRule format
    → AnswersInput result (entered format values) → IfOk result (λ segments. 1 ≤ length segments)
entered_some format values (Ok segments) rule h =
    let count : length segments ≡ length format.input = ap length (entered_is format values segments h) ∙ length-map format.input (λ (line : SegmentLine). field_texts_of values line.fields) in
    omega (arith, count, some_line 0 format.input (some_input format rule))
entered_some format values (Err refused) rule h = tt

all_mapped : (p : List ℕ → Bool) (f : SegmentLine → List ℕ) (lines : List SegmentLine) → list_all p (map f lines) ≡ list_all (λ line. p (f line)) lines
all_mapped p f [] = refl
all_mapped p f (line ∷ lines) = ap (λ b. p (f line) && b) (all_mapped p f lines)

pub entered_texts : (format : FormatLines) (values : List FieldValue) (result : Result (List (List ℕ)) EditRefused) → KeepsRule format → IsFormat format
    → IsTrue (values_printable values) → AnswersInput result (entered format values) → IfOk result (λ segments. IsTrue (list_all is_text segments))
entered_texts format values (Ok segments) rule valid printable h =
    ap (list_all is_text) (entered_is format values segments h) ∙ all_mapped is_text (λ line. field_texts_of values line.fields) format.input
    ∙ all_texts values format.fields format.input printable valid.input (kept_input format rule)
entered_texts format values (Err refused) rule valid printable h = tt
