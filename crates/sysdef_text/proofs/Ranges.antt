-- What is read is a definition: it begins with IMSCTRL, ends with END, its codes stand behind an APPLCTN, and its numbers lie in
-- their ranges.
use Rattle.std.proofs.Common.{ℕ, suc, ◌≡◌, ◌&&◌, ◌||◌, cond, Bool, true, false, List, [], ◌∷◌, Result, Ok, Err, IsTrue, IfOk, All, refl, sym, subst, arith}
use Rattle.std.proofs.lemmas.Bool.{false≢true}
use Rattle.std.proofs.lemmas.List.Elements.{All-cons}
use Rattle.model_system.specs.declared.program.ScriptLine.{ScriptLine}
use Rattle.model_system.specs.FormatLines.{FormatLines}
use Rattle.text_rows.specs.Lines.{is_passed_over}
use Rattle.text_rows.specs.LowestRule.{also}
use Rattle.text_rows.specs.Operands.{macro_name}
use Rattle.text_rows.specs.Refusals.{at_line, then_lines}
use Rattle.script_text.specs.Scripts.{is_script_last}
use Rattle.system_types.specs.declared.definition.Macro.{Macro}
use Rattle.system_types.specs.declared.definition.Macro.TheVariants as macro
use Rattle.system_types.specs.declared.definition.MacroLine.{MacroLine}
use Rattle.system_types.specs.Definitions.{IsDefinition, IsInRange, are_applied, begins_well, ends_well, is_application, is_control, is_end_macro, may_stand}
use Rattle.sysdef_rows.specs.declared.kinds.Kind.{Kind}
use Rattle.sysdef_rows.specs.declared.kinds.Kind.TheVariants.{Control, Database, Segment, Application, Pcb, Transaction, Terminal, Region, End}
use Rattle.sysdef_rows.specs.Kinds.{kind_of}
use Rattle.sysdef_rows.proofs.RowRanges.{IsOfKind, Fits, also_left, also_right, if_both, row_fits}
use Rattle.sysdef_text.specs.declared.modes.Mode.{Mode}
use Rattle.sysdef_text.specs.declared.modes.Mode.TheVariants.{Start, BehindDatabase, BehindApplication, BehindTransaction, Elsewhere, InProgram, InFormat}
use Rattle.sysdef_text.specs.declared.modes.Step.{Step}
use Rattle.sysdef_text.specs.declared.modes.Step.TheVariants.{Pass, Item, Last}
use Rattle.sysdef_text.specs.Definitions.{definition, step_follows}
use Rattle.sysdef_text.specs.Formats.{format_block, is_format_end}
use Rattle.sysdef_text.specs.MacroPlaces.{control_place, family_place, is_format_word, is_program_word, macro_line, format_head, program_line, program_line_place, within_definition}
use Rattle.sysdef_text.specs.Programs.{program_block}
use Rattle.sysdef_text.specs.LineSteps.{format_read, format_step, macro_read, macro_step, outside_step, passed, program_read, program_step, definition_step}

-- a macro stands where it may
itself : (r : Result (Unit {0}) ℕ) → IfOk r (λ value. r ≡ Ok tt)
itself (Ok tt) = refl
itself (Err rule) = tt

abbrev IsPlaced : Mode → Kind → Type 0
IsPlaced mode kind = (control_place mode kind ≡ Ok tt) × (family_place mode kind ≡ Ok tt)

line_fits : (kind : Kind) (mode : Mode) (over : Bool) (line : List ℕ) (behind : List (List ℕ)) → IfOk (macro_line kind mode over line behind) (λ content. Fits kind content × IsPlaced mode kind)
unfolding macro_line
line_fits kind mode over line behind =
    if_both (Fits kind) (λ content. IsPlaced mode kind) _
    (also_left (Fits kind) _ _ (also_left (Fits kind) _ _ (also_left (Fits kind) _ _ (row_fits kind _))))
    (also_right (IsPlaced mode kind) _ _
    (also_left (λ value. IsPlaced mode kind) _ (within_definition over behind)
    (if_both (λ value. control_place mode kind ≡ Ok tt) (λ value. family_place mode kind ≡ Ok tt) (also (family_place mode kind) (control_place mode kind))
    (also_right (control_place mode kind ≡ Ok tt) (family_place mode kind) (control_place mode kind) (itself (control_place mode kind)))
    (also_left (λ value. family_place mode kind ≡ Ok tt) (family_place mode kind) (control_place mode kind) (itself (family_place mode kind))))))

-- before any macro only IMSCTRL may stand
first_kind : (kind : Kind) → control_place Start kind ≡ Ok tt → kind ≡ Control
first_kind Control h = refl
first_kind Database h = cc
first_kind Segment h = cc
first_kind Application h = cc
first_kind Pcb h = cc
first_kind Transaction h = cc
first_kind Terminal h = cc
first_kind Region h = cc
first_kind End h = cc

starts : (mode : Mode) (kind : Kind) (content : Macro) → IsOfKind kind content → control_place mode kind ≡ Ok tt → mode ≡ Start → is_control content ≡ true
starts mode kind content h place e =
    let control : kind ≡ Control = first_kind kind (subst (λ m. control_place m kind ≡ Ok tt) e place) in
    subst (λ k. IsOfKind k content) control h

-- an APPLCTN has come where a TRANSACT may stand
abbrev has_come : Mode → Bool
has_come BehindApplication = true
has_come BehindTransaction = true
has_come _ = false

-- a macro stands behind one where it has to, and so do those behind it
pub record Applies (mode : Mode) (content : Macro) (next : Mode) : Type 0 where
  pub stands : may_stand (has_come mode) content ≡ true
  pub later : has_come next ≡ true → (has_come mode || is_application content) ≡ true

may_always : (content : Macro) (b : Bool) → may_stand false content ≡ true → may_stand b content ≡ true
may_always (macro.Transaction transaction) b h = absurd (false≢true h)
may_always _ b h = refl

no_code : (mode next : Mode) (content : Macro) → may_stand false content ≡ true → has_come next ≡ false → Applies mode content next
no_code mode next content h behind = record {
  stands = may_always content (has_come mode) h;
  later = λ e. absurd (false≢true (subst (λ b. b ≡ true) behind e));
}

control_no_code : (content : Macro) → is_control content ≡ true → may_stand false content ≡ true
control_no_code (macro.Control qbytes logs) h = refl
control_no_code _ h = absurd (false≢true h)

end_no_code : (content : Macro) → is_end_macro content ≡ true → may_stand false content ≡ true
end_no_code macro.End h = refl
end_no_code _ h = absurd (false≢true h)

application_no_code : (content : Macro) → is_application content ≡ true → may_stand false content ≡ true
application_no_code (macro.Application psb) h = refl
application_no_code _ h = absurd (false≢true h)

or_true : (b c : Bool) → c ≡ true → (b || c) ≡ true
or_true true c h = refl
or_true false c h = h

true_or : (b c : Bool) → b ≡ true → (b || c) ≡ true
true_or true c h = refl
true_or false c h = absurd (false≢true h)

application_comes : (mode : Mode) (content : Macro) → is_application content ≡ true → Applies mode content BehindApplication
application_comes mode content h = record {
  stands = may_always content (has_come mode) (application_no_code content h);
  later = λ e. or_true (has_come mode) (is_application content) h;
}

pcb_behind : (mode : Mode) → family_place mode Pcb ≡ Ok tt → has_come mode ≡ true
pcb_behind BehindApplication h = refl
pcb_behind BehindTransaction h = refl
pcb_behind _ h = cc

code_behind : (mode : Mode) → family_place mode Transaction ≡ Ok tt → has_come mode ≡ true
code_behind BehindApplication h = refl
code_behind BehindTransaction h = refl
code_behind _ h = cc

stays_behind : (mode next : Mode) (content : Macro) → has_come mode ≡ true → may_stand true content ≡ true → Applies mode content next
stays_behind mode next content h may = record {
  stands = subst (λ b. may_stand b content ≡ true) (sym h) may;
  later = λ e. true_or (has_come mode) (is_application content) h;
}

may_behind : (content : Macro) → may_stand true content ≡ true
may_behind (macro.Transaction transaction) = refl
may_behind _ = refl

-- what a step of a line does
abbrev Steps : Mode → Result Step (ℕ × ℕ) → Type 0
Steps mode (Ok (Pass next)) = (mode ≡ Start → next ≡ Start) × (has_come next ≡ true → has_come mode ≡ true)
Steps mode (Ok (Item content next)) = IsInRange content × (mode ≡ Start → is_control content ≡ true) × Applies mode content next
Steps mode (Ok (Last content)) = IsInRange content × (is_end_macro content ≡ true) × (mode ≡ Start → is_control content ≡ true)
Steps mode (Err fault) = Unit {0}

macro_steps : (kind : Kind) (mode : Mode) (number : ℕ) (read : Result Macro ℕ) → IfOk read (λ content. Fits kind content × IsPlaced mode kind) → Steps mode (macro_read kind (at_line number read))
macro_steps End mode number (Ok content) h = (h.0.0, h.0.1, starts mode End content h.0.1 h.1.0)
macro_steps Control mode number (Ok content) h = (h.0.0, starts mode Control content h.0.1 h.1.0, no_code mode Elsewhere content (control_no_code content h.0.1) refl)
macro_steps Database mode number (Ok content) h = (h.0.0, starts mode Database content h.0.1 h.1.0, no_code mode BehindDatabase content h.0.1 refl)
macro_steps Segment mode number (Ok content) h = (h.0.0, starts mode Segment content h.0.1 h.1.0, no_code mode BehindDatabase content h.0.1 refl)
macro_steps Application mode number (Ok content) h = (h.0.0, starts mode Application content h.0.1 h.1.0, application_comes mode content h.0.1)
macro_steps Pcb mode number (Ok content) h = (h.0.0, starts mode Pcb content h.0.1 h.1.0, stays_behind mode BehindApplication content (pcb_behind mode h.1.1) (may_behind content))
macro_steps Transaction mode number (Ok content) h = (h.0.0, starts mode Transaction content h.0.1 h.1.0, stays_behind mode BehindTransaction content (code_behind mode h.1.1) (may_behind content))
macro_steps Terminal mode number (Ok content) h = (h.0.0, starts mode Terminal content h.0.1 h.1.0, no_code mode Elsewhere content h.0.1 refl)
macro_steps Region mode number (Ok content) h = (h.0.0, starts mode Region content h.0.1 h.1.0, no_code mode Elsewhere content h.0.1 refl)
macro_steps End mode number (Err rule) h = tt
macro_steps Control mode number (Err rule) h = tt
macro_steps Database mode number (Err rule) h = tt
macro_steps Segment mode number (Err rule) h = tt
macro_steps Application mode number (Err rule) h = tt
macro_steps Pcb mode number (Err rule) h = tt
macro_steps Transaction mode number (Err rule) h = tt
macro_steps Terminal mode number (Err rule) h = tt
macro_steps Region mode number (Err rule) h = tt

kind_steps : (kind : Result Kind ℕ) (mode : Mode) (over : Bool) (number : ℕ) (line : List ℕ) (behind : List (List ℕ)) → Steps mode (macro_step kind mode over number line behind)
kind_steps (Ok kind) mode over number line behind = macro_steps kind mode number (macro_line kind mode over line behind) (line_fits kind mode over line behind)
kind_steps (Err rule) mode over number line behind = tt

no_program_first : program_line_place Start ≡ Ok tt → ⊥
no_program_first h = cc

first_place : (mode : Mode) → program_line_place mode ≡ Ok tt → mode ≡ Start → ⊥
first_place mode h e = no_program_first (subst (λ m. program_line_place m ≡ Ok tt) e h)

named_steps : (mode : Mode) (name : Result (List ℕ) (ℕ × ℕ)) (lines : Result (List ScriptLine) (ℕ × ℕ)) → IfOk name (λ n. program_line_place mode ≡ Ok tt) → Steps mode (program_read name lines)
named_steps mode (Ok name) (Ok lines) h = (tt, λ e. absurd (first_place mode h e), no_code mode InProgram (macro.Program name lines) refl refl)
named_steps mode (Ok name) (Err fault) h = tt
named_steps mode (Err fault) lines h = tt

formed_steps : (mode : Mode) (name : Result (List ℕ) (ℕ × ℕ)) (format : Result FormatLines (ℕ × ℕ)) → IfOk name (λ n. program_line_place mode ≡ Ok tt) → Steps mode (format_read name format)
formed_steps mode (Ok name) (Ok format) h = (tt, λ e. absurd (first_place mode h e), no_code mode InFormat (macro.Format name format) refl refl)
formed_steps mode (Ok name) (Err fault) h = tt
formed_steps mode (Err fault) format h = tt

at_ok : {A : Type 0} (Q : Type 0) (number : ℕ) (read : Result A ℕ) → IfOk read (λ value. Q) → IfOk (at_line number read) (λ value. Q)
at_ok Q number (Ok value) h = h
at_ok Q number (Err rule) h = tt

program_ok : (mode : Mode) (over : Bool) (line : List ℕ) (behind : List (List ℕ)) → IfOk (program_line mode over line behind) (λ name. program_line_place mode ≡ Ok tt)
unfolding program_line
program_ok mode over line behind =
    also_right (program_line_place mode ≡ Ok tt) _ _ (also_left (λ value. program_line_place mode ≡ Ok tt) (program_line_place mode) (within_definition over behind) (itself (program_line_place mode)))

format_ok : (mode : Mode) (over : Bool) (line : List ℕ) (behind : List (List ℕ)) → IfOk (format_head mode over line behind) (λ name. program_line_place mode ≡ Ok tt)
unfolding format_head
format_ok mode over line behind =
    also_right (program_line_place mode ≡ Ok tt) _ _ (also_left (λ value. program_line_place mode ≡ Ok tt) (program_line_place mode) (within_definition over behind) (itself (program_line_place mode)))

passed_steps : (mode : Mode) (judged : Result (Unit {0}) (ℕ × ℕ)) → Steps mode (passed mode judged)
passed_steps mode (Ok value) = (λ e. e, λ e. e)
passed_steps mode (Err fault) = tt

choose_steps : (mode : Mode) (b c d : Bool) (pass program format others : Result Step (ℕ × ℕ)) → Steps mode pass → Steps mode program → Steps mode format → Steps mode others
    → Steps mode (cond b pass (cond c program (cond d format others)))
choose_steps mode true c d pass program format others h k f l = h
choose_steps mode false true d pass program format others h k f l = k
choose_steps mode false false true pass program format others h k f l = f
choose_steps mode false false false pass program format others h k f l = l

outside_steps : (mode : Mode) (over : Bool) (number : ℕ) (line : List ℕ) (behind : List (List ℕ)) → Steps mode (outside_step mode over number line behind)
outside_steps mode over number line behind =
    choose_steps mode (is_passed_over line) (is_program_word line) (is_format_word line) (passed mode (at_line number (within_definition over behind))) (program_step mode over number line behind)
    (format_step mode over number line behind) (macro_step (kind_of (macro_name line)) mode over number line behind) (passed_steps mode (at_line number (within_definition over behind)))
    (named_steps mode (at_line number (program_line mode over line behind)) (program_block over (suc number) behind)
    (at_ok (program_line_place mode ≡ Ok tt) number (program_line mode over line behind) (program_ok mode over line behind)))
    (formed_steps mode (at_line number (format_head mode over line behind)) (format_block over (suc number) behind)
    (at_ok (program_line_place mode ≡ Ok tt) number (format_head mode over line behind) (format_ok mode over line behind)))
    (kind_steps (kind_of (macro_name line)) mode over number line behind)

inside_start : (b : Bool) → (InProgram ≡ Start → cond b Elsewhere InProgram ≡ Start) × (has_come (cond b Elsewhere InProgram) ≡ true → has_come InProgram ≡ true)
inside_start true = (λ e. cc, λ e. e)
inside_start false = (λ e. cc, λ e. e)

in_format_start : (b : Bool) → (InFormat ≡ Start → cond b Elsewhere InFormat ≡ Start) × (has_come (cond b Elsewhere InFormat) ≡ true → has_come InFormat ≡ true)
in_format_start true = (λ e. cc, λ e. e)
in_format_start false = (λ e. cc, λ e. e)

line_steps : (mode : Mode) (over : Bool) (number : ℕ) (line : List ℕ) (behind : List (List ℕ)) → Steps mode (definition_step mode over number line behind)
unfolding definition_step
line_steps InProgram over number line behind = inside_start (is_script_last line)
line_steps InFormat over number line behind = in_format_start (is_format_end line)
line_steps Start over number line behind = outside_steps Start over number line behind
line_steps BehindDatabase over number line behind = outside_steps BehindDatabase over number line behind
line_steps BehindApplication over number line behind = outside_steps BehindApplication over number line behind
line_steps BehindTransaction over number line behind = outside_steps BehindTransaction over number line behind
line_steps Elsewhere over number line behind = outside_steps Elsewhere over number line behind

-- the macros that are read from a mode on
abbrev Reads : Mode → Result (List MacroLine) (ℕ × ℕ) → Type 0
Reads mode read = IfOk read (λ items. IsTrue (ends_well items) × All (λ line. IsInRange line.content) items × (mode ≡ Start → IsTrue (begins_well items)) × (are_applied (has_come mode) items ≡ true))

ends_more : (line : MacroLine) (lines : List MacroLine) → IsTrue (ends_well lines) → IsTrue (ends_well (line ∷ lines))
ends_more line [] h = absurd (false≢true h)
ends_more line (next ∷ lines) h = h

-- where an APPLCTN has come, all the more
and_true : (a b : Bool) → a ≡ true → b ≡ true → (a && b) ≡ true
and_true true b h k = k
and_true false b h k = absurd (false≢true h)

first_true : (a b : Bool) → (a && b) ≡ true → a ≡ true
first_true true b h = refl
first_true false b h = absurd (false≢true h)

second_true : (a b : Bool) → (a && b) ≡ true → b ≡ true
second_true true b h = h
second_true false b h = absurd (false≢true h)

may_more : (b c : Bool) (content : Macro) → (b ≡ true → c ≡ true) → may_stand b content ≡ true → may_stand c content ≡ true
may_more b c (macro.Transaction transaction) more h = more h
may_more b c _ more h = refl

or_more : (b c d : Bool) → (b ≡ true → c ≡ true) → (b || d) ≡ true → (c || d) ≡ true
or_more true c d more h = true_or c d (more refl)
or_more false c d more h = or_true c d h

applied_more : (b c : Bool) (lines : List MacroLine) → (b ≡ true → c ≡ true) → are_applied b lines ≡ true → are_applied c lines ≡ true
applied_more b c [] more h = refl
applied_more b c (line ∷ lines) more h =
    and_true (may_stand c line.content) (are_applied (c || is_application line.content) lines)
    (may_more b c line.content more (first_true (may_stand b line.content) (are_applied (b || is_application line.content) lines) h))
    (applied_more (b || is_application line.content) (c || is_application line.content) lines (or_more b c (is_application line.content) more)
    (second_true (may_stand b line.content) (are_applied (b || is_application line.content) lines) h))

item_reads : (mode next : Mode) (line : MacroLine) (more : Result (List MacroLine) (ℕ × ℕ)) → IsInRange line.content → (mode ≡ Start → is_control line.content ≡ true)
    → Applies mode line.content next → Reads next more → Reads mode (then_lines (Ok line) more)
item_reads mode next line (Ok lines) h first applies rest = (
  ends_more line lines rest.0,
  All-cons (λ l. IsInRange l.content) line lines h rest.1,
  first,
  and_true (may_stand (has_come mode) line.content) (are_applied (has_come mode || is_application line.content) lines) applies.stands
      (applied_more (has_come next) (has_come mode || is_application line.content) lines applies.later rest.3),
)
item_reads mode next line (Err fault) h first applies rest = tt

last_all : (line : MacroLine) → IsInRange line.content → All (λ l. IsInRange l.content) (line ∷ [])
last_all line h = All-cons (λ l. IsInRange l.content) line [] h (λ k d below. absurd (omega (arith, below)))

pass_reads : (mode next : Mode) (read : Result (List MacroLine) (ℕ × ℕ)) → (mode ≡ Start → next ≡ Start) → (has_come next ≡ true → has_come mode ≡ true) → Reads next read → Reads mode read
pass_reads mode next (Ok items) h later reads = (reads.0, reads.1, λ e. reads.2 (h e), applied_more (has_come next) (has_come mode) items later reads.3)
pass_reads mode next (Err fault) h later reads = tt

last_applied : (b : Bool) (content : Macro) (number : ℕ) → is_end_macro content ≡ true → are_applied b (record { number = number; content = content } ∷ []) ≡ true
last_applied b content number h = and_true (may_stand b content) true (may_always content b (end_no_code content h)) refl

follow_reads : (mode : Mode) (number : ℕ) (taken : Result Step (ℕ × ℕ)) (more : Mode → Result (List MacroLine) (ℕ × ℕ)) → Steps mode taken → ((next : Mode) → Reads next (more next))
    → Reads mode (step_follows number taken more)
follow_reads mode number (Ok (Pass next)) more h each = pass_reads mode next (more next) h.0 h.1 (each next)
follow_reads mode number (Ok (Item content next)) more h each = item_reads mode next (record { number = number; content = content }) (more next) h.0 h.1 h.2 (each next)
follow_reads mode number (Ok (Last content)) more h each = (h.1, last_all (record { number = number; content = content }) h.0, h.2, last_applied (has_come mode) content number h.1)
follow_reads mode number (Err fault) more h each = tt

definition_reads : (mode : Mode) (over : Bool) (number : ℕ) (lines : List (List ℕ)) → Reads mode (definition mode over number lines)
definition_reads mode over number [] = tt
definition_reads mode over number (line ∷ lines) =
    follow_reads mode number (definition_step mode over number line lines) (λ next. definition next over (suc number) lines) (line_steps mode over number line lines)
    (λ next. definition_reads next over (suc number) lines)

-- what is read is a definition
pub is_definition : (over : Bool) (lines : List (List ℕ)) (items : List MacroLine) → definition Start over 1 lines ≡ Ok items → IsDefinition items
is_definition over lines items e =
    let reads : Reads Start (Ok items) = subst (λ read. Reads Start read) e (definition_reads Start over 1 lines) in
    record { first = reads.2 refl; last = reads.0; applied = reads.3; in_range = reads.1 }
