-- Each code's scratch pad has a length that it may have, and no PCB sends to a code with one.
use Rattle.std.proofs.Common.{ℕ, ◌≡◌, ◌==◌, ◌&&◌, ◌||◌, cond, nat_le, not, Bool, true, false, List, [], ◌∷◌, ◌++◌, find, Option, Some, None, IfSome, All, refl, sym, arith}
use Rattle.std.specs.Str.{bytes_eq}
use Rattle.std.proofs.lemmas.Bool.{false≢true}
use Rattle.std.proofs.lemmas.Bool.Decides.{nat_tests}
use Rattle.std.proofs.lemmas.List.Elements.{All-head, All-tail, All-cons}
use Rattle.tm_types.specs.declared.dbd.Dbd.{Dbd}
use Rattle.model_system.specs.declared.code.Code.{Code}
use Rattle.system_types.specs.declared.definition.Macro.{Macro}
use Rattle.system_types.specs.declared.definition.Macro.TheVariants.{DatabasePcb, DestinationPcb, ModifiablePcb, Transaction, Program}
use Rattle.system_types.specs.declared.definition.MacroLine.{MacroLine}
use Rattle.system_types.specs.ValidSystem.{IsPadLength, IsSentTo}
use Rattle.sysdef_rules.specs.declared.cross.CrossRule.TheVariants.{DestinationUnknown, WrongPad}
use Rattle.sysdef_rules.specs.Cross.{breaks_destination, breaks_pad, broken_macro_line, first_line}
use Rattle.sysdef_rules.specs.Lookups.{has, is_code_named, is_conversational, is_terminal_named, pcbs_of}
use Rattle.sysdef_check.specs.Systems.{value_and_then, code_in, codes_in, psb_after, pcb_in, pcbs_in, pcbs_for, program_in, programs_in}
use Rattle.sysdef_check.proofs.Kept.{not_broken}
use Rattle.sysdef_check.proofs.Made.{either_false, made_holds, none_holds}
use Rattle.sysdef_check.proofs.Servable.{pcbs_hold}
use Rattle.tm_types.proofs.Truths.{neither}

-- the length of a pad
pad_length : (pad : ℕ) (none least most : Bool) → (pad == 0) ≡ none → nat_le 16 pad ≡ least → nat_le pad 1000 ≡ most → (not none && not (least && most)) ≡ false → IsPadLength pad
pad_length pad true least most e f g h =
    let zero : pad ≡ 0 = grind (arith, nat_tests, e) in
    record { least = λ some. absurd (omega (arith, zero, some)); most = omega (arith, zero) }
pad_length pad false true true e f g h = record { least = λ some. grind (arith, nat_tests, f); most = grind (arith, nat_tests, g) }
pad_length pad false true false e f g h = absurd (false≢true (sym h))
pad_length pad false false most e f g h = absurd (false≢true (sym h))

kept_pad : (all before : List MacroLine) (line : MacroLine) (behind : List MacroLine) → broken_macro_line WrongPad all before line behind ≡ None → breaks_pad line.content ≡ false
unfolding broken_macro_line
kept_pad all before line behind h = not_broken line (breaks_pad line.content) h

code_pad : (psb : Option (List ℕ)) (content : Macro) → breaks_pad content ≡ false → IfSome (code_in psb content) (λ code. IsPadLength code.transaction.scratch_pad)
unfolding breaks_pad
code_pad None content h = tt
code_pad (Some name) (Transaction transaction) h =
    let pad = transaction.scratch_pad in
    pad_length pad (pad == 0) (nat_le 16 pad) (nat_le pad 1000) refl refl refl h
code_pad (Some name) _ h = tt

pads_in : (all lines before : List MacroLine) (psb : Option (List ℕ)) → first_line WrongPad all before lines ≡ None → All (λ code. IsPadLength code.transaction.scratch_pad) (codes_in psb lines)
pads_in all [] before psb h = none_holds (λ code. IsPadLength code.transaction.scratch_pad)
pads_in all (line ∷ lines) before psb h =
    let both = neither (broken_macro_line WrongPad all before line lines) (first_line WrongPad all (before ++ line ∷ []) lines) h in
    made_holds (λ code. IsPadLength code.transaction.scratch_pad) (code_in psb line.content) (codes_in (psb_after psb line.content) lines)
    (code_pad psb line.content (kept_pad all before line lines both.0)) (pads_in all lines (before ++ line ∷ []) (psb_after psb line.content) both.1)

pub pads_kept : (all : List MacroLine) → first_line WrongPad all [] all ≡ None → All (λ code. IsPadLength code.transaction.scratch_pad) (codes_in None all)
pads_kept all h = pads_in all all [] None h

-- a code that is found by a name that no code with a pad has
found_pad : (none named : Bool) (code : Code) (rest : Option Code) → (code.transaction.scratch_pad == 0) ≡ none → (not none && named) ≡ false
    → IfSome rest (λ c. c.transaction.scratch_pad ≡ 0) → IfSome (cond named (Some code) rest) (λ c. c.transaction.scratch_pad ≡ 0)
found_pad none false code rest e h more = more
found_pad true true code rest e h more = grind (arith, nat_tests, e)
found_pad false true code rest e h more = absurd (false≢true (sym h))

no_pad_by : (name : List ℕ) (psb : Option (List ℕ)) (content : Macro) (rest : List Code) → is_conversational name content ≡ false
    → IfSome (find (λ c. bytes_eq c.transaction.code name) rest) (λ c. c.transaction.scratch_pad ≡ 0)
    → IfSome (find (λ c. bytes_eq c.transaction.code name) (value_and_then (code_in psb content) rest)) (λ c. c.transaction.scratch_pad ≡ 0)
no_pad_by name None content rest h more = more
no_pad_by name (Some psb) (Transaction transaction) rest h more =
    found_pad (transaction.scratch_pad == 0) (bytes_eq transaction.code name) (record { psb = psb; transaction = transaction })
    (find (λ c. bytes_eq c.transaction.code name) rest) refl h more
no_pad_by name (Some psb) _ rest h more = more

no_pad : (name : List ℕ) (lines : List MacroLine) (psb : Option (List ℕ)) → has (is_conversational name) lines ≡ false
    → IfSome (find (λ c. bytes_eq c.transaction.code name) (codes_in psb lines)) (λ c. c.transaction.scratch_pad ≡ 0)
no_pad name [] psb h = tt
no_pad name (line ∷ lines) psb h =
    let both = either_false (is_conversational name line.content) (has (is_conversational name) lines) h in
    no_pad_by name psb line.content (codes_in (psb_after psb line.content) lines) both.0 (no_pad name lines (psb_after psb line.content) both.1)

-- no PCB sends to such a code
abbrev pub KeepsDestination : List MacroLine → MacroLine → Type 0
KeepsDestination all line = breaks_destination all line.content ≡ false

kept_destination : (all before : List MacroLine) (line : MacroLine) (behind : List MacroLine) → broken_macro_line DestinationUnknown all before line behind ≡ None → KeepsDestination all line
unfolding broken_macro_line
kept_destination all before line behind h = not_broken line (breaks_destination all line.content) h

pub keeps_in : (all lines before : List MacroLine) → first_line DestinationUnknown all before lines ≡ None → All (KeepsDestination all) lines
keeps_in all [] before h = none_holds (KeepsDestination all)
keeps_in all (line ∷ lines) before h =
    let both = neither (broken_macro_line DestinationUnknown all before line lines) (first_line DestinationUnknown all (before ++ line ∷ []) lines) h in
    All-cons (KeepsDestination all) line lines (kept_destination all before line lines both.0) (keeps_in all lines (before ++ line ∷ []) both.1)

pcb_sent : (databases : List Dbd) (all : List MacroLine) (content : Macro) → breaks_destination all content ≡ false → IfSome (pcb_in databases content) (IsSentTo (codes_in None all))
unfolding breaks_destination
pcb_sent databases all (DatabasePcb database options) h = tt
pcb_sent databases all (DestinationPcb destination) h =
    let unknown : Bool = not (has (is_terminal_named destination) all || has (is_code_named destination) all) in
    no_pad destination all None (either_false unknown (has (is_conversational destination) all) h).1
pcb_sent databases all ModifiablePcb h = tt
pcb_sent databases all _ h = tt

pcbs_sent : (databases : List Dbd) (all lines : List MacroLine) → All (KeepsDestination all) lines → All (IsSentTo (codes_in None all)) (pcbs_in databases lines)
pcbs_sent databases all [] h = none_holds (IsSentTo (codes_in None all))
pcbs_sent databases all (line ∷ lines) h =
    made_holds (IsSentTo (codes_in None all)) (pcb_in databases line.content) (pcbs_in databases lines)
    (pcb_sent databases all line.content (All-head (KeepsDestination all) line lines h)) (pcbs_sent databases all lines (All-tail (KeepsDestination all) line lines h))

program_sent : (databases : List Dbd) (all : List MacroLine) (content : Macro) → All (KeepsDestination all) all
    → IfSome (program_in (pcbs_for databases all content) content) (λ program. All (IsSentTo (codes_in None all)) program.pcbs)
program_sent databases all (Program name script) h = pcbs_sent databases all (pcbs_of name all) (pcbs_hold (KeepsDestination all) name all h)
program_sent databases all _ h = tt

programs_sent : (databases : List Dbd) (all lines : List MacroLine) → All (KeepsDestination all) all
    → All (λ program. All (IsSentTo (codes_in None all)) program.pcbs) (programs_in databases all lines)
programs_sent databases all [] h = none_holds (λ program. All (IsSentTo (codes_in None all)) program.pcbs)
programs_sent databases all (line ∷ lines) h =
    made_holds (λ program. All (IsSentTo (codes_in None all)) program.pcbs) (program_in (pcbs_for databases all line.content) line.content) (programs_in databases all lines)
    (program_sent databases all line.content h) (programs_sent databases all lines h)

pub destinations_kept : (databases : List Dbd) (all : List MacroLine) → first_line DestinationUnknown all [] all ≡ None
    → All (λ program. All (IsSentTo (codes_in None all)) program.pcbs) (programs_in databases all all)
destinations_kept databases all h = programs_sent databases all all (keeps_in all all [] h)
