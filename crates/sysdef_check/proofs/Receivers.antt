-- The destination of each PCB is a terminal or a code.
use Rattle.std.proofs.Common.{ℕ, ◌≡◌, ◌+◌, ◌⊎◌, inl, inr, ◌||◌, cond, not, Bool, true, false, List, [], ◌∷◌, position, Option, Some, None, IfSome, IsSome, IsTrue, All, refl, sym, subst}
use Rattle.std.specs.Str.{bytes_eq}
use Rattle.std.specs.List.{position_from}
use Rattle.std.proofs.lemmas.Bool.{false≢true}
use Rattle.std.proofs.lemmas.Iterator.Adapters.{position_from-zero}
use Rattle.std.proofs.lemmas.List.Elements.{All-head, All-tail}
use Rattle.tm_types.specs.declared.dbd.Dbd.{Dbd}
use Rattle.model_system.specs.declared.code.Code.{Code}
use Rattle.model_system.specs.Codes.{code_at}
use Rattle.system_types.specs.declared.definition.Macro.{Macro}
use Rattle.system_types.specs.declared.definition.Macro.TheVariants.{Application, DatabasePcb, DestinationPcb, ModifiablePcb, Transaction, Terminal, Program}
use Rattle.system_types.specs.declared.definition.MacroLine.{MacroLine}
use Rattle.system_types.specs.Definitions.{are_applied, is_application, may_stand}
use Rattle.system_types.specs.ValidSystem.{IsKnownTo}
use Rattle.sysdef_rules.specs.declared.cross.CrossRule.TheVariants.{DestinationUnknown}
use Rattle.sysdef_rules.specs.Cross.{breaks_destination, first_line}
use Rattle.sysdef_rules.specs.Lookups.{has, is_code_named, is_conversational, is_terminal_named, pcbs_of}
use Rattle.sysdef_check.specs.Systems.{value_and_then, code_in, codes_in, psb_after, pcb_in, pcbs_in, pcbs_for, program_in, programs_in, terminal_in, terminals_in}
use Rattle.sysdef_check.proofs.Kept.{and_parts}
use Rattle.sysdef_check.proofs.Made.{either_false, made_holds, none_holds}
use Rattle.sysdef_check.proofs.Pads.{KeepsDestination, keeps_in}
use Rattle.sysdef_check.proofs.Servable.{pcbs_hold}
use Rattle.sysdef_check.proofs.Paths.{not_false}

-- a terminal that stands in a macro has a place, the first of all having any
found_from : (b more : Bool) (start : ℕ) (found : Option ℕ) → (more ≡ true → IsSome found) → (b || more) ≡ true → IsSome (cond b (Some start) found)
found_from true more start found rest h = refl
found_from false more start found rest h = rest h

terminal_by : (name : List ℕ) (content : Macro) (rest : List (List ℕ)) (more : Bool) (start : ℕ)
    → ((from : ℕ) → more ≡ true → IsSome (position_from (λ other. bytes_eq other name) from rest))
    → (is_terminal_named name content || more) ≡ true → IsSome (position_from (λ other. bytes_eq other name) start (value_and_then (terminal_in content) rest))
terminal_by name (Terminal terminal format) rest more start behind h = found_from (bytes_eq terminal name) more start _ (behind (start + 1)) h
terminal_by name _ rest more start behind h = behind start h

terminal_from : (name : List ℕ) (lines : List MacroLine) (start : ℕ) → has (is_terminal_named name) lines ≡ true → IsSome (position_from (λ other. bytes_eq other name) start (terminals_in lines))
terminal_from name [] start h = absurd (false≢true h)
terminal_from name (line ∷ lines) start h =
    terminal_by name line.content (terminals_in lines) (has (is_terminal_named name) lines) start (λ from. terminal_from name lines from) h

terminal_there : (name : List ℕ) (lines : List MacroLine) → has (is_terminal_named name) lines ≡ true → IsSome (position (λ other. bytes_eq other name) (terminals_in lines))
terminal_there name lines h = subst IsSome (sym (position_from-zero (λ other. bytes_eq other name) (terminals_in lines))) (terminal_from name lines 0 h)

-- so has a code, as it stands behind an APPLCTN
abbrev HasPsb : Bool → Option (List ℕ) → Type 0
HasPsb applied psb = applied ≡ true → IsSome psb

psb_next : (applied : Bool) (psb : Option (List ℕ)) (content : Macro) → HasPsb applied psb → HasPsb (applied || is_application content) (psb_after psb content)
psb_next true psb (Application name) h e = refl
psb_next false psb (Application name) h e = refl
psb_next true psb _ h e = h refl
psb_next false psb _ h e = h e

code_found : (b more : Bool) (code : Code) (found : Option Code) → (more ≡ true → IsSome found) → (b || more) ≡ true → IsSome (cond b (Some code) found)
code_found true more code found rest h = refl
code_found false more code found rest h = rest h

code_by : (name : List ℕ) (applied : Bool) (psb : Option (List ℕ)) (content : Macro) (rest : List Code) (more : Bool) → HasPsb applied psb → may_stand applied content ≡ true
    → (more ≡ true → IsSome (code_at rest name)) → (is_code_named name content || more) ≡ true → IsSome (code_at (value_and_then (code_in psb content) rest) name)
code_by name applied None (Transaction transaction) rest more some may behind h = absurd (false≢true (some may))
code_by name applied (Some psb) (Transaction transaction) rest more some may behind h =
    code_found (bytes_eq transaction.code name) more (record { psb = psb; transaction = transaction }) (code_at rest name) behind h
code_by name applied None _ rest more some may behind h = behind h
code_by name applied (Some psb) _ rest more some may behind h = behind h

code_there : (name : List ℕ) (lines : List MacroLine) (applied : Bool) (psb : Option (List ℕ)) → HasPsb applied psb → are_applied applied lines ≡ true → has (is_code_named name) lines ≡ true
    → IsSome (code_at (codes_in psb lines) name)
code_there name [] applied psb some stand h = absurd (false≢true h)
code_there name (line ∷ lines) applied psb some stand h =
    let both = and_parts (may_stand applied line.content) (are_applied (applied || is_application line.content) lines) stand in
    code_by name applied psb line.content (codes_in (psb_after psb line.content) lines) (has (is_code_named name) lines) some both.0
    (code_there name lines (applied || is_application line.content) (psb_after psb line.content) (psb_next applied psb line.content some) both.1) h

-- one of two
one_of : (a b : Bool) → (a || b) ≡ true → (a ≡ true) ⊎ (b ≡ true)
one_of true b h = inl refl
one_of false b h = inr h

either_there : (name : List ℕ) (all : List MacroLine) → are_applied false all ≡ true → (has (is_terminal_named name) all ≡ true) ⊎ (has (is_code_named name) all ≡ true)
    → IsSome (position (λ other. bytes_eq other name) (terminals_in all)) ⊎ IsSome (code_at (codes_in None all) name)
either_there name all stand (inl h) = inl (terminal_there name all h)
either_there name all stand (inr h) = inr (code_there name all false None (λ e. absurd (false≢true e)) stand h)

pcb_known : (databases : List Dbd) (all : List MacroLine) (content : Macro) → are_applied false all ≡ true → breaks_destination all content ≡ false
    → IfSome (pcb_in databases content) (IsKnownTo (terminals_in all) (codes_in None all))
unfolding breaks_destination
pcb_known databases all (DatabasePcb database options) stand h = tt
pcb_known databases all (DestinationPcb name) stand h =
    let known : Bool = has (is_terminal_named name) all || has (is_code_named name) all in
    either_there name all stand (one_of (has (is_terminal_named name) all) (has (is_code_named name) all) (not_false known (either_false (not known) (has (is_conversational name) all) h).0))
pcb_known databases all ModifiablePcb stand h = tt
pcb_known databases all _ stand h = tt

pcbs_known : (databases : List Dbd) (all lines : List MacroLine) → are_applied false all ≡ true → All (KeepsDestination all) lines
    → All (IsKnownTo (terminals_in all) (codes_in None all)) (pcbs_in databases lines)
pcbs_known databases all [] stand h = none_holds (IsKnownTo (terminals_in all) (codes_in None all))
pcbs_known databases all (line ∷ lines) stand h =
    made_holds (IsKnownTo (terminals_in all) (codes_in None all)) (pcb_in databases line.content) (pcbs_in databases lines)
    (pcb_known databases all line.content stand (All-head (KeepsDestination all) line lines h)) (pcbs_known databases all lines stand (All-tail (KeepsDestination all) line lines h))

program_known : (databases : List Dbd) (all : List MacroLine) (content : Macro) → are_applied false all ≡ true → All (KeepsDestination all) all
    → IfSome (program_in (pcbs_for databases all content) content) (λ program. All (IsKnownTo (terminals_in all) (codes_in None all)) program.pcbs)
program_known databases all (Program name script) stand h = pcbs_known databases all (pcbs_of name all) stand (pcbs_hold (KeepsDestination all) name all h)
program_known databases all _ stand h = tt

programs_known : (databases : List Dbd) (all lines : List MacroLine) → are_applied false all ≡ true → All (KeepsDestination all) all
    → All (λ program. All (IsKnownTo (terminals_in all) (codes_in None all)) program.pcbs) (programs_in databases all lines)
programs_known databases all [] stand h = none_holds (λ program. All (IsKnownTo (terminals_in all) (codes_in None all)) program.pcbs)
programs_known databases all (line ∷ lines) stand h =
    made_holds (λ program. All (IsKnownTo (terminals_in all) (codes_in None all)) program.pcbs) (program_in (pcbs_for databases all line.content) line.content) (programs_in databases all lines)
    (program_known databases all line.content stand h) (programs_known databases all lines stand h)

pub receivers_known : (databases : List Dbd) (all : List MacroLine) → IsTrue (are_applied false all) → first_line DestinationUnknown all [] all ≡ None
    → All (λ program. All (IsKnownTo (terminals_in all) (codes_in None all)) program.pcbs) (programs_in databases all all)
receivers_known databases all stand h = programs_known databases all all stand (keeps_in all all [] h)
