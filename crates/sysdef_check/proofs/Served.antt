-- Each code has a program, and stands once.
use Rattle.std.proofs.Common.{ℕ, zero, suc, ◌≡◌, ◌+◌, ◌||◌, cond, Bool, true, false, List, [], ◌∷◌, ◌++◌, get_or, slice_get, Option, Some, None, IfSome, IsSome, All, refl, sym, subst, ap, ◌∙◌, add-zero, zero-add, arith}
use Rattle.std.specs.List.{list_any, position_from}
use Rattle.std.specs.Str.{bytes_eq}
use Rattle.std.proofs.lemmas.Bool.{false≢true}
use Rattle.std.proofs.lemmas.Iterator.Adapters.{position_from-zero}
use Rattle.std.proofs.lemmas.List.Folds.{list_any-append}
use Rattle.std.proofs.lemmas.Slice.Eq.{bytes_eq-Decides}
use Rattle.tm_types.specs.declared.dbd.Dbd.{Dbd}
use Rattle.model_system.specs.declared.code.Code.{Code}
use Rattle.model_system.specs.declared.pcb.Pcb.{Pcb}
use Rattle.model_system.specs.declared.system_program.SystemProgram.{SystemProgram}
use Rattle.model_system.specs.Codes.{code_place}
use Rattle.model_system.specs.Jobs.{program_at}
use Rattle.system_types.specs.declared.definition.Macro.{Macro}
use Rattle.system_types.specs.declared.definition.Macro.TheVariants.{Application, Transaction, Program}
use Rattle.system_types.specs.declared.definition.MacroLine.{MacroLine}
use Rattle.sysdef_rules.specs.declared.cross.CrossRule.TheVariants.{CodeTwice, ProgramMissing}
use Rattle.sysdef_rules.specs.Cross.{breaks_application, breaks_code, broken_macro_line, first_line}
use Rattle.sysdef_rules.specs.Lookups.{has, is_code_named, is_program_named, is_terminal_named}
use Rattle.sysdef_check.specs.Systems.{value_and_then, code_in, codes_in, psb_after, pcbs_for, program_in, programs_in}
use Rattle.sysdef_check.proofs.Kept.{not_broken}
use Rattle.sysdef_check.proofs.Made.{either_false, made_holds, none_holds}
use Rattle.tm_types.proofs.Truths.{neither}
use Rattle.sysdef_check.proofs.Paths.{not_false}

-- the program of a name that a PROGRAM has is there
there_by : (b more : Bool) (program : SystemProgram) (found : Option SystemProgram) → (more ≡ true → IsSome found) → (b || more) ≡ true → IsSome (cond b (Some program) found)
there_by true more program found rest h = refl
there_by false more program found rest h = rest h

there_in : (pcbs : List Pcb) (content : Macro) (name : List ℕ) (more : Bool) (rest : List SystemProgram) → (more ≡ true → IsSome (program_at rest name)) → (is_program_named name content || more) ≡ true
    → IsSome (program_at (value_and_then (program_in pcbs content) rest) name)
there_in pcbs (Program program lines) name more rest behind h =
    there_by (bytes_eq program name) more (record { psb = program; pcbs = pcbs; program = lines }) (program_at rest name) behind h
there_in pcbs _ name more rest behind h = behind h

pub program_there : (databases : List Dbd) (all lines : List MacroLine) (name : List ℕ) → has (is_program_named name) lines ≡ true → IsSome (program_at (programs_in databases all lines) name)
program_there databases all [] name h = absurd (false≢true h)
program_there databases all (line ∷ lines) name h =
    there_in (pcbs_for databases all line.content) line.content name (has (is_program_named name) lines) (programs_in databases all lines) (program_there databases all lines name) h

-- a PSB has its program
abbrev HasProgram : List MacroLine → Option (List ℕ) → Type 0
HasProgram all psb = IfSome psb (λ name. has (is_program_named name) all ≡ true)

kept_psb : (all before : List MacroLine) (line : MacroLine) (behind : List MacroLine) → broken_macro_line ProgramMissing all before line behind ≡ None → breaks_application all line.content ≡ false
unfolding broken_macro_line
kept_psb all before line behind h = not_broken line (breaks_application all line.content) h

psb_next : (all : List MacroLine) (psb : Option (List ℕ)) (content : Macro) → HasProgram all psb → breaks_application all content ≡ false → HasProgram all (psb_after psb content)
unfolding breaks_application
psb_next all psb (Application name) h kept = not_false (has (is_program_named name) all) kept
psb_next all psb _ h kept = h

code_served : (all : List MacroLine) (psb : Option (List ℕ)) (content : Macro) → HasProgram all psb → IfSome (code_in psb content) (λ code. has (is_program_named code.psb) all ≡ true)
code_served all None content h = tt
code_served all (Some name) (Transaction transaction) h = h
code_served all (Some name) _ h = tt

served_in : (all lines before : List MacroLine) (psb : Option (List ℕ)) → HasProgram all psb → first_line ProgramMissing all before lines ≡ None
    → All (λ code. has (is_program_named code.psb) all ≡ true) (codes_in psb lines)
served_in all [] before psb h kept = none_holds (λ code. has (is_program_named code.psb) all ≡ true)
served_in all (line ∷ lines) before psb h kept =
    let both = neither (broken_macro_line ProgramMissing all before line lines) (first_line ProgramMissing all (before ++ line ∷ []) lines) kept in
    let next = psb_next all psb line.content h (kept_psb all before line lines both.0) in
    made_holds (λ code. has (is_program_named code.psb) all ≡ true) (code_in psb line.content) (codes_in (psb_after psb line.content) lines) (code_served all psb line.content h)
    (served_in all lines (before ++ line ∷ []) (psb_after psb line.content) next both.1)

programs_of : (databases : List Dbd) (all : List MacroLine) (codes : List Code) → All (λ code. has (is_program_named code.psb) all ≡ true) codes
    → All (λ code. IsSome (program_at (programs_in databases all all) code.psb)) codes
programs_of databases all codes h = λ k d below. program_there databases all all (get_or codes k d).psb (h k d below)

pub codes_served : (databases : List Dbd) (all : List MacroLine) → first_line ProgramMissing all [] all ≡ None
    → All (λ code. IsSome (program_at (programs_in databases all all) code.psb)) (codes_in None all)
codes_served databases all kept = programs_of databases all (codes_in None all) (served_in all all [] None tt kept)

-- a code that is made of a line, or of one behind it, stands in no line before
kept_code : (all before : List MacroLine) (line : MacroLine) (behind : List MacroLine) → broken_macro_line CodeTwice all before line behind ≡ None → breaks_code all before line.content ≡ false
unfolding broken_macro_line
kept_code all before line behind h = not_broken line (breaks_code all before line.content) h

fresh_by : (all before : List MacroLine) (psb : Option (List ℕ)) (content : Macro) (rest : List Code) (place : ℕ) (code : Code) → breaks_code all before content ≡ false
    → ((n : ℕ) → slice_get rest n ≡ Some code → has (is_code_named code.transaction.code) before ≡ false)
    → slice_get (value_and_then (code_in psb content) rest) place ≡ Some code → has (is_code_named code.transaction.code) before ≡ false
unfolding breaks_code
fresh_by all before None content rest place code kept more e = more place e
fresh_by all before (Some name) (Transaction transaction) rest zero code kept more e =
    let same : transaction ≡ code.transaction = cc in
    subst (λ t. has (is_code_named t.code) before ≡ false) same (either_false (has (is_code_named transaction.code) before) (has (is_terminal_named transaction.code) all) kept).0
fresh_by all before (Some name) (Transaction transaction) rest (suc n) code kept more e = more n e
fresh_by all before (Some name) _ rest place code kept more e = more place e

pub fresh : (all lines before : List MacroLine) (psb : Option (List ℕ)) (place : ℕ) (code : Code) → first_line CodeTwice all before lines ≡ None → slice_get (codes_in psb lines) place ≡ Some code
    → has (is_code_named code.transaction.code) before ≡ false
fresh all [] before psb place code kept e = cc
fresh all (line ∷ lines) before psb place code kept e =
    let both = neither (broken_macro_line CodeTwice all before line lines) (first_line CodeTwice all (before ++ line ∷ []) lines) kept in
    fresh_by all before psb line.content (codes_in (psb_after psb line.content) lines) place code (kept_code all before line lines both.0)
    (λ n at. (either_false (has (is_code_named code.transaction.code) before) (has (is_code_named code.transaction.code) (line ∷ []))
    (sym (list_any-append (λ l. is_code_named code.transaction.code l.content) before (line ∷ [])) ∙ fresh all lines (before ++ line ∷ []) (psb_after psb line.content) n code both.1 at)).0)
    e

pub same_code : (code : List ℕ) → bytes_eq code code ≡ true
same_code code = (bytes_eq-Decides code code).1 refl

-- a code is found at its place, the first of the codes having a place
apart_by : (psb : Option (List ℕ)) (content : Macro) (rest : List Code) (start place : ℕ) (code : Code)
    → ((n : ℕ) → slice_get rest n ≡ Some code → is_code_named code.transaction.code content ≡ false)
    → ((from n : ℕ) → slice_get rest n ≡ Some code → position_from (λ c. bytes_eq c.transaction.code code.transaction.code) from rest ≡ Some (from + n))
    → slice_get (value_and_then (code_in psb content) rest) place ≡ Some code
    → position_from (λ c. bytes_eq c.transaction.code code.transaction.code) start (value_and_then (code_in psb content) rest) ≡ Some (start + place)
apart_by None content rest start place code other more e = more start place e
apart_by (Some name) (Transaction transaction) rest start zero code other more e =
    let same : transaction ≡ code.transaction = cc in
    let named : bytes_eq transaction.code code.transaction.code ≡ true = subst (λ t. bytes_eq transaction.code t.code ≡ true) same (same_code transaction.code) in
    rw named (ap Some (sym (add-zero start)))
apart_by (Some name) (Transaction transaction) rest start (suc n) code other more e =
    let at : start + 1 + n ≡ start + suc n = omega arith in
    rw (other n e) (more (start + 1) n e ∙ ap Some at)
apart_by (Some name) _ rest start place code other more e = more start place e

pub last_passes : (test : MacroLine → Bool) (line : MacroLine) → list_any test (line ∷ []) ≡ false → test line ≡ false
last_passes test line h = (either_false (test line) false h).0

apart_from : (all lines before : List MacroLine) (psb : Option (List ℕ)) (start place : ℕ) (code : Code) → first_line CodeTwice all before lines ≡ None → slice_get (codes_in psb lines) place ≡ Some code
    → position_from (λ c. bytes_eq c.transaction.code code.transaction.code) start (codes_in psb lines) ≡ Some (start + place)
apart_from all [] before psb start place code kept e = cc
apart_from all (line ∷ lines) before psb start place code kept e =
    let both = neither (broken_macro_line CodeTwice all before line lines) (first_line CodeTwice all (before ++ line ∷ []) lines) kept in
    let test : MacroLine → Bool = λ l. is_code_named code.transaction.code l.content in
    apart_by psb line.content (codes_in (psb_after psb line.content) lines) start place code
    (λ n at. last_passes test line (either_false (list_any test before) (list_any test (line ∷ []))
    (sym (list_any-append test before (line ∷ [])) ∙ fresh all lines (before ++ line ∷ []) (psb_after psb line.content) n code both.1 at)).1)
    (λ from n at. apart_from all lines (before ++ line ∷ []) (psb_after psb line.content) from n code both.1 at)
    e

pub codes_apart : (all : List MacroLine) → first_line CodeTwice all [] all ≡ None
    → (place : ℕ) (code : Code) → slice_get (codes_in None all) place ≡ Some code → code_place (codes_in None all) code.transaction.code ≡ Some place
codes_apart all kept place code e =
    position_from-zero (λ c. bytes_eq c.transaction.code code.transaction.code) (codes_in None all) ∙ apart_from all all [] None 0 place code kept e ∙ ap Some (zero-add place)
