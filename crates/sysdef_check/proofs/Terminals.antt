-- Each terminal stands once.
use Rattle.std.proofs.Common.{ℕ, zero, suc, ◌≡◌, ◌+◌, Bool, true, false, List, [], ◌∷◌, ◌++◌, slice_get, Some, None, sym, subst, ap, ◌∙◌, add-zero, zero-add, arith}
use Rattle.std.specs.List.{list_any, position_from}
use Rattle.std.specs.Str.{bytes_eq}
use Rattle.std.proofs.lemmas.Iterator.Adapters.{position_from-zero}
use Rattle.std.proofs.lemmas.List.Folds.{list_any-append}
use Rattle.system_types.specs.declared.definition.Macro.{Macro}
use Rattle.system_types.specs.declared.definition.Macro.TheVariants.{Terminal}
use Rattle.system_types.specs.declared.definition.MacroLine.{MacroLine}
use Rattle.system_types.specs.ValidSystem.{AreApart}
use Rattle.sysdef_rules.specs.declared.cross.CrossRule.TheVariants.{TerminalTwice}
use Rattle.sysdef_rules.specs.Cross.{breaks_terminal, broken_macro_line, first_line}
use Rattle.sysdef_rules.specs.Lookups.{has, is_terminal_named}
use Rattle.sysdef_check.specs.Systems.{value_and_then, terminal_in, terminals_in}
use Rattle.sysdef_check.proofs.Kept.{not_broken}
use Rattle.sysdef_check.proofs.Made.{either_false}
use Rattle.sysdef_check.proofs.Served.{last_passes, same_code}
use Rattle.tm_types.proofs.Truths.{neither}

kept_terminal : (all before : List MacroLine) (line : MacroLine) (behind : List MacroLine) → broken_macro_line TerminalTwice all before line behind ≡ None → breaks_terminal before line.content ≡ false
unfolding broken_macro_line
kept_terminal all before line behind h = not_broken line (breaks_terminal before line.content) h

-- a terminal that is made of a line, or of one behind it, stands in no line before
fresh_by : (before : List MacroLine) (content : Macro) (rest : List (List ℕ)) (place : ℕ) (name : List ℕ) → breaks_terminal before content ≡ false
    → ((n : ℕ) → slice_get rest n ≡ Some name → has (is_terminal_named name) before ≡ false)
    → slice_get (value_and_then (terminal_in content) rest) place ≡ Some name → has (is_terminal_named name) before ≡ false
unfolding breaks_terminal
fresh_by before (Terminal terminal format) rest zero name kept more e =
    let same : terminal ≡ name = cc in
    subst (λ (t : List ℕ). has (is_terminal_named t) before ≡ false) same kept
fresh_by before (Terminal terminal format) rest (suc n) name kept more e = more n e
fresh_by before _ rest place name kept more e = more place e

fresh : (all lines before : List MacroLine) (place : ℕ) (name : List ℕ) → first_line TerminalTwice all before lines ≡ None → slice_get (terminals_in lines) place ≡ Some name
    → has (is_terminal_named name) before ≡ false
fresh all [] before place name kept e = cc
fresh all (line ∷ lines) before place name kept e =
    let both = neither (broken_macro_line TerminalTwice all before line lines) (first_line TerminalTwice all (before ++ line ∷ []) lines) kept in
    fresh_by before line.content (terminals_in lines) place name (kept_terminal all before line lines both.0)
    (λ n at. (either_false (has (is_terminal_named name) before) (has (is_terminal_named name) (line ∷ []))
    (sym (list_any-append (λ l. is_terminal_named name l.content) before (line ∷ [])) ∙ fresh all lines (before ++ line ∷ []) n name both.1 at)).0)
    e

-- a terminal is found at its place, the first of the terminals having a place
apart_by : (content : Macro) (rest : List (List ℕ)) (start place : ℕ) (name : List ℕ)
    → ((n : ℕ) → slice_get rest n ≡ Some name → is_terminal_named name content ≡ false)
    → ((from n : ℕ) → slice_get rest n ≡ Some name → position_from (λ other. bytes_eq other name) from rest ≡ Some (from + n))
    → slice_get (value_and_then (terminal_in content) rest) place ≡ Some name
    → position_from (λ other. bytes_eq other name) start (value_and_then (terminal_in content) rest) ≡ Some (start + place)
apart_by (Terminal terminal format) rest start zero name other more e =
    let same : terminal ≡ name = cc in
    let named : bytes_eq terminal name ≡ true = subst (λ (t : List ℕ). bytes_eq terminal t ≡ true) same (same_code terminal) in
    rw named (ap Some (sym (add-zero start)))
apart_by (Terminal terminal format) rest start (suc n) name other more e =
    let at : start + 1 + n ≡ start + suc n = omega arith in
    rw (other n e) (more (start + 1) n e ∙ ap Some at)
apart_by _ rest start place name other more e = more start place e

apart_from : (all lines before : List MacroLine) (start place : ℕ) (name : List ℕ) → first_line TerminalTwice all before lines ≡ None → slice_get (terminals_in lines) place ≡ Some name
    → position_from (λ other. bytes_eq other name) start (terminals_in lines) ≡ Some (start + place)
apart_from all [] before start place name kept e = cc
apart_from all (line ∷ lines) before start place name kept e =
    let both = neither (broken_macro_line TerminalTwice all before line lines) (first_line TerminalTwice all (before ++ line ∷ []) lines) kept in
    let test : MacroLine → Bool = λ l. is_terminal_named name l.content in
    apart_by line.content (terminals_in lines) start place name
    (λ n at. last_passes test line (either_false (list_any test before) (list_any test (line ∷ []))
    (sym (list_any-append test before (line ∷ [])) ∙ fresh all lines (before ++ line ∷ []) n name both.1 at)).1)
    (λ from n at. apart_from all lines (before ++ line ∷ []) from n name both.1 at)
    e

pub terminals_apart : (all : List MacroLine) → first_line TerminalTwice all [] all ≡ None → AreApart (terminals_in all)
terminals_apart all kept place name e =
    position_from-zero (λ other. bytes_eq other name) (terminals_in all) ∙ apart_from all all [] 0 place name kept e ∙ ap Some (zero-add place)
