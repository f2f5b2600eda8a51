-- One line more is counted.
use Rattle.std.proofs.Common.{◌≡◌, ℕ, ◌+◌, ◌<◌, true, false, List, length, take, get_or, sym, ap, ◌∙◌}
use Rattle.std.proofs.lemmas.List.Sums.{count_by_more_yes, count_by_more_no}
use Rattle.system_types.specs.declared.definition.MacroLine.{MacroLine}
use Rattle.sysdef_rules.specs.declared.lookups.MacroKind.{MacroKind}
use Rattle.sysdef_rules.specs.Lookups.{count, is_of_kind}

pub counted_line : (kind : MacroKind) (lines : List MacroLine) (index n : ℕ) (line : MacroLine) → index < length lines → line ≡ get_or lines index line
    → n ≡ count kind (take index lines) → is_of_kind kind line.content ≡ true → n + 1 ≡ count kind (take (index + 1) lines)
counted_line kind lines index n line below here so counted =
    ap (λ k. k + 1) so ∙ sym (count_by_more_yes (λ l. is_of_kind kind l.content) lines index line below (ap (λ l. is_of_kind kind l.content) (sym here) ∙ counted))

pub passed_line : (kind : MacroKind) (lines : List MacroLine) (index n : ℕ) (line : MacroLine) → index < length lines → line ≡ get_or lines index line
    → n ≡ count kind (take index lines) → is_of_kind kind line.content ≡ false → n ≡ count kind (take (index + 1) lines)
passed_line kind lines index n line below here so passed =
    so ∙ sym (count_by_more_no (λ l. is_of_kind kind l.content) lines index line below (ap (λ l. is_of_kind kind l.content) (sym here) ∙ passed))

pub ruleset counted_steps = (counted_line, passed_line)
