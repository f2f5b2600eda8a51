-- Each format keeps the rule among its lines.
use Rattle.std.proofs.Common.{◌≡◌, List, [], ◌∷◌, ◌++◌, None, IfSome, All}
use Rattle.model_system.specs.FormatRule.{KeepsRule}
use Rattle.mfs_text.proofs.Kept.{kept_from}
use Rattle.system_types.specs.declared.definition.Macro.{Macro}
use Rattle.system_types.specs.declared.definition.Macro.TheVariants.{Format}
use Rattle.system_types.specs.declared.definition.MacroLine.{MacroLine}
use Rattle.sysdef_rules.specs.declared.cross.CrossRule.TheVariants.{OfFormats}
use Rattle.sysdef_rules.specs.Cross.{breaks_format, broken_macro_line, broken_within, first_line}
use Rattle.sysdef_rules.specs.Segments.{own_line}
use Rattle.sysdef_check.specs.Systems.{format_in, formats_in}
use Rattle.sysdef_check.proofs.Made.{made_holds, none_holds}
use Rattle.tm_types.proofs.Truths.{neither}

kept_within : (all before : List MacroLine) (line : MacroLine) (behind : List MacroLine) → broken_macro_line OfFormats all before line behind ≡ None → broken_within line line.content ≡ None
unfolding broken_macro_line
kept_within all before line behind h = (neither (own_line line (breaks_format all before line.content)) (broken_within line line.content) h).1

format_kept : (line : MacroLine) (content : Macro) → broken_within line content ≡ None → IfSome (format_in content) (λ format. KeepsRule format.format)
format_kept line (Format name format) h = kept_from line.number format h
format_kept line _ h = tt

kept_in : (all lines before : List MacroLine) → first_line OfFormats all before lines ≡ None → All (λ format. KeepsRule format.format) (formats_in lines)
kept_in all [] before h = none_holds (λ format. KeepsRule format.format)
kept_in all (line ∷ lines) before h =
    let both = neither (broken_macro_line OfFormats all before line lines) (first_line OfFormats all (before ++ line ∷ []) lines) h in
    made_holds (λ format. KeepsRule format.format) (format_in line.content) (formats_in lines) (format_kept line line.content (kept_within all before line lines both.0))
    (kept_in all lines (before ++ line ∷ []) both.1)

pub formats_kept : (all : List MacroLine) → first_line OfFormats all [] all ≡ None → All (λ format. KeepsRule format.format) (formats_in all)
formats_kept all h = kept_in all all [] h
