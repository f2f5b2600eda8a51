-- What a format keeps that keeps its rule.
use Rattle.std.proofs.Common.{ℕ, ◌≡◌, Bool, true, false, [], refl}
use Rattle.std.specs.Prelude.{None}
use Rattle.std.specs.Option.{option_or}
use Rattle.model_system.specs.FormatRule.{KeepsRule, broken_format_line, no_input, clashing_field, broken_input, broken_output, line_if}
use Rattle.model_system.specs.FormatLines.{FormatLines}
use Rattle.tm_types.proofs.Truths.{neither}

pub not_if : (number : ℕ) (b : Bool) → line_if number b ≡ None → b ≡ false
not_if number false h = refl
not_if number true h = cc

kept_parts : (format : FormatLines) → KeepsRule format
    → option_or (no_input 0 format.input) (option_or (clashing_field [] format.fields) (option_or (broken_input format.fields format.input) (broken_output format.fields format.output))) ≡ None
unfolding broken_format_line
kept_parts format h = h 0

pub no_clash : (format : FormatLines) → KeepsRule format → clashing_field [] format.fields ≡ None
no_clash format h = (neither (clashing_field [] format.fields) _ (neither (no_input 0 format.input) _ (kept_parts format h)).1).0

pub kept_input : (format : FormatLines) → KeepsRule format → broken_input format.fields format.input ≡ None
kept_input format h =
    (neither (broken_input format.fields format.input) _ (neither (clashing_field [] format.fields) _ (neither (no_input 0 format.input) _ (kept_parts format h)).1).1).0

pub some_input : (format : FormatLines) → KeepsRule format → no_input 0 format.input ≡ None
some_input format h = (neither (no_input 0 format.input) _ (kept_parts format h)).0
