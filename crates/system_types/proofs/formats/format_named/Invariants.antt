use Rattle.std.proofs.Common.{◌≡◌, drop, All}
use Rattle.model_system.specs.FormatRule.{KeepsRule}
use Rattle.model_system.specs.SystemFormats as spec
use Rattle.system_types.proofs.formats.format_named.Given as goal

abbrev pub invariant-loop-format : goal.invariant-loop-format
invariant-loop-format l =
    (spec.format_named (drop l.format-index l.formats) l.name ≡ spec.format_named l.formats l.name)
    × All (λ format. KeepsRule format.format) (drop l.format-index l.formats)
