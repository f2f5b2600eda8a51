use Rattle.std.proofs.Common.{◌≡◌, drop}
use Rattle.model_system.specs.FormatRule as spec
use Rattle.mfs_text.proofs.breaks.unknown_source.Given as goal

abbrev pub invariant-loop-line : goal.invariant-loop-line
invariant-loop-line l = spec.unknown_source l.fields (drop l.line-index l.lines) ≡ spec.unknown_source l.fields l.lines
