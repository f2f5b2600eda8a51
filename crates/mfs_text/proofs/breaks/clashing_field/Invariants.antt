use Rattle.std.proofs.Common.{◌≡◌, [], take, drop}
use Rattle.model_system.specs.FormatRule as spec
use Rattle.mfs_text.proofs.breaks.clashing_field.Given as goal

abbrev pub invariant-loop-index : goal.invariant-loop-index
invariant-loop-index l = spec.clashing_field (take l.index l.fields) (drop l.index l.fields) ≡ spec.clashing_field [] l.fields
