use Rattle.std.proofs.Common.{◌≡◌, drop}
use Rattle.model_system.specs.ScreenInput as spec
use Rattle.mfs_edit.proofs.input.unknown_field.Given as goal

abbrev pub invariant-loop-value : goal.invariant-loop-value
invariant-loop-value l = spec.unknown_field l.fields (drop l.value-index l.values) ≡ spec.unknown_field l.fields l.values
