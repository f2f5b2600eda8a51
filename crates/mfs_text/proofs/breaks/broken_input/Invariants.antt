use Rattle.std.proofs.Common.{◌≡◌, drop}
use Rattle.model_system.specs.FormatRule as spec
use Rattle.mfs_text.proofs.breaks.broken_input.Given as goal

abbrev pub invariant-loop-segment : goal.invariant-loop-segment
invariant-loop-segment l = spec.broken_input l.fields (drop l.segment-index l.segments) ≡ spec.broken_input l.fields l.segments
