use Rattle.std.proofs.Common.{◌≡◌, drop}
use Rattle.model_system.specs.FormatRule as spec
use Rattle.mfs_text.proofs.breaks.broken_output.Given as goal

abbrev pub invariant-loop-segment : goal.invariant-loop-segment
invariant-loop-segment l = spec.broken_output l.fields (drop l.segment-index l.segments) ≡ spec.broken_output l.fields l.segments
