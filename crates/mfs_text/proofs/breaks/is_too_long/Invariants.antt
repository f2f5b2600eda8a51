use Rattle.std.proofs.Common.{◌≡◌, drop, nat_lt}
use Rattle.model_system.specs.FormatRule as spec
use Rattle.mfs_text.proofs.breaks.is_too_long.Given as goal

abbrev pub invariant-loop-line : goal.invariant-loop-line
invariant-loop-line l = nat_lt l.room (spec.segment_bytes_in (drop l.line-index l.lines)) ≡ nat_lt 1996 (spec.segment_bytes_in l.lines)
