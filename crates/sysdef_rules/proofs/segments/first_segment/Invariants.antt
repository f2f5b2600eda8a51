use Rattle.std.proofs.Common.{◌≡◌, [], take, drop}
use Rattle.sysdef_rules.specs.Segments as spec
use Rattle.sysdef_rules.proofs.segments.first_segment.Given as goal

abbrev pub invariant-loop-index : goal.invariant-loop-index
invariant-loop-index l =
    spec.first_segment l.rule l.segments (take l.index l.segments) (drop l.index l.segments) ≡ spec.first_segment l.rule l.segments [] l.segments
