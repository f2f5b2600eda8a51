use Rattle.std.proofs.Common.{◌≡◌, drop, find}
use Rattle.sysdef_rules.specs.Lookups as spec
use Rattle.sysdef_rules.proofs.lookups.segment_named.Given as goal

abbrev pub invariant-loop-line : goal.invariant-loop-line
invariant-loop-line l = find (λ line. spec.is_segment_named l.name line.content) (drop l.line-index l.segments) ≡ find (λ line. spec.is_segment_named l.name line.content) l.segments
