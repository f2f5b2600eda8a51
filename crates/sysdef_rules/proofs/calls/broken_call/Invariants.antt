use Rattle.std.proofs.Common.{◌≡◌, drop}
use Rattle.sysdef_rules.specs.Calls as spec
use Rattle.sysdef_rules.proofs.calls.broken_call.Given as goal

abbrev pub invariant-loop-line : goal.invariant-loop-line
invariant-loop-line l = spec.broken_call l.rule l.all l.pcbs (drop l.line-index l.lines) ≡ spec.broken_call l.rule l.all l.pcbs l.lines
