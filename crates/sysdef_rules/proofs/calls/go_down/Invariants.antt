use Rattle.std.proofs.Common.{◌≡◌, drop, None, option_map}
use Rattle.sysdef_rules.specs.Calls as spec
use Rattle.sysdef_rules.proofs.calls.go_down.Given as goal

abbrev pub invariant-loop-ssa : goal.invariant-loop-ssa
invariant-loop-ssa l = spec.go_down l.segments (option_map (λ above. above.now) l.above) (drop l.ssa-index l.ssas) ≡ spec.go_down l.segments None l.ssas
