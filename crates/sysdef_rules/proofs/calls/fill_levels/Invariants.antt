use Rattle.std.proofs.Common.{◌≡◌, drop, None, option_map}
use Rattle.sysdef_rules.specs.Calls as spec
use Rattle.sysdef_rules.proofs.calls.fill_levels.Given as goal

abbrev pub invariant-loop-index : goal.invariant-loop-index
invariant-loop-index l = spec.fill_levels l.segments (option_map (λ above. above.now) l.above) (drop l.index l.ssas) ≡ spec.fill_levels l.segments None l.ssas
