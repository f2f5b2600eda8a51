use Rattle.std.proofs.Common.{◌≡◌, ◌-◌, length}
use Rattle.sysdef_rules.specs.Lookups.{parent_named}
use Rattle.sysdef_rules.specs.Calls as spec
use Rattle.sysdef_rules.proofs.calls.is_descendant.Given as goal

abbrev pub invariant-loop : goal.invariant-loop
invariant-loop l = spec.is_above l.segments l.above (l.end - l.counter) l.parent ≡ spec.is_above l.segments l.above (length l.segments) (parent_named l.segments l.name)
