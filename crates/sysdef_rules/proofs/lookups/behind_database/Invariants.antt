use Rattle.std.proofs.Common.{◌≡◌, drop}
use Rattle.sysdef_rules.specs.Lookups as spec
use Rattle.sysdef_rules.proofs.lookups.behind_database.Given as goal

abbrev pub invariant-loop-index : goal.invariant-loop-index
invariant-loop-index l = spec.lines_behind_first (spec.is_database l.name) (drop l.index l.lines) ≡ spec.lines_behind_first (spec.is_database l.name) l.lines
