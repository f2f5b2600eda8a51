use Rattle.std.proofs.Common.{◌≡◌, drop}
use Rattle.sysdef_rules.specs.Cross as spec
use Rattle.sysdef_rules.proofs.cross.keep_all.Given as goal

abbrev pub invariant-loop-rule : goal.invariant-loop-rule
invariant-loop-rule l = spec.keeps_all (drop l.rule-index l.rules) l.all ≡ spec.keeps_all l.rules l.all
