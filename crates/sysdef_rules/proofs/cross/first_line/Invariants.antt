use Rattle.std.proofs.Common.{◌≡◌, [], take, drop}
use Rattle.sysdef_rules.specs.Cross as spec
use Rattle.sysdef_rules.proofs.cross.first_line.Given as goal

abbrev pub invariant-loop-index : goal.invariant-loop-index
invariant-loop-index l = record {
  before : l.before ≡ take l.index l.lines;
  kept : spec.first_line l.rule l.all (take l.index l.lines) (drop l.index l.lines) ≡ spec.first_line l.rule l.all [] l.all;
}
