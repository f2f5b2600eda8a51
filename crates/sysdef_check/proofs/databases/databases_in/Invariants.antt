use Rattle.std.proofs.Common.{◌≡◌, ◌++◌, None, take, drop}
use Rattle.sysdef_rules.specs.declared.cross.CrossRule.TheVariants.{OfSegments, WrongCount}
use Rattle.sysdef_rules.specs.declared.segments.SegmentRule.TheVariants.{ParentAstray, KeyTooLong}
use Rattle.sysdef_rules.specs.Cross.{first_line}
use Rattle.sysdef_check.specs.Systems as spec
use Rattle.sysdef_check.proofs.databases.databases_in.Given as goal

abbrev pub invariant-loop-index : goal.invariant-loop-index
invariant-loop-index l = record {
  value : l.databases.items ++ spec.databases_in (drop l.index l.lines) ≡ spec.databases_in l.lines;
  parents : first_line (OfSegments ParentAstray) l.lines (take l.index l.lines) (drop l.index l.lines) ≡ None;
  keys : first_line (OfSegments KeyTooLong) l.lines (take l.index l.lines) (drop l.index l.lines) ≡ None;
  counts : first_line WrongCount l.lines (take l.index l.lines) (drop l.index l.lines) ≡ None;
}
