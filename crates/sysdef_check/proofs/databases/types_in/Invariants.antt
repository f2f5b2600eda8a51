use Rattle.std.proofs.Common.{◌≡◌, ◌++◌, [], None, IsTrue, length, take, drop}
use Rattle.std.specs.List.{list_all}
use Rattle.sysdef_rules.specs.declared.lookups.MacroKind.TheVariants.{Segments}
use Rattle.sysdef_rules.specs.declared.segments.SegmentRule.TheVariants.{ParentAstray, KeyTooLong}
use Rattle.sysdef_rules.specs.Lookups.{is_of_kind}
use Rattle.sysdef_rules.specs.Segments.{first_segment}
use Rattle.sysdef_check.specs.Systems as spec
use Rattle.sysdef_check.proofs.databases.types_in.Given as goal

abbrev pub invariant-loop-index : goal.invariant-loop-index
invariant-loop-index l = record {
  value : l.types ++ spec.types_in (take l.index l.segments) (drop l.index l.segments) ≡ spec.types_in [] l.segments;
  counted : length l.types ≡ l.index;
  all : IsTrue (list_all (λ line. is_of_kind Segments line.content) (drop l.index l.segments));
  parents : first_segment ParentAstray l.segments (take l.index l.segments) (drop l.index l.segments) ≡ None;
  keys : first_segment KeyTooLong l.segments (take l.index l.segments) (drop l.index l.segments) ≡ None;
}
