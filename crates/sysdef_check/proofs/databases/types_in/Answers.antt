use Rattle.std.proofs.Common.{[], arith}
use Rattle.sysdef_rules.specs.declared.lookups.MacroKind.TheVariants.{Segments}
use Rattle.sysdef_rules.specs.declared.segments.SegmentRule.TheVariants.{ParentAstray, KeyTooLong}
use Rattle.sysdef_rules.specs.Lookups.{is_of_kind}
use Rattle.system_types.specs.Definitions.{IsInRange}
use Rattle.sysdef_check.specs.Systems.{types_in}
use Rattle.sysdef_check.proofs.Kept.{at_index, kept_segment, kept_test}
use Rattle.sysdef_check.proofs.Types.{types_step}
use Rattle.sysdef_check.proofs.databases.types_in.Goals as goal

pub add_type-requires-clause-range : goal.add_type-requires-clause-range
add_type-requires-clause-range c =
    at_index (λ line. IsInRange line.content) c.args.segments.now c.loop-index.index c.index-segments-index.result c.loop-index-test.true c.index-segments-index.is c.requires.range

pub loop-index-preserved : goal.loop-index-preserved
loop-index-preserved c =
    let lines = c.args.segments.now in
    let index = c.loop-index.index in
    let line = c.index-segments-index.result in
    let parents = kept_segment ParentAstray lines lines index line c.loop-index-test.true c.index-segments-index.is c.loop-index.invariant.parents in
    let keys = kept_segment KeyTooLong lines lines index line c.loop-index-test.true c.index-segments-index.is c.loop-index.invariant.keys in
    let all = kept_test (λ l. is_of_kind Segments l.content) lines index line c.loop-index-test.true c.index-segments-index.is c.loop-index.invariant.all in
    record {
      value = types_step lines index line c.loop-index.types c.add_type.new.types (types_in [] lines) c.loop-index-test.true c.index-segments-index.is c.in_ok-add_type.ensures.value c.loop-index.invariant.value;
      counted = omega (arith, c.loop-index.invariant.counted, c.in_ok-add_type.ensures.counted);
      all = all.1;
      parents = parents.1;
      keys = keys.1;
    }
