use Rattle.std.proofs.Common.{◌+◌, take, drop}
use Rattle.sysdef_rules.specs.declared.cross.CrossRule.TheVariants.{OfSegments, WrongCount}
use Rattle.sysdef_rules.specs.declared.segments.SegmentRule.TheVariants.{ParentAstray, KeyTooLong}
use Rattle.system_types.specs.Definitions.{IsInRange}
use Rattle.sysdef_check.specs.Systems.{databases_in}
use Rattle.sysdef_check.proofs.Kept.{behind_all, behind_index, kept_count, kept_database, kept_line}
use Rattle.sysdef_check.proofs.Types.{databases_step}
use Rattle.sysdef_check.proofs.databases.databases_in.Goals as goal

pub add_database-requires-clause-parents : goal.add_database-requires-clause-parents
add_database-requires-clause-parents c =
    let lines = c.args.lines.now in
    let index = c.loop-index.index in
    let line = c.index-lines-index.result in
    let kept = kept_line (OfSegments ParentAstray) lines lines index line c.loop-index-test.true c.index-lines-index.is c.loop-index.invariant.parents in
    rw (behind_index lines (index + 1)) (kept_database ParentAstray lines (take index lines) line (drop (index + 1) lines) kept.0)

pub add_database-requires-clause-keys : goal.add_database-requires-clause-keys
add_database-requires-clause-keys c =
    let lines = c.args.lines.now in
    let index = c.loop-index.index in
    let line = c.index-lines-index.result in
    let kept = kept_line (OfSegments KeyTooLong) lines lines index line c.loop-index-test.true c.index-lines-index.is c.loop-index.invariant.keys in
    rw (behind_index lines (index + 1)) (kept_database KeyTooLong lines (take index lines) line (drop (index + 1) lines) kept.0)

pub add_database-requires-clause-few : goal.add_database-requires-clause-few
add_database-requires-clause-few c =
    let lines = c.args.lines.now in
    let index = c.loop-index.index in
    let line = c.index-lines-index.result in
    let kept = kept_line WrongCount lines lines index line c.loop-index-test.true c.index-lines-index.is c.loop-index.invariant.counts in
    rw (behind_index lines (index + 1)) (kept_count lines (take index lines) line (drop (index + 1) lines) kept.0).1

pub add_database-requires-clause-range : goal.add_database-requires-clause-range
add_database-requires-clause-range c = behind_all (λ line. IsInRange line.content) c.args.lines.now (c.loop-index.index + 1) c.requires.range

pub loop-index-preserved : goal.loop-index-preserved
loop-index-preserved c =
    let lines = c.args.lines.now in
    let index = c.loop-index.index in
    let line = c.index-lines-index.result in
    let added = rw (behind_index lines (index + 1)) at c.in_ok-add_database.ensures in
    record {
      value = databases_step lines index line c.loop-index.databases.items c.add_database.new.databases.items (databases_in lines) c.loop-index-test.true c.index-lines-index.is added c.loop-index.invariant.value;
      parents = (kept_line (OfSegments ParentAstray) lines lines index line c.loop-index-test.true c.index-lines-index.is c.loop-index.invariant.parents).1;
      keys = (kept_line (OfSegments KeyTooLong) lines lines index line c.loop-index-test.true c.index-lines-index.is c.loop-index.invariant.keys).1;
      counts = (kept_line WrongCount lines lines index line c.loop-index-test.true c.index-lines-index.is c.loop-index.invariant.counts).1;
    }
