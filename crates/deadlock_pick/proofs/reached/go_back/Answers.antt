use Rattle.std.proofs.Common.{arith}
use Rattle.model_data.specs.Cycle.{IsTableRegion}
use Rattle.deadlock_pick.proofs.Reaching.{begins_on, next_regions, next_begins, next_all}
use Rattle.deadlock_pick.proofs.reached.go_back.Goals as goal

pub loop-next-preserved : goal.loop-next-preserved
loop-next-preserved c =
    let table = c.args.table.now in
    let there : IsTableRegion c.args.table.now c.loop-next.next = (omega arith, omega (arith, c.regions-next-end.ensures.value)) in
    record {
      regions = next_regions table c.args.from c.loop-next.next c.loop-next.reaching c.add_next.new.reaching c.add_next.ensures there c.loop-next.invariant.regions;
      more = begins_on c.args.reaching.now c.loop-next.reaching c.add_next.new.reaching c.loop-next.invariant.more
          (next_begins table c.args.from c.loop-next.next c.loop-next.reaching c.add_next.new.reaching c.add_next.ensures there);
      all = next_all table c.args.from c.loop-next.next c.loop-next.reaching c.add_next.new.reaching c.add_next.ensures there c.loop-next.invariant.all;
    }
