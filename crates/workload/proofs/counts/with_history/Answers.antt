-- the entry at a place is the next one
use Rattle.std.proofs.Common.{◌<◌, arith, rules, length}
use Rattle.workload.proofs.Counting.{entry_more}
use Rattle.workload.proofs.counts.with_history.Goals as goal

pub loop-place-preserved : goal.loop-place-preserved
loop-place-preserved c =
    let below : c.loop-place.place < length c.args.history.now = search (rules) in
    record {
      counts = entry_more c.args.before c.loop-place.counts c.in_ok-counts.counts c.args.history.now c.loop-place.place below c.in_ok-counts.ensures c.loop-place.invariant.counts;
      within = omega (arith, below);
    }
