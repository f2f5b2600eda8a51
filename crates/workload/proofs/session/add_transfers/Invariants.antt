use Rattle.std.proofs.Common.{◌≡◌, ◌≤◌, ◌+◌, ◌++◌}
use Rattle.workload.specs.Draws.{seeded}
use Rattle.workload.specs.Session.{transfers}
use Rattle.workload.proofs.Sending.{transfers_from}
use Rattle.workload.proofs.session.add_transfers.Given as goal

abbrev pub invariant-loop-number : goal.invariant-loop-number
invariant-loop-number l =
    record {
      text : l.out ++ transfers_from l.generator l.count l.number (l.count + 1) ≡ l.fn.out ++ transfers (seeded l.seed) l.count;
      within : l.number ≤ l.count + 1;
    }
