use Rattle.std.proofs.Common.{◌≡◌, ◌≤◌, ◌+◌, ◌++◌}
use Rattle.workload.specs.Session.{openings}
use Rattle.workload.proofs.Sending.{openings_from}
use Rattle.workload.proofs.session.add_openings.Given as goal

abbrev pub invariant-loop-number : goal.invariant-loop-number
invariant-loop-number l =
    record {
      text : l.out ++ openings_from l.count l.number (l.count + 1) ≡ l.fn.out ++ openings l.count;
      within : l.number ≤ l.count + 1;
    }
