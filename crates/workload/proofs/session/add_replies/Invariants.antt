use Rattle.std.proofs.Common.{◌≡◌, ◌≤◌, ◌++◌}
use Rattle.workload.specs.Session.{reply_requests}
use Rattle.workload.proofs.session.add_replies.Given as goal

abbrev pub invariant-loop-number : goal.invariant-loop-number
invariant-loop-number l =
    record {
      text : l.out ++ reply_requests l.terminal l.number l.past ≡ l.fn.out ++ reply_requests l.terminal l.first l.past;
      within : l.number ≤ l.past;
    }
