use Rattle.std.proofs.Common.{◌≡◌, length}
use Rattle.std.specs.Option.{option_map}
use Rattle.workload.specs.ShownReply.{later, last_shown, last_reply, printed_lines}
use Rattle.workload.proofs.shown.last_shown.Given as goal

abbrev pub invariant-loop-line : goal.invariant-loop-line
invariant-loop-line l =
    later (option_map (λ text. text.now) l.last) (last_shown (printed_lines l.rest)) ≡ last_reply l.printed

abbrev pub decreases-loop-line : goal.decreases-loop-line
decreases-loop-line l = length l.rest
