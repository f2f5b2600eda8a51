-- each count with what the entry adds to it
use Rattle.std.proofs.Common.{◌+◌, ◌∙◌, ap}
use Rattle.workload.proofs.Counting.{four}
use Rattle.workload.proofs.counts.with_entry.Goals as goal

pub returns : goal.returns
returns c =
    four _ _ _ _ _ _ _ _
    (c.in_ok-sum.ensures ∙ ap (λ n. c.args.counts.accepted + n) c.accepted_in.ensures)
    (c.in_ok-sum-2.ensures ∙ ap (λ n. c.args.counts.completed + n) c.completed_in.ensures)
    (c.in_ok-sum-3.ensures ∙ ap (λ n. c.args.counts.abended + n) c.abended_in.ensures)
    (c.in_ok-sum-4.ensures ∙ ap (λ n. c.args.counts.victims + n) c.victims_in.ensures)
