use Rattle.std.proofs.Common.{◌≡◌, ◌+◌}
use Rattle.model_messages.specs.Outputs.{with_terminal}
use Rattle.model_machine.specs.LastingSteps.{without_replies}
use Rattle.lasting_changes.proofs.Dequeued.{kept_at}
use Rattle.lasting_changes.proofs.dequeuing.dequeue_all.Given as goal

-- removing what is left is removing all, and so many are left
abbrev pub invariant-loop-removed : goal.invariant-loop-removed
invariant-loop-removed l =
    (with_terminal l.name without_replies l.outputs ≡ with_terminal l.name without_replies l.fn.outputs) × (kept_at l.name l.outputs + l.removed ≡ kept_at l.name l.fn.outputs)
