use Rattle.std.proofs.Common.{◌≡◌, ◌++◌}
use Rattle.model_messages.specs.Queue.{messages_of}
use Rattle.openings.proofs.copies.messages_in.Given as goal

-- what was copied, and what is still to come
abbrev pub invariant-loop-queued : goal.invariant-loop-queued
invariant-loop-queued l = l.copy.items ++ messages_of l.queued-iterator ≡ messages_of l.queues.queued
