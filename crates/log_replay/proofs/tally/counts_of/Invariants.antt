-- the messages so far are counted
use Rattle.std.proofs.Common.{◌≡◌, ◌+◌, ℕ, List}
use Rattle.model_messages.specs.Queue.{messages_of}
use Rattle.log_replay.specs.ConversationTally.{count_at, talks_of}
use Rattle.log_replay.proofs.tally.counts_of.Given as goal

abbrev pub invariant-loop-queued : goal.invariant-loop-queued
invariant-loop-queued l =
    (name : List ℕ) → count_at name l.counts.entries + talks_of name (messages_of l.queued-iterator) ≡ talks_of name (messages_of l.queues.queued)
