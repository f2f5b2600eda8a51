use Rattle.std.proofs.Common.{◌≡◌, ◌∷◌, List, ap, arith}
use Rattle.model_messages.specs.declared.queued.Queued.{Queued}
use Rattle.model_messages.specs.Queue.{messages_of}
use Rattle.log_replay.specs.ConversationTally.{talks_of}
use Rattle.log_replay.proofs.tally.counts_of.Goals as goal

pub loop-queued-preserved : goal.loop-queued-preserved
loop-queued-preserved c = λ name.
    let is : c.loop-queued.queued-iterator ≡ c.in-Some.queued.now ∷ c.next.new.self = c.in-Some.ensures.steps in
    omega (arith, c.in_ok-count_more.ensures name, ap (λ (queued : List Queued). talks_of name (messages_of queued)) is, c.loop-queued.invariant name)
