use Rattle.std.proofs.Common.{◌≡◌, ◌+◌, take}
use Rattle.model_messages.specs.Room.{messages_bytes}
use Rattle.image_records.specs.CappedCounts.{capped_count}
use Rattle.image_records.proofs.weighing.with_messages.Given as goal

abbrev pub invariant-loop-message : goal.invariant-loop-message
invariant-loop-message l = l.content ≡ capped_count (l.start + messages_bytes (take l.message-index l.messages))
