use Rattle.std.proofs.Common.{◌≡◌, ◌+◌, take}
use Rattle.model_messages.specs.Room.{replies_bytes}
use Rattle.image_records.specs.CappedCounts.{capped_count}
use Rattle.image_records.proofs.weighing.with_replies.Given as goal

abbrev pub invariant-loop-place : goal.invariant-loop-place
invariant-loop-place l = l.content ≡ capped_count (l.start + replies_bytes (take l.place l.replies))
