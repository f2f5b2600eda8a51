use Rattle.std.proofs.Common.{map}
use Rattle.model_messages.specs.Queue.{messages_of}
use Rattle.image_law.specs.SegmentCounts.{AreCounted}
use Rattle.checkpointing.specs.SnapshotRecords.{message_record}
use Rattle.checkpointing.proofs.Adding.{Comes}
use Rattle.checkpointing.proofs.messages.append_messages.Given as goal

abbrev pub invariant-loop-queued : goal.invariant-loop-queued
invariant-loop-queued l =
    Comes (map message_record (messages_of l.queued-iterator)) (map message_record (messages_of l.queues.queued)) l.fn.out.items l.out.items
    × AreCounted (messages_of l.queued-iterator)
