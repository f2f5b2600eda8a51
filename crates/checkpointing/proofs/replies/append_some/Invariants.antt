use Rattle.std.proofs.Common.{map, drop}
use Rattle.image_law.specs.SegmentCounts.{AreRepliesCounted}
use Rattle.checkpointing.specs.SnapshotRecords.{reply_record}
use Rattle.checkpointing.proofs.Adding.{Comes}
use Rattle.checkpointing.proofs.replies.append_some.Given as goal

abbrev pub invariant-loop-place : goal.invariant-loop-place
invariant-loop-place l =
    Comes (map (reply_record l.terminal) (drop l.place l.replies)) (map (reply_record l.terminal) l.replies) l.fn.out.items l.out.items
    × AreRepliesCounted (drop l.place l.replies)
