use Rattle.std.proofs.Common.{drop}
use Rattle.image_law.specs.SegmentCounts.{AreAllCounted}
use Rattle.checkpointing.specs.SnapshotRecords.{reply_records}
use Rattle.checkpointing.proofs.Adding.{Comes}
use Rattle.checkpointing.proofs.replies.append_replies.Given as goal

abbrev pub invariant-loop-terminal : goal.invariant-loop-terminal
invariant-loop-terminal l =
    Comes (reply_records (drop l.terminal-index l.terminals)) (reply_records l.terminals) l.fn.out.items l.out.items
    × AreAllCounted (drop l.terminal-index l.terminals)
