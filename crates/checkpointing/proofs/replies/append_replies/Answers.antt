use Rattle.std.proofs.Common.{◌≡◌, ◌+◌, List, map, drop, ap, refl, arith, Some, length}
use Rattle.std.specs.Prelude.{slice_get}
use Rattle.std.proofs.lemmas.Option.{slice_get_read}
use Rattle.model_messages.specs.declared.replies.TerminalReplies.{TerminalReplies}
use Rattle.image_law.specs.SegmentCounts.{AreRepliesCounted}
use Rattle.checkpointing.specs.SnapshotRecords.{reply_record, reply_records}
use Rattle.checkpointing.proofs.Adding.{comes_some, comes_end, drop_end, all_more}
use Rattle.checkpointing.proofs.replies.append_replies.Goals as goal
use Rattle.tm_types.proofs.Parted.{drop_more}

pub loop-terminal-preserved : goal.loop-terminal-preserved
loop-terminal-preserved c =
    let ts : List TerminalReplies = c.args.terminals.now in
    let i = c.loop-terminal.terminal-index in
    let t : TerminalReplies = c.terminal-item.result in
    let here : slice_get ts i ≡ Some t = slice_get_read ts (length ts) i t refl (omega arith) c.terminal-item.is in (
      comes_some (map (reply_record t.terminal) t.replies) (reply_records (drop (i + 1) ts)) (reply_records (drop i ts)) (reply_records ts) c.args.out.now.items c.loop-terminal.out.items c.append_some.new.out.items
          (ap reply_records (drop_more ts i t here)) c.in_ok-append_some.ensures c.loop-terminal.invariant.0,
      (all_more (λ (t : TerminalReplies). AreRepliesCounted t.replies) ts i t here c.loop-terminal.invariant.1).1,
    )

pub returns : goal.returns
returns c =
    let ts : List TerminalReplies = c.args.terminals.now in
    let i = c.loop-terminal.terminal-index in
    comes_end (reply_records (drop i ts)) (reply_records ts) c.args.out.now.items c.loop-terminal.out.items (ap reply_records (drop_end ts i (omega (arith, c.loop-terminal-test.false)))) c.loop-terminal.invariant.0
