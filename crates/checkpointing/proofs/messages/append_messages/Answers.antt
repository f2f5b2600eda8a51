use Rattle.std.proofs.Common.{◌≡◌, ◌∷◌, List, map, ap, subst}
use Rattle.model_messages.specs.declared.queued.Queued.{Queued}
use Rattle.model_messages.specs.Queue.{messages_of}
use Rattle.log_records.specs.declared.record.Record.{Record}
use Rattle.image_law.specs.SegmentCounts.{AreCounted}
use Rattle.checkpointing.specs.SnapshotRecords.{message_record}
use Rattle.checkpointing.proofs.Adding.{comes_more}
use Rattle.checkpointing.proofs.messages.append_messages.Goals as goal

abbrev records : List Queued → List Record
records queued = map message_record (messages_of queued)

pub loop-queued-preserved : goal.loop-queued-preserved
loop-queued-preserved c =
    let q : Queued = c.in-Some.queued.now in
    let rest : List Queued = c.next.new.self in
    let is : c.loop-queued.queued-iterator ≡ q ∷ rest = c.in-Some.ensures.steps in
    let counted = subst (λ (l : List Queued). AreCounted (messages_of l)) is c.loop-queued.invariant.1 in (
      comes_more (message_record q.message) (records rest) (records c.loop-queued.queued-iterator) (records c.args.queues.now.queued) c.args.out.now.items c.loop-queued.out.items c.append_message.new.out.items
          (ap records is) c.in_ok-append_message.ensures.ok c.in_ok-append_message.ensures.valid c.loop-queued.invariant.0,
      counted.1,
    )
