use Rattle.std.proofs.Common.{◌≡◌, ◌+◌, List, map, drop, ap, sym, arith, Some}
use Rattle.std.specs.Prelude.{slice_get}
use Rattle.tm_types.specs.declared.message.Reply.{Reply}
use Rattle.log_records.specs.RecordSpelling.{IsCount}
use Rattle.checkpointing.specs.SnapshotRecords.{reply_record}
use Rattle.checkpointing.proofs.Adding.{comes_more, comes_end, drop_end, all_more}
use Rattle.checkpointing.proofs.replies.append_some.Goals as goal
use Rattle.tm_types.proofs.Parted.{drop_more}

pub loop-place-preserved : goal.loop-place-preserved
loop-place-preserved c =
    let rs : List Reply = c.args.replies.now in
    let i = c.loop-place.place in
    let r : Reply = c.in-Some.reply.now in
    let made = reply_record c.args.terminal.now in
    let here : slice_get rs i ≡ Some r = sym c.in-Some.ensures in (
      comes_more (made r) (map made (drop (i + 1) rs)) (map made (drop i rs)) (map made rs) c.args.out.now.items c.loop-place.out.items c.append_reply.new.out.items
          (ap (λ (l : List Reply). map made l) (drop_more rs i r here)) c.in_ok-append_reply.ensures.ok c.in_ok-append_reply.ensures.valid c.loop-place.invariant.0,
      (all_more (λ (r : Reply). IsCount r.segments) rs i r here c.loop-place.invariant.1).1,
    )

pub returns : goal.returns
returns c =
    let rs : List Reply = c.args.replies.now in
    let i = c.loop-place.place in
    let made = reply_record c.args.terminal.now in
    comes_end (map made (drop i rs)) (map made rs) c.args.out.now.items c.loop-place.out.items (ap (λ (l : List Reply). map made l) (drop_end rs i (omega (arith, c.loop-place-test.false)))) c.loop-place.invariant.0
