use Rattle.seg_store.specs.Slots.{rows_of_slots}
use Rattle.openings.proofs.Walked.{rows_begin, rows_go, rows_fewer, rows_end}
use Rattle.openings.proofs.rows.rows_in.Goals as goal

pub loop-next-init : goal.loop-next-init
loop-next-init c = rows_begin c.args.store.now.dbd c.image-slot.ensures.valid.types (rows_of_slots c.args.store.now.slots) c.next_root-next.ensures.valid c.new-rows.result.items c.next_root-next.result c.new-rows.ensures.items c.next_root-next.ensures.value

pub loop-next-preserved : goal.loop-next-preserved
loop-next-preserved c =
    rows_go c.args.store.now.dbd c.image-slot.ensures.valid.types (rows_of_slots c.args.store.now.slots) c.next_root-next.ensures.valid c.loop-next.rows.items _ c.in-Some.root c.loop-next.next _
    c.in-Some.is c.in_ok-add_record.ensures c.next_root-next-in-Some.ensures.value c.loop-next.invariant

pub loop-next-smaller : goal.loop-next-smaller
loop-next-smaller c =
    rows_fewer c.args.store.now.dbd c.image-slot.ensures.valid.types (rows_of_slots c.args.store.now.slots) c.next_root-next.ensures.valid c.in-Some.root c.loop-next.next c.next_root-next-in-Some.result c.in-Some.is c.next_root-next-in-Some.ensures.value

pub returns : goal.returns
returns c = rows_end (rows_of_slots c.args.store.now.slots) c.loop-next.rows.items c.loop-next.next c.in_default.is c.loop-next.invariant
