use Rattle.std.proofs.Common.{◌≡◌, sym, append_assoc, arith}
use Rattle.std.specs.Prelude.{Some, slice_get}
use Rattle.session_text.proofs.SegmentLines.{further_segment}
use Rattle.session_text.proofs.reply.add_segments.Goals as goal

pub loop-index-preserved : goal.loop-index-preserved
loop-index-preserved c =
    let there : slice_get c.args.segments.now c.loop-index.index ≡ Some c.in-Some-get.segment.now = sym c.in-Some-get.ensures in
    let next = further_segment c.args.segments.now c.loop-index.index c.in-Some-get.segment.now (omega arith) there in
    let ok = c.in_ok-add_line-in-Some-get.ensures.ok in
    let text = c.text-in-Some-get.ensures.value in
    rw (next, ok, text, c.loop-index.invariant) (simp append_assoc)
