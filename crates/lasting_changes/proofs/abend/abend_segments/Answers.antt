use Rattle.std.proofs.Common.{sym, subst}
use Rattle.tm_types.specs.Segment.{IsSegmentText}
use Rattle.lasting_changes.proofs.Abended.{text_is}
use Rattle.lasting_changes.proofs.abend.abend_segments.Goals as goal

pub segment_of-requires : goal.segment_of-requires
segment_of-requires c =
    subst IsSegmentText (sym c.as_slice.ensures) (text_is c.args.code.now c.args.abend c.in_ok-text.text c.in_ok-text.ensures.named c.in_ok-text.ensures.value)
