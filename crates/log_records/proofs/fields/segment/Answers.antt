-- The bytes that were read are the text of a segment.
use Rattle.std.proofs.Common.{arith}
use Rattle.std.proofs.lemmas.Bool.{true≢false}
use Rattle.tm_types.specs.Segment.{is_printable}
use Rattle.log_records.proofs.Wrong.{none_wrong}
use Rattle.log_records.proofs.fields.segment.Goals as goal

pub unreachable-requires : goal.unreachable-requires
unreachable-requires c = let h = rw c.in-Err-TooLong.field-0-is at c.in-Err-TooLong.ensures.refused in omega (arith, h.0, c.in_ok-text.ensures.each.0, c.in_ok-length.ensures.within.1)

pub unreachable-requires-in-Err-BadByte : goal.unreachable-requires-in-Err-BadByte
unreachable-requires-in-Err-BadByte c =
    let h = rw c.in-Err-BadByte.field-0-is at c.in-Err-BadByte.ensures.refused in
    true≢false (none_wrong is_printable c.in_ok-text.text.now c.in-Err-BadByte.field-0-0 h.1 c.in_ok-text.ensures.each.1)
