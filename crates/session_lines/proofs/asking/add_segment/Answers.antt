use Rattle.tm_types.specs.Segment.{is_printable}
use Rattle.session_lines.proofs.Places.{unprintable}
use Rattle.session_lines.proofs.asking.add_segment.Goals as goal

pub unreachable-requires : goal.unreachable-requires
unreachable-requires c =
    let refused = rw c.in-Err-BadByte.field-0-is at c.in-Err-BadByte.ensures in
    let never = unprintable is_printable c.args.text.now _ refused.refused.1 c.requires in
    cc
