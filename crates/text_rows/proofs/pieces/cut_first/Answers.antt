use Rattle.std.proofs.Common.{◌<◌, length, arith}
use Rattle.std.proofs.lemmas.Grind.{common_steps}
use Rattle.text_rows.specs.Pieces.{pieces, first_length}
use Rattle.text_rows.proofs.FirstPiece.{parted, whole}
use Rattle.text_rows.proofs.pieces.cut_first.Goals as goal

pub returns-then-length-text : goal.returns-then-length-text
unfolding pieces
returns-then-length-text c =
    let within : first_length c.args.first c.args.text.now < length c.args.text.now = omega (arith, c.first_length-length.ensures.value) in
    grind (arith, common_steps, parted c.args.first c.args.first c.args.text.now within, c.first_length-length.ensures.value)

pub returns-else-length-text : goal.returns-else-length-text
unfolding pieces
returns-else-length-text c =
    whole c.args.first c.args.first c.args.text.now (omega (arith, c.first_length-length.ensures.value))
