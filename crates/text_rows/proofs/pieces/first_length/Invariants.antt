use Rattle.std.proofs.Common.{◌≡◌, ◌+◌, drop}
use Rattle.text_rows.specs.Pieces.{first_length}
use Rattle.text_rows.proofs.pieces.first_length.Given as goal

abbrev pub invariant-loop-index : goal.invariant-loop-index
invariant-loop-index l =
    first_length l.fn.first l.text ≡ l.index + first_length l.place (drop l.index l.text)
