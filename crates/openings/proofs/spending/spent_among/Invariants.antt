use Rattle.std.proofs.Common.{◌≡◌, drop}
use Rattle.openings.specs.OpenedImage.{first_spent, output_counters}
use Rattle.openings.proofs.spending.spent_among.Given as goal

abbrev pub invariant-loop-terminal : goal.invariant-loop-terminal
invariant-loop-terminal l = first_spent (output_counters l.outputs) ≡ first_spent (output_counters (drop l.terminal-index l.outputs))
