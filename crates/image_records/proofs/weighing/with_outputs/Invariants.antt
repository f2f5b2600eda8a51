use Rattle.std.proofs.Common.{◌≡◌, ◌+◌, take}
use Rattle.model_messages.specs.Outputs.{outputs_bytes}
use Rattle.image_records.specs.CappedCounts.{capped_count}
use Rattle.image_records.proofs.weighing.with_outputs.Given as goal

abbrev pub invariant-loop-terminal : goal.invariant-loop-terminal
invariant-loop-terminal l = l.content ≡ capped_count (l.start + outputs_bytes (take l.terminal-index l.outputs))
