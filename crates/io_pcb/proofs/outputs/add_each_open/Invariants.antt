use Rattle.std.proofs.Common.{◌≡◌, ◌++◌, drop}
use Rattle.std.specs.List.{flat_map}
use Rattle.model_messages.specs.MessageWork.{output_ended_by}
use Rattle.io_pcb.proofs.outputs.add_each_open.Given as goal

abbrev pub invariant-loop-opened : goal.invariant-loop-opened
invariant-loop-opened l = l.initial.outputs.items ++ flat_map output_ended_by l.pcbs ≡ l.outputs.items ++ flat_map output_ended_by (drop l.opened-index l.pcbs)
