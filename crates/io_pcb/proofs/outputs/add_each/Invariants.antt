use Rattle.std.proofs.Common.{◌≡◌, ◌++◌, take}
use Rattle.io_pcb.proofs.outputs.add_each.Given as goal

abbrev pub invariant-loop-message : goal.invariant-loop-message
invariant-loop-message l = l.outputs.items ≡ l.initial.outputs.items ++ take l.message-index l.messages
