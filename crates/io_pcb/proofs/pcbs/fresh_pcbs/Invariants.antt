use Rattle.std.proofs.Common.{◌≡◌, ◌∷◌, map, take}
use Rattle.model_system.specs.declared.pcb.Pcb.TheVariants.{Destination}
use Rattle.model_messages.specs.MessageWork.{fresh_pcb}
use Rattle.io_pcb.proofs.pcbs.fresh_pcbs.Given as goal

abbrev pub invariant-loop-kind : goal.invariant-loop-kind
invariant-loop-kind l = l.pcbs.items ≡ fresh_pcb (Destination l.fn.origin) ∷ map fresh_pcb (take l.kind-index l.kinds)
