use Rattle.std.proofs.Common.{◌≡◌, ◌++◌, length, map, take, drop}
use Rattle.model_messages.specs.MessageCalls.{reset_pcb}
use Rattle.io_pcb.proofs.pcbs.reset_each.Given as goal

abbrev pub invariant-loop-opened : goal.invariant-loop-opened
invariant-loop-opened l =
    record {
      size : length l.opened-items ≡ length l.initial.opened-items;
      pcbs : map reset_pcb l.initial.opened-items ≡ take l.opened-index l.opened-items ++ map reset_pcb (drop l.opened-index l.opened-items);
    }
