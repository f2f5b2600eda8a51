use Rattle.std.proofs.Common.{drop}
use Rattle.checkpointing.specs.SnapshotRecords.{terminal_records}
use Rattle.checkpointing.proofs.Adding.{Comes}
use Rattle.checkpointing.proofs.terminals.append_terminals.Given as goal

abbrev pub invariant-loop-place : goal.invariant-loop-place
invariant-loop-place l =
    Comes (terminal_records (drop l.place l.terminals) (drop l.place l.outputs) (drop l.place l.conversations)) (terminal_records l.terminals l.outputs l.conversations) l.fn.out.items l.out.items
