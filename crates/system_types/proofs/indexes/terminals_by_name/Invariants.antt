-- the terminals so far
use Rattle.std.proofs.Common.{ℕ, List, take}
use Rattle.system_types.specs.Indexes.{AreItemsNamed, IsIndex, has_terminal_name}
use Rattle.system_types.proofs.indexes.terminals_by_name.Given as goal

abbrev pub invariant-loop-place : goal.invariant-loop-place
invariant-loop-place l = record {
  index : IsIndex has_terminal_name l.index (take l.place l.terminals);
  named : AreItemsNamed (λ (name : List ℕ). name) (take l.place l.terminals);
}
