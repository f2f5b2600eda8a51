-- the codes so far
use Rattle.std.proofs.Common.{take}
use Rattle.model_system.specs.declared.code.Code.{Code}
use Rattle.system_types.specs.Indexes.{AreItemsNamed, IsIndex, has_code_name}
use Rattle.system_types.proofs.indexes.codes_by_name.Given as goal

abbrev pub invariant-loop-place : goal.invariant-loop-place
invariant-loop-place l = record {
  index : IsIndex has_code_name l.index (take l.place l.codes);
  named : AreItemsNamed (λ (c : Code). c.transaction.code) (take l.place l.codes);
}
