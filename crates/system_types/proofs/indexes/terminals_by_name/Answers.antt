use Rattle.std.proofs.Common.{ℕ, List}
use Rattle.system_types.specs.Indexes.{has_terminal_name}
use Rattle.system_types.proofs.Indexed.{named_more, one_more}
use Rattle.system_types.proofs.indexes.terminals_by_name.Goals as goal

pub loop-place-preserved : goal.loop-place-preserved
loop-place-preserved c = record {
  index = one_more has_terminal_name c.loop-place.index c.add_name.new.index c.args.terminals.now c.loop-place.place c.index-terminals-place.result c.loop-place-test.true c.index-terminals-place.is c.loop-place.invariant.index c.in_ok-add_name.ensures.ok;
  named = named_more (λ (name : List ℕ). name) c.args.terminals.now c.loop-place.place c.index-terminals-place.result c.loop-place-test.true c.index-terminals-place.is c.loop-place.invariant.named c.in_ok-add_name.ensures.named;
}
