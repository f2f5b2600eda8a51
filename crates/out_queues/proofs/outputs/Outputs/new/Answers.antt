use Rattle.out_queues.proofs.Counted.{kept_fresh}
use Rattle.out_queues.proofs.outputs.Outputs.new.Goals as goal

pub invariant_of-result : goal.invariant_of-result
invariant_of-result c = kept_fresh c.args.terminals.now c.in_ok-fresh_terminals.field-0.items c.in_ok-fresh_terminals.ensures
