use Rattle.pi_enqueue.proofs.Keeping.{kept_new}
use Rattle.pi_enqueue.proofs.table.Table.new.Goals as goal

pub invariant_of-result : goal.invariant_of-result
invariant_of-result c = kept_new c.in_ok-new.field-0 c.args.regions c.in_ok-new.ensures.value c.in_ok-new.ensures.all
