use Rattle.program_rows.proofs.StoreStays.{with_same}
use Rattle.program_rows.proofs.planning.plan_in.Goals as goal

pub returns-in-Ok-clause-stays : goal.returns-in-Ok-clause-stays
returns-in-Ok-clause-stays c = with_same c.args.stores.now c.args.number c.store_mut.result.now c.plan_needed.new.rows c.store_mut.ensures.value c.plan_needed.ensures.read

pub returns-in-Err-Memory-clause-stays : goal.returns-in-Err-Memory-clause-stays
returns-in-Err-Memory-clause-stays c = with_same c.args.stores.now c.args.number c.store_mut.result.now c.plan_needed.new.rows c.store_mut.ensures.value c.plan_needed.ensures.read
