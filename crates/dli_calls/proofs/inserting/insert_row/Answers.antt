use Rattle.dli_calls.proofs.Asking.{insert_named}
use Rattle.dli_calls.proofs.inserting.insert_row.Goals as goal

pub insert_path-requires-clause-named : goal.insert_path-requires-clause-named
insert_path-requires-clause-named c = insert_named c.args.types.now 0 c.args.ssas.now c.requires.ssas
