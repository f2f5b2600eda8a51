use Rattle.dli_calls.proofs.Asking.{insert_named}
use Rattle.dli_calls.proofs.inserting.insert_fault.Goals as goal

pub has_asked-requires-clause-named : goal.has_asked-requires-clause-named
has_asked-requires-clause-named c = insert_named c.args.types.now 0 c.args.ssas.now c.requires.ssas
