use Rattle.model_messages.specs.Outputs.{without_first}
use Rattle.out_queues.proofs.Terminals.{place_changed}
use Rattle.out_queues.proofs.table.remove_first.Goals as goal

pub returns-clause-value : goal.returns-clause-value
returns-clause-value c =
    place_changed c.args.name.now without_first c.args.terminals.now c.place_of-place.result c.index-terminals-place.result c.drop_first.new.kept c.place_of-place.ensures.place
    c.drop_first.ensures.value
