use Rattle.model_messages.specs.Outputs.{without_last}
use Rattle.out_queues.proofs.Terminals.{place_changed}
use Rattle.out_queues.proofs.table.remove_last.Goals as goal

pub returns-clause-value : goal.returns-clause-value
returns-clause-value c =
    place_changed c.args.name.now without_last c.args.terminals.now c.place_of-place.result c.index-terminals-place.result c.drop_last.new.kept c.place_of-place.ensures.place
    c.drop_last.ensures.value
