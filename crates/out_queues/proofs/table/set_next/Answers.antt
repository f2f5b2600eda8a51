use Rattle.model_messages.specs.Outputs.{with_next}
use Rattle.out_queues.proofs.Terminals.{place_changed}
use Rattle.out_queues.proofs.table.set_next.Goals as goal

pub returns : goal.returns
returns c =
    place_changed c.args.name.now (with_next c.args.number) c.args.terminals.now c.place_of-place.result c.index-terminals-place.result c.note_next.new.kept c.place_of-place.ensures.place
    c.note_next.ensures
