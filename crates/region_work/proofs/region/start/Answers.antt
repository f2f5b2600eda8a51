use Rattle.std.proofs.Common.{ap, ◌∙◌}
use Rattle.model_messages.specs.Queue.{queued_message}
use Rattle.region_work.proofs.Going.{pad_found}
use Rattle.region_work.proofs.region.start.Goals as goal

pub start_unit-requires-clause-pad : goal.start_unit-requires-clause-pad
start_unit-requires-clause-pad c =
    pad_found c.args.tables.now.conversations c.args.tables.now.queues.queued c.args.busy.now.id c.in-Some.message.now c.requires.pads
    (c.in-Some.ensures ∙ ap (λ q. queued_message c.args.busy.now.id q.queued) c.queues.ensures)
