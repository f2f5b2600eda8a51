use Rattle.std.proofs.Common.{◌∙◌}
use Rattle.msg_queues.proofs.Places.{id_removed, open_taken}
use Rattle.msg_queues.proofs.id_queue.take_flag.Goals as goal

pub returns-clause-value : goal.returns-clause-value
returns-clause-value c = c.remove.ensures.entries ∙ id_removed c.args.id c.args.ids.now.entries c.len-count.ensures.ordered

pub returns-clause-count : goal.returns-clause-count
returns-clause-count c =
    open_taken c.args.id c.args.ids.now.entries c.remove.new.self.entries c.remove.result c.remove.ensures.value c.remove.ensures.entries
