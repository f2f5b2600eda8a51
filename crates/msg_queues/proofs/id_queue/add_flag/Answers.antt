use Rattle.std.proofs.Common.{false, ◌∙◌}
use Rattle.msg_queues.proofs.Places.{id_added, open_added}
use Rattle.msg_queues.proofs.id_queue.add_flag.Goals as goal

pub returns-in-Ok-clause-ok : goal.returns-in-Ok-clause-ok
returns-in-Ok-clause-ok c = c.in-Ok.ensures.entries ∙ id_added c.args.id false c.args.ids.now.entries c.requires

pub returns-in-Ok-clause-count : goal.returns-in-Ok-clause-count
returns-in-Ok-clause-count c = open_added c.args.id c.args.ids.now.entries c.insert.new.self.entries c.requires c.in-Ok.ensures.entries
