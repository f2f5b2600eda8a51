use Rattle.msg_queues.proofs.ById.{values_inserted, keyed_inserted}
use Rattle.msg_queues.proofs.entries.add.Goals as goal

pub returns-in-Ok-clause-ok : goal.returns-in-Ok-clause-ok
returns-in-Ok-clause-ok c =
    values_inserted c.args.message c.args.messages.now.entries c.insert.new.self.entries c.requires.keyed c.requires.above c.in-Ok.ensures.entries

pub returns-in-Ok-clause-keyed : goal.returns-in-Ok-clause-keyed
returns-in-Ok-clause-keyed c =
    keyed_inserted c.args.message c.args.messages.now.entries c.insert.new.self.entries c.requires.keyed c.requires.above c.in-Ok.ensures.entries c.insert.ensures.ordered
