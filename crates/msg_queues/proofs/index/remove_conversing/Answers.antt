use Rattle.msg_queues.specs.Places.{without_id}
use Rattle.msg_queues.proofs.Names.{changed_when, unchanged_when}
use Rattle.msg_queues.proofs.index.remove_conversing.Goals as goal

pub returns-then-not-message : goal.returns-then-not-message
returns-then-not-message c = unchanged_when c.args.message.now.origin c.args.message.now.conversation (without_id c.args.message.now.id) c.args.by_terminal.now.entries c.if-not-message.true

pub returns : goal.returns
returns c =
    changed_when c.args.message.now.origin c.args.message.now.conversation (without_id c.args.message.now.id) c.args.by_terminal.now.entries c.remove.new.by_name.entries c.if-not-message.false c.remove.ensures
