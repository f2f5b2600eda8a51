use Rattle.std.proofs.lemmas.Result.{IfOk-weaker}
use Rattle.msg_queues.specs.Places.{with_id}
use Rattle.msg_queues.proofs.Names.{changed_when, unchanged_when}
use Rattle.msg_queues.proofs.index.push_conversing.Goals as goal

pub returns-then-not-message-clause-ok : goal.returns-then-not-message-clause-ok
returns-then-not-message-clause-ok c = unchanged_when c.args.message.now.origin c.args.message.now.conversation (with_id c.args.message.now.id) c.args.by_terminal.now.entries c.if-not-message.true

pub returns-clause-ok : goal.returns-clause-ok
returns-clause-ok c =
    IfOk-weaker c.push.result _ _ (λ _ e. changed_when c.args.message.now.origin c.args.message.now.conversation (with_id c.args.message.now.id) c.args.by_terminal.now.entries c.push.new.by_name.entries c.if-not-message.false e) c.push.ensures.ok
