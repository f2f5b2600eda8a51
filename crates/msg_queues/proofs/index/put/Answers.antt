use Rattle.msg_queues.proofs.Indexed.{names_undone}
use Rattle.msg_queues.proofs.index.put.Goals as goal

pub returns-in-Err-clause-code_err : goal.returns-in-Err-clause-code_err
returns-in-Err-clause-code_err c =
    names_undone c.args.by_code.now.entries c.push.new.by_name.entries c.remove.new.by_name.entries c.args.message.now.code c.args.message.now.id c.requires.code c.in_ok-push.ensures.ok c.remove.ensures
