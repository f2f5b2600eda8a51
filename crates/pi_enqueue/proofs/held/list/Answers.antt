use Rattle.std.proofs.lemmas.Result.{IfOk-weaker}
use Rattle.pi_enqueue.proofs.Holding.{listed_there}
use Rattle.pi_enqueue.proofs.held.list.Goals as goal

pub returns-clause-listed : goal.returns-clause-listed
returns-clause-listed c =
    IfOk-weaker c.push.result _ _ (λ _ e. listed_there c.args.lists.now.items c.args.holder.now c.index_mut.result.now c.push.new.self c.requires.first c.requires.last e)
    c.push.ensures.ok
