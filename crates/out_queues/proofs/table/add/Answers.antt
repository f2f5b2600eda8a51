use Rattle.std.proofs.lemmas.Result.{IfOk-weaker}
use Rattle.model_messages.specs.Outputs.{with_reply}
use Rattle.out_queues.proofs.Terminals.{place_changed}
use Rattle.out_queues.proofs.table.add.Goals as goal

pub returns-clause-ok : goal.returns-clause-ok
returns-clause-ok c =
    IfOk-weaker c.push_reply.result _ _ (λ _ e. place_changed c.args.name.now (with_reply c.args.segments) c.args.terminals.now c.place_of-place.result c.index-terminals-place.result c.push_reply.new.kept c.place_of-place.ensures.place e)
    c.push_reply.ensures.ok
