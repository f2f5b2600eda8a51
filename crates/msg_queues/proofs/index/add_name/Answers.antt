use Rattle.std.proofs.Common.{[], sym, ap, ◌∙◌}
use Rattle.std.specs.Option.{unwrap_or}
use Rattle.msg_queues.specs.Places.{with_id}
use Rattle.msg_queues.proofs.Names.{changed}
use Rattle.msg_queues.proofs.index.add_name.Goals as goal

pub returns-in-Ok-clause-ok : goal.returns-in-Ok-clause-ok
returns-in-Ok-clause-ok c =
    changed c.args.name (with_id c.args.id) c.args.by_name.now.entries c.insert.new.self.entries c.push.new.self
    (c.in_ok-push.ensures.ok ∙ (ap (with_id c.args.id) c.new-queue.ensures ∙ ap (λ o. with_id c.args.id (unwrap_or o [])) (sym c.requires)))
    c.in-Ok.ensures.updates.0
