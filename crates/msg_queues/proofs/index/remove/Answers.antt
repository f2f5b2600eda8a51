use Rattle.std.proofs.Common.{[], sym, ap, ◌∙◌}
use Rattle.std.specs.Option.{is_some, unwrap_or}
use Rattle.msg_queues.specs.Places.{without_id}
use Rattle.msg_queues.proofs.Names.{changed}
use Rattle.msg_queues.proofs.index.remove.Goals as goal

pub returns-in-Some : goal.returns-in-Some
returns-in-Some c =
    changed c.args.name.now (without_id c.args.id) c.args.by_name.now.entries _ c.remove.new.self
    (c.remove.ensures ∙ ap (λ o. without_id c.args.id (unwrap_or o [])) c.in-Some.ensures.value)
    ((c.get_mut.follows.holds _).3 (sym (ap is_some c.in-Some.ensures.value))).0
