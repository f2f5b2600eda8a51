use Rattle.std.proofs.Common.{[], sym, ap, ◌∙◌}
use Rattle.std.specs.Option.{is_some, unwrap_or}
use Rattle.msg_queues.specs.Places.{with_flag}
use Rattle.msg_queues.proofs.Names.{changed}
use Rattle.msg_queues.proofs.index.set_held.Goals as goal

pub returns-in-Some : goal.returns-in-Some
returns-in-Some c =
    changed c.args.name.now (with_flag c.args.id c.args.held) c.args.by_name.now.entries _ c.set_held.new.self
    (c.set_held.ensures ∙ ap (λ o. with_flag c.args.id c.args.held (unwrap_or o [])) c.in-Some.ensures.value)
    ((c.get_mut.follows.holds _).3 (sym (ap is_some c.in-Some.ensures.value))).0
