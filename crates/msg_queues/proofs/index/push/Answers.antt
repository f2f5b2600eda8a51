use Rattle.std.proofs.Common.{[], Some, sym, ap, ◌∙◌}
use Rattle.std.specs.Option.{is_some, unwrap_or}
use Rattle.std.proofs.lemmas.Result.{IfOk-weaker, IfErr-weaker}
use Rattle.msg_queues.specs.Places.{with_id}
use Rattle.msg_queues.proofs.Names.{changed, kept}
use Rattle.msg_queues.proofs.index.push.Goals as goal

pub returns-in-Some-clause-ok : goal.returns-in-Some-clause-ok
returns-in-Some-clause-ok c =
    IfOk-weaker c.push.result _ _ (λ _ e. changed c.args.name.now (with_id c.args.id) c.args.by_name.now.entries _ c.push.new.self
    (e ∙ ap (λ o. with_id c.args.id (unwrap_or o [])) c.in-Some.ensures.value)
    ((c.get_mut.follows.holds _).3 (sym (ap is_some c.in-Some.ensures.value))).0)
    c.push.ensures.ok

pub returns-in-Some-clause-err : goal.returns-in-Some-clause-err
returns-in-Some-clause-err c =
    IfErr-weaker c.push.result _ _ (λ _ e. kept c.args.name.now c.args.by_name.now.entries _ c.push.new.self
    (sym c.in-Some.ensures.value ∙ ap Some (sym e))
    ((c.get_mut.follows.holds _).3 (sym (ap is_some c.in-Some.ensures.value))).0)
    c.push.ensures.err
