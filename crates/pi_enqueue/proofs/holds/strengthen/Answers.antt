use Rattle.std.proofs.Common.{◌≡◌, sym, ◌∙◌}
use Rattle.pi_enqueue.specs.Lists.{with_mode}
use Rattle.pi_enqueue.proofs.Holding.{set_new, set_back, told_held}
use Rattle.pi_enqueue.proofs.holds.strengthen.Goals as goal

pub returns-then-is_more-clause-ok : goal.returns-then-is_more-clause-ok
returns-then-is_more-clause-ok c =
    let same : c.asker-holder.result ≡ c.asker.result = c.asker-holder.ensures ∙ sym c.asker.ensures in
    c.give_mode.ensures
    ∙ ((λ i. with_mode c.in_ok-before.before (same i) (c.in_ok-before.ensures.ok i))
    ∙ set_back c.args.request.now c.asker.result c.in_ok-before.before c.args.holds.now.entries c.asker.ensures c.in_ok-before.ensures.told
    (sym c.is_more.ensures ∙ c.if-is_more.true) c.set_mode.ensures.was_ordered)

pub returns-then-is_more-clause-told : goal.returns-then-is_more-clause-told
returns-then-is_more-clause-told c = told_held c.args.request.now c.asker.result c.in_ok-before.before c.args.holds.now.entries c.asker.ensures c.in_ok-before.ensures.told

pub returns-clause-ok : goal.returns-clause-ok
returns-clause-ok c =
    c.in_ok-before.ensures.ok
    ∙ set_new c.args.request.now c.asker.result c.in_ok-before.before c.args.holds.now.entries c.asker.ensures c.in_ok-before.ensures.told (sym c.is_more.ensures ∙ c.if-is_more.false)

pub returns-clause-told : goal.returns-clause-told
returns-clause-told c = told_held c.args.request.now c.asker.result c.in_ok-before.before c.args.holds.now.entries c.asker.ensures c.in_ok-before.ensures.told
