use Rattle.std.proofs.Common.{◌≡◌, refl, sym, ap, ◌∙◌, arith, length}
use Rattle.pi_enqueue.specs.Lists.{before_all}
use Rattle.pi_enqueue.proofs.Holding.{last_back, all_back}
use Rattle.pi_enqueue.proofs.holds.take_back.Goals as goal

pub loop-change-init : goal.loop-change-init
loop-change-init c = refl

pub loop-change-preserved : goal.loop-change-preserved
loop-change-preserved c =
    ap (before_all c.pop.new.self.items) c.give_mode.ensures
    ∙ (sym (last_back c.pop.new.self.items c.in-Some.change c.loop-change.holds.entries)
    ∙ (ap (λ l. before_all l c.loop-change.holds.entries) (sym c.in-Some.ensures.items) ∙ c.loop-change.invariant))

pub returns : goal.returns
returns c =
    let none : length c.loop-change.changes.items ≡ 0 = omega (arith, c.loop-change.changes.ok, c.in_default.ensures.cases.0) in
    all_back c.loop-change.changes.items c.loop-change.holds.entries _ none c.loop-change.invariant
