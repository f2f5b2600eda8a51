use Rattle.std.proofs.Common.{◌≡◌, refl, ap, ◌∙◌, arith, ◌∷◌, [], length, length-append}
use Rattle.pi_enqueue.proofs.Holding.{elsewhere_stays, own_stays, nothing_left}
use Rattle.pi_enqueue.proofs.holds.release.Goals as goal

pub loop-resource-init : goal.loop-resource-init
loop-resource-init c = record { others = refl; own = c.requires }

pub loop-resource-smaller : goal.loop-resource-smaller
loop-resource-smaller c =
    let longer : length c.loop-resource.list ≡ _ = ap length c.in-Some.ensures.last ∙ length-append c.pop.new.self (c.in-Some.resource ∷ []) in
    omega (arith, longer)

pub loop-resource-preserved : goal.loop-resource-preserved
loop-resource-preserved c = record {
  others = elsewhere_stays c.args.region c.in-Some.resource c.loop-resource.holds.entries c.remove.new.holds.entries c.args.holds.now.entries c.remove.ensures.value c.loop-resource.invariant.others;
  own = own_stays c.loop-resource.list c.pop.new.self c.in-Some.resource c.args.region c.loop-resource.holds.entries c.remove.new.holds.entries c.in-Some.ensures.last c.remove.ensures.value c.remove.ensures.was_ordered c.loop-resource.invariant.own;
}

pub returns-clause-holds : goal.returns-clause-holds
returns-clause-holds c =
    nothing_left c.args.region c.loop-resource.list c.loop-resource.holds.entries c.args.holds.now.entries c.in_default.ensures.none c.loop-resource.invariant.own c.loop-resource.invariant.others
