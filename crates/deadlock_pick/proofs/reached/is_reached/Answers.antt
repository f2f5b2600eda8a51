use Rattle.std.proofs.Common.{◌∙◌, ◌++◌, ◌∷◌, [], sym, ap, arith}
use Rattle.deadlock_pick.proofs.Reaching.{begins_on, few_reached, region_alone, looked_on, no_cycle, get_on, alone_begins}
use Rattle.deadlock_pick.proofs.reached.is_reached.Goals as goal

pub add-requires-clause-small : goal.add-requires-clause-small
add-requires-clause-small c = omega (arith, c.requires.region.1, c.requires.few)

pub loop-from-init : goal.loop-from-init
loop-from-init c =
    let one = c.add.ensures ∙ ap (λ w. w ++ c.args.region ∷ []) c.new-reaching.ensures in
    record {
      regions = region_alone c.args.table.now c.args.region c.add.new.regions one c.requires.region;
      first = alone_begins c.args.region c.add.new.regions one;
      seen = λ i from h e. absurd (omega arith);
    }

pub loop-from-smaller : goal.loop-from-smaller
loop-from-smaller c =
    let l = get_on c.loop-from.reaching c.loop-from.place c.in-Some.from c.at.result c.at.ensures c.in-Some.is in
    omega (arith, l, c.requires.few, few_reached c.args.table.now c.loop-from.reaching c.loop-from.invariant.regions)

pub overflow_add-place : goal.overflow_add-place
overflow_add-place c =
    let l = get_on c.loop-from.reaching c.loop-from.place c.in-Some.from c.at.result c.at.ensures c.in-Some.is in
    omega (arith, l, c.requires.few, few_reached c.args.table.now c.loop-from.reaching c.loop-from.invariant.regions)

pub loop-from-preserved : goal.loop-from-preserved
loop-from-preserved c = record {
  regions = c.go_back.ensures.regions;
  first = begins_on (c.args.region ∷ []) c.loop-from.reaching c.go_back.new.reaching c.loop-from.invariant.first c.go_back.ensures.more;
  seen = looked_on c.args.table.now c.args.region c.loop-from.reaching c.go_back.new.reaching c.loop-from.place c.in-Some.from c.loop-from.invariant.seen
      (sym c.at.ensures ∙ c.in-Some.is) (sym c.waits_for.ensures ∙ c.if-waits_for.false) c.go_back.ensures.more c.go_back.ensures.all;
}

pub returns : goal.returns
returns c = λ _. no_cycle c.args.table.now c.args.region c.loop-from.reaching c.loop-from.place c.loop-from.invariant.seen (sym c.at.ensures ∙ c.in_default.is) c.loop-from.invariant.first
