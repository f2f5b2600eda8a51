use Rattle.std.proofs.Common.{sym, ◌∙◌, ap}
use Rattle.std.specs.Prelude.{map, slice_get}
use Rattle.pi_enqueue.proofs.Keys.{runs, lowest_is}
use Rattle.pi_enqueue.proofs.holds.lowest.Goals as goal

pub range-holders-requires : goal.range-holders-requires
range-holders-requires c = runs c.args.last c.args.resource.now

pub returns-in-Some : goal.returns-in-Some
returns-in-Some c =
    sym (ap (λ es. slice_get (map (λ e. e.0.region) es) 0) c.in-Some.ensures.steps)
    ∙ lowest_is c.args.last c.args.resource.now c.args.holds.now.entries c.range-holders.result c.requires (c.range-holders.ensures.between tt)

pub returns-in-None : goal.returns-in-None
returns-in-None c =
    sym (ap (λ es. slice_get (map (λ e. e.0.region) es) 0) c.in-None.ensures.steps.0)
    ∙ lowest_is c.args.last c.args.resource.now c.args.holds.now.entries c.range-holders.result c.requires (c.range-holders.ensures.between tt)
