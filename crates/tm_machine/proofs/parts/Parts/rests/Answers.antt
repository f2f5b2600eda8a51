use Rattle.std.proofs.Common.{◌≡◌, ◌-◌, ◌<◌, length, sym, ap, ◌∙◌, arith}
use Rattle.std.specs.Prelude.{Some, slice_get}
use Rattle.std.proofs.lemmas.Option.{slice_get-get_or}
use Rattle.tm_machine.proofs.Resting.{rests_idle, rests_short}
use Rattle.tm_machine.proofs.parts.Parts.rests.Goals as goal

pub returns-then-is_none : goal.returns-then-is_none
returns-then-is_none c =
    let region = (rw (← c.self.view_is) at c.requires) in
    let within : c.args.region - 1 < length c.self.inside.regions.items = omega (arith, region.0, region.1, c.self.invariant.regions_are) in
    let get : slice_get c.self.inside.regions.items (c.args.region - 1) ≡ Some c.index.result.now =
    slice_get-get_or c.self.inside.regions.items (c.args.region - 1) _ within ∙ ap Some (sym c.index.ensures) in
    rw (sym c.self.view_is)
    (rests_idle c.self.inside.system c.self.inside.tables c.self.inside.codes c.self.inside.regions.items c.args.region c.self.invariant c.index.result.now get c.pick.result (rw (ap (λ q. q.queued) c.queues.ensures) at c.pick.ensures.value)
    (sym c.is_some.ensures ∙ c.if-is_some.false) c.if-is_none.ensures)

pub returns : goal.returns
returns c =
    let region = (rw (← c.self.view_is) at c.requires) in
    let within : c.args.region - 1 < length c.self.inside.regions.items = omega (arith, region.0, region.1, c.self.invariant.regions_are) in
    let get : slice_get c.self.inside.regions.items (c.args.region - 1) ≡ Some c.index.result.now =
    slice_get-get_or c.self.inside.regions.items (c.args.region - 1) _ within ∙ ap Some (sym c.index.ensures) in
    rw (sym c.self.view_is)
    (rests_short c.self.inside.system c.self.inside.tables c.self.inside.codes c.self.inside.regions.items c.args.region c.self.invariant c.index.result.now get c.pick.result (rw (ap (λ q. q.queued) c.queues.ensures) at c.pick.ensures.value)
    (sym c.is_some.ensures ∙ c.if-is_some.false) c.if-is_none.ensures c.from.result c.slot_need.result
    (c.from.ensures ∙ c.limit.ensures ∙ ap (λ q. q.limit) c.queues-2.ensures ∙ c.self.invariant.limit)
    (rw (← c.self.view_is) at c.slot_need.ensures))
