use Rattle.std.proofs.Common.{◌≡◌, ◌<◌, ◌+◌, ◌∷◌, [], sym, ◌∙◌, arith, ap, subst, length, length-append}
use Rattle.deadlock_pick.proofs.Ways.{ring_here, none_outside, none_skipped, way_longer, fits, none_from, none_to, least_from}
use Rattle.model_data.specs.Cycle.{IsTableRegion}
use Rattle.deadlock_pick.specs.Way.{HasNoneOf}
use Rattle.deadlock_pick.proofs.search.+search.Goals as goal
use Rattle.deadlock_pick.proofs.search.+search.Goals.{then-goes_on+in-None, else-goes_on}

pub returns-then-waits_for-clause-some : goal.returns-then-waits_for-clause-some
returns-then-waits_for-clause-some t c =
    ring_here c.args.table.now c.args.region c.args.way c.args.last c.requires.way (sym c.waits_for.ensures ∙ c.if-waits_for.true)

pub loop-next-init : goal.loop-next-init
loop-next-init t c m h =
    none_outside c.args.table.now c.args.region c.args.way c.args.last c.requires.way m (λ is. absurd (omega (arith, is.0)))

pub longer-requires-clause-small : goal.longer-requires-clause-small
longer-requires-clause-small t c = omega (arith, c.requires.few, c.regions-next-end.ensures.value)

pub longer-requires-clause-room : goal.longer-requires-clause-room
longer-requires-clause-room t c =
    fits c.args.table.now c.args.region c.args.way c.args.last c.requires.way c.requires.few c.loop-next.next
    (omega arith, omega (arith, c.regions-next-end.ensures.value)) (sym c.goes_on.ensures ∙ c.if-goes_on.true)

pub search-requires : goal.search-requires
search-requires t c =
    let is : IsTableRegion c.args.table.now c.loop-next.next = (omega arith, omega (arith, c.regions-next-end.ensures.value)) in
    let short : length c.args.way < 8 =
    fits c.args.table.now c.args.region c.args.way c.args.last c.requires.way c.requires.few c.loop-next.next is (sym c.goes_on.ensures ∙ c.if-goes_on.true) in
    let more : length c.longer.result ≡ length c.args.way + 1 = ap length c.longer.ensures ∙ length-append c.args.way (c.loop-next.next ∷ []) in (
      omega (arith, c.decreases, short, more),
      (
        c.requires.few,
        way_longer c.args.table.now c.args.region c.args.way c.args.last c.requires.way c.loop-next.next c.longer.result c.longer.ensures is (sym c.goes_on.ensures ∙ c.if-goes_on.true),
      ),
    )

pub returns-in-Some-clause-some : goal.returns-in-Some-clause-some
returns-in-Some-clause-some t c =
    least_from c.args.table.now c.args.region c.args.way c.args.last c.requires.way (sym c.waits_for.ensures ∙ c.if-waits_for.false) c.loop-next.next c.longer.result c.in-Some.cycle
    c.longer.ensures c.loop-next.invariant c.in-Some.ensures.some

pub loop-next-preserved : goal.loop-next-preserved
loop-next-preserved t c =
    none_to c.args.table.now c.args.region c.args.way c.loop-next.next c.loop-next.invariant
    (elim c.if-goes_on.branch [
      | then-goes_on+in-None w ↦ subst (HasNoneOf c.args.table.now c.args.region) w.longer.ensures w.in-None.ensures.none
      | else-goes_on w ↦ none_skipped c.args.table.now c.args.region c.args.way c.args.last c.requires.way c.loop-next.next (sym c.goes_on.ensures ∙ w.if-goes_on.false)
    ])

pub returns-clause-none : goal.returns-clause-none
returns-clause-none t c =
    none_from c.args.table.now c.args.region c.args.way c.args.last c.requires.way (sym c.waits_for.ensures ∙ c.if-waits_for.false)
    (λ m h. c.loop-next.invariant m (omega (arith, h, c.regions-next-end.ensures.value)))
