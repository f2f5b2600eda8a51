use Rattle.std.proofs.Common.{◌≡◌, ◌+◌, List, drop, ap, refl, arith, Some, length}
use Rattle.std.specs.Prelude.{slice_get}
use Rattle.std.proofs.lemmas.Option.{slice_get_read}
use Rattle.checkpointing.specs.declared.touches.OpenUnit.{OpenUnit}
use Rattle.checkpointing.specs.Touches.{touch_records, changes_of_units, AreSpelled}
use Rattle.checkpointing.proofs.Adding.{comes_some, comes_end, drop_end, all_more}
use Rattle.checkpointing.proofs.touches.append_touches.Goals as goal
use Rattle.tm_types.proofs.Parted.{drop_more}

pub loop-unit-preserved : goal.loop-unit-preserved
loop-unit-preserved c =
    let us : List OpenUnit = c.args.units.now in
    let i = c.loop-unit.unit-index in
    let u : OpenUnit = c.unit-item.result in
    let stores = c.args.stores.now.stores in
    let here : slice_get us i ≡ Some u = slice_get_read us (length us) i u refl (omega arith) c.unit-item.is in (
      comes_some (touch_records u.number stores u.work.now.slots) (changes_of_units stores (drop (i + 1) us)) (changes_of_units stores (drop i us)) (changes_of_units stores us) c.args.out.now.items c.loop-unit.out.items c.append_unit.new.out.items
          (ap (changes_of_units stores) (drop_more us i u here)) c.in_ok-append_unit.ensures c.loop-unit.invariant.0,
      (all_more (λ (u : OpenUnit). AreSpelled stores u.work.now.slots) us i u here c.loop-unit.invariant.1).1,
    )

pub returns : goal.returns
returns c =
    let us : List OpenUnit = c.args.units.now in
    let i = c.loop-unit.unit-index in
    let stores = c.args.stores.now.stores in
    comes_end (changes_of_units stores (drop i us)) (changes_of_units stores us) c.args.out.now.items c.loop-unit.out.items (ap (changes_of_units stores) (drop_end us i (omega (arith, c.loop-unit-test.false)))) c.loop-unit.invariant.0
