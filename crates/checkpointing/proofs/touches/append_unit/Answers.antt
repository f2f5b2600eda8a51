use Rattle.std.proofs.Common.{◌≡◌, ◌+◌, List, drop, ap, sym, arith, Some}
use Rattle.std.specs.Prelude.{slice_get}
use Rattle.std.proofs.lemmas.Option.{slice_get_within}
use Rattle.unit_work.specs.declared.change.Change.{Change}
use Rattle.unit_work.specs.ShownTouch.{shown_slot}
use Rattle.checkpointing.specs.Touches.{touch_record, touch_records, IsSpelled}
use Rattle.checkpointing.proofs.Adding.{comes_more, comes_end, drop_beyond, all_more}
use Rattle.checkpointing.proofs.Shown.{none_shown}
use Rattle.checkpointing.proofs.touches.append_unit.Goals as goal
use Rattle.tm_types.proofs.Parted.{drop_more}

pub loop-slot-preserved : goal.loop-slot-preserved
loop-slot-preserved c =
    let slots : List Change = c.args.unit.now.work.now.slots in
    let i = c.loop-slot.place in
    let touched : Change = shown_slot c.in-Some.slot in
    let made = touch_records c.args.unit.now.number c.args.stores.now.stores in
    let here : slice_get slots i ≡ Some touched = sym c.in-Some.ensures in (
      comes_more (touch_record c.args.unit.now.number c.args.stores.now.stores touched) (made (drop (i + 1) slots)) (made (drop i slots)) (made slots) c.args.out.now.items c.loop-slot.out.items c.append_touch.new.out.items
          (ap made (drop_more slots i touched here)) c.in_ok-append_touch.ensures.ok c.in_ok-append_touch.ensures.valid c.loop-slot.invariant.0,
      (let within = slice_get_within slots i touched here in omega (arith, within)),
      (all_more (IsSpelled c.args.stores.now.stores) slots i touched here c.loop-slot.invariant.2).1,
    )

pub returns : goal.returns
returns c =
    let slots : List Change = c.args.unit.now.work.now.slots in
    let i = c.loop-slot.place in
    let made = touch_records c.args.unit.now.number c.args.stores.now.stores in
    comes_end (made (drop i slots)) (made slots) c.args.out.now.items c.loop-slot.out.items (ap made (drop_beyond slots i (none_shown c.slot.result (slice_get slots i) c.in_default.not-Some c.slot.ensures))) c.loop-slot.invariant.0
