use Rattle.std.proofs.Common.{◌≡◌, ◌+◌, ◌-◌, ◌∷◌, List, true, refl, sym, ap, ◌∙◌, subst, arith, drop}
use Rattle.std.proofs.lemmas.List.{length-set, drop_more}
use Rattle.unit_work.specs.declared.change.Change.{Change}
use Rattle.model_data.specs.declared.row.Row.{Row}
use Rattle.seg_store.specs.ChangedSlots.{stored}
use Rattle.seg_store.specs.Slots.{has_root}
use Rattle.unit_work.specs.Images.{image_at}
use Rattle.unit_work.specs.BackOut.{cleared, is_touched, IsStored}
use Rattle.unit_work.proofs.Marking.{among_these, marks_then, removed_marks, removed_partly, all_removed}
use Rattle.unit_work.proofs.Backing.{step_cleared, none_cleared, all_at, drop_past}
use Rattle.unit_work.proofs.unit.remove_all.Goals as goal

pub loop-change-preserved : goal.loop-change-preserved
loop-change-preserved c =
    let there : IsStored c.args.stores.now.stores c.change-item.result =
    subst (IsStored c.args.stores.now.stores) (sym c.change-item.is) (all_at (IsStored c.args.stores.now.stores) c.args.records.now c.loop-change.change-index c.change-item.result c.requires c.loop-change-test.true) in
    let at : c.change-item.result.db ≡ 1 + (c.change-item.result.db - 1) = omega (arith, there.least) in
    let rest : drop c.loop-change.change-index c.args.records.now ≡ c.change-item.result ∷ drop (c.loop-change.change-index + 1) c.args.records.now =
    drop_more c.args.records.now c.loop-change.change-index c.change-item.result c.loop-change-test.true
    ∙ ap (λ (x : Change). x ∷ drop (c.loop-change.change-index + 1) c.args.records.now) (sym c.change-item.is) in
    let among : (image : List Row) → has_root c.change-item.result.root image ≡ true → is_touched c.args.records.now c.change-item.result.db image ≡ true =
    among_these c.args.records.now c.loop-change.change-index c.change-item.result.db c.change-item.result c.change-item.result c.loop-change-test.true c.change-item.is refl in
    record {
      count = length-set c.loop-change.stores.stores (c.change-item.result.db - 1) (stored c.remove.new.self) ∙ c.loop-change.invariant.count;
      ahead = step_cleared c.change-item.result (drop (c.loop-change.change-index + 1) c.args.records.now) 1 (c.change-item.result.db - 1) c.loop-change.stores.stores (stored c.store_mut.result.now) (stored c.remove.new.self)
          at c.store_mut.ensures.value.stored_is c.remove.ensures.database c.remove.ensures.freed
          ∙ (ap (λ xs. cleared xs c.loop-change.stores.stores) (sym rest) ∙ c.loop-change.invariant.ahead);
      partly = removed_partly c.args.stores.now c.loop-change.stores c.args.records.now c.change-item.result.db c.change-item.result.root c.store_mut.result.now c.remove.new.self there.least
          c.store_mut.ensures.value among c.loop-change.invariant.partly c.remove.ensures.changed c.remove.ensures.slots;
      marks = marks_then (λ db slot. is_touched c.args.records.now db (image_at db slot c.args.stores.now.stores)) c.args.stores.now c.loop-change.stores _ c.loop-change.invariant.marks
          (removed_marks c.args.stores.now c.loop-change.stores c.args.records.now c.change-item.result.db c.change-item.result.root c.store_mut.result.now c.remove.new.self there.least
          c.store_mut.ensures.value among c.loop-change.invariant.partly c.remove.ensures.changed c.remove.ensures.slots);
    }

pub returns-clause-stores : goal.returns-clause-stores
returns-clause-stores c =
    sym (none_cleared 1 c.loop-change.stores.stores)
    ∙ (ap (λ xs. cleared xs c.loop-change.stores.stores) (sym (drop_past c.args.records.now c.loop-change.change-index c.loop-change-test.false)) ∙ c.loop-change.invariant.ahead)

pub returns-clause-marks : goal.returns-clause-marks
returns-clause-marks c = c.loop-change.invariant.marks

pub returns-clause-all_marked : goal.returns-clause-all_marked
returns-clause-all_marked c = all_removed c.args.stores.now c.loop-change.stores c.args.records.now (returns-clause-stores c) c.loop-change.invariant.marks
