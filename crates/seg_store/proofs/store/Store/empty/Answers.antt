use Rattle.seg_store.proofs.Changes.{changed_none}
use Rattle.std.proofs.Common.{◌≡◌, sym, subst, ap, ◌∙◌, arith}
use Rattle.std.specs.Vec.{vec_capacity}
use Rattle.seg_store.specs.Slots.{rows_of_slots}
use Rattle.seg_store.specs.Store.{AreSlotsIndexed}
use Rattle.tm_types.specs.declared.dbd.Dbd.{Dbd}
use Rattle.seg_store.proofs.SlotRows.{all_free_rows}
use Rattle.seg_store.proofs.Indexed.{indexed_empty}
use Rattle.seg_store.proofs.store.Store.empty.Goals as goal

pub invariant_of-result : goal.invariant_of-result
invariant_of-result c =
    let same : c.in_ok-clone.field-0 ≡ c.args.dbd.now = c.in_ok-clone.ensures.cases in
    record {
      changes = changed_none _ _ c.in_ok-with_capacity-2.ensures.items;
      changed_enough = omega (arith, c.in_ok-with_capacity-2.ensures.exact, ap (λ (d : Dbd). d.roots) same);
      indexed = subst (λ (d : Dbd). AreSlotsIndexed d c.in_ok-no_records.field-0.items c.in_ok-with_capacity.field-0.items (vec_capacity c.in_ok-with_capacity.field-0) c.in_ok-all_free.field-0.items (vec_capacity c.in_ok-all_free.field-0)) (sym same)
          (indexed_empty c.args.dbd.now _ _ _ _ _ c.as_slice-types.ensures.valid c.in_ok-no_records.ensures c.in_ok-with_capacity.ensures.items (omega (arith, c.in_ok-with_capacity.ensures.exact)) c.in_ok-all_free.ensures.items c.in_ok-all_free.ensures.room);
    }

pub returns-clause-rows : goal.returns-clause-rows
returns-clause-rows c = ap rows_of_slots c.in_ok-no_records.ensures ∙ all_free_rows c.args.dbd.now.roots
