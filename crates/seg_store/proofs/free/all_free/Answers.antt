use Rattle.std.proofs.Common.{◌≡◌, ◌+◌, ◌++◌, ◌∷◌, [], suc, ap, sym, ◌∙◌, arith}
use Rattle.seg_store.specs.Slots.{free_slots}
use Rattle.seg_store.specs.Store.{free_numbers}
use Rattle.seg_store.proofs.Numbers.{numbers_more}
use Rattle.seg_store.proofs.free.all_free.Goals as goal

pub loop-slot-preserved : goal.loop-slot-preserved
loop-slot-preserved c =
    let next : c.loop-slot.slot + 1 ≡ suc c.loop-slot.slot = omega arith in
    let same : 0 + c.loop-slot.slot ≡ c.loop-slot.slot = omega arith in
    record {
      items = c.push_reserved.ensures.items
          ∙ (ap (λ xs. xs ++ c.loop-slot.slot ∷ []) c.loop-slot.invariant.items
          ∙ (ap (λ k. free_numbers 0 (free_slots c.loop-slot.slot) ++ k ∷ []) (sym same)
          ∙ (sym (numbers_more 0 c.loop-slot.slot) ∙ ap (λ k. free_numbers 0 (free_slots k)) (sym next))));
      len = omega (arith, c.push_reserved.ensures.len, c.loop-slot.invariant.len);
      room = omega (arith, c.push_reserved.ensures.capacity, c.loop-slot.invariant.room);
    }
