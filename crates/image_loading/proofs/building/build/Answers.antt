use Rattle.std.proofs.Common.{◌≡◌, ◌+◌, ◌*◌, ◌∷◌, ◌++◌, [], suc, length, length-append, append_assoc, drop, refl, sym, ◌∙◌, ap, subst, arith, None, Some, cond}
use Rattle.std.specs.List.{AllByRecursion, slice_get}
use Rattle.std.proofs.lemmas.List.{nil_from_length}
use Rattle.model_data.proofs.Lists.{all_front, all_back}
use Rattle.seg_store.specs.Slots.{IsSlot, free_slots}
use Rattle.seg_store.specs.ChangedSlots.{Kept}
use Rattle.image_loading.specs.SharedRoots.{shared_at, apart, is_root_there, with_new}
use Rattle.image_loading.proofs.Built.{slot_free, slots_more, found_more, all_apart, popped}
use Rattle.image_loading.proofs.building.build.Goals as goal

pub add-found-requires-clause-slot : goal.add-found-requires-clause-slot
add-found-requires-clause-slot c =
    let dbd = c.args.dbd.now in
    subst (λ d. IsSlot d c.in-Some.image) (sym c.loop-image.invariant.database)
    (all_back (IsSlot dbd) c.pop.new.self.items (c.in-Some.image ∷ []) (subst (AllByRecursion (IsSlot dbd)) c.in-Some.ensures.items c.loop-image.invariant.each)).0

pub add-found-requires-clause-free : goal.add-found-requires-clause-free
add-found-requires-clause-free c =
    let k = length c.pop.new.self.items in
    let count : length c.loop-image.images.items ≡ suc k = omega (arith, ap length c.in-Some.ensures.items, length-append c.pop.new.self.items (c.in-Some.image ∷ [])) in
    let number : c.len-number.result ≡ k = omega (arith, c.len-number.ensures, c.pop.new.self.ok) in
    let later = drop (length c.loop-image.images.items) c.args.images.items in
    ap (λ n. slice_get c.loop-image.store.slots n) number
    ∙ (ap (λ ss. slice_get ss k) (c.loop-image.invariant.slots ∙ ap (λ n. free_slots n ++ apart later) count) ∙ slot_free k (apart later))

pub loop-image-preserved : goal.loop-image-preserved
loop-image-preserved c =
    let inv = c.loop-image.invariant in
    let dbd = c.args.dbd.now in
    let items = c.pop.new.self.items in
    let image = c.in-Some.image in
    let k = length items in
    let later = drop (length c.loop-image.images.items) c.args.images.items in
    let split : c.loop-image.images.items ≡ items ++ image ∷ [] = c.in-Some.ensures.items in
    let count : length c.loop-image.images.items ≡ suc k = omega (arith, ap length split, length-append items (image ∷ [])) in
    let number : c.len-number.result ≡ k = omega (arith, c.len-number.ensures, c.pop.new.self.ok) in
    let next : drop k c.args.images.items ≡ image ∷ later = popped c.loop-image.images.items items later image c.args.images.items split inv.whole refl in
    let slots_are : c.loop-image.store.slots ≡ free_slots (suc k) ++ apart later = inv.slots ∙ ap (λ n. free_slots n ++ apart later) count in
    record {
      whole = ap (λ xs. items ++ xs) next ∙ (sym (append_assoc items (image ∷ []) later) ∙ (ap (λ xs. xs ++ later) (sym split) ∙ inv.whole));
      each = all_front (IsSlot dbd) items (image ∷ []) (subst (AllByRecursion (IsSlot dbd)) split inv.each);
      slots = c.add-found.ensures.slots
          ∙ ((λ i. with_new (number i) image (slots_are i)) ∙ (slots_more k image later ∙ ap (λ xs. free_slots k ++ apart xs) (sym next)));
      found = c.add-found.ensures.found
          ∙ ((λ i. cond (is_root_there image (slots_are i)) (Some (c.args.first + (c.from.ensures ∙ number) i * c.from-in-Some.ensures i)) ((inv.found ∙ ap (λ n. shared_at dbd.sectors (c.args.first + n * dbd.sectors) later) count) i))
          ∙ (found_more dbd.sectors c.args.first k image later ∙ ap (shared_at dbd.sectors (c.args.first + k * dbd.sectors)) (sym next)));
      valid = c.add-found.ensures.valid;
      database = c.add-found.ensures.database ∙ inv.database;
    }

pub returns-in-None-clause-slots : goal.returns-in-None-clause-slots
returns-in-None-clause-slots c =
    let none : c.loop-image.images.items ≡ [] = nil_from_length c.loop-image.images.items (omega (arith, c.loop-image.images.ok, c.in_default-pop.ensures.cases)) in
    let zero : length c.loop-image.images.items ≡ 0 = ap length none in
    let all = c.args.images.items in
    let sectors = c.args.dbd.now.sectors in
    let at : c.args.first + 0 * sectors ≡ c.args.first = omega arith in
    let shared : shared_at sectors c.args.first all ≡ None =
    ap (λ n. shared_at sectors n all) (sym at) ∙ (ap (λ n. shared_at sectors (c.args.first + n * sectors) (drop n all)) (sym zero) ∙ (sym c.loop-image.invariant.found ∙ c.in-None.is)) in
    ap (λ (s : Kept). s.slots) c.settle.ensures
    ∙ (c.loop-image.invariant.slots ∙ (ap (λ n. free_slots n ++ apart (drop n all)) zero ∙ all_apart sectors c.args.first all shared))
