-- The index and the free slots, and what a change of one slot leaves of them.
use Rattle.std.proofs.Common.{◌≡◌, ◌+◌, ℕ, ◌≤◌, ◌<◌, [], List, length, refl, sym, ◌∙◌, ap, subst, Bool, true, false, cond, None, Some, arith, set}
use Rattle.std.specs.List.{slice_get, insert, remove}
use Rattle.std.specs.List.Sorted.{IsStrictlySortedBy}
use Rattle.std.specs.Ordering.{is_eq}
use Rattle.std.specs.BTreeMap.{insert_entry, is_at}
use Rattle.std.specs.Map.{keys_of, lookup, remove_entry}
use Rattle.std.proofs.lemmas.List.{length-map}
use Rattle.tm_types.specs.declared.dbd.Dbd.{Dbd}
use Rattle.tm_types.specs.SegTypes.{IsHierarchy}
use Rattle.model_data.specs.declared.row.Row.{Row}
use Rattle.model_data.specs.Path.{key_cmp}
use Rattle.model_data.specs.Record.{IsRecord}
use Rattle.seg_store.specs.Slots.{has_root, slot_of_root, AreSlots, free_slots}
use Rattle.seg_store.specs.Store.{AreSlotsIndexed, free_numbers, count_below}
use Rattle.seg_store.proofs.Places as places
use Rattle.seg_store.proofs.Entries.{insert_sorted, lookup_insert, lookup_remove, remove_sorted}
use Rattle.seg_store.proofs.Numbers.{numbers_filled, numbers_freed, numbers_kept, numbers_fewer, number_there}
use Rattle.seg_store.proofs.SlotRows.{Leaves, new_leaves, same_leaves, gone_leaves, slots_new, slots_same, slots_gone, record_has, not_free, same_key, index_keys, entries_of, entries_fewer, entries_sorted, free_slots_valid, free_slots_none}

module _ (dbd : Dbd) (slots : List (List Row)) (index : List (List ℕ × ℕ)) (ir : ℕ) (free : List ℕ) (fr : ℕ) (h : AreSlotsIndexed dbd slots index ir free fr) where
  -- the index has room while a slot is free
  pub index_room : (i : ℕ) → slice_get slots i ≡ Some [] → length index < ir
  index_room i g =
      let keys : length (keys_of index) ≡ length (keys_of (entries_of slots)) = ap length (index_keys slots index h.ascending h.found) in
      omega (arith, length-map index (λ e. e.0), length-map (entries_of slots) (λ e. e.0), entries_fewer slots i g, h.valid.count, h.index_enough)

  -- and the free slots while one is taken
  pub free_room : (root : List ℕ) (i : ℕ) → slot_of_root root slots ≡ Some i → length free < fr
  free_room root i there =
      let found = places.place_passes (has_root root) slots i there in
      omega (arith, ap length h.free_is, numbers_fewer 0 slots i found.0 found.1 (not_free root found.0 found.2), h.valid.count, h.free_enough)

  pub free_there : (i : ℕ) → slice_get slots i ≡ Some [] → count_below i free < length free
  free_there i g =
      let zero : i ≡ 0 + i = omega arith in
      subst (λ xs. count_below i xs < length xs) (sym h.free_is) (number_there 0 slots i i zero g)

  pub indexed_new : (root : List ℕ) (i : ℕ) (image : List Row) (slots' : List (List Row)) (index' : List (List ℕ × ℕ)) (ir' : ℕ) (free' : List ℕ) (fr' : ℕ)
      → IsRecord dbd root image → slice_get slots i ≡ Some [] → slot_of_root root slots ≡ None → slots' ≡ set slots i image → index' ≡ insert_entry key_cmp index root i → ir ≤ ir'
      → free' ≡ remove free (count_below i free) → fr ≤ fr' → AreSlotsIndexed dbd slots' index' ir' free' fr'
  indexed_new root i image slots' index' ir' free' fr' r g none s e le f le' =
      let zero : i ≡ 0 + i = omega arith in
      let has : has_root root image ≡ true = record_has dbd.types root image r.whole in
      let leaves : Leaves root (Some i) (Some image) slots (set slots i image) = new_leaves slots root i image g none has in
      record {
        valid = subst (AreSlots dbd) (sym s) (slots_new dbd slots root i image h.valid r none);
        ascending = subst (λ es. IsStrictlySortedBy key_cmp (keys_of es)) (sym e) (insert_sorted root i index h.ascending);
        found = λ q. ap (lookup (is_at (key_cmp q))) e ∙ (lookup_insert q root i index
            ∙ (ap (λ o. cond (is_eq (key_cmp q root)) (Some i) o) (h.found q) ∙ (sym (leaves.places q) ∙ ap (slot_of_root q) (sym s))));
        index_enough = omega (arith, h.index_enough);
        free_is = f ∙ (ap (λ xs. remove xs (count_below i xs)) h.free_is
            ∙ (sym (numbers_filled 0 slots i i image zero g (not_free root image has)) ∙ ap (free_numbers 0) (sym s)));
        free_enough = omega (arith, h.free_enough);
      }

  pub indexed_same : (root : List ℕ) (i : ℕ) (image : List Row) (slots' : List (List Row)) → IsRecord dbd root image → slot_of_root root slots ≡ Some i → slots' ≡ set slots i image
      → AreSlotsIndexed dbd slots' index ir free fr
  indexed_same root i image slots' r there s =
      let has : has_root root image ≡ true = record_has dbd.types root image r.whole in
      let found = places.place_passes (has_root root) slots i there in
      let leaves : Leaves root (Some i) (Some image) slots (set slots i image) = same_leaves slots root i image there has in
      record {
        valid = subst (AreSlots dbd) (sym s) (slots_same dbd slots root i image h.valid r there);
        ascending = h.ascending;
        found = λ q. h.found q ∙ (itself q (is_eq (key_cmp q root)) refl ∙ (sym (leaves.places q) ∙ ap (slot_of_root q) (sym s)));
        index_enough = h.index_enough;
        free_is = h.free_is ∙ (sym (numbers_kept 0 slots i found.0 image found.1 (not_free root found.0 found.2) (not_free root image has)) ∙ ap (free_numbers 0) (sym s));
        free_enough = h.free_enough;
      }
    where
      itself : (q : List ℕ) (b : Bool) → is_eq (key_cmp q root) ≡ b → slot_of_root q slots ≡ cond (is_eq (key_cmp q root)) (Some i) (slot_of_root q slots)
      itself q true e = subst (λ k. slot_of_root k slots ≡ Some i) (same_key q root e) there ∙ sym (ap (λ b. cond b (Some i) (slot_of_root q slots)) e)
      itself q false e = sym (ap (λ b. cond b (Some i) (slot_of_root q slots)) e)

  pub indexed_gone : (root : List ℕ) (i : ℕ) (slots' : List (List Row)) (index' : List (List ℕ × ℕ)) (ir' : ℕ) (free' : List ℕ) (fr' : ℕ)
      → slot_of_root root slots ≡ Some i → slots' ≡ set slots i [] → index' ≡ remove_entry (is_at (key_cmp root)) index → ir ≤ ir'
      → free' ≡ insert free (count_below i free) i → fr ≤ fr' → AreSlotsIndexed dbd slots' index' ir' free' fr'
  indexed_gone root i slots' index' ir' free' fr' there s e le f le' =
      let zero : i ≡ 0 + i = omega arith in
      let found = places.place_passes (has_root root) slots i there in
      let leaves : Leaves root None None slots (set slots i []) = gone_leaves slots root i h.valid.apart there in
      record {
        valid = subst (AreSlots dbd) (sym s) (slots_gone dbd slots i h.valid);
        ascending = subst (λ es. IsStrictlySortedBy key_cmp (keys_of es)) (sym e) (remove_sorted (is_at (key_cmp root)) index h.ascending);
        found = λ q. ap (lookup (is_at (key_cmp q))) e ∙ (lookup_remove q root index h.ascending
            ∙ (ap (λ o. cond (is_eq (key_cmp q root)) None o) (h.found q) ∙ (sym (leaves.places q) ∙ ap (slot_of_root q) (sym s))));
        index_enough = omega (arith, h.index_enough);
        free_is = f ∙ (ap (λ xs. insert xs (count_below i xs) i) h.free_is
            ∙ (sym (numbers_freed 0 slots i i found.0 zero found.1 (not_free root found.0 found.2)) ∙ ap (free_numbers 0) (sym s)));
        free_enough = omega (arith, h.free_enough);
      }

  -- without the root the index stays as it is
  pub indexed_absent : (index' : List (List ℕ × ℕ)) (ir' : ℕ) → index' ≡ index → ir ≤ ir' → AreSlotsIndexed dbd slots index' ir' free fr
  indexed_absent index' ir' e le =
      record {
        valid = h.valid;
        ascending = subst (λ es. IsStrictlySortedBy key_cmp (keys_of es)) (sym e) h.ascending;
        found = λ q. ap (lookup (is_at (key_cmp q))) e ∙ h.found q;
        index_enough = omega (arith, h.index_enough);
        free_is = h.free_is;
        free_enough = h.free_enough;
      }

pub indexed_empty : (dbd : Dbd) (slots : List (List Row)) (index : List (List ℕ × ℕ)) (ir : ℕ) (free : List ℕ) (fr : ℕ) → IsHierarchy dbd.types
    → slots ≡ free_slots dbd.roots → index ≡ [] → dbd.roots ≤ ir → free ≡ free_numbers 0 (free_slots dbd.roots) → dbd.roots ≤ fr → AreSlotsIndexed dbd slots index ir free fr
indexed_empty dbd slots index ir free fr types s e le f le' =
    record {
      valid = subst (AreSlots dbd) (sym s) (free_slots_valid dbd types);
      ascending = subst (λ es. IsStrictlySortedBy key_cmp (keys_of es)) (sym e) (entries_sorted []);
      found = λ q. ap (lookup (is_at (key_cmp q))) e ∙ sym (ap (slot_of_root q) s ∙ free_slots_none q dbd.roots);
      index_enough = le;
      free_is = f ∙ ap (free_numbers 0) (sym s);
      free_enough = le';
    }
