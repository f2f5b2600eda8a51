-- How a store keeps its slots.
use Rattle.std.proofs.Common.{◌∙◌, ap, arith, refl, subst, sym}
use Rattle.std.specs.Prelude.{◌≡◌, true, ℕ, suc, ◌≤◌, nat_lt, List, [], ◌∷◌, Option, None, Some, slice_get, find}
use Rattle.std.specs.List.{prefix_len}
use Rattle.std.specs.List.Sorted.{IsStrictlySortedBy}
use Rattle.std.specs.Ordering.{is_lt}
use Rattle.std.specs.BTreeMap.{is_at}
use Rattle.std.specs.Map.{keys_of, lookup}
use Rattle.tm_types.specs.declared.dbd.Dbd.{Dbd}
use Rattle.model_data.specs.declared.row.Row.{Row}
use Rattle.model_data.specs.Path.{key_cmp}
use Rattle.model_data.specs.Rows.{AreRows, roots}
use Rattle.seg_rows.specs.ReadRows.{AreReadOn}
use Rattle.seg_store.specs.Slots.{AreSlots, rows_of_slots, slot_of_root}
use Rattle.seg_store.specs.ChangedSlots.{AreChanged, Kept}

-- the numbers of the free slots, the first slot having this number
abbrev pub free_numbers : ℕ → List (List Row) → List ℕ
free_numbers n [] = []
free_numbers n ([] ∷ slots) = n ∷ free_numbers (suc n) slots
free_numbers n ((row ∷ image) ∷ slots) = free_numbers (suc n) slots

-- how many of these numbers are lower
abbrev pub count_below : ℕ → List ℕ → ℕ
count_below number numbers = prefix_len (λ n. nat_lt n number) numbers

-- the index tells the slot of each root, the free slots are known, and both have room for all
pub record AreSlotsIndexed (dbd : Dbd) (slots : List (List Row)) (index : List (List ℕ × ℕ)) (index_room : ℕ) (free : List ℕ) (free_room : ℕ) : Type 0 where
  pub valid : AreSlots dbd slots
  pub ascending : IsStrictlySortedBy key_cmp (keys_of index)
  pub found : (root : List ℕ) → lookup (is_at (key_cmp root)) index ≡ slot_of_root root slots
  pub index_enough : dbd.roots ≤ index_room
  pub free_is : free ≡ free_numbers 0 slots
  pub free_enough : dbd.roots ≤ free_room

-- the first entry of the index, or the first one after this root
abbrev pub next_entry : List (List ℕ × ℕ) → Option (List ℕ) → Option (List ℕ × ℕ)
next_entry index None = slice_get index 0
next_entry index (Some root) = find (λ entry. is_lt (key_cmp root entry.0)) index

-- and the changed slots are known, with room for all
pub record IsStoreKept (dbd : Dbd) (slots : List (List Row)) (index : List (List ℕ × ℕ)) (index_room : ℕ) (free : List ℕ) (free_room : ℕ) (changed : List ℕ) (changed_room : ℕ) : Type 0 where
  pub indexed : AreSlotsIndexed dbd slots index index_room free free_room
  pub changes : AreChanged dbd.roots changed
  pub changed_enough : dbd.roots ≤ changed_room

-- reading leaves a store as it was
pub store_none : (a : Kept) → a ≡ a
store_none a = refl

pub store_on : (a b c : Kept) → b ≡ a → c ≡ b → c ≡ a
store_on a b c e f = f ∙ e

pub store_same : (a b : Kept) → b ≡ a → AreReadOn a.dbd b.dbd (rows_of_slots a.slots) (rows_of_slots b.slots) true true 0 0
store_same a b e =
    record {
      database = ap (λ (s : Kept). s.dbd) e;
      rows = record {
        valid = λ are. subst (λ (s : Kept). AreRows a.dbd (rows_of_slots s.slots)) (sym e) are;
        roots = ap (λ (s : Kept). roots (rows_of_slots s.slots)) e;
        told = λ told. ap (λ (s : Kept). rows_of_slots s.slots) e;
      };
      tells = refl;
      faults = omega arith;
    }
