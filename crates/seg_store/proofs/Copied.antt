-- A store once more, with as much room.
use Rattle.std.proofs.Common.{◌≡◌, ℕ, ◌≤◌, List, sym, subst}
use Rattle.tm_types.specs.declared.dbd.Dbd.{Dbd}
use Rattle.model_data.specs.declared.row.Row.{Row}
use Rattle.seg_store.specs.ChangedSlots.{Kept}
use Rattle.seg_store.specs.Store.{IsStoreKept}

-- what a store keeps
record AllKept : Type 0 where
  kept : Kept
  index : List (List ℕ × ℕ)
  free : List ℕ

pub kept_copied : (dbd dbd' : Dbd) (slots slots' : List (List Row)) (index index' : List (List ℕ × ℕ)) (free free' changed changed' : List ℕ) (room room' room'' new new' new'' : ℕ)
    → IsStoreKept dbd slots index room free room' changed room''
    → dbd' ≡ dbd → slots' ≡ slots → index' ≡ index → free' ≡ free → changed' ≡ changed
    → dbd.roots ≤ new → dbd.roots ≤ new' → dbd.roots ≤ new''
    → IsStoreKept dbd' slots' index' new free' new' changed' new''
kept_copied dbd dbd' slots slots' index index' free free' changed changed' room room' room'' new new' new'' k d s i f c n n' n'' =
    subst (λ (a : AllKept). IsStoreKept a.kept.dbd a.kept.slots a.index new a.free new' a.kept.changed new'')
    (λ t. record { kept = record { dbd = sym d t; slots = sym s t; changed = sym c t }; index = sym i t; free = sym f t })
    record {
      indexed = record {
        valid = k.indexed.valid;
        ascending = k.indexed.ascending;
        found = k.indexed.found;
        index_enough = n;
        free_is = k.indexed.free_is;
        free_enough = n';
      };
      changes = k.changes;
      changed_enough = n'';
    }
