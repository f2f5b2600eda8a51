-- One store among those of a system.
use Rattle.std.proofs.Common.{◌≡◌, ℕ, ◌-◌, ◌∷◌, [], zero, suc, List, refl, ap, ◌∙◌, Some, set}
use Rattle.std.specs.Prelude.{map}
use Rattle.std.specs.List.{slice_get}
use Rattle.std.specs.Option.{option_map}
use Rattle.std.proofs.lemmas.Option.{slice_get-map}
use Rattle.seg_store.specs.ChangedSlots.{Kept, stored, all_stores}
use Rattle.seg_store.specs.Stores.{IsStoreOf, with_store}

map_set : {A B : Type 0} (f : A → B) (xs : List A) (i : ℕ) (x : A) → map f (set xs i x) ≡ set (map f xs) i (f x)
map_set f [] i x = refl
map_set f (y ∷ xs) zero x = refl
map_set f (y ∷ xs) (suc i) x = ap (λ ys. f y ∷ ys) (map_set f xs i x)

pub one_set : (kept : List Kept) (db : ℕ) (one : Kept) → all_stores (set kept (db - 1) one) ≡ with_store (all_stores kept) db one
one_set kept db one = λ t. record {
  stores = map_set stored kept (db - 1) one t;
  changed = map_set (λ k. k.changed) kept (db - 1) one t;
}

pub one_of : (kept : List Kept) (db : ℕ) (one : Kept) → slice_get kept (db - 1) ≡ Some one → IsStoreOf (all_stores kept) db one
one_of kept db one e = record {
  stored_is = slice_get-map stored kept (db - 1) ∙ ap (option_map stored) e;
  changed_is = slice_get-map (λ k. k.changed) kept (db - 1) ∙ ap (option_map (λ k. k.changed)) e;
}
