-- Stores are the same with one of them put where it stands.
use Rattle.std.proofs.Common.{◌≡◌, ℕ, ◌-◌, List, [], ◌∷◌, Some, set, zero, suc, refl, ap, ◌∙◌}
use Rattle.std.specs.List.{slice_get}
use Rattle.seg_store.specs.ChangedSlots.{AllStores, Kept}
use Rattle.seg_store.specs.Stores.{IsStoreOf, with_store}

set_same : {A : Type 0} (xs : List A) (i : ℕ) (x : A) → slice_get xs i ≡ Some x → set xs i x ≡ xs
set_same [] i x e = refl
set_same (y ∷ xs) zero x e =
    let here : Some y ≡ Some x = e in
    let same : x ≡ y = cc in
    ap (λ z. z ∷ xs) same
set_same (y ∷ xs) (suc i) x e = ap (λ ys. y ∷ ys) (set_same xs i x e)

pub with_same : (all : AllStores) (db : ℕ) (one new : Kept) → IsStoreOf all db one → new ≡ one → with_store all db new ≡ all
with_same all db one new is same =
    ap (with_store all db) same
    ∙ (λ i. record { stores = set_same all.stores (db - 1) _ is.stored_is i; changed = set_same all.changed (db - 1) _ is.changed_is i })
