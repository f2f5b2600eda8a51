-- Lists of segment types.
use Rattle.std.proofs.Common.{◌≡◌, ℕ, ◌∷◌, ◌++◌, [], List, Some, zero, suc, length, ◌⊎◌, inl, inr, ⊎_elim, subst, sym, ap, refl}
use Rattle.std.specs.List.{slice_get}
use Rattle.std.proofs.lemmas.Option.{same_Some, none-some}
use Rattle.tm_types.specs.declared.dbd.SegType.{SegType}
use Rattle.tm_types.specs.SegTypes.{IsTypeAt, IsHierarchy}

-- an element of a list with one more at its end is one of the list, or the last
pub slice_get_push : {A : Type 0} (xs : List A) (x : A) (i : ℕ) (y : A) → slice_get (xs ++ x ∷ []) i ≡ Some y
    → (slice_get xs i ≡ Some y) ⊎ ((i ≡ length xs) × (x ≡ y))
slice_get_push [] x zero y e = inr (refl, same_Some x y e)
slice_get_push [] x (suc i) y e = absurd (none-some y e)
slice_get_push (z ∷ zs) x zero y e = inl e
slice_get_push (z ∷ zs) x (suc i) y e =
    ⊎_elim (λ h. inl h) (λ h. inr (ap (λ n. suc n) h.0, h.1)) (slice_get_push zs x i y e)

pub IsHierarchy-push : (types : List SegType) (s : SegType) → IsHierarchy types → IsTypeAt (length types) s → IsHierarchy (types ++ s ∷ [])
IsHierarchy-push types s all here place t e =
    ⊎_elim (λ h. all place t h)
    (λ h. subst (λ n. IsTypeAt n t) (sym h.0) (subst (λ u. IsTypeAt (length types) u) h.1 here))
    (slice_get_push types s place t e)
