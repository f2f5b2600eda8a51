-- Names that differ from each other: what is put into them, how many they are at most.
use Rattle.std.proofs.Common.{◌≡◌, refl, subst, ℕ, zero, suc, ◌≤◌, Bool, true, false, List, [], ◌∷◌, length, take}
use Rattle.std.specs.Prelude.{if◌then◌else◌}
use Rattle.std.specs.List.{AllByRecursion, IsDistinct, list_any}
use Rattle.std.specs.Str.{bytes_eq}
use Rattle.std.proofs.lemmas.Cmp.{nat_list_eq_equiv}
use Rattle.std.proofs.lemmas.Map.Keys.{IsDistinct-cons, IsDistinct-head, IsDistinct-tail}
use Rattle.std.proofs.lemmas.Map.Made.{length-le_from_is_member}
use Rattle.std.proofs.lemmas.Slice.Eq.{bytes_eq-Decides}

-- no two are the same
abbrev pub Differ : List (List ℕ) → Type 0
Differ names = IsDistinct bytes_eq names

-- a name that is none of some names
abbrev pub Apart : List ℕ → List (List ℕ) → Type 0
Apart name names = AllByRecursion (λ other. bytes_eq name other ≡ false) names

pub none_differ : Differ []
unfolding IsDistinct
none_differ = tt

-- ---- a name put into its place, or at the end

abbrev pub put_name : List ℕ → List (List ℕ) → List (List ℕ)
put_name name [] = name ∷ []
put_name name (first ∷ names) = if bytes_eq first name then name ∷ names else first ∷ put_name name names

apart_put : (one name : List ℕ) (names : List (List ℕ)) → bytes_eq one name ≡ false → Apart one names → Apart one (put_name name names)
apart_put one name [] other apart = (other, tt)
apart_put one name (first ∷ names) other apart = by (bytes_eq first name) (apart_put one name names other apart.1) where
  by : (b : Bool) → Apart one (put_name name names) → Apart one (if b then name ∷ names else first ∷ put_name name names)
  by true rest = (other, apart.1)
  by false rest = (apart.0, rest)

pub differ_put : (name : List ℕ) (names : List (List ℕ)) → Differ names → Differ (put_name name names)
differ_put name [] differ = IsDistinct-cons bytes_eq name [] tt differ
differ_put name (first ∷ names) differ = by (bytes_eq first name) refl (differ_put name names (IsDistinct-tail bytes_eq first names differ)) where
  by : (b : Bool) → bytes_eq first name ≡ b → Differ (put_name name names) → Differ (if b then name ∷ names else first ∷ put_name name names)
  by true e rest = subst (λ (n : List ℕ). Differ (n ∷ names)) ((bytes_eq-Decides first name).0 e) differ
  by false e rest = IsDistinct-cons bytes_eq first (put_name name names) (apart_put first name names e (IsDistinct-head bytes_eq first names differ)) rest

-- ---- the first of them

apart_take : (one : List ℕ) (n : ℕ) (names : List (List ℕ)) → Apart one names → Apart one (take n names)
apart_take one zero names apart = tt
apart_take one (suc n) [] apart = tt
apart_take one (suc n) (name ∷ names) apart = (apart.0, apart_take one n names apart.1)

pub differ_take : (n : ℕ) (names : List (List ℕ)) → Differ names → Differ (take n names)
differ_take zero names differ = none_differ
differ_take (suc n) [] differ = differ
differ_take (suc n) (name ∷ names) differ =
    IsDistinct-cons bytes_eq name (take n names) (apart_take name n names (IsDistinct-head bytes_eq name names differ)) (differ_take n names (IsDistinct-tail bytes_eq name names differ))

-- ---- names that differ and are all among others are no more than these

pub few_names : (names others : List (List ℕ)) → Differ names → ((name : List ℕ) → list_any (bytes_eq name) names ≡ true → list_any (bytes_eq name) others ≡ true)
    → length names ≤ length others
few_names names others differ among = length-le_from_is_member nat_list_eq_equiv names others differ among
