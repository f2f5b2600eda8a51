-- Holders as keys.
use Rattle.std.proofs.Common.{◌≡◌, ℕ, ◌≤◌, ◌∷◌, [], List, refl, sym, ap, ◌∙◌, arith, Bool, true, false, cond, not, ◌&&◌, Option, Some, None, eqb, ⊎_elim}
use Rattle.std.specs.Prelude.{filter, map, slice_get}
use Rattle.std.specs.List.{AllByRecursion}
use Rattle.std.specs.Ordering.{nat_cmp, is_eq, is_lt, is_le, is_gt, ordering_then}
use Rattle.std.specs.declared.cmp.Ordering.{Ordering}
use Rattle.std.specs.declared.cmp.Ordering.TheVariants.{Less, Equal, Greater}
use Rattle.std.specs.BTreeMap.{is_at}
use Rattle.std.specs.Map.{keys_of, lookup}
use Rattle.std.proofs.lemmas.Bool.{cases_order}
use Rattle.tm_types.specs.declared.resource.Resource.{Resource}
use Rattle.tm_types.specs.declared.resource.Mode.{Mode}
use Rattle.model_data.specs.declared.request.Holder.{Holder}
use Rattle.model_data.specs.declared.request.Request.{Request}
use Rattle.model_data.specs.Modes.{excludes, resource_cmp, holder_cmp}
use Rattle.model_data.specs.Table.{holds_of, is_asker, mode_held, holders_against}
use Rattle.model_data.specs.EnqueueRequests.{asker}
use Rattle.pi_enqueue.specs.Lists.{IsUpTo}
use Rattle.tm_types.proofs.Ordered.{less_from, equal_from, greater_from, eqb_back, is_equal}
use Rattle.model_data.proofs.Holders.{resource_ties, resource_back, resource_same, holder_ties}

pub asker_is : (q : Request) (h : Holder) → is_at (holder_cmp (asker q)) h ≡ is_asker q h
asker_is q h = holder_ties (asker q) h ∙ (λ i. resource_back q.resource h.resource i && eqb_back q.region h.region i)

pub lookup_alike : {K X : Type 0} (p q : K → Bool) → ((k : K) → p k ≡ q k) → (es : List (K × X)) → lookup p es ≡ lookup q es
lookup_alike p q h [] = refl
lookup_alike p q h (e ∷ es) = λ i. cond (h e.0 i) (Some e.1) (lookup_alike p q h es i)

pub held_is : (q : Request) (es : List (Holder × Mode)) → lookup (is_at (holder_cmp (asker q))) es ≡ mode_held q es
held_is q es = lookup_alike (is_at (holder_cmp (asker q))) (is_asker q) (asker_is q) es

-- ---- the holders of one resource, as a range
abbrev pub first_of : Resource → Holder
first_of resource = record { resource = resource; region = 0 }

abbrev pub last_of : ℕ → Resource → Holder
last_of last resource = record { resource = resource; region = last }

pub runs : (last : ℕ) (resource : Resource) → is_gt (holder_cmp (first_of resource) (last_of last resource)) ≡ false
runs last resource =
    ap (λ o. is_gt (ordering_then o (nat_cmp 0 last))) (is_equal _ (resource_ties resource resource ∙ resource_same resource))
    ∙ ⊎_elim (λ e. ap is_gt (equal_from 0 last e)) (⊎_elim (λ h. ap is_gt (less_from 0 last h)) (λ h. absurd (omega arith))) (cases_order 0 last)

from_first : (region : ℕ) → is_le (nat_cmp 0 region) ≡ true
from_first region = ⊎_elim (λ e. ap is_le (equal_from 0 region e)) (⊎_elim (λ h. ap is_le (less_from 0 region h)) (λ h. absurd (omega arith))) (cases_order 0 region)

to_last : (last region : ℕ) → region ≤ last → is_lt (nat_cmp last region) ≡ false
to_last last region h = ⊎_elim (λ e. ap is_lt (equal_from last region e)) (⊎_elim (λ g. absurd (omega arith)) (λ g. ap is_lt (greater_from last region g))) (cases_order last region)

contained : (o : Ordering) (last region : ℕ) → region ≤ last → is_le (ordering_then o (nat_cmp 0 region)) && not (is_lt (ordering_then o (nat_cmp last region))) ≡ is_eq o
contained Less last region h = refl
contained Equal last region h = λ i. from_first region i && not (to_last last region h i)
contained Greater last region h = refl

-- between the first and the last holder that the resource may have
abbrev pub is_between : ℕ → Resource → Holder → Bool
is_between last resource h = is_le (holder_cmp (first_of resource) h) && not (is_lt (holder_cmp (last_of last resource) h))

pub in_range : (last : ℕ) (resource : Resource) (h : Holder) → IsUpTo last h → is_between last resource h ≡ holds_of resource h
in_range last resource h small =
    contained (resource_cmp resource h.resource) last h.region small.1
    ∙ (resource_ties resource h.resource ∙ resource_back resource h.resource)

pub between_is : (last : ℕ) (resource : Resource) (es : List (Holder × Mode)) → AllByRecursion (IsUpTo last) (keys_of es)
    → filter (λ e. is_between last resource e.0) es ≡ filter (λ e. holds_of resource e.0) es
between_is last resource [] h = refl
between_is last resource (e ∷ es) h = λ i. cond (in_range last resource e.0 h.0 i) (e ∷ between_is last resource es h.1 i) (between_is last resource es h.1 i)

pub held_as : (q : Request) (k : Holder) (es : List (Holder × Mode)) → k ≡ asker q → lookup (is_at (holder_cmp k)) es ≡ mode_held q es
held_as q k es h = ap (λ k. lookup (is_at (holder_cmp k)) es) h ∙ held_is q es

-- ---- who stands against a request
abbrev pub is_other : Request → Holder × Mode → Bool
is_other q e = not (eqb e.0.region q.region) && excludes e.1 q.mode

filter_both : {A : Type 0} (p r : A → Bool) (xs : List A) → filter (λ x. p x && r x) xs ≡ filter r (filter p xs)
filter_both p r [] = refl
filter_both p r (x ∷ xs) =
    elim (p x) as (λ b. cond (b && r x) (x ∷ filter (λ x. p x && r x) xs) (filter (λ x. p x && r x) xs) ≡ filter r (cond b (x ∷ filter p xs) (filter p xs))) [
      | true ↦ ap (λ us. cond (r x) (x ∷ us) us) (filter_both p r xs)
      | false ↦ filter_both p r xs
    ]

-- the first of those among the holders that the range has
pub against_is : (last : ℕ) (q : Request) (es range : List (Holder × Mode)) → AllByRecursion (IsUpTo last) (keys_of es)
    → range ≡ filter (λ e. is_between last q.resource e.0) es
    → slice_get (map (λ e. e.0.region) (filter (is_other q) range)) 0 ≡ slice_get (holders_against q es) 0
against_is last q es range h between =
    ap (λ us. slice_get (map (λ e. e.0.region) us) 0)
    (ap (filter (is_other q)) (between ∙ between_is last q.resource es h) ∙ sym (filter_both (λ e. holds_of q.resource e.0) (is_other q) es))

pub lowest_is : (last : ℕ) (resource : Resource) (es range : List (Holder × Mode)) → AllByRecursion (IsUpTo last) (keys_of es)
    → range ≡ filter (λ e. is_between last resource e.0) es
    → slice_get (map (λ e. e.0.region) range) 0 ≡ slice_get (map (λ e. e.0.region) (filter (λ e. holds_of resource e.0) es)) 0
lowest_is last resource es range h between = ap (λ us. slice_get (map (λ e. e.0.region) us) 0) (between ∙ between_is last resource es h)

-- a search among holders, entry by entry
abbrev first_region : List (Holder × Mode) → Option ℕ
first_region es = slice_get (map (λ e. e.0.region) es) 0

pub passed : (q : Request) (holder : Holder) (mode : Mode) (all rest : List (Holder × Mode)) (o : Option ℕ) → all ≡ (holder, mode) ∷ rest → is_other q (holder, mode) ≡ false
    → slice_get (map (λ e. e.0.region) (filter (is_other q) all)) 0 ≡ o → slice_get (map (λ e. e.0.region) (filter (is_other q) rest)) 0 ≡ o
passed q holder mode all rest o e out found =
    sym (ap (λ es. first_region (filter (is_other q) es)) e ∙ ap (λ b. first_region (cond b ((holder, mode) ∷ filter (is_other q) rest) (filter (is_other q) rest))) out) ∙ found

pub met : (q : Request) (holder : Holder) (mode : Mode) (all rest : List (Holder × Mode)) (o : Option ℕ) → all ≡ (holder, mode) ∷ rest → is_other q (holder, mode) ≡ true
    → slice_get (map (λ e. e.0.region) (filter (is_other q) all)) 0 ≡ o → Some holder.region ≡ o
met q holder mode all rest o e hit found =
    sym (ap (λ es. first_region (filter (is_other q) es)) e ∙ ap (λ b. first_region (cond b ((holder, mode) ∷ filter (is_other q) rest) (filter (is_other q) rest))) hit) ∙ found

pub met_none : (q : Request) (all : List (Holder × Mode)) (o : Option ℕ) → all ≡ [] → slice_get (map (λ e. e.0.region) (filter (is_other q) all)) 0 ≡ o → None ≡ o
met_none q all o e found = sym (ap (λ es. first_region (filter (is_other q) es)) e) ∙ found
