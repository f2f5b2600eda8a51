-- What is always so of a table stays so.
use Rattle.std.proofs.Common.{◌≡◌, ℕ, ◌∷◌, [], ◌++◌, List, refl, sym, ap, subst, ◌∙◌, Bool, true, false, cond, not, ◌&&◌, Option, Some, None, eqb, length}
use Rattle.std.specs.Prelude.{filter, map, nat_eq, slice_get}
use Rattle.std.specs.List.{AllByRecursion, IsDistinct}
use Rattle.std.specs.List.Sorted.{IsStrictlySortedBy}
use Rattle.std.specs.Option.{option_map_or, is_some}
use Rattle.std.specs.BTreeMap.{is_at}
use Rattle.std.proofs.lemmas.Bool.{ne_eqb, eqb-true}
use Rattle.std.proofs.lemmas.List.Elements.{filter-append}
use Rattle.std.proofs.lemmas.Map.Keys.{IsDistinct-head, IsDistinct-tail, IsDistinct-cons}
use Rattle.std.proofs.lemmas.Map.Entries.{lookup-filter-keys}
use Rattle.tm_types.specs.declared.resource.Resource.{Resource}
use Rattle.tm_types.specs.declared.resource.Mode.{Mode}
use Rattle.tm_types.specs.declared.resource.Mode.TheVariants.{Shared, Exclusive}
use Rattle.model_data.specs.declared.request.Holder.{Holder}
use Rattle.model_data.specs.declared.request.Request.{Request}
use Rattle.model_data.specs.Modes.{same_resource, excludes, mode_serves, stronger, holder_cmp}
use Rattle.model_data.specs.Table.{EnqueueTable, empty_table, holds_of, mode_held, is_request_served, is_upgrade, holders_against, is_own, waiters_ahead, blocked_by}
use Rattle.model_data.specs.EnqueueRequests.{asker, granted_mode, with_hold, without_wait, placed_request, granted, with_waiter, waits_only_for, waits_for_nothing, released}
use Rattle.model_data.specs.Cycle.{IsTableRegion}
use Rattle.pi_enqueue.specs.KeptTable.{IsTableKept, Upgrades, RegionWaits, held_mode}
use Rattle.pi_enqueue.specs.declared.lists.Lists.{Lists}
use Rattle.pi_enqueue.specs.Lists.{table_of_lists, AreListsKept, AreListed}
use Rattle.pi_enqueue.proofs.Ascending.{all_map, all_filtered, all_keys_filtered, all_keys_inserted, sorted_inserted, sorted_filtered}
use Rattle.pi_enqueue.proofs.Holding.{serves_keeps, unserved_mode}
use Rattle.pi_enqueue.proofs.Granting.{clash, and_split, at_holder, held_after, against_found, none_first, none_both}
use Rattle.model_data.proofs.Holders.{holder_total, resource_exact, resource_back}
use Rattle.tm_types.proofs.Ordered.{eqb_back}

-- ---- lists
pub all_passing : {A : Type 0} (P : A → Type 0) (p : A → Bool) (xs : List A) → AllByRecursion P xs → AllByRecursion (λ x. (p x ≡ true) × P x) (filter p xs)
all_passing P p [] h = tt
all_passing P p (x ∷ xs) h = by (p x) refl (all_passing P p xs h.1)
  where
    by : (b : Bool) → p x ≡ b → AllByRecursion (λ x. (p x ≡ true) × P x) (filter p xs) → AllByRecursion (λ x. (p x ≡ true) × P x) (cond b (x ∷ filter p xs) (filter p xs))
    by true g rec = ((g, h.0), rec)
    by false g rec = rec

all_mapped_filtered : {A : Type 0} (P : ℕ → Type 0) (f : A → ℕ) (p : A → Bool) (xs : List A) → AllByRecursion P (map f xs) → AllByRecursion P (map f (filter p xs))
all_mapped_filtered P f p [] h = tt
all_mapped_filtered P f p (x ∷ xs) h =
    elim (p x) as (λ b. AllByRecursion P (map f (cond b (x ∷ filter p xs) (filter p xs)))) [ true ↦ (h.0, all_mapped_filtered P f p xs h.1) | false ↦ all_mapped_filtered P f p xs h.1 ]

pub distinct_filtered : {A : Type 0} (f : A → ℕ) (p : A → Bool) (xs : List A) → IsDistinct nat_eq (map f xs) → IsDistinct nat_eq (map f (filter p xs))
distinct_filtered f p [] h = h
distinct_filtered f p (x ∷ xs) h =
    elim (p x) as (λ b. IsDistinct nat_eq (map f (cond b (x ∷ filter p xs) (filter p xs)))) [
      | true ↦ IsDistinct-cons nat_eq (f x) (map f (filter p xs)) (all_mapped_filtered (λ y. eqb (f x) y ≡ false) f p xs (IsDistinct-head nat_eq (f x) (map f xs) h))
          (distinct_filtered f p xs (IsDistinct-tail nat_eq (f x) (map f xs) h))
      | false ↦ distinct_filtered f p xs (IsDistinct-tail nat_eq (f x) (map f xs) h)
    ]

-- two queues, each filtered in the same way
pub once_filtered : (p : Request → Bool) (us ws : List Request) → IsDistinct nat_eq (map (λ w. w.region) (us ++ ws)) → IsDistinct nat_eq (map (λ w. w.region) (filter p us ++ filter p ws))
once_filtered p us ws h =
    subst (λ xs. IsDistinct nat_eq (map (λ (w : Request). w.region) xs)) (filter-append p us ws) (distinct_filtered (λ (w : Request). w.region) p (us ++ ws) h)

all_front : {A : Type 0} (P : A → Type 0) (xs ys : List A) → AllByRecursion P (xs ++ ys) → AllByRecursion P xs
all_front P [] ys h = tt
all_front P (x ∷ xs) ys h = (h.0, all_front P xs ys h.1)

all_back : {A : Type 0} (P : A → Type 0) (xs ys : List A) → AllByRecursion P (xs ++ ys) → AllByRecursion P ys
all_back P [] ys h = h
all_back P (x ∷ xs) ys h = all_back P xs ys h.1

all_both : {A : Type 0} (P : A → Type 0) (xs ys : List A) → AllByRecursion P xs → AllByRecursion P ys → AllByRecursion P (xs ++ ys)
all_both P [] ys h g = g
all_both P (x ∷ xs) ys h g = (h.0, all_both P xs ys h.1 g)

-- ---- a table in which some wait no longer
pub kept_fewer_waits : (T : EnqueueTable) (p : Request → Bool) → IsTableKept T → IsTableKept (record T { upgrades = filter p T.upgrades; waits = filter p T.waits })
kept_fewer_waits T p kept = record {
  ascending = kept.ascending;
  alone = kept.alone;
  holders = kept.holders;
  upgrading = all_map (λ w h. record { region = h.region; has = h.has }) (filter p T.upgrades) (all_filtered (Upgrades T) p T.upgrades kept.upgrading);
  waiting = all_map (λ w h. record { region = h.region; hasnt = h.hasnt }) (filter p T.waits) (all_filtered (RegionWaits T) p T.waits kept.waiting);
  once = once_filtered p T.upgrades T.waits kept.once;
}

pub kept_waits_only_for : (T : EnqueueTable) (q : Request) → IsTableKept T → IsTableKept (waits_only_for q T)
kept_waits_only_for T q kept = kept_fewer_waits T (λ w. not (eqb w.region q.region && not (is_own q w))) kept

pub kept_waits_for_nothing : (T : EnqueueTable) (region : ℕ) → IsTableKept T → IsTableKept (waits_for_nothing region T)
kept_waits_for_nothing T region kept = kept_fewer_waits T (λ w. not (eqb w.region region)) kept

-- ---- a release
pub held_released : (region a : ℕ) (resource : Resource) (es : List (Holder × Mode))
    → held_mode a resource (filter (λ hold. not (eqb hold.0.region region)) es) ≡ cond (not (eqb a region)) (held_mode a resource es) None
held_released region a resource es =
    lookup-filter-keys (λ h. holds_of resource h && eqb h.region a) (λ h. not (eqb h.region region)) (not (eqb a region))
    (λ k h. ap (λ n. not (eqb n region)) (eqb-true k.region a (and_split (holds_of resource k) (eqb k.region a) h).1)) es

found_then : (b : Bool) (o : Option Mode) (m : Mode) → cond b o None ≡ Some m → o ≡ Some m
found_then true o m h = h
found_then false o m h = let c : None ≡ Some m = h in absurd (cc)

pub kept_released : (T : EnqueueTable) (region : ℕ) → IsTableKept T → IsTableKept (released region T)
kept_released T region kept = record {
  ascending = sorted_filtered holder_cmp (λ hold. not (eqb hold.0.region region)) T.holds kept.ascending;
  alone = λ resource a b mode h g. kept.alone resource a b mode
      (found_then (not (eqb a region)) (held_mode a resource T.holds) Exclusive (sym (held_released region a resource T.holds) ∙ h))
      (found_then (not (eqb b region)) (held_mode b resource T.holds) mode (sym (held_released region b resource T.holds) ∙ g));
  holders = all_keys_filtered (λ holder. IsTableRegion T holder.region) (λ hold. not (eqb hold.0.region region)) T.holds kept.holders;
  upgrading = all_map (λ w h. record { region = h.1.region; has = ap is_some (same w h.0) ∙ h.1.has }) (filter (λ w. not (eqb w.region region)) T.upgrades) (all_passing (Upgrades T) (λ w. not (eqb w.region region)) T.upgrades kept.upgrading);
  waiting = all_map (λ w h. record { region = h.1.region; hasnt = ap is_some (same w h.0) ∙ h.1.hasnt }) (filter (λ w. not (eqb w.region region)) T.waits) (all_passing (RegionWaits T) (λ w. not (eqb w.region region)) T.waits kept.waiting);
  once = once_filtered (λ w. not (eqb w.region region)) T.upgrades T.waits kept.once;
}
  where
    same : (w : Request) → not (eqb w.region region) ≡ true → mode_held w (released region T).holds ≡ mode_held w T.holds
    same w h = held_released region w.region w.resource T.holds ∙ ap (λ b. cond b (mode_held w T.holds) None) h

-- ---- a granted request
module _ (T : EnqueueTable) (p : Request) (kept : IsTableKept T) (region : IsTableRegion T p.region) (free : blocked_by p T ≡ None) where
  at_asker : (a : ℕ) (resource : Resource) → is_at (holder_cmp (record { resource = resource; region = a })) (asker p) ≡ holds_of resource (asker p) && eqb p.region a
  at_asker a resource = at_holder a resource (asker p)

  -- an unserved request that is free has nobody against it
  unserved_free : is_request_served p T.holds ≡ false → holders_against p T.holds ≡ []
  unserved_free h =
      (none_both (holders_against p T.holds) (waiters_ahead p T)
      (none_first (holders_against p T.holds ++ waiters_ahead p T) (ap (λ b. slice_get (cond b [] (holders_against p T.holds ++ waiters_ahead p T)) 0) (sym h) ∙ free))).0

  nobody_alone : (b : ℕ) (mode : Mode) → holders_against p T.holds ≡ [] → held_mode b p.resource T.holds ≡ Some mode → excludes mode p.mode ≡ true → b ≡ p.region
  nobody_alone b mode none h bad = by (eqb b p.region) refl
    where
      by : (c : Bool) → eqb b p.region ≡ c → b ≡ p.region
      by true g = eqb-true b p.region g
      by false g = absurd (against_found p b mode T.holds h g bad none)

  excludes_any : (m : Mode) → excludes m Exclusive ≡ true
  excludes_any Shared = refl
  excludes_any Exclusive = refl

  any_excluded : (m : Mode) → excludes Exclusive m ≡ true
  any_excluded Shared = refl
  any_excluded Exclusive = refl

  -- the region then holds alone, and another one holds too
  asker_alone : (b : ℕ) (mode : Mode) → granted_mode p T.holds ≡ Exclusive → held_mode b p.resource T.holds ≡ Some mode → p.region ≡ b
  asker_alone b mode g h = by (mode_held p T.holds) refl (is_request_served p T.holds) refl
    where
      by : (o : Option Mode) → mode_held p T.holds ≡ o → (s : Bool) → is_request_served p T.holds ≡ s → p.region ≡ b
      by None e true f = clash (sym (sym (ap (λ o. option_map_or (λ m. mode_serves m p.mode) o false) e) ∙ f))
      by (Some m) e true f =
          let keeps : stronger m p.mode ≡ m = serves_keeps m p.mode (sym (ap (λ o. option_map_or (λ m. mode_serves m p.mode) o false) e) ∙ f) in
          let x : m ≡ Exclusive = sym keeps ∙ (sym (ap (λ o. option_map_or (λ m. stronger m p.mode) o p.mode) e) ∙ g) in
          kept.alone p.resource p.region b mode (e ∙ ap (λ (m : Mode). Some m) x) h
      by o e false f =
          let x : p.mode ≡ Exclusive = sym (unserved_mode p T.holds f) ∙ g in
          sym (nobody_alone b mode (unserved_free f) h (ap (excludes mode) x ∙ excludes_any mode))

  -- another region holds alone, and the asker holds then
  other_alone : (a : ℕ) → held_mode a p.resource T.holds ≡ Some Exclusive → a ≡ p.region
  other_alone a h = by (mode_held p T.holds) refl
    where
      by : (o : Option Mode) → mode_held p T.holds ≡ o → a ≡ p.region
      by None e = nobody_alone a Exclusive (unserved_free (ap (λ o. option_map_or (λ m. mode_serves m p.mode) o false) e)) h (any_excluded p.mode)
      by (Some m) e = kept.alone p.resource a p.region m h e

  alone_then : (resource : Resource) (a b : ℕ) (mode : Mode) → held_mode a resource (with_hold p T.holds) ≡ Some Exclusive → held_mode b resource (with_hold p T.holds) ≡ Some mode → a ≡ b
  alone_then resource a b mode h g =
      by (is_at (holder_cmp (at a)) (asker p)) (is_at (holder_cmp (at b)) (asker p)) refl refl (sym (held_after p a resource T.holds) ∙ h) (sym (held_after p b resource T.holds) ∙ g)
    where
      at : ℕ → Holder
      at region = record { resource = resource; region = region }

      its : (c : ℕ) → is_at (holder_cmp (at c)) (asker p) ≡ true → (p.resource ≡ resource) × (p.region ≡ c)
      its c e =
          let parts = and_split (same_resource p.resource resource) (eqb p.region c) (sym (at_asker c resource) ∙ e) in
          (resource_exact p.resource resource parts.0, eqb-true p.region c parts.1)

      some_is : {x y : Mode} → Some x ≡ Some y → x ≡ y
      some_is e = cc

      by : (s t : Bool) → is_at (holder_cmp (at a)) (asker p) ≡ s → is_at (holder_cmp (at b)) (asker p) ≡ t
          → cond s (Some (granted_mode p T.holds)) (held_mode a resource T.holds) ≡ Some Exclusive → cond t (Some (granted_mode p T.holds)) (held_mode b resource T.holds) ≡ Some mode → a ≡ b
      by true true e f x y = sym (its a e).1 ∙ (its b f).1
      by true false e f x y = sym (its a e).1 ∙ asker_alone b mode (some_is x) (ap (λ r. held_mode b r T.holds) (its a e).0 ∙ y)
      by false true e f x y = other_alone a (ap (λ r. held_mode a r T.holds) (its b f).0 ∙ x) ∙ (its b f).1
      by false false e f x y = kept.alone resource a b mode x y

  still_has : (w : Request) → is_upgrade w T.holds ≡ true → is_upgrade w (with_hold p T.holds) ≡ true
  still_has w h = ap is_some (held_after p w.region w.resource T.holds) ∙ by (is_at (holder_cmp (asker w)) (asker p))
    where
      by : (b : Bool) → is_some (cond b (Some (granted_mode p T.holds)) (mode_held w T.holds)) ≡ true
      by true = refl
      by false = h

  still_hasnt : (w : Request) → not (is_own p w) ≡ true → is_upgrade w T.holds ≡ false → is_upgrade w (with_hold p T.holds) ≡ false
  still_hasnt w out h =
      ap is_some (held_after p w.region w.resource T.holds ∙ ap (λ b. cond b (Some (granted_mode p T.holds)) (mode_held w T.holds)) other) ∙ h
    where
      false_from : (b : Bool) → not b ≡ true → b ≡ false
      false_from true g = clash (sym g)
      false_from false g = refl

      other : is_at (holder_cmp (asker w)) (asker p) ≡ false
      other = at_asker w.region w.resource ∙ ((λ i. resource_back p.resource w.resource i && eqb_back p.region w.region i) ∙ false_from (is_own p w) out)

  pub kept_granted : IsTableKept (granted p T)
  kept_granted = record {
    ascending = sorted_inserted holder_total (asker p) (granted_mode p T.holds) T.holds kept.ascending;
    alone = alone_then;
    holders = all_keys_inserted holder_cmp (λ holder. IsTableRegion T holder.region) (asker p) (granted_mode p T.holds) T.holds region kept.holders;
    upgrading = all_map (λ w h. record { region = h.region; has = still_has w h.has }) (without_wait p T.upgrades) (all_filtered (Upgrades T) (λ w. not (is_own p w)) T.upgrades kept.upgrading);
    waiting = all_map (λ w h. record { region = h.1.region; hasnt = still_hasnt w h.0 h.1.hasnt }) (without_wait p T.waits) (all_passing (RegionWaits T) (λ w. not (is_own p w)) T.waits kept.waiting);
    once = once_filtered (λ w. not (is_own p w)) T.upgrades T.waits kept.once;
  }

-- ---- a request that waits
-- the region waits here for this resource at most
abbrev pub WaitsAtMost : Request → List Request → Type 0
WaitsAtMost q ws = AllByRecursion (λ w. w.region ≡ q.region → is_own q w ≡ true) ws

module _ (q : Request) where
  pub all_placed : (P : Request → Type 0) (ws : List Request) → P q → AllByRecursion P ws → AllByRecursion P (placed_request q ws)
  all_placed P [] p h = (p, tt)
  all_placed P (w ∷ ws) p h =
      elim (is_own q w) as (λ b. AllByRecursion P (cond b (q ∷ ws) (w ∷ placed_request q ws))) [ true ↦ (p, h.1) | false ↦ (h.0, all_placed P ws p h.1) ]

  all_left : (P : ℕ → Type 0) (us ws : List Request) → P q.region → AllByRecursion P (map (λ w. w.region) (us ++ ws)) → AllByRecursion P (map (λ w. w.region) (placed_request q us ++ ws))
  all_left P [] ws p h = (p, h)
  all_left P (u ∷ us) ws p h =
      elim (is_own q u) as (λ b. AllByRecursion P (map (λ w. w.region) (cond b (q ∷ us) (u ∷ placed_request q us) ++ ws))) [ true ↦ (p, h.1) | false ↦ (h.0, all_left P us ws p h.1) ]

  all_alone : (P : ℕ → Type 0) (ws : List Request) → P q.region → AllByRecursion P (map (λ w. w.region) ws) → AllByRecursion P (map (λ w. w.region) (placed_request q ws))
  all_alone P [] p h = (p, tt)
  all_alone P (w ∷ ws) p h =
      elim (is_own q w) as (λ b. AllByRecursion P (map (λ w. w.region) (cond b (q ∷ ws) (w ∷ placed_request q ws)))) [ true ↦ (p, h.1) | false ↦ (h.0, all_alone P ws p h.1) ]

  all_right : (P : ℕ → Type 0) (us ws : List Request) → P q.region → AllByRecursion P (map (λ w. w.region) (us ++ ws)) → AllByRecursion P (map (λ w. w.region) (us ++ placed_request q ws))
  all_right P [] ws p h = all_alone P ws p h
  all_right P (u ∷ us) ws p h = (h.0, all_right P us ws p h.1)

  own_region : (w : Request) → is_own q w ≡ true → w.region ≡ q.region
  own_region w h = eqb-true w.region q.region (and_split (same_resource w.resource q.resource) (eqb w.region q.region) h).1

  other_region : (w : Request) → is_own q w ≡ false → (w.region ≡ q.region → is_own q w ≡ true) → eqb w.region q.region ≡ false
  other_region w h own = ne_eqb w.region q.region (λ e. clash (sym (own e) ∙ h))

  distinct_left : (us ws : List Request) → WaitsAtMost q us → AllByRecursion (λ y. eqb q.region y ≡ false) (map (λ w. w.region) ws)
      → IsDistinct nat_eq (map (λ w. w.region) (us ++ ws)) → IsDistinct nat_eq (map (λ w. w.region) (placed_request q us ++ ws))
  distinct_left [] ws own out h = IsDistinct-cons nat_eq q.region (map (λ w. w.region) ws) out h
  distinct_left (u ∷ us) ws own out h = by (is_own q u) refl (distinct_left us ws own.1 out tail)
    where
      tail : IsDistinct nat_eq (map (λ w. w.region) (us ++ ws))
      tail = IsDistinct-tail nat_eq u.region (map (λ w. w.region) (us ++ ws)) h

      head : AllByRecursion (λ y. eqb u.region y ≡ false) (map (λ w. w.region) (us ++ ws))
      head = IsDistinct-head nat_eq u.region (map (λ w. w.region) (us ++ ws)) h

      by : (b : Bool) → is_own q u ≡ b → IsDistinct nat_eq (map (λ w. w.region) (placed_request q us ++ ws)) → IsDistinct nat_eq (map (λ w. w.region) (cond b (q ∷ us) (u ∷ placed_request q us) ++ ws))
      by true e rec = subst (λ r. IsDistinct nat_eq (r ∷ map (λ w. w.region) (us ++ ws))) (own_region u e) h
      by false e rec = IsDistinct-cons nat_eq u.region (map (λ w. w.region) (placed_request q us ++ ws)) (all_left (λ y. eqb u.region y ≡ false) us ws (other_region u e own.0) head) rec

  distinct_alone : (ws : List Request) → WaitsAtMost q ws → IsDistinct nat_eq (map (λ w. w.region) ws) → IsDistinct nat_eq (map (λ w. w.region) (placed_request q ws))
  distinct_alone [] own h = IsDistinct-cons nat_eq q.region [] tt h
  distinct_alone (w ∷ ws) own h = by (is_own q w) refl (distinct_alone ws own.1 (IsDistinct-tail nat_eq w.region (map (λ w. w.region) ws) h))
    where
      by : (b : Bool) → is_own q w ≡ b → IsDistinct nat_eq (map (λ w. w.region) (placed_request q ws)) → IsDistinct nat_eq (map (λ w. w.region) (cond b (q ∷ ws) (w ∷ placed_request q ws)))
      by true e rec = subst (λ r. IsDistinct nat_eq (r ∷ map (λ w. w.region) ws)) (own_region w e) h
      by false e rec =
          IsDistinct-cons nat_eq w.region (map (λ w. w.region) (placed_request q ws))
          (all_alone (λ y. eqb w.region y ≡ false) ws (other_region w e own.0) (IsDistinct-head nat_eq w.region (map (λ w. w.region) ws) h)) rec

  distinct_right : (us ws : List Request) → WaitsAtMost q ws → AllByRecursion (λ u. eqb u.region q.region ≡ false) us
      → IsDistinct nat_eq (map (λ w. w.region) (us ++ ws)) → IsDistinct nat_eq (map (λ w. w.region) (us ++ placed_request q ws))
  distinct_right [] ws own out h = distinct_alone ws own h
  distinct_right (u ∷ us) ws own out h =
      IsDistinct-cons nat_eq u.region (map (λ w. w.region) (us ++ placed_request q ws))
      (all_right (λ y. eqb u.region y ≡ false) us ws out.0 (IsDistinct-head nat_eq u.region (map (λ w. w.region) (us ++ ws)) h))
      (distinct_right us ws own out.1 (IsDistinct-tail nat_eq u.region (map (λ w. w.region) (us ++ ws)) h))

module _ (T : EnqueueTable) (q : Request) (kept : IsTableKept T) (region : IsTableRegion T q.region) where
  same_upgrade : (w : Request) → is_own q w ≡ true → is_upgrade w T.holds ≡ is_upgrade q T.holds
  same_upgrade w h =
      let parts = and_split (same_resource w.resource q.resource) (eqb w.region q.region) h in
      let r : w.resource ≡ q.resource = resource_exact w.resource q.resource parts.0 in
      let n : w.region ≡ q.region = eqb-true w.region q.region parts.1 in
      λ i. is_some (held_mode (n i) (r i) T.holds)

  not_waiting : is_upgrade q T.holds ≡ true → (ws : List Request) → WaitsAtMost q ws → AllByRecursion (RegionWaits T) ws → AllByRecursion (λ y. eqb q.region y ≡ false) (map (λ w. w.region) ws)
  not_waiting up [] own h = tt
  not_waiting up (w ∷ ws) own h =
      (ne_eqb q.region w.region (λ e. clash (sym (same_upgrade w (own.0 (sym e)) ∙ up) ∙ h.0.hasnt)), not_waiting up ws own.1 h.1)

  not_upgrading : is_upgrade q T.holds ≡ false → (us : List Request) → WaitsAtMost q us → AllByRecursion (Upgrades T) us → AllByRecursion (λ u. eqb u.region q.region ≡ false) us
  not_upgrading up [] own h = tt
  not_upgrading up (u ∷ us) own h =
      (ne_eqb u.region q.region (λ e. clash (sym h.0.has ∙ (same_upgrade u (own.0 e) ∙ up))), not_upgrading up us own.1 h.1)

  pub kept_waiting : WaitsAtMost q T.upgrades → WaitsAtMost q T.waits → IsTableKept (with_waiter q T)
  kept_waiting us ws = by (is_upgrade q T.holds) refl
    where
      by : (b : Bool) → is_upgrade q T.holds ≡ b → IsTableKept (cond b (record T { upgrades = placed_request q T.upgrades }) (record T { waits = placed_request q T.waits }))
      by true e = record {
        ascending = kept.ascending;
        alone = kept.alone;
        holders = kept.holders;
        upgrading = all_map (λ w h. record { region = h.region; has = h.has }) (placed_request q T.upgrades) (all_placed q (Upgrades T) T.upgrades (record { region = region; has = e }) kept.upgrading);
        waiting = all_map (λ w h. record { region = h.region; hasnt = h.hasnt }) T.waits kept.waiting;
        once = distinct_left q T.upgrades T.waits us (not_waiting e T.waits ws kept.waiting) kept.once;
      }
      by false e = record {
        ascending = kept.ascending;
        alone = kept.alone;
        holders = kept.holders;
        upgrading = all_map (λ w h. record { region = h.region; has = h.has }) T.upgrades kept.upgrading;
        waiting = all_map (λ w h. record { region = h.region; hasnt = h.hasnt }) (placed_request q T.waits) (all_placed q (RegionWaits T) T.waits (record { region = region; hasnt = e }) kept.waiting);
        once = distinct_right q T.upgrades T.waits ws (not_upgrading e T.upgrades us kept.upgrading) kept.once;
      }

-- ---- a new table
none_held : {P : Type 0} {mode : Mode} → None ≡ Some mode → P
none_held h = absurd (cc)

pub kept_empty : (regions : ℕ) → IsTableKept (empty_table regions)
unfolding IsStrictlySortedBy IsDistinct
kept_empty regions = record {
  ascending = tt;
  alone = λ resource a b mode h g. none_held h;
  holders = tt;
  upgrading = tt;
  waiting = tt;
  once = tt;
}

-- ---- the lists
pub kept_lists : (old new : Lists) (T : EnqueueTable) → AreListsKept old → table_of_lists new ≡ T → T.regions ≡ old.regions → IsTableKept T → AreListed new.held.items new.holds.entries
    → length new.held.items ≡ length old.held.items → AreListsKept new
kept_lists old new T kept e regions is listed all = record {
  kept = subst IsTableKept (sym e) is;
  listed = listed;
  all = all ∙ (kept.all ∙ sym (ap (λ t. t.regions) e ∙ regions));
}

pub kept_new : (new : Lists) (regions : ℕ) → table_of_lists new ≡ empty_table regions → length new.held.items ≡ regions → AreListsKept new
kept_new new regions e all = record {
  kept = subst IsTableKept (sym e) (kept_empty regions);
  listed = subst (AreListed new.held.items) (sym (ap (λ t. t.holds) e)) tt;
  all = all ∙ sym (ap (λ t. t.regions) e);
}

pub same_listed : (old new : Lists) → AreListed old.held.items old.holds.entries → new.held.items ≡ old.held.items → new.holds.entries ≡ old.holds.entries → AreListed new.held.items new.holds.entries
same_listed old new h e f = subst (λ index. AreListed index new.holds.entries) (sym e) (subst (AreListed old.held.items) (sym f) h)
