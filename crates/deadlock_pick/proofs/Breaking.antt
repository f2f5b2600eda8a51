-- That no cycle stands: what keeps it so, and that breaking the cycles through one region leaves none.
use Rattle.std.proofs.Common.{◌≡◌, ℕ, ◌<◌, ◌≤◌, ◌∷◌, [], ◌++◌, List, refl, sym, ap, subst, ◌∙◌, arith, Bool, true, false, cond, not, ◌&&◌, ◌||◌, Option, Some, None, eqb, length}
use Rattle.std.specs.Prelude.{All, nat_eq, nat_lt, ◌==◌, filter, find, map}
use Rattle.std.specs.List.{AllByRecursion, list_any}
use Rattle.std.specs.Option.{option_map_or, is_some}
use Rattle.std.proofs.lemmas.Bool.{eq-eqb, ne_eqb, eqb-true}
use Rattle.std.proofs.lemmas.List.Elements.{All-cons, All-append, filter-append}
use Rattle.std.proofs.lemmas.List.{length-map}
use Rattle.std.proofs.lemmas.List.Sorted.{IsPermutation-append_comm}
use Rattle.std.proofs.lemmas.Map.Keys.{IsDistinct-IsPermutation}
use Rattle.model_data.specs.declared.request.Request.{Request}
use Rattle.model_data.specs.declared.victim.Victim.{Victim}
use Rattle.model_data.specs.Table.{EnqueueTable, blockers, blocked_by, wait_of, waits_for}
use Rattle.model_data.specs.EnqueueRequests.{granted, with_waiter, waits_only_for, waits_for_nothing, released, after_asks, first_blocked}
use Rattle.model_data.specs.Cycle.{IsTableRegion, WaitsAlong, IsRing, IsCycle, HasNoCycle, changed_count_of, gives_way, victim_of, Breaks, after_victims}
use Rattle.pi_enqueue.specs.KeptTable.{IsTableKept, Upgrades, RegionWaits, waiting_regions}
use Rattle.pi_enqueue.proofs.Granting.{clash}
use Rattle.pi_enqueue.proofs.Ascending.{all_map}
use Rattle.pi_enqueue.proofs.Asking.{AreOf}
use Rattle.deadlock_pick.specs.NoCycles.{HasNoCycles}
use Rattle.deadlock_pick.specs.Weights.{IsWeighed}
use Rattle.deadlock_pick.proofs.Ways.{each, few_regions}
use Rattle.deadlock_pick.proofs.Fewer.{Fewer, fewer_less, less_nothing, less_released, fewer_asked}

-- ---- a cycle that goes through a region, begun with that region
split_at : (r : ℕ) (xs : List ℕ) → list_any (eqb r) xs ≡ true → (us : List ℕ) × (vs : List ℕ) × (xs ≡ us ++ r ∷ vs)
split_at r [] h = clash (sym h)
split_at r (x ∷ xs) h = by (eqb r x) refl h (split_at r xs)
  where
    by : (b : Bool) → eqb r x ≡ b → b || list_any (eqb r) xs ≡ true → (list_any (eqb r) xs ≡ true → (us : List ℕ) × (vs : List ℕ) × (xs ≡ us ++ r ∷ vs))
        → (us : List ℕ) × (vs : List ℕ) × (x ∷ xs ≡ us ++ r ∷ vs)
    by true e g rec = ([], xs, ap (λ y. y ∷ xs) (sym (eqb-true r x e)))
    by false e g rec = let s = rec g in (x ∷ s.0, s.1, ap (λ ys. x ∷ ys) s.2)

module _ (T : EnqueueTable) where
  cut : (a : ℕ) (us : List ℕ) (r : ℕ) (vs : List ℕ) (end : ℕ) → WaitsAlong T a (us ++ r ∷ vs) end → WaitsAlong T a us r × WaitsAlong T r vs end
  cut a [] r vs end h = (h.0, h.1)
  cut a (u ∷ us) r vs end h = let s = cut u us r vs end h.1 in ((h.0, s.0), s.1)

  paste : (a : ℕ) (us : List ℕ) (r : ℕ) (vs : List ℕ) (end : ℕ) → WaitsAlong T a us r → WaitsAlong T r vs end → WaitsAlong T a (us ++ r ∷ vs) end
  paste a [] r vs end h g = (h, g)
  paste a (u ∷ us) r vs end h g = (h.0, paste u us r vs end h.1 g)

  all_back : (P : ℕ → Type 0) (us vs : List ℕ) → AllByRecursion P (us ++ vs) → AllByRecursion P vs
  all_back P [] vs h = h
  all_back P (u ∷ us) vs h = all_back P us vs h.1

  all_front : (P : ℕ → Type 0) (us vs : List ℕ) → AllByRecursion P (us ++ vs) → AllByRecursion P us
  all_front P [] vs h = tt
  all_front P (u ∷ us) vs h = (h.0, all_front P us vs h.1)

  every : (P : ℕ → Type 0) (xs : List ℕ) → AllByRecursion P xs → All P xs
  every P [] h = λ k d l. absurd (omega arith)
  every P (x ∷ xs) h = All-cons P x xs h.0 (every P xs h.1)

  turned : (x r : ℕ) (us vs : List ℕ) → IsTableRegion T x → IsRing T x (us ++ r ∷ vs) → IsRing T r (vs ++ x ∷ us)
  turned x r us vs is ring =
      let parts = cut x us r vs x ring.waits in
      let regions = each (IsTableRegion T) (us ++ r ∷ vs) ring.regions in
      record {
        regions = All-append (IsTableRegion T) vs (x ∷ us) (every (IsTableRegion T) vs (all_back (IsTableRegion T) us (r ∷ vs) regions).1) (All-cons (IsTableRegion T) x us is (every (IsTableRegion T) us (all_front (IsTableRegion T) us (r ∷ vs) regions)));
        distinct = IsDistinct-IsPermutation nat_eq flips ((x ∷ us) ++ r ∷ vs) ((r ∷ vs) ++ x ∷ us) (IsPermutation-append_comm (x ∷ us) (r ∷ vs)) ring.distinct;
        waits = paste r vs x us r parts.1 parts.0;
      }
    where
      flips : (a b : ℕ) → nat_eq a b ≡ nat_eq b a
      flips a b = by (eqb a b) (eqb b a) refl refl
        where
          by : (c d : Bool) → eqb a b ≡ c → eqb b a ≡ d → c ≡ d
          by true true e f = refl
          by true false e f = sym (sym f ∙ eq-eqb b a (sym (eqb-true a b e)))
          by false true e f = sym e ∙ eq-eqb a b (sym (eqb-true b a f))
          by false false e f = refl

-- ---- what has no cycle
flip : (a b : ℕ) → eqb a b ≡ false → eqb b a ≡ false
flip a b h = ne_eqb b a (λ e. clash (sym (eq-eqb a b (sym e)) ∙ h))

or_none : (a b : Bool) → a || b ≡ false → (a ≡ false) × (b ≡ false)
or_none true b h = clash h
or_none false b h = (refl, h)

module _ (r : ℕ) (T U : EnqueueTable) (fewer : Fewer r U T) where
  along : (a : ℕ) (others : List ℕ) (end : ℕ) → eqb a r ≡ false → list_any (eqb r) others ≡ false → eqb end r ≡ false → WaitsAlong U a others end → WaitsAlong T a others end
  along a [] end x y z h = fewer.waits a end x z h
  along a (n ∷ ns) end x y z h =
      let parts = or_none (eqb r n) (list_any (eqb r) ns) y in
      (fewer.waits a n x (flip r n parts.0) h.0, along n ns end (flip r n parts.0) parts.1 z h.1)

  old_region : (x : ℕ) → IsTableRegion U x → IsTableRegion T x
  old_region x h = (h.0, subst (λ n. x ≤ n) fewer.regions h.1)

  old_ring : (first : ℕ) (others : List ℕ) → list_any (eqb r) (first ∷ others) ≡ false → IsRing U first others → IsRing T first others
  old_ring first others h ring =
      let parts = or_none (eqb r first) (list_any (eqb r) others) h in
      record {
        regions = λ k d l. old_region _ (ring.regions k d l);
        distinct = ring.distinct;
        waits = along first others first (flip r first parts.0) parts.1 (flip r first parts.0) ring.waits;
      }

  -- Where none stood before, one that stands now goes through the region.
  pub no_cycles : HasNoCycles T → HasNoCycle U r → HasNoCycles U
  no_cycles none here x is [] c = absurd c
  no_cycles none here x is (first ∷ others) c = by (eqb r first) (list_any (eqb r) others) refl refl
    where
      at : IsTableRegion U first
      at = subst (IsTableRegion U) (sym c.0) is

      by : (p q : Bool) → eqb r first ≡ p → list_any (eqb r) others ≡ q → ⊥
      by true q e f = here (first ∷ others) (sym (eqb-true r first e), c.1)
      by false true e f =
          let s = split_at r others f in
          here (r ∷ (s.1 ++ first ∷ s.0)) (refl, turned U first r s.0 s.1 at (subst (IsRing U first) s.2 c.1))
      by false false e f = none first (old_region first at) (first ∷ others) (refl, old_ring first others (λ i. e i || f i) c.1)

-- no cycle goes through a region that waits for nothing
none_waited : (T : EnqueueTable) (r b : ℕ) → wait_of r T ≡ None → waits_for r b T ≡ true → ⊥
none_waited T r b h g = clash (sym g ∙ ap (λ o. option_map_or (λ q. list_any (λ x. eqb x b) (blockers q T)) o false) h)

none_through : (T : EnqueueTable) (r : ℕ) → wait_of r T ≡ None → HasNoCycle T r
none_through T r h [] c = absurd c
none_through T r h (first ∷ []) c = none_waited T r first h (subst (λ x. waits_for x first T ≡ true) c.0 c.1.waits)
none_through T r h (first ∷ next ∷ others) c = none_waited T r next h (subst (λ x. waits_for x next T ≡ true) c.0 c.1.waits.0)

none_found : (r : ℕ) (us ws : List Request) → find (λ w. eqb w.region r) (filter (λ w. not (eqb w.region r)) us ++ filter (λ w. not (eqb w.region r)) ws) ≡ None
none_found r [] [] = refl
none_found r [] (w ∷ ws) = by (eqb w.region r) refl (none_found r [] ws)
  where
    by : (b : Bool) → eqb w.region r ≡ b → find (λ w. eqb w.region r) (filter (λ w. not (eqb w.region r)) ws) ≡ None
        → find (λ w. eqb w.region r) (cond (not b) (w ∷ filter (λ w. not (eqb w.region r)) ws) (filter (λ w. not (eqb w.region r)) ws)) ≡ None
    by true e rec = rec
    by false e rec = ap (λ c. cond c (Some w) (find (λ w. eqb w.region r) (filter (λ w. not (eqb w.region r)) ws))) e ∙ rec
none_found r (u ∷ us) ws = by (eqb u.region r) refl (none_found r us ws)
  where
    rest : List Request
    rest = filter (λ w. not (eqb w.region r)) us ++ filter (λ w. not (eqb w.region r)) ws

    by : (b : Bool) → eqb u.region r ≡ b → find (λ w. eqb w.region r) rest ≡ None
        → find (λ w. eqb w.region r) (cond (not b) (u ∷ filter (λ w. not (eqb w.region r)) us) (filter (λ w. not (eqb w.region r)) us) ++ filter (λ w. not (eqb w.region r)) ws) ≡ None
    by true e rec = rec
    by false e rec = ap (λ c. cond c (Some u) (find (λ w. eqb w.region r) rest)) e ∙ rec

-- ---- what keeps a table without cycles so
pub released_none : (region : ℕ) (T : EnqueueTable) → HasNoCycles T → HasNoCycles (released region T)
released_none region T none = no_cycles region T (released region T) (fewer_less (less_released region T)) none (none_through (released region T) region (none_found region T.upgrades T.waits))

pub stopped_none : (region : ℕ) (T : EnqueueTable) → HasNoCycles T → HasNoCycles (waits_for_nothing region T)
stopped_none region T none = no_cycles region T (waits_for_nothing region T) (fewer_less (less_nothing region T)) none (none_through (waits_for_nothing region T) region (none_found region T.upgrades T.waits))

waits_no_longer : (region : ℕ) (qs : List Request) (T : EnqueueTable) → first_blocked qs T ≡ None → wait_of region (after_asks region qs T) ≡ None
waits_no_longer region [] T h = none_found region T.upgrades T.waits
waits_no_longer region (q ∷ qs) T h = by (blocked_by q T) h (waits_no_longer region qs (granted q T))
  where
    by : (o : Option ℕ) → option_map_or (λ by. Some (q, by)) o (first_blocked qs (granted q T)) ≡ None
        → (first_blocked qs (granted q T) ≡ None → wait_of region (after_asks region qs (granted q T)) ≡ None)
        → wait_of region (option_map_or (λ by. with_waiter q (waits_only_for q T)) o (after_asks region qs (granted q T))) ≡ None
    by None g rec = rec g
    by (Some b) g rec = clash (ap is_some g)

-- a call whose requests were all granted
pub granted_none : (region : ℕ) (qs : List Request) (T : EnqueueTable) → AreOf region qs → first_blocked qs T ≡ None → HasNoCycles T → HasNoCycles (after_asks region qs T)
granted_none region qs T of free none =
    no_cycles region T (after_asks region qs T) (fewer_asked region qs T of) none (none_through (after_asks region qs T) region (waits_no_longer region qs T free))

-- a call after which the region waits, where no cycle goes through it
pub waiting_none : (region : ℕ) (qs : List Request) (T : EnqueueTable) → AreOf region qs → HasNoCycles T → HasNoCycle (after_asks region qs T) region → HasNoCycles (after_asks region qs T)
waiting_none region qs T of none here = no_cycles region T (after_asks region qs T) (fewer_asked region qs T of) none here

-- ---- breaking
less_than_fewer : (region v : ℕ) (T U : EnqueueTable) → Fewer region U T → Fewer region (released v U) T
less_than_fewer region v T U fewer = record {
  regions = (less_released v U).regions ∙ fewer.regions;
  waits = λ a b x y h. fewer.waits a b x y (by a b (eqb a v) refl h);
}
  where
    by : (a b : ℕ) (c : Bool) → eqb a v ≡ c → waits_for a b (released v U) ≡ true → waits_for a b U ≡ true
    by a b true e h =
        absurd (none_waited (released v U) v b (none_found v U.upgrades U.waits) (subst (λ x. waits_for x b (released v U) ≡ true) (eqb-true a v e) h))
    by a b false e h = (less_released v U).waits a b e h

broken_on : (weights : List ℕ) (region : ℕ) (T U : EnqueueTable) (victims : List Victim) → Fewer region U T → HasNoCycles T → Breaks weights region U victims → HasNoCycles (after_victims victims U)
broken_on weights region T U [] fewer none h = no_cycles region T U fewer none h
broken_on weights region T U (v ∷ victims) fewer none h = broken_on weights region T (released v.region U) victims (less_than_fewer region v.region T U fewer) none h.2

-- A call of a region closes cycles, and they are broken: then none stands.
pub broken_none : (weights : List ℕ) (region : ℕ) (qs : List Request) (T : EnqueueTable) (victims : List Victim) → AreOf region qs → HasNoCycles T
    → Breaks weights region (after_asks region qs T) victims → HasNoCycles (after_victims victims (after_asks region qs T))
broken_none weights region qs T victims of none h = broken_on weights region T (after_asks region qs T) victims (fewer_asked region qs T of) none h

-- ---- how often
-- the region waits for one
abbrev Waiting : EnqueueTable → ℕ → Type 0
Waiting T r = (b : ℕ) × (waits_for r b T ≡ true)

all_waiting : (T : EnqueueTable) (a : ℕ) (others : List ℕ) (end : ℕ) → WaitsAlong T a others end → AllByRecursion (Waiting T) (a ∷ others)
all_waiting T a [] end h = ((end, h), tt)
all_waiting T a (n ∷ ns) end h = ((n, h.0), all_waiting T n ns end h.1)

gives_one : (P : ℕ → Type 0) (weights : List ℕ) (a b : ℕ) → P a → P b → P (gives_way weights a b)
gives_one P weights a b p q = either (nat_lt (changed_count_of weights a) (changed_count_of weights b) || ((changed_count_of weights a == changed_count_of weights b) && nat_lt b a))
  where
    either : (c : Bool) → P (cond c a b)
    either true = p
    either false = q

-- the victim is one of the cycle
pub victim_among : (P : ℕ → Type 0) (weights : List ℕ) (x : ℕ) (xs : List ℕ) → AllByRecursion P (x ∷ xs) → P (victim_of weights (x ∷ xs))
victim_among P weights x [] h = h.0
victim_among P weights x (y ∷ ys) h = victim_among P weights (gives_way weights x y) ys (gives_one P weights x y h.0 h.1.0, h.1.1)

victim_waits : (T : EnqueueTable) (region : ℕ) (weights cycle : List ℕ) → IsCycle T region cycle → Waiting T (victim_of weights cycle)
victim_waits T region weights [] c = absurd c
victim_waits T region weights (first ∷ others) c = victim_among (Waiting T) weights first others (all_waiting T first others first c.1.waits)

-- the victim is a region of the table
pub victim_region : (T : EnqueueTable) (region : ℕ) (weights cycle : List ℕ) → IsTableRegion T region → IsCycle T region cycle → IsTableRegion T (victim_of weights cycle)
victim_region T region weights [] is c = absurd c
victim_region T region weights (first ∷ others) is c =
    victim_among (IsTableRegion T) weights first others (subst (IsTableRegion T) (sym c.0) is, each (IsTableRegion T) others c.1.regions)

-- how many waits there are
abbrev pub waits_count : EnqueueTable → ℕ
waits_count T = length (T.upgrades ++ T.waits)

shorter : (p : Request → Bool) (ws : List Request) → length (filter p ws) ≤ length ws
shorter p [] = omega arith
shorter p (w ∷ ws) =
    let rec = shorter p ws in
    elim (p w) as (λ b. length (cond b (w ∷ filter p ws) (filter p ws)) ≤ length (w ∷ ws)) [ true ↦ omega arith | false ↦ omega arith ]

one_less : (r : ℕ) (ws : List Request) (q : Request) → find (λ w. eqb w.region r) ws ≡ Some q → length (filter (λ w. not (eqb w.region r)) ws) < length ws
one_less r [] q h = let c : None ≡ Some q = h in absurd (cc)
one_less r (w ∷ ws) q h = by (eqb w.region r) h (one_less r ws q)
  where
    by : (b : Bool) → cond b (Some w) (find (λ w. eqb w.region r) ws) ≡ Some q → (find (λ w. eqb w.region r) ws ≡ Some q → length (filter (λ w. not (eqb w.region r)) ws) < length ws)
        → length (cond (not b) (w ∷ filter (λ w. not (eqb w.region r)) ws) (filter (λ w. not (eqb w.region r)) ws)) < length (w ∷ ws)
    by true g rec = omega (arith, shorter (λ w. not (eqb w.region r)) ws)
    by false g rec = omega (arith, rec g)

fewer_waiting : (T : EnqueueTable) (r : ℕ) → Waiting T r → waits_count (released r T) < waits_count T
fewer_waiting T r h = by (wait_of r T) refl
  where
    by : (o : Option Request) → wait_of r T ≡ o → waits_count (released r T) < waits_count T
    by None e = absurd (none_waited T r h.0 e h.1)
    by (Some q) e =
        subst (λ ws. length ws < waits_count T) (filter-append (λ w. not (eqb w.region r)) T.upgrades T.waits) (one_less r (T.upgrades ++ T.waits) q e)

pub victims_waits : (weights : List ℕ) (region : ℕ) (T : EnqueueTable) (victims : List Victim) → Breaks weights region T victims → length victims ≤ waits_count T
victims_waits weights region T [] h = omega arith
victims_waits weights region T (v ∷ victims) h =
    let waits : Waiting T v.region = subst (Waiting T) (sym h.1) (victim_waits T region weights v.cycle h.0.stands) in
    omega (arith, fewer_waiting T v.region waits, victims_waits weights region (released v.region T) victims h.2)

kept_regions : (T : EnqueueTable) → IsTableKept T → AllByRecursion (IsTableRegion T) (waiting_regions T)
kept_regions T kept = both T.upgrades T.waits (up T.upgrades kept.upgrading) (down T.waits kept.waiting)
  where
    up : (ws : List Request) → AllByRecursion (Upgrades T) ws → AllByRecursion (IsTableRegion T) (map (λ w. w.region) ws)
    up [] h = tt
    up (w ∷ ws) h = (h.0.region, up ws h.1)

    down : (ws : List Request) → AllByRecursion (RegionWaits T) ws → AllByRecursion (IsTableRegion T) (map (λ w. w.region) ws)
    down [] h = tt
    down (w ∷ ws) h = (h.0.region, down ws h.1)

    both : (us ws : List Request) → AllByRecursion (IsTableRegion T) (map (λ w. w.region) us) → AllByRecursion (IsTableRegion T) (map (λ w. w.region) ws) → AllByRecursion (IsTableRegion T) (map (λ w. w.region) (us ++ ws))
    both [] ws h g = g
    both (u ∷ us) ws h g = (h.0, both us ws h.1 g)

-- no more waits than regions
pub few_waits : (T : EnqueueTable) → IsTableKept T → waits_count T ≤ T.regions
few_waits T kept = subst (λ n. n ≤ T.regions) (length-map (T.upgrades ++ T.waits) (λ (w : Request). w.region)) (few_regions T (waiting_regions T) kept.once (kept_regions T kept))

-- Breaking ends: there are no more victims than regions.
pub few_victims : (weights : List ℕ) (region : ℕ) (T : EnqueueTable) (victims : List Victim) → IsTableKept T → Breaks weights region T victims → length victims ≤ T.regions
few_victims weights region T victims kept h = omega (arith, victims_waits weights region T victims h, few_waits T kept)

-- Each region of a cycle has a weight where each region of the table has one.
pub cycle_weighed : (T : EnqueueTable) (region : ℕ) (weights cycle : List ℕ) → IsTableRegion T region → T.regions ≤ length weights → IsCycle T region cycle → AllByRecursion (IsWeighed weights) cycle
cycle_weighed T region weights [] is enough c = absurd c
cycle_weighed T region weights (first ∷ others) is enough c =
    all_map (λ x h. record { first = h.0; last = omega (arith, h.1) }) (first ∷ others) (subst (IsTableRegion T) (sym c.0) is, each (IsTableRegion T) others c.1.regions)
