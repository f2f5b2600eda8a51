-- Ways along the waits, and the rings in which they may end.
use Rattle.std.proofs.Common.{◌≡◌, ℕ, ◌<◌, ◌≤◌, ◌+◌, ◌∷◌, [], ◌++◌, List, refl, sym, ap, subst, ◌∙◌, arith, Bool, true, false, not, ◌&&◌, ◌||◌, eqb, length, ⊎_elim, append_assoc, length-append}
use Rattle.std.specs.Prelude.{All, nat_eq, Option, None, Some, IfSome, IfNone}
use Rattle.std.specs.List.{AllByRecursion, IsDistinct, list_any}
use Rattle.std.specs.Cmp.Lexicographic.{slice_cmp}
use Rattle.std.specs.Ordering.{nat_cmp, is_gt, ordering_then}
use Rattle.std.proofs.lemmas.Bool.{eq-eqb, ne_eqb, eqb-true, cases_order}
use Rattle.std.proofs.lemmas.Cmp.{nat_cmp_total, tied_itself}
use Rattle.std.proofs.lemmas.List.Elements.{All-cons, All-tail, All-push}
use Rattle.std.proofs.lemmas.Map.Keys.{IsDistinct-head, IsDistinct-tail, IsDistinct-cons, IsDistinct-push}
use Rattle.std.proofs.lemmas.Map.Steps.{length-le_from_distinct_below}
use Rattle.std.proofs.lemmas.Cmp.{nat_eq_equiv}
use Rattle.model_data.specs.Table.{EnqueueTable, waits_for}
use Rattle.model_data.specs.Cycle.{IsTableRegion, WaitsAlong, IsRing, IsCycle, IsLeastCycle, HasNoCycle}
use Rattle.deadlock_pick.specs.Way.{WaitsTo, IsWayOf, BeginsWith, IsLeastOf, HasNoneOf}
use Rattle.pi_enqueue.proofs.Granting.{clash}
use Rattle.tm_types.proofs.Ordered.{less_from}

-- ---- lists of numbers
pub each : {A : Type 0} (P : A → Type 0) (xs : List A) → All P xs → AllByRecursion P xs
each P [] h = tt
each P (x ∷ xs) h = (h 0 x (omega arith), each P xs (All-tail P x xs h))

middle : (P : ℕ → Type 0) (xs ys : List ℕ) (m : ℕ) → AllByRecursion P (xs ++ m ∷ ys) → P m
middle P [] ys m h = h.0
middle P (x ∷ xs) ys m h = middle P xs ys m h.1

eqb_back : (a b : ℕ) → eqb a b ≡ false → eqb b a ≡ false
eqb_back a b h = ne_eqb b a (λ e. clash (sym (eq-eqb a b (sym e)) ∙ h))

fresh : (xs ys : List ℕ) (m : ℕ) → IsDistinct nat_eq (xs ++ m ∷ ys) → list_any (nat_eq m) xs ≡ false
fresh [] ys m h = refl
fresh (x ∷ xs) ys m h =
    ap (λ b. b || list_any (nat_eq m) xs) (eqb_back x m (middle (λ y. eqb x y ≡ false) xs ys m (IsDistinct-head nat_eq x (xs ++ m ∷ ys) h)))
    ∙ fresh xs ys m (IsDistinct-tail nat_eq x (xs ++ m ∷ ys) h)

-- a list isn't above one that begins with it
front_first : (xs ys : List ℕ) → is_gt (slice_cmp nat_cmp xs (xs ++ ys)) ≡ false
front_first [] [] = refl
front_first [] (y ∷ ys) = refl
front_first (x ∷ xs) ys = ap (λ o. is_gt (ordering_then o (slice_cmp nat_cmp xs (xs ++ ys)))) (tied_itself nat_cmp_total x) ∙ front_first xs ys

same_front : (ws xs ys : List ℕ) → slice_cmp nat_cmp (ws ++ xs) (ws ++ ys) ≡ slice_cmp nat_cmp xs ys
same_front [] xs ys = refl
same_front (w ∷ ws) xs ys = ap (λ o. ordering_then o (slice_cmp nat_cmp (ws ++ xs) (ws ++ ys))) (tied_itself nat_cmp_total w) ∙ same_front ws xs ys

pub append_nil : (xs : List ℕ) → xs ≡ xs ++ []
append_nil [] = refl
append_nil (x ∷ xs) = ap (λ ys. x ∷ ys) (append_nil xs)

-- ---- waits along a way
module _ (T : EnqueueTable) where
  closes : (r : ℕ) (others : List ℕ) (last end : ℕ) → WaitsTo T r others last → waits_for last end T ≡ true → WaitsAlong T r others end
  closes r [] last end w h = subst (λ x. waits_for x end T ≡ true) (sym w) h
  closes r (n ∷ ns) last end w h = (w.0, closes n ns last end w.1 h)

  closed : (r : ℕ) (others : List ℕ) (last end : ℕ) → WaitsTo T r others last → WaitsAlong T r others end → waits_for last end T ≡ true
  closed r [] last end w h = subst (λ x. waits_for x end T ≡ true) w h
  closed r (n ∷ ns) last end w h = closed n ns last end w.1 h.1

  waits_next : (r : ℕ) (others : List ℕ) (last m : ℕ) (ms : List ℕ) (end : ℕ) → WaitsTo T r others last → WaitsAlong T r (others ++ m ∷ ms) end → waits_for last m T ≡ true
  waits_next r [] last m ms end w h = subst (λ x. waits_for x m T ≡ true) w h.0
  waits_next r (n ∷ ns) last m ms end w h = waits_next n ns last m ms end w.1 h.1

  one_more : (r : ℕ) (others : List ℕ) (last next : ℕ) → WaitsTo T r others last → waits_for last next T ≡ true → WaitsTo T r (others ++ next ∷ []) next
  one_more r [] last next w h = (subst (λ x. waits_for x next T ≡ true) (sym w) h, refl)
  one_more r (n ∷ ns) last next w h = (w.0, one_more n ns last next w.1 h)

  -- distinct regions are no more than there are
  pub few_regions : (xs : List ℕ) → IsDistinct nat_eq xs → AllByRecursion (IsTableRegion T) xs → length xs ≤ T.regions
  few_regions xs distinct regions =
      let longer : length (0 ∷ xs) ≤ T.regions + 1 =
      length-le_from_distinct_below (0 ∷ xs) (T.regions + 1) (IsDistinct-cons nat_eq 0 xs (positive xs regions) distinct) (λ q h. below q (eqb q 0) refl xs regions h) in
      omega (arith, longer)
    where
      positive : (xs : List ℕ) → AllByRecursion (IsTableRegion T) xs → AllByRecursion (λ y. eqb 0 y ≡ false) xs
      positive [] h = tt
      positive (x ∷ xs) h = (ne_eqb 0 x (λ e. absurd (omega (arith, h.0.0))), positive xs h.1)

      found : (q : ℕ) (xs : List ℕ) → AllByRecursion (IsTableRegion T) xs → list_any (eqb q) xs ≡ true → q < T.regions + 1
      found q [] h g = clash (sym g)
      found q (x ∷ xs) h g = by (eqb q x) refl g (found q xs h.1)
        where
          by : (b : Bool) → eqb q x ≡ b → b || list_any (eqb q) xs ≡ true → (list_any (eqb q) xs ≡ true → q < T.regions + 1) → q < T.regions + 1
          by true e f rec = let s : q ≡ x = eqb-true q x e in omega (arith, h.0.1)
          by false e f rec = rec f

      below : (q : ℕ) (b : Bool) → eqb q 0 ≡ b → (xs : List ℕ) → AllByRecursion (IsTableRegion T) xs → b || list_any (eqb q) xs ≡ true → q < T.regions + 1
      below q true e xs h g = let s : q ≡ 0 = eqb-true q 0 e in omega arith
      below q false e xs h g = found q xs h g

-- a cycle as a ring that begins with the region
ring_of : (T : EnqueueTable) (region : ℕ) (others : List ℕ) → IsCycle T region (region ∷ others) → IsRing T region others
ring_of T region others h = h.1

cycle_of : (T : EnqueueTable) (region : ℕ) (cycle others : List ℕ) → cycle ≡ region ∷ others → IsRing T region others → IsCycle T region cycle
cycle_of T region cycle others e h = subst (IsCycle T region) (sym e) (refl, h)

pub distinct_none : IsDistinct nat_eq []
unfolding IsDistinct
distinct_none = tt

-- a region alone
pub way_of_one : (T : EnqueueTable) (region : ℕ) (way : List ℕ) → way ≡ region ∷ [] → IsTableRegion T region → IsWayOf T region way region
way_of_one T region way e h = subst (λ w. IsWayOf T region w region) (sym e) (record {
  others = [];
  whole = refl;
  regions = All-cons (IsTableRegion T) region [] h (λ k d l. absurd (omega arith));
  distinct = IsDistinct-cons nat_eq region [] tt distinct_none;
  waits = refl;
})

module _ (T : EnqueueTable) (region : ℕ) (way : List ℕ) (last : ℕ) (w : IsWayOf T region way last) where
  -- the ring closes where the last region waits for the first
  pub ring_here : waits_for last region T ≡ true → IsLeastOf T region way way
  ring_here h = record {
    stands = cycle_of T region way w.others w.whole (record {
      regions = All-tail (IsTableRegion T) region w.others (subst (All (IsTableRegion T)) w.whole w.regions);
      distinct = subst (IsDistinct nat_eq) w.whole w.distinct;
      waits = closes T region w.others last region w.waits h;
    });
    begins = record { rest = []; whole = append_nil way };
    least = λ other c b. ap (λ o. is_gt (slice_cmp nat_cmp way o)) b.whole ∙ front_first way b.rest;
  }

  -- ---- a cycle that goes on from the way
  module _ (m : ℕ) (ms : List ℕ) (cycle : List ℕ) (stands : IsCycle T region cycle) (e : cycle ≡ way ++ m ∷ ms) where
    whole_is : cycle ≡ region ∷ (w.others ++ m ∷ ms)
    whole_is = e ∙ ap (λ x. x ++ m ∷ ms) w.whole

    ring : IsRing T region (w.others ++ m ∷ ms)
    ring = ring_of T region (w.others ++ m ∷ ms) (subst (IsCycle T region) whole_is stands)

    next_region : IsTableRegion T m
    next_region = middle (IsTableRegion T) w.others ms m (each (IsTableRegion T) (w.others ++ m ∷ ms) ring.regions)

    next_fresh : list_any (nat_eq m) way ≡ false
    next_fresh = fresh way ms m (subst (IsDistinct nat_eq) (sym whole_is ∙ e) ring.distinct)

    next_waits : waits_for last m T ≡ true
    next_waits = waits_next T region w.others last m ms region w.waits ring.waits

  -- no region has this number
  pub none_outside : (m : ℕ) → (IsTableRegion T m → ⊥) → HasNoneOf T region (way ++ m ∷ [])
  none_outside m out cycle stands b =
      out (next_region m b.rest cycle stands (b.whole ∙ append_assoc way (m ∷ []) b.rest))

  pub none_skipped : (m : ℕ) → not (list_any (nat_eq m) way) && waits_for last m T ≡ false → HasNoneOf T region (way ++ m ∷ [])
  none_skipped m out cycle stands b =
      let e = b.whole ∙ append_assoc way (m ∷ []) b.rest in
      clash (sym (λ i. not (next_fresh m b.rest cycle stands e i) && next_waits m b.rest cycle stands e i) ∙ out)

  -- the way with one region more
  both : (a b : Bool) → not a && b ≡ true → (a ≡ false) × (b ≡ true)
  both true b h = clash (sym h)
  both false b h = (refl, h)

  pub way_longer : (next : ℕ) (longer : List ℕ) → longer ≡ way ++ next ∷ [] → IsTableRegion T next → not (list_any (nat_eq next) way) && waits_for last next T ≡ true → IsWayOf T region longer next
  way_longer next longer e is h =
      let parts = both (list_any (nat_eq next) way) (waits_for last next T) h in
      subst (λ l. IsWayOf T region l next) (sym e) (record {
        others = w.others ++ next ∷ [];
        whole = ap (λ x. x ++ next ∷ []) w.whole;
        regions = All-push (IsTableRegion T) way next w.regions is;
        distinct = IsDistinct-push nat_eq_equiv way next w.distinct parts.0;
        waits = one_more T region w.others last next w.waits parts.1;
      })

  pub fits : T.regions ≤ 8 → (next : ℕ) → IsTableRegion T next → not (list_any (nat_eq next) way) && waits_for last next T ≡ true → length way < 8
  fits few next is h =
      let longer = way_longer next (way ++ next ∷ []) refl is h in
      let n : length (way ++ next ∷ []) ≤ T.regions = few_regions T (way ++ next ∷ []) longer.distinct (each (IsTableRegion T) (way ++ next ∷ []) longer.regions) in
      omega (arith, n, length-append way (next ∷ []))

  module _ (open_end : waits_for last region T ≡ false) where
    -- a cycle that begins with the way goes on
    not_here : (cycle : List ℕ) → IsCycle T region cycle → cycle ≡ way → ⊥
    not_here cycle stands e =
        let r : IsRing T region w.others = ring_of T region w.others (subst (IsCycle T region) (e ∙ w.whole) stands) in
        clash (sym (closed T region w.others last region w.waits r.waits) ∙ open_end)

    pub none_from : ((m : ℕ) → m < T.regions + 1 → HasNoneOf T region (way ++ m ∷ [])) → HasNoneOf T region way
    none_from none cycle stands b = by b.rest b.whole
      where
        by : (rest : List ℕ) → cycle ≡ way ++ rest → ⊥
        by [] e = not_here cycle stands (e ∙ sym (append_nil way))
        by (m ∷ ms) e =
            let is = next_region m ms cycle stands e in
            none m (omega (arith, is.1)) cycle stands (record { rest = ms; whole = e ∙ sym (append_assoc way (m ∷ []) ms) })

    pub least_from : (next : ℕ) (longer cycle : List ℕ) → longer ≡ way ++ next ∷ [] → ((m : ℕ) → m < next → HasNoneOf T region (way ++ m ∷ [])) → IsLeastOf T region longer cycle → IsLeastOf T region way cycle
    least_from next longer cycle e none h = record {
      stands = h.stands;
      begins = record { rest = next ∷ h.begins.rest; whole = h.begins.whole ∙ (ap (λ l. l ++ h.begins.rest) e ∙ append_assoc way (next ∷ []) h.begins.rest) };
      least = λ other c b. by other c b.rest b.whole;
    }
      where
        by : (other : List ℕ) → IsCycle T region other → (rest : List ℕ) → other ≡ way ++ rest → is_gt (slice_cmp nat_cmp cycle other) ≡ false
        by other c [] f = absurd (not_here other c (f ∙ sym (append_nil way)))
        by other c (m ∷ ms) f =
            ⊎_elim
            (λ (s : m ≡ next). h.least other c (record { rest = ms; whole = f ∙ (sym (append_assoc way (m ∷ []) ms) ∙ (ap (λ x. (way ++ x ∷ []) ++ ms) s ∙ ap (λ l. l ++ ms) (sym e))) }))
            (⊎_elim
            (λ (l : m < next). absurd (none m l other c (record { rest = ms; whole = f ∙ sym (append_assoc way (m ∷ []) ms) })))
            (λ (l : next < m).
            (λ i. is_gt (slice_cmp nat_cmp ((h.begins.whole ∙ (ap (λ l. l ++ h.begins.rest) e ∙ append_assoc way (next ∷ []) h.begins.rest)) i) (f i)))
            ∙ (ap is_gt (same_front way (next ∷ h.begins.rest) (m ∷ ms)) ∙ ap (λ o. is_gt (ordering_then o (slice_cmp nat_cmp h.begins.rest ms))) (less_from next m l))))
            (cases_order m next)

-- one number more
pub none_to : (T : EnqueueTable) (region : ℕ) (way : List ℕ) (next : ℕ) → ((m : ℕ) → m < next → HasNoneOf T region (way ++ m ∷ [])) → HasNoneOf T region (way ++ next ∷ [])
    → (m : ℕ) → m < next + 1 → HasNoneOf T region (way ++ m ∷ [])
none_to T region way next below here m h =
    ⊎_elim (λ (e : m ≡ next). subst (λ n. HasNoneOf T region (way ++ n ∷ [])) (sym e) here)
    (⊎_elim (λ (l : m < next). below m l) (λ (l : next < m). absurd (omega arith))) (cases_order m next)

-- ---- all cycles through a region
pub least_of_all : (T : EnqueueTable) (region : ℕ) (way cycle : List ℕ) → way ≡ region ∷ [] → IsLeastOf T region way cycle → IsLeastCycle T region cycle
least_of_all T region way cycle e h = record { stands = h.stands; least = λ other c. h.least other c (begins other c) }
  where
    begins : (other : List ℕ) → IsCycle T region other → BeginsWith way other
    begins [] c = absurd c
    begins (first ∷ others) c = record { rest = others; whole = ap (λ x. x ∷ others) c.0 ∙ ap (λ l. l ++ others) (sym e) }

pub none_of_all : (T : EnqueueTable) (region : ℕ) (way : List ℕ) → way ≡ region ∷ [] → HasNoneOf T region way → HasNoCycle T region
none_of_all T region way e h [] c = absurd c
none_of_all T region way e h (first ∷ others) c = h (first ∷ others) c (record { rest = others; whole = ap (λ x. x ∷ others) c.0 ∙ ap (λ l. l ++ others) (sym e) })

pub least_found : (T : EnqueueTable) (region : ℕ) (way : List ℕ) → way ≡ region ∷ [] → (o : Option (List ℕ)) → IfSome o (IsLeastOf T region way) → IfSome o (IsLeastCycle T region)
least_found T region way e None h = h
least_found T region way e (Some cycle) h = least_of_all T region way cycle e h

pub none_found : (T : EnqueueTable) (region : ℕ) (way : List ℕ) → way ≡ region ∷ [] → (o : Option (List ℕ)) → IfNone o (HasNoneOf T region way) → IfNone o (HasNoCycle T region)
none_found T region way e None h = none_of_all T region way e h
none_found T region way e (Some cycle) h = h
