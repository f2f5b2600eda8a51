-- All requests of one call.
use Rattle.std.proofs.Common.{◌≡◌, ℕ, ◌∷◌, [], ◌++◌, List, refl, sym, ap, subst, ◌∙◌, Bool, true, false, cond, not, ◌&&◌, Option, Some, None, eqb, take, zero, suc}
use Rattle.std.specs.Prelude.{filter, find, map, nat_eq, slice_get, slice_index_or}
use Rattle.std.specs.List.{AllByRecursion, IsDistinct}
use Rattle.std.specs.Option.{option_map_or, option_and_then, option_map, IfSome}
use Rattle.std.specs.Prelude.{OnOk, OnErr, length}
use Rattle.std.specs.declared.result.Result.{Result}
use Rattle.std.specs.declared.result.Result.TheVariants.{Ok, Err}
use Rattle.std.specs.declared.alloc.AllocError.{AllocError}
use Rattle.pi_enqueue.specs.declared.lists.Lists.{Lists}
use Rattle.pi_enqueue.specs.Lists.{table_of_lists, AreListsKept, AreListed}
use Rattle.std.proofs.lemmas.Bool.{eq-eqb, eqb-true}
use Rattle.std.proofs.lemmas.Map.Keys.{IsDistinct-head, IsDistinct-tail}
use Rattle.tm_types.specs.declared.resource.Mode.{Mode}
use Rattle.model_data.specs.declared.request.Holder.{Holder}
use Rattle.model_data.specs.declared.request.Request.{Request}
use Rattle.model_data.specs.Modes.{same_resource}
use Rattle.model_data.specs.Table.{EnqueueTable, is_own, blocked_by, is_upgrade}
use Rattle.model_data.specs.EnqueueRequests.{without_wait, placed_request, granted, with_waiter, answer_to, left_by_request, after_ask, waits_only_for, waits_for_nothing, after_asks, first_blocked}
use Rattle.model_data.specs.Cycle.{IsTableRegion}
use Rattle.pi_enqueue.specs.KeptTable.{IsTableKept, WaitsForNothingElse}
use Rattle.pi_enqueue.specs.Grants.{AreRequestsFree, granted_all, with_holds, without_waits, blocked_told}
use Rattle.pi_enqueue.specs.declared.table.Blocked.{Blocked}
use Rattle.pi_enqueue.proofs.Ascending.{all_map}
use Rattle.pi_enqueue.proofs.Granting.{clash, blocked_after}
use Rattle.pi_enqueue.proofs.Keeping.{all_passing, WaitsAtMost, kept_granted, kept_waiting, kept_waits_only_for, kept_waits_for_nothing, kept_lists}

-- all requests are of this region
abbrev pub AreOf : ℕ → List Request → Type 0
AreOf region qs = AllByRecursion (λ q. q.region ≡ region) qs

pub granted_parts : (qs : List Request) (T : EnqueueTable)
    → granted_all qs T ≡ record T { holds = with_holds qs T.holds; upgrades = without_waits qs T.upgrades; waits = without_waits qs T.waits }
granted_parts [] T = refl
granted_parts (q ∷ qs) T = granted_parts qs (granted q T)

module _ (region : ℕ) where
  free_next : (T : EnqueueTable) (p : Request) (qs : List Request) → IsTableKept T → p.region ≡ region → blocked_by p T ≡ None → AreOf region qs → AreRequestsFree qs T → AreRequestsFree qs (granted p T)
  free_next T p [] kept own free of h = tt
  free_next T p (q ∷ qs) kept own free of h =
      (blocked_after T p q kept (own ∙ sym of.0) free ∙ h.0, free_next T p qs kept own free of.1 h.1)

  in_region : (T : EnqueueTable) (q : Request) → IsTableRegion T region → q.region ≡ region → IsTableRegion T q.region
  in_region T q h own = subst (IsTableRegion T) (sym own) h

  module _ (rest : List Request) where
    pub first_behind : (ps : List Request) (T : EnqueueTable) → IsTableKept T → IsTableRegion T region → AreOf region ps → AreRequestsFree ps T → first_blocked (ps ++ rest) T ≡ first_blocked rest (granted_all ps T)
    first_behind [] T kept is of free = refl
    first_behind (p ∷ ps) T kept is of free =
        ap (λ o. option_map_or (λ by. Some (p, by)) o (first_blocked (ps ++ rest) (granted p T))) free.0
        ∙ first_behind ps (granted p T) (kept_granted T p kept (in_region T p is of.0) free.0) is of.1 (free_next T p ps kept of.0 free.0 of.1 free.1)

    pub after_behind : (ps : List Request) (T : EnqueueTable) → IsTableKept T → IsTableRegion T region → AreOf region ps → AreRequestsFree ps T → after_asks region (ps ++ rest) T ≡ after_asks region rest (granted_all ps T)
    after_behind [] T kept is of free = refl
    after_behind (p ∷ ps) T kept is of free =
        ap (λ o. option_map_or (λ by. with_waiter p (waits_only_for p T)) o (after_asks region (ps ++ rest) (granted p T))) free.0
        ∙ after_behind ps (granted p T) (kept_granted T p kept (in_region T p is of.0) free.0) is of.1 (free_next T p ps kept of.0 free.0 of.1 free.1)

  pub kept_granted_all : (ps : List Request) (T : EnqueueTable) → IsTableKept T → IsTableRegion T region → AreOf region ps → AreRequestsFree ps T → IsTableKept (granted_all ps T)
  kept_granted_all [] T kept is of free = kept
  kept_granted_all (p ∷ ps) T kept is of free =
      kept_granted_all ps (granted p T) (kept_granted T p kept (in_region T p is of.0) free.0) is of.1 (free_next T p ps kept of.0 free.0 of.1 free.1)

  pub blocked_after_all : (ps : List Request) (T : EnqueueTable) (q : Request) → IsTableKept T → IsTableRegion T region → AreOf region ps → AreRequestsFree ps T → q.region ≡ region → blocked_by q (granted_all ps T) ≡ blocked_by q T
  blocked_after_all [] T q kept is of free own = refl
  blocked_after_all (p ∷ ps) T q kept is of free own =
      blocked_after_all ps (granted p T) q (kept_granted T p kept (in_region T p is of.0) free.0) is of.1 (free_next T p ps kept of.0 free.0 of.1 free.1) own
      ∙ blocked_after T p q kept (of.0 ∙ sym own) free.0

  all_front : (P : Request → Type 0) (n : ℕ) (qs : List Request) → AllByRecursion P qs → AllByRecursion P (take n qs)
  all_front P zero qs h = tt
  all_front P (suc n) [] h = tt
  all_front P (suc n) (q ∷ qs) h = (h.0, all_front P n qs h.1)

  of_at : (P : Request → Type 0) (n : ℕ) (qs : List Request) (q : Request) → AllByRecursion P qs → slice_get qs n ≡ Some q → P q
  of_at P n [] q h e = let c : None ≡ Some q = e in absurd (cc)
  of_at P zero (x ∷ qs) q h e =
      let s : Some x ≡ Some q = e in
      let i : x ≡ q = cc in subst P i h.0
  of_at P (suc n) (x ∷ qs) q h e = of_at P n qs q h.1 e

  drop_at : (n : ℕ) (qs : List Request) (q : Request) → slice_get qs n ≡ Some q → (rest : List Request) × (take n qs ++ q ∷ rest ≡ qs)
  drop_at n [] q e = let c : None ≡ Some q = e in absurd (cc)
  drop_at zero (x ∷ qs) q e =
      let s : Some x ≡ Some q = e in
      let i : x ≡ q = cc in (qs, ap (λ y. y ∷ qs) (sym i))
  drop_at (suc n) (x ∷ qs) q e = let r = drop_at n qs q e in (r.0, ap (λ ys. x ∷ ys) r.1)

  -- the request at this place is blocked, and none before it
  module _ (qs : List Request) (T : EnqueueTable) (kept : IsTableKept T) (is : IsTableRegion T region) (of : AreOf region qs) (n : ℕ) (q : Request) (by : ℕ)
      (at : slice_get qs n ≡ Some q) (free : AreRequestsFree (take n qs) T) (stop : blocked_by q T ≡ Some by) where
    stop_then : blocked_by q (granted_all (take n qs) T) ≡ Some by
    stop_then = blocked_after_all (take n qs) T q kept is (all_front (λ q. q.region ≡ region) n qs of) free (of_at (λ q. q.region ≡ region) n qs q of at) ∙ stop

    pub first_is : first_blocked qs T ≡ Some (q, by)
    first_is =
        let r = drop_at n qs q at in
        ap (λ l. first_blocked l T) (sym r.1)
        ∙ (first_behind (q ∷ r.0) (take n qs) T kept is (all_front (λ q. q.region ≡ region) n qs of) free
        ∙ ap (λ o. option_map_or (λ by. Some (q, by)) o (first_blocked r.0 (granted q (granted_all (take n qs) T)))) stop_then)

    pub after_is : after_asks region qs T ≡ with_waiter q (waits_only_for q (granted_all (take n qs) T))
    after_is =
        let r = drop_at n qs q at in
        ap (λ l. after_asks region l T) (sym r.1)
        ∙ (after_behind (q ∷ r.0) (take n qs) T kept is (all_front (λ q. q.region ≡ region) n qs of) free
        ∙ ap (λ o. option_map_or (λ by. with_waiter q (waits_only_for q (granted_all (take n qs) T))) o (after_asks region r.0 (granted q (granted_all (take n qs) T)))) stop_then)

  append_nil : (qs : List Request) → qs ++ [] ≡ qs
  append_nil [] = refl
  append_nil (q ∷ qs) = ap (λ l. q ∷ l) (append_nil qs)

  module _ (qs : List Request) (T : EnqueueTable) (kept : IsTableKept T) (is : IsTableRegion T region) (of : AreOf region qs) (free : AreRequestsFree qs T) where
    pub none_blocked : first_blocked qs T ≡ None
    none_blocked = ap (λ l. first_blocked l T) (sym (append_nil qs)) ∙ first_behind [] qs T kept is of free

    pub after_none : after_asks region qs T ≡ waits_for_nothing region (granted_all qs T)
    after_none = ap (λ l. after_asks region l T) (sym (append_nil qs)) ∙ after_behind [] qs T kept is of free

-- ---- what is always so of the table stays so
only_own : (q : Request) (ws : List Request) → WaitsAtMost q (filter (λ w. not (eqb w.region q.region && not (is_own q w))) ws)
only_own q ws = all_map (λ w h. own w h.0) (filter (λ w. not (eqb w.region q.region && not (is_own q w))) ws) (all_passing (λ _. Unit {0}) (λ w. not (eqb w.region q.region && not (is_own q w))) ws (each ws))
  where
    each : (ws : List Request) → AllByRecursion (λ _. Unit {0}) ws
    each [] = tt
    each (w ∷ ws) = (tt, each ws)

    from : (a b : Bool) → a ≡ true → not (a && not b) ≡ true → b ≡ true
    from true true e h = refl
    from true false e h = clash (sym h)
    from false b e h = clash (sym e)

    own : (w : Request) → not (eqb w.region q.region && not (is_own q w)) ≡ true → w.region ≡ q.region → is_own q w ≡ true
    own w h e = from (eqb w.region q.region) (is_own q w) (eq-eqb w.region q.region e) h

pub kept_after_asks : (region : ℕ) (qs : List Request) (T : EnqueueTable) → IsTableKept T → IsTableRegion T region → AreOf region qs → IsTableKept (after_asks region qs T)
kept_after_asks region [] T kept is of = kept_waits_for_nothing T region kept
kept_after_asks region (q ∷ qs) T kept is of = by (blocked_by q T) refl (λ k. kept_after_asks region qs (granted q T) k is of.1)
  where
    here : IsTableRegion T q.region
    here = subst (IsTableRegion T) (sym of.0) is

    by : (o : Option ℕ) → blocked_by q T ≡ o → (IsTableKept (granted q T) → IsTableKept (after_asks region qs (granted q T)))
        → IsTableKept (option_map_or (λ by. with_waiter q (waits_only_for q T)) o (after_asks region qs (granted q T)))
    by None e rec = rec (kept_granted T q kept here e)
    by (Some other) e rec = kept_waiting (waits_only_for q T) q (kept_waits_only_for T q kept) here (only_own q T.upgrades) (only_own q T.waits)

-- ---- one request alone
front : {A : Type 0} (P : A → Type 0) (xs ys : List A) → AllByRecursion P (xs ++ ys) → AllByRecursion P xs
front P [] ys h = tt
front P (x ∷ xs) ys h = (h.0, front P xs ys h.1)

back : {A : Type 0} (P : A → Type 0) (xs ys : List A) → AllByRecursion P (xs ++ ys) → AllByRecursion P ys
back P [] ys h = h
back P (x ∷ xs) ys h = back P xs ys h.1

none_other : (q : Request) (r : ℕ) (ws : List Request) → r ≡ q.region → AllByRecursion (λ y. eqb r y ≡ false) (map (λ w. w.region) ws) → WaitsAtMost q ws
none_other q r [] e h = tt
none_other q r (w ∷ ws) e h = (λ g. clash (sym (eq-eqb r w.region (e ∙ sym g)) ∙ h.0), none_other q r ws e h.1)

at_most : (q : Request) (ws : List Request) → IsDistinct nat_eq (map (λ w. w.region) ws) → IfSome (find (λ w. eqb w.region q.region) ws) (λ w. same_resource w.resource q.resource ≡ true) → WaitsAtMost q ws
at_most q [] h g = tt
at_most q (w ∷ ws) h g = by (eqb w.region q.region) refl g (at_most q ws (IsDistinct-tail nat_eq w.region (map (λ w. w.region) ws) h))
  where
    by : (b : Bool) → eqb w.region q.region ≡ b → IfSome (cond b (Some w) (find (λ w. eqb w.region q.region) ws)) (λ w. same_resource w.resource q.resource ≡ true)
        → (IfSome (find (λ w. eqb w.region q.region) ws) (λ w. same_resource w.resource q.resource ≡ true) → WaitsAtMost q ws) → WaitsAtMost q (w ∷ ws)
    by true e s rec = (λ n. (λ i. s i && e i), none_other q w.region ws (eqb-true w.region q.region e) (IsDistinct-head nat_eq w.region (map (λ w. w.region) ws) h))
    by false e s rec = (λ n. clash (sym (eq-eqb w.region q.region n) ∙ e), rec s)

all_pass : (p : Request → Bool) (ws : List Request) → AllByRecursion (λ w. p w ≡ true) ws → filter p ws ≡ ws
all_pass p [] h = refl
all_pass p (w ∷ ws) h = ap (λ b. cond b (w ∷ filter p ws) (filter p ws)) h.0 ∙ ap (λ us. w ∷ us) (all_pass p ws h.1)

same_only : (q : Request) (ws : List Request) → WaitsAtMost q ws → filter (λ w. not (eqb w.region q.region && not (is_own q w))) ws ≡ ws
same_only q ws h = all_pass (λ w. not (eqb w.region q.region && not (is_own q w))) ws (all_map (λ w g. passes (eqb w.region q.region) (is_own q w) (λ e. g (eqb-true w.region q.region e))) ws h)
  where
    passes : (a b : Bool) → (a ≡ true → b ≡ true) → not (a && not b) ≡ true
    passes true true g = refl
    passes true false g = g refl
    passes false b g = refl

same_none : (q : Request) (ws : List Request) → WaitsAtMost q ws → filter (λ w. not (eqb w.region q.region)) (without_wait q ws) ≡ without_wait q ws
same_none q ws h =
    all_pass (λ w. not (eqb w.region q.region)) (without_wait q ws)
    (all_map (λ w g. passes (eqb w.region q.region) (is_own q w) (λ e. g.1 (eqb-true w.region q.region e)) g.0) (without_wait q ws) (all_passing (λ w. w.region ≡ q.region → is_own q w ≡ true) (λ w. not (is_own q w)) ws h))
  where
    passes : (a b : Bool) → (a ≡ true → b ≡ true) → not b ≡ true → not a ≡ true
    passes true true g f = f
    passes true false g f = clash (sym (g refl))
    passes false b g f = refl

module _ (q : Request) (T : EnqueueTable) (kept : IsTableKept T) (else_none : WaitsForNothingElse q T) where
  most : WaitsAtMost q T.upgrades × WaitsAtMost q T.waits
  most =
      let all : WaitsAtMost q (T.upgrades ++ T.waits) = at_most q (T.upgrades ++ T.waits) kept.once else_none in
      (front (λ w. w.region ≡ q.region → is_own q w ≡ true) T.upgrades T.waits all, back (λ w. w.region ≡ q.region → is_own q w ≡ true) T.upgrades T.waits all)

  only_is : waits_only_for q T ≡ T
  only_is = λ i. record T { upgrades = same_only q T.upgrades most.0 i; waits = same_only q T.waits most.1 i }

  nothing_is : waits_for_nothing q.region (granted q T) ≡ granted q T
  nothing_is = λ i. record (granted q T) { upgrades = same_none q T.upgrades most.0 i; waits = same_none q T.waits most.1 i }

  pub one_asked : after_asks q.region (q ∷ []) T ≡ after_ask q T
  one_asked = by (blocked_by q T)
    where
      by : (o : Option ℕ) → option_map_or (λ by. with_waiter q (waits_only_for q T)) o (waits_for_nothing q.region (granted q T)) ≡ left_by_request (answer_to o) q T
      by None = nothing_is
      by (Some other) = ap (with_waiter q) only_is

-- ---- the lists
pub granted_seen : (qs : List Request) (T : EnqueueTable) (holds : List (Holder × Mode)) (us ws : List Request)
    → holds ≡ with_holds qs T.holds → us ≡ without_waits qs T.upgrades → ws ≡ without_waits qs T.waits → record T { holds = holds; upgrades = us; waits = ws } ≡ granted_all qs T
granted_seen qs T holds us ws e f g = (λ i. record T { holds = e i; upgrades = f i; waits = g i }) ∙ sym (granted_parts qs T)

at_from : (f : Request → Option ℕ) (by n : ℕ) (qs : List Request) (q : Request) → q ≡ slice_index_or qs n q → option_and_then f (slice_get qs n) ≡ Some by → slice_get qs n ≡ Some q
at_from f by n [] q e h = let c : None ≡ Some by = h in absurd (cc)
at_from f by zero (x ∷ qs) q e h = ap (λ (y : Request). Some y) (sym e)
at_from f by (suc n) (x ∷ qs) q e h = at_from f by n qs q e h

module _ (region : ℕ) (qs : List Request) (T made got left : EnqueueTable) (kept : IsTableKept T) (is : IsTableRegion T region) (of : AreOf region qs) (n : ℕ) (q : Request) (by : ℕ)
    (at : q ≡ slice_index_or qs n q) (free : AreRequestsFree (take n qs) T) (here : option_and_then (λ r. blocked_by r T) (slice_get qs n) ≡ Some by) where
  place : slice_get qs n ≡ Some q
  place = at_from (λ r. blocked_by r T) by n qs q at here

  stopped : blocked_by q T ≡ Some by
  stopped = ap (option_and_then (λ r. blocked_by r T)) (sym place) ∙ here

  pub told_is : (b : Blocked) → b ≡ blocked_told (q, by) → Some b ≡ option_map blocked_told (first_blocked qs T)
  told_is b e = ap (λ (x : Blocked). Some x) e ∙ ap (option_map blocked_told) (sym (first_is region qs T kept is of n q by place free stopped))

  pub left_is : made ≡ T → got ≡ granted_all (take n qs) made → left ≡ with_waiter q (waits_only_for q got) → left ≡ after_asks region qs T
  left_is e f g = g ∙ (ap (λ t. with_waiter q (waits_only_for q t)) (f ∙ ap (granted_all (take n qs)) e) ∙ sym (after_is region qs T kept is of n q by place free stopped))

module _ (region : ℕ) (qs : List Request) (T got left : EnqueueTable) (kept : IsTableKept T) (is : IsTableRegion T region) (of : AreOf region qs) (free : AreRequestsFree qs T) where
  pub told_none : None ≡ option_map blocked_told (first_blocked qs T)
  told_none = ap (option_map blocked_told) (sym (none_blocked region qs T kept is of free))

  pub left_free : got ≡ granted_all qs T → left ≡ waits_for_nothing region got → left ≡ after_asks region qs T
  left_free f g = g ∙ (ap (waits_for_nothing region) f ∙ sym (after_none region qs T kept is of free))

-- ---- a table that was asked
waiting_keeps : (q : Request) (T : EnqueueTable) → (with_waiter q T).regions ≡ T.regions
waiting_keeps q T = by (is_upgrade q T.holds)
  where
    by : (b : Bool) → (cond b (record T { upgrades = placed_request q T.upgrades }) (record T { waits = placed_request q T.waits })).regions ≡ T.regions
    by true = refl
    by false = refl

pub holds_of_waiting : (q : Request) (T : EnqueueTable) → (with_waiter q T).holds ≡ T.holds
holds_of_waiting q T = by (is_upgrade q T.holds)
  where
    by : (b : Bool) → (cond b (record T { upgrades = placed_request q T.upgrades }) (record T { waits = placed_request q T.waits })).holds ≡ T.holds
    by true = refl
    by false = refl

pub same_regions : (region : ℕ) (qs : List Request) (T : EnqueueTable) → (after_asks region qs T).regions ≡ T.regions
same_regions region [] T = refl
same_regions region (q ∷ qs) T = by (blocked_by q T) (same_regions region qs (granted q T))
  where
    by : (o : Option ℕ) → (after_asks region qs (granted q T)).regions ≡ T.regions
        → (option_map_or (λ by. with_waiter q (waits_only_for q T)) o (after_asks region qs (granted q T))).regions ≡ T.regions
    by None rec = rec
    by (Some other) rec = waiting_keeps q (waits_only_for q T)

module _ (region : ℕ) (qs : List Request) (old new : Lists) (kept : AreListsKept old) (is : IsTableRegion (table_of_lists old) region) (of : AreOf region qs) where
  pub kept_asked : (r : Result (Option Blocked) AllocError) → OnOk r (table_of_lists new ≡ after_asks region qs (table_of_lists old)) → OnErr r (table_of_lists new ≡ table_of_lists old)
      → AreListed new.held.items new.holds.entries → length new.held.items ≡ length old.held.items → AreListsKept new
  kept_asked (Ok b) ok err listed all =
      kept_lists old new (after_asks region qs (table_of_lists old)) kept ok (same_regions region qs (table_of_lists old)) (kept_after_asks region qs (table_of_lists old) kept.kept is of) listed all
  kept_asked (Err e) ok err listed all = kept_lists old new (table_of_lists old) kept err refl kept.kept listed all
