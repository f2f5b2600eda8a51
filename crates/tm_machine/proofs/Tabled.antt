-- What the requests of a region, and their end, leave of what other regions hold and wait for.
use Rattle.std.proofs.Common.{◌≡◌, ℕ, List, [], ◌∷◌, ◌++◌, Bool, true, false, not, cond, Option, Some, None, refl, sym, ap, ◌∙◌, eqb-true}
use Rattle.std.specs.Prelude.{◌&&◌, ◌==◌, filter, find, if◌then◌else◌}
use Rattle.std.specs.BTreeMap.{insert_entry}
use Rattle.std.specs.List.{AllByRecursion}
use Rattle.std.specs.Map.{lookup}
use Rattle.std.specs.Option.{option_map_or, option_or}
use Rattle.std.specs.Ordering.{is_eq, match_ordering}
use Rattle.std.specs.declared.cmp.Ordering.{Ordering}
use Rattle.std.specs.declared.cmp.Ordering.TheVariants.{Less, Equal, Greater}
use Rattle.std.proofs.lemmas.Bool.{ne_eqb, eq-eqb}
use Rattle.tm_types.specs.declared.resource.Mode.{Mode}
use Rattle.model_data.specs.declared.request.Holder.{Holder}
use Rattle.model_data.specs.declared.request.Request.{Request}
use Rattle.model_data.specs.Modes.{same_resource, mode_serves, holder_cmp}
use Rattle.model_data.specs.Table.{EnqueueTable, holds_of, is_asker, is_own, is_upgrade, blocked_by, wait_of}
use Rattle.model_data.specs.EnqueueRequests.{asker, granted, granted_mode, without_wait, placed_request, with_waiter, waits_only_for, waits_for_nothing, after_asks, first_blocked, released}
use Rattle.message_run.specs.WorkAhead.{IsHeld}
use Rattle.model_data.proofs.Holders.{holder_exact}

-- all these requests are of this region
abbrev pub AreOwn : ℕ → List Request → Type 0
AreOwn region requests = AllByRecursion (λ request. request.region ≡ region) requests

abbrev of : ℕ → Request → Bool
of region waiter = waiter.region == region

abbrev not_of : ℕ → Request → Bool
not_of region waiter = not (waiter.region == region)

-- ---- who waits, by a list of waiters
find_both : (p : Request → Bool) (xs ys : List Request) → find p (xs ++ ys) ≡ option_or (find p xs) (find p ys)
find_both p [] ys = refl
find_both p (x ∷ xs) ys = by (p x) (find_both p xs ys)
  where
    by : (b : Bool) → find p (xs ++ ys) ≡ option_or (find p xs) (find p ys)
        → (if b then Some x else find p (xs ++ ys)) ≡ option_or (if b then Some x else find p xs) (find p ys)
    by true rest = refl
    by false rest = rest

-- a waiter of another region isn't among those that are taken out
find_kept : (p q : Request → Bool) (xs : List Request) → ((x : Request) → p x ≡ true → q x ≡ true) → find p (filter q xs) ≡ find p xs
find_kept p q [] keeps = refl
find_kept p q (x ∷ xs) keeps = by (p x) refl (q x) refl (find_kept p q xs keeps)
  where
    clash : true ≡ false → ⊥
    clash e = cc

    by : (b : Bool) → p x ≡ b → (c : Bool) → q x ≡ c → find p (filter q xs) ≡ find p xs
        → find p (if c then x ∷ filter q xs else filter q xs) ≡ (if b then Some x else find p xs)
    by true e true f rest = ap (λ b. if b then Some x else find p (filter q xs)) e
    by true e false f rest = absurd (clash (sym (keeps x e) ∙ f))
    by false e true f rest = ap (λ b. if b then Some x else find p (filter q xs)) e ∙ rest
    by false e false f rest = rest

find_none : (p q : Request → Bool) (xs : List Request) → ((x : Request) → q x ≡ true → p x ≡ false) → find p (filter q xs) ≡ None
find_none p q [] others = refl
find_none p q (x ∷ xs) others = by (q x) refl (find_none p q xs others)
  where
    by : (c : Bool) → q x ≡ c → find p (filter q xs) ≡ None → find p (if c then x ∷ filter q xs else filter q xs) ≡ None
    by true f rest = ap (λ b. if b then Some x else find p (filter q xs)) (others x f) ∙ rest
    by false f rest = rest

and_right : (a b : Bool) → a && b ≡ true → b ≡ true
and_right true b h = h
and_right false b h = absurd (cc)

find_placed : (p : Request → Bool) (request : Request) (xs : List Request) → ((x : Request) → x.region ≡ request.region → p x ≡ false) → find p (placed_request request xs) ≡ find p xs
find_placed p request [] others = ap (λ b. if b then Some request else None) (others request refl)
find_placed p request (x ∷ xs) others = by (is_own request x) refl (find_placed p request xs others)
  where
    by : (b : Bool) → is_own request x ≡ b → find p (placed_request request xs) ≡ find p xs
        → find p (if b then request ∷ xs else x ∷ placed_request request xs) ≡ (if p x then Some x else find p xs)
    by true e rest =
        let here : x.region ≡ request.region = eqb-true x.region request.region (and_right (same_resource x.resource request.resource) (x.region == request.region) e) in
        ap (λ b. if b then Some request else find p xs) (others request refl)
        ∙ sym (ap (λ b. if b then Some x else find p xs) (others x here))
    by false e rest = ap (λ r. if p x then Some x else r) rest

-- another region's waits aren't among those that these tests take out
other_kept : (other region : ℕ) → (other ≡ region → ⊥) → (x : Request) → of other x ≡ true → not_of region x ≡ true
other_kept other region apart x e = ap not (ne_eqb x.region region (λ s. apart (sym (eqb-true x.region other e) ∙ s)))

not_left : (a : Bool) (b : Bool) → a ≡ false → not (a && b) ≡ true
not_left true b e = absurd (cc)
not_left false b e = refl

not_right : (a : Bool) (b : Bool) → b ≡ false → not (a && b) ≡ true
not_right true true e = absurd (cc)
not_right true false e = refl
not_right false b e = refl

other_apart : (other : ℕ) (request : Request) → (other ≡ request.region → ⊥) → (x : Request) → of other x ≡ true → (x.region == request.region) ≡ false
other_apart other request apart x e = ne_eqb x.region request.region (λ s. apart (sym (eqb-true x.region other e) ∙ s))

of_apart : (other : ℕ) (request : Request) → (other ≡ request.region → ⊥) → (x : Request) → x.region ≡ request.region → of other x ≡ false
of_apart other request apart x same = ne_eqb x.region other (λ s. apart (sym s ∙ same))

-- ---- what each step leaves of another region's wait
wait_by : (other : ℕ) (table table' : EnqueueTable) → find (of other) table'.upgrades ≡ find (of other) table.upgrades → find (of other) table'.waits ≡ find (of other) table.waits
    → wait_of other table' ≡ wait_of other table
wait_by other table table' up down =
    find_both (of other) table'.upgrades table'.waits ∙ (λ i. option_or (up i) (down i)) ∙ sym (find_both (of other) table.upgrades table.waits)

wait_granted : (other : ℕ) (request : Request) (table : EnqueueTable) → (other ≡ request.region → ⊥) → wait_of other (granted request table) ≡ wait_of other table
wait_granted other request table apart =
    wait_by other table (granted request table) (kept table.upgrades) (kept table.waits)
  where
    kept : (xs : List Request) → find (of other) (without_wait request xs) ≡ find (of other) xs
    kept xs = find_kept (of other) (λ waiter. not (is_own request waiter)) xs
        (λ x e. not_right (same_resource x.resource request.resource) (x.region == request.region) (other_apart other request apart x e))

wait_only : (other : ℕ) (request : Request) (table : EnqueueTable) → (other ≡ request.region → ⊥) → wait_of other (waits_only_for request table) ≡ wait_of other table
wait_only other request table apart =
    wait_by other table (waits_only_for request table) (kept table.upgrades) (kept table.waits)
  where
    kept : (xs : List Request) → find (of other) (filter (λ waiter. not ((waiter.region == request.region) && not (is_own request waiter))) xs) ≡ find (of other) xs
    kept xs = find_kept (of other) (λ waiter. not ((waiter.region == request.region) && not (is_own request waiter))) xs
        (λ x e. not_left (x.region == request.region) (not (is_own request x)) (other_apart other request apart x e))

wait_waiting : (other : ℕ) (request : Request) (table : EnqueueTable) → (other ≡ request.region → ⊥) → wait_of other (with_waiter request table) ≡ wait_of other table
wait_waiting other request table apart = by (is_upgrade request table.holds)
  where
    by : (b : Bool) → wait_of other (if b then record table { upgrades = placed_request request table.upgrades } else record table { waits = placed_request request table.waits }) ≡ wait_of other table
    by true = wait_by other table (record table { upgrades = placed_request request table.upgrades }) (find_placed (of other) request table.upgrades (of_apart other request apart)) refl
    by false = wait_by other table (record table { waits = placed_request request table.waits }) refl (find_placed (of other) request table.waits (of_apart other request apart))

wait_nothing : (other region : ℕ) (table : EnqueueTable) → (other ≡ region → ⊥) → wait_of other (waits_for_nothing region table) ≡ wait_of other table
wait_nothing other region table apart =
    wait_by other table (waits_for_nothing region table) (find_kept (of other) (not_of region) table.upgrades (other_kept other region apart)) (find_kept (of other) (not_of region) table.waits (other_kept other region apart))

-- what a region asks for leaves what another one waits for
pub wait_asks : (other region : ℕ) (requests : List Request) (table : EnqueueTable) → AreOwn region requests → (other ≡ region → ⊥) → wait_of other (after_asks region requests table) ≡ wait_of other table
wait_asks other region [] table own apart = wait_nothing other region table apart
wait_asks other region (q ∷ requests) table own apart =
    by (blocked_by q table) (wait_asks other region requests (granted q table) own.1 apart)
  where
    apart_here : other ≡ q.region → ⊥
    apart_here e = apart (e ∙ own.0)

    by : (found : Option ℕ) → wait_of other (after_asks region requests (granted q table)) ≡ wait_of other (granted q table)
        → wait_of other (option_map_or (λ (blocker : ℕ). with_waiter q (waits_only_for q table)) found (after_asks region requests (granted q table))) ≡ wait_of other table
    by None rest = rest ∙ wait_granted other q table apart_here
    by (Some blocker) rest = wait_waiting other q (waits_only_for q table) apart_here ∙ wait_only other q table apart_here

-- a region that released all waits for nothing, and the others for what they waited for
pub wait_released : (other region : ℕ) (table : EnqueueTable) → (other ≡ region → ⊥) → wait_of other (released region table) ≡ wait_of other table
wait_released other region table apart =
    wait_by other table (released region table) (find_kept (of other) (not_of region) table.upgrades (other_kept other region apart)) (find_kept (of other) (not_of region) table.waits (other_kept other region apart))

pub wait_ended : (region : ℕ) (table : EnqueueTable) → wait_of region (released region table) ≡ None
wait_ended region table =
    find_both (of region) (released region table).upgrades (released region table).waits
    ∙ (λ i. option_or (none table.upgrades i) (none table.waits i))
  where
    not_back : (b : Bool) → not b ≡ true → b ≡ false
    not_back true e = absurd (cc)
    not_back false e = refl

    none : (xs : List Request) → find (of region) (filter (not_of region) xs) ≡ None
    none xs = find_none (of region) (not_of region) xs (λ x e. not_back (of region x) e)

-- ---- how many regions there are
pub regions_asks : (region : ℕ) (requests : List Request) (table : EnqueueTable) → (after_asks region requests table).regions ≡ table.regions
regions_asks region [] table = refl
regions_asks region (q ∷ requests) table = by (blocked_by q table) (regions_asks region requests (granted q table))
  where
    at : (b : Bool) → (if b then record (waits_only_for q table) { upgrades = placed_request q (waits_only_for q table).upgrades } else record (waits_only_for q table) { waits = placed_request q (waits_only_for q table).waits }).regions ≡ table.regions
    at true = refl
    at false = refl

    by : (found : Option ℕ) → (after_asks region requests (granted q table)).regions ≡ table.regions
        → (option_map_or (λ (blocker : ℕ). with_waiter q (waits_only_for q table)) found (after_asks region requests (granted q table))).regions ≡ table.regions
    by None rest = rest
    by (Some blocker) rest = at (is_upgrade q (waits_only_for q table).holds)

-- ---- what is held
look_kept : (p q : Holder → Bool) (es : List (Holder × Mode)) → ((h : Holder) → p h ≡ true → q h ≡ true) → lookup p (filter (λ e. q e.0) es) ≡ lookup p es
look_kept p q [] keeps = refl
look_kept p q (e ∷ es) keeps = by (p e.0) refl (q e.0) refl (look_kept p q es keeps)
  where
    clash : true ≡ false → ⊥
    clash c = cc

    by : (b : Bool) → p e.0 ≡ b → (c : Bool) → q e.0 ≡ c → lookup p (filter (λ e. q e.0) es) ≡ lookup p es
        → lookup p (if c then e ∷ filter (λ e. q e.0) es else filter (λ e. q e.0) es) ≡ cond b (Some e.1) (lookup p es)
    by true f true g rest = ap (λ b. cond b (Some e.1) (lookup p (filter (λ e. q e.0) es))) f
    by true f false g rest = absurd (clash (sym (keeps e.0 f) ∙ g))
    by false f true g rest = ap (λ b. cond b (Some e.1) (lookup p (filter (λ e. q e.0) es))) f ∙ rest
    by false f false g rest = rest

-- a region goes on to hold what it held when another one released all
pub held_released : (region : ℕ) (table : EnqueueTable) (q : Request) → (q.region ≡ region → ⊥) → IsHeld table q → IsHeld (released region table) q
held_released region table q apart held =
    ap (λ m. option_map_or (λ mode. mode_serves mode q.mode) m false)
    (look_kept (is_asker q) (λ h. not (h.region == region)) table.holds
    (λ h e. ap not (ne_eqb h.region region (λ s. apart (sym (eqb-true h.region q.region (and_right (holds_of q.resource h) (h.region == q.region) e)) ∙ s)))))
    ∙ held

-- ---- what a region asked for is gone when it has released all
equal_is : (o : Ordering) → o ≡ Equal → is_eq o ≡ true
equal_is o e = ap is_eq e

hold_gone : (q : Request) (v : Mode) (es : List (Holder × Mode))
    → filter (λ hold. not (hold.0.region == q.region)) (insert_entry holder_cmp es (asker q) v) ≡ filter (λ hold. not (hold.0.region == q.region)) es
hold_gone q v [] = ap (λ b. if not b then (asker q, v) ∷ [] else []) (eq-eqb q.region q.region refl)
hold_gone q v (e ∷ es) = by (holder_cmp (asker q) e.0) refl (hold_gone q v es)
  where
    rest_of : List (Holder × Mode) → List (Holder × Mode)
    rest_of xs = filter (λ hold. not (hold.0.region == q.region)) xs

    by : (o : Ordering) → holder_cmp (asker q) e.0 ≡ o → filter (λ hold. not (hold.0.region == q.region)) (insert_entry holder_cmp es (asker q) v) ≡ filter (λ hold. not (hold.0.region == q.region)) es
        → filter (λ hold. not (hold.0.region == q.region)) (match_ordering o ((asker q, v) ∷ e ∷ es) ((e.0, v) ∷ es) (e ∷ insert_entry holder_cmp es (asker q) v))
        ≡ filter (λ hold. not (hold.0.region == q.region)) (e ∷ es)
    by Less at rest = ap (λ b. if not b then (asker q, v) ∷ filter (λ hold. not (hold.0.region == q.region)) (e ∷ es) else filter (λ hold. not (hold.0.region == q.region)) (e ∷ es)) (eq-eqb q.region q.region refl)
    by Equal at rest =
        let same : asker q ≡ e.0 = holder_exact (asker q) e.0 (ap is_eq at) in
        let here : (e.0.region == q.region) ≡ true = eq-eqb e.0.region q.region (sym (ap (λ h. h.region) same)) in
        ap (λ b. if not b then (e.0, v) ∷ filter (λ hold. not (hold.0.region == q.region)) es else filter (λ hold. not (hold.0.region == q.region)) es) here
        ∙ sym (ap (λ b. if not b then e ∷ filter (λ hold. not (hold.0.region == q.region)) es else filter (λ hold. not (hold.0.region == q.region)) es) here)
    by Greater at rest = ap (λ r. if not (e.0.region == q.region) then e ∷ r else r) rest

-- filters one after another
filter_within : (p q : Request → Bool) (xs : List Request) → ((x : Request) → p x ≡ true → q x ≡ true) → filter p (filter q xs) ≡ filter p xs
filter_within p q [] keeps = refl
filter_within p q (x ∷ xs) keeps = by (p x) refl (q x) refl (filter_within p q xs keeps)
  where
    clash : true ≡ false → ⊥
    clash e = cc

    by : (b : Bool) → p x ≡ b → (c : Bool) → q x ≡ c → filter p (filter q xs) ≡ filter p xs
        → filter p (if c then x ∷ filter q xs else filter q xs) ≡ (if b then x ∷ filter p xs else filter p xs)
    by true e true f rest = ap (λ b. if b then x ∷ filter p (filter q xs) else filter p (filter q xs)) e ∙ ap (λ r. x ∷ r) rest
    by true e false f rest = absurd (clash (sym (keeps x e) ∙ f))
    by false e true f rest = ap (λ b. if b then x ∷ filter p (filter q xs) else filter p (filter q xs)) e ∙ rest
    by false e false f rest = rest

not_back : (b : Bool) → not b ≡ true → b ≡ false
not_back true e = absurd (cc)
not_back false e = refl

released_granted : (q : Request) (table : EnqueueTable) → released q.region (granted q table) ≡ released q.region table
released_granted q table = λ i. record {
  regions = table.regions;
  holds = hold_gone q (granted_mode q table.holds) table.holds i;
  upgrades = gone table.upgrades i;
  waits = gone table.waits i;
}
  where
    gone : (xs : List Request) → filter (not_of q.region) (without_wait q xs) ≡ filter (not_of q.region) xs
    gone xs = filter_within (not_of q.region) (λ waiter. not (is_own q waiter)) xs
        (λ x e. not_right (same_resource x.resource q.resource) (x.region == q.region) (not_back (x.region == q.region) e))

released_nothing : (region : ℕ) (table : EnqueueTable) → released region (waits_for_nothing region table) ≡ released region table
released_nothing region table = λ i. record {
  regions = table.regions;
  holds = (released region table).holds;
  upgrades = filter_within (not_of region) (not_of region) table.upgrades (λ x e. e) i;
  waits = filter_within (not_of region) (not_of region) table.waits (λ x e. e) i;
}

-- what a region asked for and got is gone when it has released all
pub released_asks : (region : ℕ) (requests : List Request) (table : EnqueueTable) → AreOwn region requests → first_blocked requests table ≡ None
    → released region (after_asks region requests table) ≡ released region table
released_asks region [] table own free = released_nothing region table
released_asks region (q ∷ requests) table own free =
    by (blocked_by q table) free (λ f. released_asks region requests (granted q table) own.1 f)
  where
    here : released region (granted q table) ≡ released region table
    here = ap (λ r. released r (granted q table)) (sym own.0) ∙ released_granted q table ∙ ap (λ r. released r table) own.0

    by : (found : Option ℕ) → option_map_or (λ by. Some (q, by)) found (first_blocked requests (granted q table)) ≡ None
        → (first_blocked requests (granted q table) ≡ None → released region (after_asks region requests (granted q table)) ≡ released region (granted q table))
        → released region (option_map_or (λ (blocker : ℕ). with_waiter q (waits_only_for q table)) found (after_asks region requests (granted q table))) ≡ released region table
    by None f rest = rest f ∙ here
    by (Some blocker) f rest = absurd (cc)
