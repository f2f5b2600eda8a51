-- Requests of a region for what it holds already.
use Rattle.std.proofs.Common.{◌≡◌, ℕ, ◌∷◌, [], List, refl, sym, ap, subst, ◌∙◌, Bool, true, false, cond, not, ◌&&◌, Some, None, eqb, length, arith}
use Rattle.std.specs.Prelude.{filter, slice_get, ◌++◌}
use Rattle.std.specs.List.{AllByRecursion}
use Rattle.std.specs.List.Sorted.{IsStrictlySortedBy}
use Rattle.std.specs.Map.{keys_of}
use Rattle.std.specs.Option.{option_map_or}
use Rattle.std.proofs.lemmas.Bool.{eq-eqb, eqb-true}
use Rattle.tm_types.specs.declared.resource.Mode.{Mode}
use Rattle.model_data.specs.declared.request.Holder.{Holder}
use Rattle.model_data.specs.declared.request.Request.{Request}
use Rattle.model_data.specs.Modes.{same_resource, holder_cmp}
use Rattle.model_data.specs.Table.{EnqueueTable, is_own, is_request_served, holders_against, waiters_ahead, blocked_by}
use Rattle.model_data.specs.EnqueueRequests.{without_wait, with_hold, granted, with_waiter, waits_only_for, waits_for_nothing, after_asks}
use Rattle.pi_enqueue.specs.Grants.{AreRequestsFree, AreRequestsServed, with_holds}
use Rattle.pi_enqueue.proofs.Holding.{served_same}

pub served_free : (q : Request) (T : EnqueueTable) → is_request_served q T.holds ≡ true → blocked_by q T ≡ None
served_free q T h = ap (λ b. slice_get (cond b [] (let ahead : List ℕ = holders_against q T.holds ++ waiters_ahead q T in ahead)) 0) h

pub all_free : (qs : List Request) (T : EnqueueTable) → AreRequestsServed qs T.holds → AreRequestsFree qs T
all_free [] T h = tt
all_free (q ∷ qs) T h = (served_free q T h.0, all_free qs T h.1)

both : (a b : Bool) → a && b ≡ true → b ≡ true
both true b h = h
both false b h = let clash : false ≡ true = h in absurd (cc)

-- a region that waits for nothing doesn't wait for this either
end_all : (region : ℕ) (q : Request) (ws : List Request) → q.region ≡ region → filter (λ w. not (eqb w.region region)) (without_wait q ws) ≡ filter (λ w. not (eqb w.region region)) ws
end_all region q [] e = refl
end_all region q (w ∷ ws) e = by (is_own q w) refl (end_all region q ws e)
  where
    stays : Request → Bool
    stays w = not (eqb w.region region)

    by : (b : Bool) → is_own q w ≡ b → filter (λ w. not (eqb w.region region)) (without_wait q ws) ≡ filter (λ w. not (eqb w.region region)) ws
        → filter (λ w. not (eqb w.region region)) (cond (not b) (w ∷ without_wait q ws) (without_wait q ws)) ≡ filter (λ w. not (eqb w.region region)) (w ∷ ws)
    by false g rec = ap (cond (not (eqb w.region region)) (w ∷ filter (λ w. not (eqb w.region region)) (without_wait q ws))) rec ∙ ap (λ us. cond (not (eqb w.region region)) (w ∷ us) (filter (λ w. not (eqb w.region region)) ws)) rec
    by true g rec =
        let own : w.region ≡ region = eqb-true w.region q.region (both (same_resource w.resource q.resource) (eqb w.region q.region) g) ∙ e in
        rec ∙ ap (λ b. cond (not b) (w ∷ filter (λ w. not (eqb w.region region)) ws) (filter (λ w. not (eqb w.region region)) ws)) (sym (eq-eqb w.region region own))

-- where all is held already, the region waits for nothing any longer, and nothing else changes
pub held_already : (region : ℕ) (qs : List Request) (T : EnqueueTable) → IsStrictlySortedBy holder_cmp (keys_of T.holds) → AllByRecursion (λ q. q.region ≡ region) qs → AreRequestsServed qs T.holds
    → after_asks region qs T ≡ waits_for_nothing region T
held_already region [] T s of h = refl
held_already region (q ∷ qs) T s of h =
    let same : T.holds ≡ with_hold q T.holds = served_same q T.holds s h.0 in
    ap (λ o. option_map_or (λ by. with_waiter q (waits_only_for q T)) o (after_asks region qs (granted q T))) (served_free q T h.0)
    ∙ (held_already region qs (granted q T) (subst (λ es. IsStrictlySortedBy holder_cmp (keys_of es)) same s) of.1 (subst (AreRequestsServed qs) same h.1)
    ∙ (λ i. record T { holds = sym same i; upgrades = end_all region q T.upgrades of.0 i; waits = end_all region q T.waits of.0 i }))

pub one_held : (q : Request) (qs : List Request) (es fs : List (Holder × Mode)) → length qs ≡ 1 → slice_get qs 0 ≡ Some q → fs ≡ with_hold q es → fs ≡ with_holds qs es
one_held q [] es fs one at e = absurd (omega arith)
one_held q (r ∷ []) es fs one at e =
    let s : Some r ≡ Some q = at in
    let same : r ≡ q = cc in
    e ∙ ap (λ x. with_hold x es) (sym same)
one_held q (r ∷ s ∷ qs) es fs one at e = absurd (omega arith)
