-- Queues of waiters.
use Rattle.std.proofs.Common.{◌≡◌, ℕ, ◌+◌, ◌∷◌, [], ◌++◌, List, refl, sym, ap, subst, ◌∙◌, arith, Bool, true, false, cond, Some, None, suc}
use Rattle.std.specs.Prelude.{find, position, slice_set}
use Rattle.std.specs.List.{position_from}
use Rattle.std.proofs.lemmas.Iterator.Adapters.{position_from-zero}
use Rattle.model_data.specs.declared.request.Request.{Request}
use Rattle.model_data.specs.Table.{is_own}
use Rattle.model_data.specs.EnqueueRequests.{placed_request}

-- ---- a place in a queue
placed_from : (q : Request) (k : ℕ) (ws : List Request) (i : ℕ) → position_from (is_own q) k ws ≡ Some i
    → (j : ℕ) × (i ≡ j + k) × (slice_set ws j q ≡ placed_request q ws)
placed_from q k [] i e = let clash : None ≡ Some i = e in absurd (cc)
placed_from q k (w ∷ ws) i e = by (is_own q w) refl e (placed_from q (k + 1) ws i)
  where
    by : (b : Bool) → is_own q w ≡ b → cond b (Some k) (position_from (is_own q) (k + 1) ws) ≡ Some i
        → (position_from (is_own q) (k + 1) ws ≡ Some i → (j : ℕ) × (i ≡ j + (k + 1)) × (slice_set ws j q ≡ placed_request q ws))
        → (j : ℕ) × (i ≡ j + k) × (slice_set (w ∷ ws) j q ≡ cond (is_own q w) (q ∷ ws) (w ∷ placed_request q ws))
    by true t g rec =
        let some : Some k ≡ Some i = g in
        let same : k ≡ i = cc in (
          0,
          omega (arith, same),
          ap (λ b. cond b (q ∷ ws) (w ∷ placed_request q ws)) (sym t),
        )
    by false t g rec =
        let r = rec g in (
          suc r.0,
          omega (arith, r.1),
          ap (λ us. w ∷ us) r.2 ∙ ap (λ b. cond b (q ∷ ws) (w ∷ placed_request q ws)) (sym t),
        )

pub placed_here : (q : Request) (ws us : List Request) (place : ℕ) → us ≡ ws → position (is_own q) us ≡ Some place → slice_set ws place q ≡ placed_request q ws
placed_here q ws us place same h =
    let r = placed_from q 0 ws place (sym (position_from-zero (is_own q) ws) ∙ (ap (position (is_own q)) (sym same) ∙ h)) in
    let e : r.0 ≡ place = omega (arith, r.1) in
    subst (λ j. slice_set ws j q ≡ placed_request q ws) e r.2

behind_from : (q : Request) (k : ℕ) (ws : List Request) → position_from (is_own q) k ws ≡ None → ws ++ q ∷ [] ≡ placed_request q ws
behind_from q k [] e = refl
behind_from q k (w ∷ ws) e = by (is_own q w) refl e (behind_from q (k + 1) ws)
  where
    by : (b : Bool) → is_own q w ≡ b → cond b (Some k) (position_from (is_own q) (k + 1) ws) ≡ None
        → (position_from (is_own q) (k + 1) ws ≡ None → ws ++ q ∷ [] ≡ placed_request q ws)
        → w ∷ ws ++ q ∷ [] ≡ cond (is_own q w) (q ∷ ws) (w ∷ placed_request q ws)
    by true t g rec = let clash : Some k ≡ None = g in absurd (cc)
    by false t g rec = ap (λ us. w ∷ us) (rec g) ∙ ap (λ b. cond b (q ∷ ws) (w ∷ placed_request q ws)) (sym t)

pub placed_behind : (q : Request) (ws us vs : List Request) → us ≡ ws → position (is_own q) us ≡ None → vs ≡ ws ++ q ∷ [] → vs ≡ placed_request q ws
placed_behind q ws us vs same h e =
    e ∙ behind_from q 0 ws (sym (position_from-zero (is_own q) ws) ∙ (ap (position (is_own q)) (sym same) ∙ h))

-- ---- the first of two queues
pub found_first : (p : Request → Bool) (us ws : List Request) (w : Request) → find p us ≡ Some w → find p (us ++ ws) ≡ Some w
found_first p [] ws w h = let c : None ≡ Some w = h in absurd (cc)
found_first p (u ∷ us) ws w h = by (p u) h (found_first p us ws w)
  where
    by : (b : Bool) → cond b (Some u) (find p us) ≡ Some w → (find p us ≡ Some w → find p (us ++ ws) ≡ Some w) → cond b (Some u) (find p (us ++ ws)) ≡ Some w
    by true g rec = g
    by false g rec = rec g

pub found_second : (p : Request → Bool) (us ws : List Request) → find p us ≡ None → find p (us ++ ws) ≡ find p ws
found_second p [] ws h = refl
found_second p (u ∷ us) ws h = by (p u) h (found_second p us ws)
  where
    by : (b : Bool) → cond b (Some u) (find p us) ≡ None → (find p us ≡ None → find p (us ++ ws) ≡ find p ws) → cond b (Some u) (find p (us ++ ws)) ≡ find p ws
    by true g rec = let c : Some u ≡ None = g in absurd (cc)
    by false g rec = rec g
