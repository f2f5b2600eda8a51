-- What regions hold they go on to hold, whatever a region asks for; and what it asks for and gets, it holds.
use Rattle.std.proofs.Common.{◌≡◌, ℕ, List, [], ◌∷◌, Bool, true, false, cond, Option, Some, None, refl, sym, ap, ◌∙◌}
use Rattle.std.specs.Prelude.{All, IsTrue, if◌then◌else◌}
use Rattle.std.specs.BTreeMap.{insert_entry}
use Rattle.std.specs.Map.{lookup}
use Rattle.std.specs.Option.{option_map_or}
use Rattle.std.specs.Ordering.{is_eq, match_ordering}
use Rattle.std.specs.declared.cmp.Ordering.{Ordering}
use Rattle.std.specs.declared.cmp.Ordering.TheVariants.{Less, Equal, Greater}
use Rattle.std.proofs.lemmas.List.Elements.{All-nil, All-cons}
use Rattle.tm_types.specs.declared.resource.Mode.{Mode}
use Rattle.tm_types.specs.declared.resource.Mode.TheVariants.{Shared, Exclusive}
use Rattle.model_data.specs.declared.request.Holder.{Holder}
use Rattle.model_data.specs.declared.request.Request.{Request}
use Rattle.model_data.specs.Modes.{mode_serves, stronger, holder_cmp}
use Rattle.model_data.specs.Table.{EnqueueTable, is_asker, is_request_served, is_upgrade, mode_held, blocked_by}
use Rattle.model_data.specs.EnqueueRequests.{asker, granted, granted_mode, with_hold, with_waiter, waits_only_for, after_asks, first_blocked, placed_request}
use Rattle.message_run.specs.WorkAhead.{IsHeld}
use Rattle.message_run.proofs.Holders.{asker_is, holder_same}
use Rattle.model_data.proofs.Holders.{holder_exact}

-- ---- look-ups behind a hold more
-- a test passes just the holder that is inserted
look_new : (p : Holder → Bool) (k : Holder) (v : Mode) → ((h : Holder) → p h ≡ is_eq (holder_cmp k h)) → p k ≡ true
    → (es : List (Holder × Mode)) → lookup p (insert_entry holder_cmp es k v) ≡ Some v
look_new p k v just here [] = ap (λ b. cond b (Some v) None) here
look_new p k v just here (e ∷ es) = by (holder_cmp k e.0) refl (look_new p k v just here es)
  where
    by : (o : Ordering) → holder_cmp k e.0 ≡ o → lookup p (insert_entry holder_cmp es k v) ≡ Some v
        → lookup p (match_ordering o ((k, v) ∷ e ∷ es) ((e.0, v) ∷ es) (e ∷ insert_entry holder_cmp es k v)) ≡ Some v
    by Less at further = ap (λ b. cond b (Some v) (lookup p (e ∷ es))) here
    by Equal at further = ap (λ b. cond b (Some v) (lookup p es)) (just e.0 ∙ ap is_eq at)
    by Greater at further = ap (λ b. cond b (Some e.1) (lookup p (insert_entry holder_cmp es k v))) (just e.0 ∙ ap is_eq at) ∙ further

-- a test doesn't pass the holder that is inserted
look_other : (p : Holder → Bool) (k : Holder) (v : Mode) → ((h : Holder) → is_eq (holder_cmp k h) ≡ true → p h ≡ p k) → p k ≡ false
    → (es : List (Holder × Mode)) → lookup p (insert_entry holder_cmp es k v) ≡ lookup p es
look_other p k v alike other [] = ap (λ b. cond b (Some v) None) other
look_other p k v alike other (e ∷ es) = by (holder_cmp k e.0) refl (look_other p k v alike other es)
  where
    by : (o : Ordering) → holder_cmp k e.0 ≡ o → lookup p (insert_entry holder_cmp es k v) ≡ lookup p es
        → lookup p (match_ordering o ((k, v) ∷ e ∷ es) ((e.0, v) ∷ es) (e ∷ insert_entry holder_cmp es k v)) ≡ lookup p (e ∷ es)
    by Less at further = ap (λ b. cond b (Some v) (lookup p (e ∷ es))) other
    by Equal at further =
        let missed = alike e.0 (ap is_eq at) ∙ other in
        ap (λ b. cond b (Some v) (lookup p es)) missed ∙ sym (ap (λ b. cond b (Some e.1) (lookup p es)) missed)
    by Greater at further = ap (cond (p e.0) (Some e.1)) further

-- ---- modes
still_serves : (mode more asked : Mode) → mode_serves mode asked ≡ true → mode_serves (stronger mode more) asked ≡ true
still_serves Shared Shared asked h = h
still_serves Shared Exclusive Shared h = refl
still_serves Shared Exclusive Exclusive h = refl
still_serves Exclusive more asked h = h

new_serves : (held : Option Mode) (asked : Mode) → mode_serves (option_map_or (λ mode. stronger mode asked) held asked) asked ≡ true
new_serves None Shared = refl
new_serves None Exclusive = refl
new_serves (Some Shared) Shared = refl
new_serves (Some Shared) Exclusive = refl
new_serves (Some Exclusive) Shared = refl
new_serves (Some Exclusive) Exclusive = refl

serves_more : (held : Option Mode) (more asked : Mode) → option_map_or (λ mode. mode_serves mode asked) held false ≡ true
    → mode_serves (option_map_or (λ mode. stronger mode more) held more) asked ≡ true
serves_more None more asked h = absurd (cc)
serves_more (Some mode) more asked h = still_serves mode more asked h

-- ---- one request
-- two requests of one region for one resource find the same holder
same_asker : (q r : Request) → is_asker r (asker q) ≡ true → (h : Holder) → is_asker r h ≡ is_eq (holder_cmp (asker q) h)
same_asker q r same h =
    let one : asker r ≡ asker q = holder_exact (asker r) (asker q) (asker_is r (asker q) ∙ same) in
    sym (asker_is r h) ∙ ap (λ k. is_eq (holder_cmp k h)) one

-- a hold more takes none away
pub grant_keeps : (q r : Request) (holds : List (Holder × Mode)) → IsTrue (is_request_served r holds) → IsTrue (is_request_served r (with_hold q holds))
grant_keeps q r holds served = by (is_asker r (asker q)) refl
  where
    by : (b : Bool) → is_asker r (asker q) ≡ b → IsTrue (is_request_served r (with_hold q holds))
    by false other =
        ap (λ m. option_map_or (λ mode. mode_serves mode r.mode) m false)
        (look_other (is_asker r) (asker q) (granted_mode q holds) (λ h e. ap (is_asker r) (sym (holder_exact (asker q) h e))) other holds)
        ∙ served
    by true same =
        ap (λ m. option_map_or (λ mode. mode_serves mode r.mode) m false) (look_new (is_asker r) (asker q) (granted_mode q holds) (same_asker q r same) same holds)
        ∙ (ap (λ m. mode_serves (option_map_or (λ mode. stronger mode q.mode) m q.mode) r.mode) (looked same holds) ∙ serves_more (mode_held r holds) q.mode r.mode served)
      where
        looked : is_asker r (asker q) ≡ true → (es : List (Holder × Mode)) → mode_held q es ≡ mode_held r es
        looked one [] = refl
        looked one (e ∷ es) = λ i. cond ((sym (asker_is q e.0) ∙ sym (same_asker q r one e.0)) i) (Some e.1) (looked one es i)

-- and what was asked for is held
pub grant_holds : (q : Request) (holds : List (Holder × Mode)) → IsTrue (is_request_served q (with_hold q holds))
grant_holds q holds =
    ap (λ m. option_map_or (λ mode. mode_serves mode q.mode) m false)
    (look_new (is_asker q) (asker q) (granted_mode q holds) (λ h. sym (asker_is q h)) (sym (asker_is q (asker q)) ∙ holder_same (asker q)) holds)
    ∙ new_serves (mode_held q holds) q.mode

-- who waits holds what was held
waits_alone : (b : Bool) (q : Request) (table : EnqueueTable)
    → (if b then record table { upgrades = placed_request q table.upgrades } else record table { waits = placed_request q table.waits }).holds ≡ table.holds
waits_alone true q table = refl
waits_alone false q table = refl

-- ---- the requests of a call
pub asks_keep : (region : ℕ) (requests : List Request) (table : EnqueueTable) (r : Request) → IsHeld table r → IsHeld (after_asks region requests table) r
asks_keep region [] table r held = held
asks_keep region (q ∷ requests) table r held = by (blocked_by q table) (asks_keep region requests (granted q table) r (grant_keeps q r table.holds held))
  where
    by : (found : Option ℕ) → IsHeld (after_asks region requests (granted q table)) r
        → IsHeld (option_map_or (λ (blocker : ℕ). with_waiter q (waits_only_for q table)) found (after_asks region requests (granted q table))) r
    by None further = further
    by (Some blocker) further = ap (is_request_served r) (waits_alone (is_upgrade q (waits_only_for q table).holds) q (waits_only_for q table)) ∙ held

pub asks_hold : (region : ℕ) (requests : List Request) (table : EnqueueTable) → first_blocked requests table ≡ None → All (IsHeld (after_asks region requests table)) requests
asks_hold region [] table free = All-nil (IsHeld (after_asks region [] table))
asks_hold region (q ∷ requests) table free =
    by (blocked_by q table) free (asks_keep region requests (granted q table) q (grant_holds q table.holds)) (asks_hold region requests (granted q table))
  where
    by : (found : Option ℕ) → option_map_or (λ by. Some (q, by)) found (first_blocked requests (granted q table)) ≡ None
        → IsHeld (after_asks region requests (granted q table)) q
        → (first_blocked requests (granted q table) ≡ None → All (IsHeld (after_asks region requests (granted q table))) requests)
        → All (IsHeld (option_map_or (λ (blocker : ℕ). with_waiter q (waits_only_for q table)) found (after_asks region requests (granted q table)))) (q ∷ requests)
    by None h first further = All-cons (IsHeld (after_asks region requests (granted q table))) q requests first (further h)
    by (Some blocker) h first further = absurd (cc)
