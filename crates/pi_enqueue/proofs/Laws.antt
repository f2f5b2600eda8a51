-- Laws of the enqueue table for the layers above: what regions hold after requests and releases.
use Rattle.std.proofs.Common.{◌≡◌, ℕ, ◌∷◌, [], List, refl, sym, ap, ◌∙◌, Bool, true, false, cond, not, ◌&&◌, Option, Some, None, eqb}
use Rattle.std.specs.List.{AllByRecursion}
use Rattle.std.specs.Option.{option_map_or, is_some}
use Rattle.std.specs.BTreeMap.{is_at}
use Rattle.std.proofs.lemmas.Bool.{eq-eqb}
use Rattle.tm_types.specs.declared.resource.Resource.{Resource}
use Rattle.tm_types.specs.declared.resource.Mode.{Mode}
use Rattle.tm_types.specs.declared.resource.Mode.TheVariants.{Shared, Exclusive}
use Rattle.model_data.specs.declared.request.Holder.{Holder}
use Rattle.model_data.specs.declared.request.Request.{Request}
use Rattle.model_data.specs.Modes.{mode_serves, stronger, holder_cmp}
use Rattle.model_data.specs.Table.{EnqueueTable, holds_of, mode_held, is_request_served, blocked_by}
use Rattle.model_data.specs.EnqueueRequests.{asker, granted_mode, with_hold, granted, with_waiter, waits_only_for, after_asks, first_blocked, released}
use Rattle.pi_enqueue.specs.KeptTable.{IsTableKept, held_mode}
use Rattle.pi_enqueue.proofs.Granting.{clash, at_holder, held_after}
use Rattle.pi_enqueue.proofs.Keeping.{held_released}
use Rattle.pi_enqueue.proofs.Asking.{AreOf, holds_of_waiting}
use Rattle.model_data.proofs.Holders.{resource_same, holder_exact}
use Rattle.tm_types.proofs.Ordered.{eqb_back}

-- whether a region holds a resource in a mode or a stronger one
abbrev pub has : ℕ → Resource → Mode → List (Holder × Mode) → Bool
has region resource mode holds = option_map_or (λ m. mode_serves m mode) (held_mode region resource holds) false

-- ---- what a granted request leaves
serves_itself : (m : Mode) → mode_serves m m ≡ true
serves_itself Shared = refl
serves_itself Exclusive = refl

stronger_serves : (m n : Mode) → mode_serves (stronger m n) n ≡ true
stronger_serves Shared n = serves_itself n
stronger_serves Exclusive Shared = refl
stronger_serves Exclusive Exclusive = refl

still_serves : (m n k : Mode) → mode_serves m k ≡ true → mode_serves (stronger m n) k ≡ true
still_serves Shared Shared k h = h
still_serves Shared Exclusive Shared h = refl
still_serves Shared Exclusive Exclusive h = refl
still_serves Exclusive n k h = h

its_own : (p : Request) → is_at (holder_cmp (asker p)) (asker p) ≡ true
its_own p = at_holder p.region p.resource (asker p) ∙ (λ i. resource_same p.resource i && eq-eqb p.region p.region refl i)

granted_serves : (p : Request) (es : List (Holder × Mode)) → mode_serves (granted_mode p es) p.mode ≡ true
granted_serves p es = by (mode_held p es)
  where
    by : (o : Option Mode) → mode_serves (option_map_or (λ m. stronger m p.mode) o p.mode) p.mode ≡ true
    by None = serves_itself p.mode
    by (Some m) = stronger_serves m p.mode

-- the region has what was granted
got : (p : Request) (es : List (Holder × Mode)) → is_request_served p (with_hold p es) ≡ true
got p es =
    ap (λ o. option_map_or (λ m. mode_serves m p.mode) o false) (held_after p p.region p.resource es ∙ ap (λ b. cond b (Some (granted_mode p es)) (mode_held p es)) (its_own p))
    ∙ granted_serves p es

-- the other regions have what they had
pub others_have : (p : Request) (region : ℕ) (resource : Resource) (es : List (Holder × Mode)) → eqb region p.region ≡ false → held_mode region resource (with_hold p es) ≡ held_mode region resource es
others_have p region resource es out =
    held_after p region resource es
    ∙ ap (λ b. cond b (Some (granted_mode p es)) (held_mode region resource es))
    (at_holder region resource (asker p) ∙ ((λ i. holds_of resource (asker p) && (eqb_back p.region region ∙ out) i) ∙ and_false (holds_of resource (asker p))))
  where
    and_false : (b : Bool) → b && false ≡ false
    and_false true = refl
    and_false false = refl

-- whoever had a resource has it still, in the same or a stronger mode
has_stays : (p : Request) (region : ℕ) (resource : Resource) (mode : Mode) (es : List (Holder × Mode)) → has region resource mode es ≡ true → has region resource mode (with_hold p es) ≡ true
has_stays p region resource mode es h =
    ap (λ o. option_map_or (λ m. mode_serves m mode) o false) (held_after p region resource es) ∙ by (is_at (holder_cmp (record { resource = resource; region = region })) (asker p)) refl
  where
    stronger_has : (o : Option Mode) → option_map_or (λ m. mode_serves m mode) o false ≡ true → mode_serves (option_map_or (λ m. stronger m p.mode) o p.mode) mode ≡ true
    stronger_has None g = clash (sym g)
    stronger_has (Some m) g = still_serves m p.mode mode g

    by : (b : Bool) → is_at (holder_cmp (record { resource = resource; region = region })) (asker p) ≡ b
        → option_map_or (λ m. mode_serves m mode) (cond b (Some (granted_mode p es)) (held_mode region resource es)) false ≡ true
    by true e =
        let same : record { resource = resource; region = region } ≡ asker p = holder_exact (record { resource = resource; region = region }) (asker p) e in
        stronger_has (mode_held p es) (sym (λ i. has (same i).region (same i).resource mode es) ∙ h)
    by false e = h

-- ---- what all requests of a call leave
module _ (region : ℕ) where
  -- no other region holds more or less
  pub others_same : (other : ℕ) (resource : Resource) (qs : List Request) (T : EnqueueTable) → eqb other region ≡ false → AreOf region qs
      → held_mode other resource (after_asks region qs T).holds ≡ held_mode other resource T.holds
  others_same other resource [] T out of = refl
  others_same other resource (q ∷ qs) T out of = by (blocked_by q T) (others_same other resource qs (granted q T) out of.1)
    where
      by : (o : Option ℕ) → held_mode other resource (after_asks region qs (granted q T)).holds ≡ held_mode other resource (with_hold q T.holds)
          → held_mode other resource (option_map_or (λ by. with_waiter q (waits_only_for q T)) o (after_asks region qs (granted q T))).holds ≡ held_mode other resource T.holds
      by None rec = rec ∙ others_have q other resource T.holds (ap (eqb other) of.0 ∙ out)
      by (Some b) rec = ap (held_mode other resource) (holds_of_waiting q (waits_only_for q T))

  -- every region has what it had
  pub all_stay : (other : ℕ) (resource : Resource) (mode : Mode) (qs : List Request) (T : EnqueueTable)
      → has other resource mode T.holds ≡ true → has other resource mode (after_asks region qs T).holds ≡ true
  all_stay other resource mode [] T h = h
  all_stay other resource mode (q ∷ qs) T h = by (blocked_by q T) (all_stay other resource mode qs (granted q T) (has_stays q other resource mode T.holds h))
    where
      by : (o : Option ℕ) → has other resource mode (after_asks region qs (granted q T)).holds ≡ true
          → has other resource mode (option_map_or (λ by. with_waiter q (waits_only_for q T)) o (after_asks region qs (granted q T))).holds ≡ true
      by None rec = rec
      by (Some b) rec = ap (has other resource mode) (holds_of_waiting q (waits_only_for q T)) ∙ h

  -- where none was blocked, the region has all that it asked for
  pub all_served : (qs : List Request) (T : EnqueueTable) → first_blocked qs T ≡ None → AllByRecursion (λ q. is_request_served q (after_asks region qs T).holds ≡ true) qs
  all_served [] T h = tt
  all_served (q ∷ qs) T h = by (blocked_by q T) h (all_served qs (granted q T)) (all_stay q.region q.resource q.mode qs (granted q T) (got q T.holds))
    where
      by : (o : Option ℕ) → option_map_or (λ by. Some (q, by)) o (first_blocked qs (granted q T)) ≡ None
          → (first_blocked qs (granted q T) ≡ None → AllByRecursion (λ r. is_request_served r (after_asks region qs (granted q T)).holds ≡ true) qs)
          → is_request_served q (after_asks region qs (granted q T)).holds ≡ true
          → AllByRecursion (λ r. is_request_served r (option_map_or (λ by. with_waiter q (waits_only_for q T)) o (after_asks region qs (granted q T))).holds ≡ true) (q ∷ qs)
      by None g rec here = (here, rec g)
      by (Some b) g rec here = clash (ap is_some g)

-- ---- a release
pub released_others : (region other : ℕ) (resource : Resource) (T : EnqueueTable) → eqb other region ≡ false → held_mode other resource (released region T).holds ≡ held_mode other resource T.holds
released_others region other resource T out = held_released region other resource T.holds ∙ ap (λ b. cond (not b) (held_mode other resource T.holds) None) out

pub released_itself : (region : ℕ) (resource : Resource) (T : EnqueueTable) → held_mode region resource (released region T).holds ≡ None
released_itself region resource T = held_released region region resource T.holds ∙ ap (λ b. cond (not b) (held_mode region resource T.holds) None) (eq-eqb region region refl)

-- ---- two holders of one resource, of which the first has it alone, are the same region
pub one_alone : (T : EnqueueTable) (a b : ℕ) (resource : Resource) → IsTableKept T → has a resource Exclusive T.holds ≡ true → has b resource Shared T.holds ≡ true → a ≡ b
one_alone T a b resource kept h g = by (held_mode a resource T.holds) (held_mode b resource T.holds) refl refl h g
  where
    by : (o p : Option Mode) → held_mode a resource T.holds ≡ o → held_mode b resource T.holds ≡ p → option_map_or (λ m. mode_serves m Exclusive) o false ≡ true → option_map_or (λ m. mode_serves m Shared) p false ≡ true → a ≡ b
    by None p e f x y = clash (sym x)
    by (Some Shared) p e f x y = clash (sym x)
    by (Some Exclusive) None e f x y = clash (sym y)
    by (Some Exclusive) (Some m) e f x y = kept.alone resource a b m e f
