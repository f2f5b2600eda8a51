-- What a region's requests leave of the enqueue table, and which of them are blocked.
use Rattle.std.proofs.Common.{◌≡◌, ◌≢◌, ℕ, ◌∷◌, [], List, refl, sym, ap, ◌∙◌, subst, Bool, true, false, cond, not, ◌&&◌, Option, Some, None, eqb, ◌⊎◌, ⊎_elim}
use Rattle.std.specs.List.{AllByRecursion, list_any}
use Rattle.std.specs.Option.{option_map_or}
use Rattle.std.proofs.lemmas.Bool.{false≢true, ne_eqb, eqb-true}
use Rattle.tm_types.specs.declared.resource.Resource.{Resource}
use Rattle.tm_types.specs.declared.resource.Mode.{Mode}
use Rattle.tm_types.specs.declared.resource.Mode.TheVariants.{Shared, Exclusive}
use Rattle.model_data.specs.declared.request.Holder.{Holder}
use Rattle.model_data.specs.declared.request.Request.{Request}
use Rattle.model_data.specs.Modes.{excludes}
use Rattle.model_data.specs.Table.{EnqueueTable, holds_of, is_upgrade, is_against, blocked_by}
use Rattle.model_data.specs.EnqueueRequests.{placed_request, with_hold, granted, with_waiter, waits_only_for, after_asks, first_blocked}
use Rattle.pi_enqueue.specs.KeptTable.{held_mode}
use Rattle.program_rows.specs.OpenUnits.{HoldsAlone}
use Rattle.program_rows.proofs.Holders.{alone_granted, alone_asked, found_any}

-- waiting changes no holder
pub waiting_holds : (q : Request) (table : EnqueueTable) → (with_waiter q table).holds ≡ table.holds
waiting_holds q table = by (is_upgrade q table.holds) refl
  where
    by : (b : Bool) → is_upgrade q table.holds ≡ b → (with_waiter q table).holds ≡ table.holds
    by true e = ap (λ (t : EnqueueTable). t.holds) (ap (λ b. cond b (record table { upgrades = placed_request q table.upgrades }) (record table { waits = placed_request q table.waits })) e)
    by false e = ap (λ (t : EnqueueTable). t.holds) (ap (λ b. cond b (record table { upgrades = placed_request q table.upgrades }) (record table { waits = placed_request q table.waits })) e)

waiting_regions : (q : Request) (table : EnqueueTable) → (with_waiter q table).regions ≡ table.regions
waiting_regions q table = by (is_upgrade q table.holds) refl
  where
    by : (b : Bool) → is_upgrade q table.holds ≡ b → (with_waiter q table).regions ≡ table.regions
    by true e = ap (λ (t : EnqueueTable). t.regions) (ap (λ b. cond b (record table { upgrades = placed_request q table.upgrades }) (record table { waits = placed_request q table.waits })) e)
    by false e = ap (λ (t : EnqueueTable). t.regions) (ap (λ b. cond b (record table { upgrades = placed_request q table.upgrades }) (record table { waits = placed_request q table.waits })) e)

-- what holds of the holders before, and stays where a request is granted, holds of them after all requests
module _ (P : List (Holder × Mode) → Type 0) (region : ℕ) where
  pub after_has : (requests : List Request) (table : EnqueueTable) → AllByRecursion (λ q. (holds : List (Holder × Mode)) → P holds → P (with_hold q holds)) requests → P table.holds
      → P (after_asks region requests table).holds
  after_has [] table step h = h
  after_has (q ∷ requests) table step h = by (blocked_by q table) refl (after_has requests (granted q table) step.1 (step.0 table.holds h))
    where
      by : (o : Option ℕ) → blocked_by q table ≡ o → P (after_asks region requests (granted q table)).holds → P (after_asks region (q ∷ requests) table).holds
      by None e rec = subst (λ o. P (option_map_or (λ n. with_waiter q (waits_only_for q table)) o (after_asks region requests (granted q table))).holds) (sym e) rec
      by (Some n) e rec =
          subst (λ o. P (option_map_or (λ k. with_waiter q (waits_only_for q table)) o (after_asks region requests (granted q table))).holds) (sym e)
          (subst P (sym (waiting_holds q (waits_only_for q table))) h)

every : (P : Request → Type 0) → ((q : Request) → P q) → (requests : List Request) → AllByRecursion P requests
every P f [] = tt
every P f (q ∷ requests) = (f q, every P f requests)

-- what a region has alone it has alone after any requests
pub alone_after : (region : ℕ) (requests : List Request) (table : EnqueueTable) (k : ℕ) (r : Resource) → HoldsAlone table k r → HoldsAlone (after_asks region requests table) k r
alone_after region requests table k r h =
    after_has (λ holds. held_mode k r holds ≡ Some Exclusive) region requests table
    (every (λ q. (holds : List (Holder × Mode)) → held_mode k r holds ≡ Some Exclusive → held_mode k r (with_hold q holds) ≡ Some Exclusive) (λ q holds g. alone_granted k r q holds g) requests) h

pub regions_after_asks : (region : ℕ) (requests : List Request) (table : EnqueueTable) → (after_asks region requests table).regions ≡ table.regions
regions_after_asks region [] table = refl
regions_after_asks region (q ∷ requests) table = by (blocked_by q table) refl (regions_after_asks region requests (granted q table))
  where
    by : (o : Option ℕ) → blocked_by q table ≡ o → (after_asks region requests (granted q table)).regions ≡ table.regions → (after_asks region (q ∷ requests) table).regions ≡ table.regions
    by None e rec = ap (λ o. (option_map_or (λ n. with_waiter q (waits_only_for q table)) o (after_asks region requests (granted q table))).regions) e ∙ rec
    by (Some n) e rec =
        ap (λ o. (option_map_or (λ k. with_waiter q (waits_only_for q table)) o (after_asks region requests (granted q table))).regions) e ∙ waiting_regions q (waits_only_for q table)

-- one of these requests
abbrev pub IsAsked : Request → List Request → Type 0
IsAsked q [] = ⊥
IsAsked q (first ∷ requests) = (first ≡ q) ⊎ IsAsked q requests

-- where none is blocked, what is asked for alone is then held alone
pub asked_after : (region : ℕ) (requests : List Request) (table : EnqueueTable) (q : Request) → first_blocked requests table ≡ None → IsAsked q requests → q.mode ≡ Exclusive
    → HoldsAlone (after_asks region requests table) q.region q.resource
asked_after region [] table q none asked mode = absurd asked
asked_after region (first ∷ requests) table q none asked mode = by (blocked_by first table) refl (asked_after region requests (granted first table) q)
  where
    by : (o : Option ℕ) → blocked_by first table ≡ o
        → (first_blocked requests (granted first table) ≡ None → IsAsked q requests → q.mode ≡ Exclusive → HoldsAlone (after_asks region requests (granted first table)) q.region q.resource)
        → HoldsAlone (after_asks region (first ∷ requests) table) q.region q.resource
    by (Some n) e rec =
        let clash : Some (first, n) ≡ (let none : Option (Request × ℕ) = None in none) = sym (ap (λ o. option_map_or (λ k. Some (first, k)) o (first_blocked requests (granted first table))) e) ∙ none in absurd (cc)
    by None e rec =
        let rest : first_blocked requests (granted first table) ≡ None = sym (ap (λ o. option_map_or (λ k. Some (first, k)) o (first_blocked requests (granted first table))) e) ∙ none in
        subst (λ o. HoldsAlone (option_map_or (λ n. with_waiter first (waits_only_for first table)) o (after_asks region requests (granted first table))) q.region q.resource) (sym e)
        (⊎_elim
        (λ same. alone_after region requests (granted first table) q.region q.resource (subst (λ (x : Request). held_mode x.region x.resource (with_hold first table.holds) ≡ Some Exclusive) same
        (alone_asked first table.holds (ap (λ (x : Request). x.mode) same ∙ mode))))
        (λ later. rec rest later mode) asked)

-- another region holds what is asked for in a mode that can't go together with it
abbrev pub is_contested : Request → List (Holder × Mode) → Bool
is_contested q holds = list_any (is_against q) holds

-- whoever has it alone contests it
pub alone_contests : (q : Request) (holds : List (Holder × Mode)) (k : ℕ) → k ≢ q.region → held_mode k q.resource holds ≡ Some Exclusive → is_contested q holds ≡ true
alone_contests q holds k other h =
    found_any (λ holder. holds_of q.resource holder && eqb holder.region k) (is_against q) Exclusive holds
    (λ e test mode. against e (left_of (holds_of q.resource e.0) _ test) (eqb-true e.0.region k (right_of (holds_of q.resource e.0) _ test)) mode) h
  where
    left_of : (a b : Bool) → (a && b) ≡ true → a ≡ true
    left_of true b e = refl
    left_of false b e = absurd (false≢true e)

    right_of : (a b : Bool) → (a && b) ≡ true → b ≡ true
    right_of true b e = e
    right_of false b e = absurd (false≢true e)

    all : (m : Mode) → excludes Exclusive m ≡ true
    all Shared = refl
    all Exclusive = refl

    against : (e : Holder × Mode) → holds_of q.resource e.0 ≡ true → e.0.region ≡ k → e.1 ≡ Exclusive → is_against q e ≡ true
    against e same region mode =
        λ i. same i && (not (ne_eqb e.0.region q.region (λ x. other (sym region ∙ x)) i) && (ap (λ m. excludes m q.mode) mode ∙ all q.mode) i)

-- no two regions hold a resource, one of them alone
abbrev pub AreCompatible : List (Holder × Mode) → Type 0
AreCompatible holds = (resource : Resource) (a b : ℕ) (mode : Mode) → held_mode a resource holds ≡ Some Exclusive → held_mode b resource holds ≡ Some mode → a ≡ b
