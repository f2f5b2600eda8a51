-- What a region holds, after a request is granted and after another region has released all.
use Rattle.std.proofs.Common.{◌≡◌, ◌≢◌, ℕ, ◌∷◌, [], List, refl, sym, ap, ◌∙◌, Bool, true, false, cond, not, ◌&&◌, ◌||◌, Option, Some, None, eqb}
use Rattle.std.specs.Prelude.{filter}
use Rattle.std.specs.List.{list_any}
use Rattle.std.specs.Option.{option_map_or}
use Rattle.std.specs.BTreeMap.{is_at}
use Rattle.std.specs.Map.{lookup}
use Rattle.std.proofs.lemmas.Bool.{false≢true, eq-eqb, ne_eqb, eqb-true}
use Rattle.tm_types.specs.declared.resource.Resource.{Resource}
use Rattle.tm_types.specs.declared.resource.Mode.{Mode}
use Rattle.tm_types.specs.declared.resource.Mode.TheVariants.{Shared, Exclusive}
use Rattle.model_data.specs.declared.request.Holder.{Holder}
use Rattle.model_data.specs.declared.request.Request.{Request}
use Rattle.model_data.specs.Modes.{same_resource, stronger, holder_cmp}
use Rattle.model_data.specs.Table.{holds_of, mode_held}
use Rattle.model_data.specs.EnqueueRequests.{asker, granted_mode, with_hold}
use Rattle.pi_enqueue.specs.KeptTable.{held_mode}
use Rattle.pi_enqueue.proofs.Keys.{lookup_alike, asker_is}
use Rattle.pi_enqueue.proofs.Ascending.{lookup_inserted}
use Rattle.tm_types.proofs.Ordered.{both_true}
pub use Rattle.model_data.proofs.Holders.{holder_total, holder_exact, resource_same, resource_exact}

asker_at : (k : ℕ) (r : Resource) (h : Holder) → is_at (holder_cmp (record { resource = r; region = k })) h ≡ (holds_of r h && eqb h.region k)
asker_at k r h = asker_is (record { region = k; resource = r; mode = Exclusive }) h

-- what is held after a request is granted
pub held_granted : (k : ℕ) (r : Resource) (q : Request) (holds : List (Holder × Mode))
    → held_mode k r (with_hold q holds) ≡ cond (same_resource q.resource r && eqb q.region k) (Some (granted_mode q holds)) (held_mode k r holds)
held_granted k r q holds =
    sym (lookup_alike (is_at (holder_cmp (record { resource = r; region = k }))) (λ h. holds_of r h && eqb h.region k) (asker_at k r) (with_hold q holds))
    ∙ (lookup_inserted holder_total (record { resource = r; region = k }) (asker q) (granted_mode q holds) holds
    ∙ (λ i. cond (asker_at k r (asker q) i) (Some (granted_mode q holds)) (lookup_alike (is_at (holder_cmp (record { resource = r; region = k }))) (λ h. holds_of r h && eqb h.region k) (asker_at k r) holds i)))

-- the request's own resource
pub held_own : (q : Request) (holds : List (Holder × Mode)) → held_mode q.region q.resource (with_hold q holds) ≡ Some (granted_mode q holds)
held_own q holds =
    held_granted q.region q.resource q holds
    ∙ ap (λ b. cond b (Some (granted_mode q holds)) (held_mode q.region q.resource holds)) (λ i. resource_same q.resource i && eq-eqb q.region q.region refl i)

-- another region, or another resource
pub held_other : (k : ℕ) (r : Resource) (q : Request) (holds : List (Holder × Mode)) → (same_resource q.resource r && eqb q.region k) ≡ false → held_mode k r (with_hold q holds) ≡ held_mode k r holds
held_other k r q holds e = held_granted k r q holds ∙ ap (λ b. cond b (Some (granted_mode q holds)) (held_mode k r holds)) e

-- what a region has alone it has alone after any request is granted
pub alone_granted : (k : ℕ) (r : Resource) (q : Request) (holds : List (Holder × Mode)) → held_mode k r holds ≡ Some Exclusive → held_mode k r (with_hold q holds) ≡ Some Exclusive
alone_granted k r q holds h = by (same_resource q.resource r && eqb q.region k) refl
  where
    by : (b : Bool) → (same_resource q.resource r && eqb q.region k) ≡ b → held_mode k r (with_hold q holds) ≡ Some Exclusive
    by false e = held_other k r q holds e ∙ h
    by true e =
        let parts = both_true (same_resource q.resource r) (eqb q.region k) e in
        let same : q.resource ≡ r = resource_exact q.resource r parts.0 in
        let own : q.region ≡ k = eqb-true q.region k parts.1 in
        let was : mode_held q holds ≡ Some Exclusive = (λ i. held_mode (own i) (same i) holds) ∙ h in
        held_granted k r q holds
        ∙ (ap (λ b. cond b (Some (granted_mode q holds)) (held_mode k r holds)) e ∙ ap (λ o. Some (option_map_or (λ mode. stronger mode q.mode) o q.mode)) was)

-- and what it asks for alone it then has alone
pub alone_asked : (q : Request) (holds : List (Holder × Mode)) → q.mode ≡ Exclusive → held_mode q.region q.resource (with_hold q holds) ≡ Some Exclusive
alone_asked q holds e = held_own q holds ∙ ap Some (by (mode_held q holds))
  where
    strongest : (m : Mode) → stronger m q.mode ≡ Exclusive
    strongest Shared = e
    strongest Exclusive = refl

    by : (o : Option Mode) → option_map_or (λ mode. stronger mode q.mode) o q.mode ≡ Exclusive
    by None = e
    by (Some m) = strongest m

-- what other regions hold stays where one has released all
pub held_released : (k r : ℕ) (resource : Resource) (holds : List (Holder × Mode)) → k ≢ r → held_mode k resource (filter (λ hold. not (eqb hold.0.region r)) holds) ≡ held_mode k resource holds
held_released k r resource [] other = refl
held_released k r resource (h ∷ holds) other = by (eqb h.0.region r) refl (held_released k r resource holds other)
  where
    no_right : (b : Bool) → (b && false) ≡ false
    no_right true = refl
    no_right false = refl

    rest : List (Holder × Mode)
    rest = filter (λ hold. not (eqb hold.0.region r)) holds

    by : (b : Bool) → eqb h.0.region r ≡ b → held_mode k resource (filter (λ hold. not (eqb hold.0.region r)) holds) ≡ held_mode k resource holds
        → held_mode k resource (filter (λ hold. not (eqb hold.0.region r)) (h ∷ holds)) ≡ held_mode k resource (h ∷ holds)
    by true e rec =
        let apart : (holds_of resource h.0 && eqb h.0.region k) ≡ false =
        ap (λ b. holds_of resource h.0 && b) (ne_eqb h.0.region k (λ same. other (sym same ∙ eqb-true h.0.region r e))) ∙ no_right (holds_of resource h.0) in
        ap (λ b. held_mode k resource (cond (not b) (h ∷ filter (λ hold. not (eqb hold.0.region r)) holds) (filter (λ hold. not (eqb hold.0.region r)) holds))) e
        ∙ (rec ∙ sym (ap (λ b. cond b (Some h.1) (held_mode k resource holds)) apart))
    by false e rec =
        ap (λ b. held_mode k resource (cond (not b) (h ∷ filter (λ hold. not (eqb hold.0.region r)) holds) (filter (λ hold. not (eqb hold.0.region r)) holds))) e
        ∙ ap (λ o. cond (holds_of resource h.0 && eqb h.0.region k) (Some h.1) o) rec

-- what is found passes any test that follows
pub found_any : {K X : Type 0} (test : K → Bool) (p : K × X → Bool) (v : X) (es : List (K × X)) → ((e : K × X) → test e.0 ≡ true → e.1 ≡ v → p e ≡ true) → lookup test es ≡ Some v → list_any p es ≡ true
found_any test p v [] f h = let clash : None ≡ Some v = h in absurd (cc)
found_any test p v (e ∷ es) f h = by (test e.0) refl (found_any test p v es f)
  where
    or_true : (b : Bool) → (b || true) ≡ true
    or_true true = refl
    or_true false = refl

    by : (b : Bool) → test e.0 ≡ b → (lookup test es ≡ Some v → list_any p es ≡ true) → (p e || list_any p es) ≡ true
    by true q rec =
        let same : Some e.1 ≡ Some v = sym (ap (λ b. cond b (Some e.1) (lookup test es)) q) ∙ h in
        let value : e.1 ≡ v = cc in
        ap (λ b. b || list_any p es) (f e q value)
    by false q rec = ap (λ b. p e || b) (rec (sym (ap (λ b. cond b (Some e.1) (lookup test es)) q) ∙ h)) ∙ or_true (p e)

-- where some entry passes, one is found
pub any_found : {K X : Type 0} (test : K → Bool) (es : List (K × X)) → list_any (λ e. test e.0) es ≡ true → (v : X) × (lookup test es ≡ Some v)
any_found test [] h = absurd (false≢true h)
any_found test (e ∷ es) h = by (test e.0) refl (any_found test es)
  where
    by : (b : Bool) → test e.0 ≡ b → (list_any (λ x. test x.0) es ≡ true → (v : _) × (lookup test es ≡ Some v)) → (v : _) × (lookup test (e ∷ es) ≡ Some v)
    by true q rec = (e.1, ap (λ b. cond b (Some e.1) (lookup test es)) q)
    by false q rec =
        let found = rec (sym (ap (λ b. b || list_any (λ x. test x.0) es) q) ∙ h) in
        (found.0, ap (λ b. cond b (Some e.1) (lookup test es)) q ∙ found.1)
