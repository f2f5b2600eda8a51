-- Several requests of one region: what is granted before doesn't change who blocks what comes behind.
use Rattle.std.proofs.Common.{◌≡◌, ℕ, ◌∷◌, [], ◌++◌, List, refl, sym, ap, ◌∙◌, Bool, true, false, cond, not, ◌&&◌, ◌||◌, Option, Some, None, eqb}
use Rattle.std.specs.Prelude.{filter, map, slice_get, if◌then◌else◌}
use Rattle.std.specs.List.{AllByRecursion, list_any}
use Rattle.std.specs.List.Sorted.{IsStrictlySortedBy}
use Rattle.std.proofs.lemmas.Map.Keys.{sorted_head, sorted_tail}
use Rattle.std.specs.Map.{keys_of, lookup}
use Rattle.std.specs.Option.{option_map_or, is_some}
use Rattle.std.specs.Ordering.{is_eq}
use Rattle.std.specs.BTreeMap.{is_at}
use Rattle.std.proofs.lemmas.Bool.{eq-eqb, eqb-true}
use Rattle.tm_types.specs.declared.resource.Resource.{Resource}
use Rattle.tm_types.specs.declared.resource.Mode.{Mode}
use Rattle.tm_types.specs.declared.resource.Mode.TheVariants.{Shared, Exclusive}
use Rattle.model_data.specs.declared.request.Holder.{Holder}
use Rattle.model_data.specs.declared.request.Request.{Request}
use Rattle.model_data.specs.Modes.{same_resource, excludes, mode_serves, stronger, holder_cmp}
use Rattle.model_data.specs.Table.{EnqueueTable, holds_of, mode_held, is_against, holders_against, is_own, ahead, blockers, blocked_by}
use Rattle.model_data.specs.EnqueueRequests.{asker, granted_mode, with_hold, without_wait, granted}
use Rattle.pi_enqueue.specs.KeptTable.{IsTableKept, Upgrades, held_mode}
use Rattle.pi_enqueue.proofs.Keys.{lookup_alike}
use Rattle.pi_enqueue.proofs.Ascending.{all_map, all_filtered, filter_inserted, lookup_inserted}
use Rattle.model_data.proofs.Holders.{holder_total, holder_exact, holder_ties, resource_exact, resource_back}
use Rattle.tm_types.proofs.Ordered.{eqb_back}

pub clash : {P : Type 0} → true ≡ false → P
clash h = absurd (cc)

pub and_split : (a b : Bool) → a && b ≡ true → (a ≡ true) × (b ≡ true)
and_split true b h = (refl, h)
and_split false b h = clash (sym h)

-- ---- who holds what, after one more came to hold something
pub at_holder : (region : ℕ) (resource : Resource) (h : Holder)
    → is_at (holder_cmp (record { resource = resource; region = region })) h ≡ holds_of resource h && eqb h.region region
at_holder region resource h =
    holder_ties (record { resource = resource; region = region }) h ∙ (λ i. resource_back resource h.resource i && eqb_back region h.region i)

pub held_at : (region : ℕ) (resource : Resource) (es : List (Holder × Mode))
    → lookup (is_at (holder_cmp (record { resource = resource; region = region }))) es ≡ held_mode region resource es
held_at region resource es =
    lookup_alike (is_at (holder_cmp (record { resource = resource; region = region }))) (λ h. holds_of resource h && eqb h.region region) (at_holder region resource) es

-- the asker is this holder
pub is_its : Request → ℕ → Resource → Bool
is_its p region resource = is_at (holder_cmp (record { resource = resource; region = region })) (asker p)

pub held_after : (p : Request) (region : ℕ) (resource : Resource) (es : List (Holder × Mode))
    → held_mode region resource (with_hold p es) ≡ cond (is_at (holder_cmp (record { resource = resource; region = region })) (asker p)) (Some (granted_mode p es)) (held_mode region resource es)
held_after p region resource es =
    sym (held_at region resource (with_hold p es))
    ∙ (lookup_inserted holder_total (record { resource = resource; region = region }) (asker p) (granted_mode p es) es
    ∙ ap (cond (is_at (holder_cmp (record { resource = resource; region = region })) (asker p)) (Some (granted_mode p es))) (held_at region resource es))

-- ---- who stands against a request
own_never : (p q : Request) (x : Holder) (w : Mode) → p.region ≡ q.region → is_at (holder_cmp (asker p)) x ≡ true → is_against q (x, w) ≡ false
own_never p q x w same h =
    let r : x.region ≡ q.region = sym (ap (λ k. k.region) (holder_exact (asker p) x h)) ∙ same in
    ap (λ b. holds_of q.resource x && (not b && excludes w q.mode)) (eq-eqb x.region q.region r) ∙ and_false (holds_of q.resource x)
  where
    and_false : (b : Bool) → b && false ≡ false
    and_false true = refl
    and_false false = refl

against_kept : (p q : Request) (es : List (Holder × Mode)) → p.region ≡ q.region → holders_against q (with_hold p es) ≡ holders_against q es
against_kept p q es same =
    ap (map (λ h. h.0.region)) (filter_inserted holder_total (is_against q) (asker p) (granted_mode p es) (λ x w h. own_never p q x w same h) es)

and_true : (a b c : Bool) → a ≡ true → b ≡ true → c ≡ true → a && (b && c) ≡ true
and_true true true true x y z = refl
and_true true true false x y z = z
and_true true false c x y z = y
and_true false b c x y z = x

-- a holder in a mode that can't go together with the request stands against it
pub against_found : (q : Request) (region : ℕ) (mode : Mode) (es : List (Holder × Mode)) → held_mode region q.resource es ≡ Some mode → eqb region q.region ≡ false → excludes mode q.mode ≡ true
    → holders_against q es ≡ [] → ⊥
against_found q region mode [] h out bad none = let f : None ≡ Some mode = h in absurd (cc)
against_found q region mode (e ∷ es) h out bad none =
    by (holds_of q.resource e.0 && eqb e.0.region region) refl h (λ g rest. against_found q region mode es g out bad rest)
  where
    none_behind : (b : Bool) → map (λ (h : Holder × Mode). h.0.region) (cond b (e ∷ filter (is_against q) es) (filter (is_against q) es)) ≡ [] → holders_against q es ≡ []
    none_behind true g = let f : e.0.region ∷ holders_against q es ≡ [] = g in absurd (cc)
    none_behind false g = g

    none_here : is_against q e ≡ true → ⊥
    none_here g =
        let f : e.0.region ∷ holders_against q es ≡ [] = sym (ap (λ b. map (λ (h : Holder × Mode). h.0.region) (cond b (e ∷ filter (is_against q) es) (filter (is_against q) es))) g) ∙ none in
        absurd (cc)

    by : (b : Bool) → holds_of q.resource e.0 && eqb e.0.region region ≡ b → cond b (Some e.1) (held_mode region q.resource es) ≡ Some mode
        → (held_mode region q.resource es ≡ Some mode → holders_against q es ≡ [] → ⊥) → ⊥
    by true t g rec =
        let some : Some e.1 ≡ Some mode = g in
        let m : e.1 ≡ mode = cc in
        let parts = and_split (holds_of q.resource e.0) (eqb e.0.region region) t in
        let r : e.0.region ≡ region = eqb-true e.0.region region parts.1 in
        none_here (λ i. and_true (holds_of q.resource e.0) (not (eqb e.0.region q.region)) (excludes e.1 q.mode) parts.0 (ap not (ap (λ n. eqb n q.region) r ∙ out)) (ap (λ x. excludes x q.mode) m ∙ bad) i)
    by false t g rec = rec g (none_behind (is_against q e) none)

-- what excludes a shared holder excludes any
none_weaker : (p q : Request) (es : List (Holder × Mode)) → p.resource ≡ q.resource → p.region ≡ q.region → q.mode ≡ Shared → holders_against p es ≡ [] → holders_against q es ≡ []
none_weaker p q [] r s m h = refl
none_weaker p q (e ∷ es) r s m h = by (is_against p e) (is_against q e) refl refl h (none_weaker p q es r s m)
  where
    weaker : (a b : Bool) (x pm qm : Mode) → qm ≡ Shared → a && (b && excludes x pm) ≡ false → a && (b && excludes x qm) ≡ false
    weaker true true Shared pm Shared f g = refl
    weaker true true Shared pm Exclusive f g = absurd (cc)
    weaker true true Exclusive Shared qm f g = clash g
    weaker true true Exclusive Exclusive qm f g = clash g
    weaker true false x pm qm f g = refl
    weaker false b x pm qm f g = refl

    not_q : is_against p e ≡ false → is_against q e ≡ false
    not_q g = weaker (holds_of q.resource e.0) (not (eqb e.0.region q.region)) e.1 p.mode q.mode m ((λ i. holds_of (sym r i) e.0 && (not (eqb e.0.region (sym s i)) && excludes e.1 p.mode)) ∙ g)

    by : (a b : Bool) → is_against p e ≡ a → is_against q e ≡ b → map (λ (h : Holder × Mode). h.0.region) (cond a (e ∷ filter (is_against p) es) (filter (is_against p) es)) ≡ []
        → (holders_against p es ≡ [] → holders_against q es ≡ []) → map (λ (h : Holder × Mode). h.0.region) (cond b (e ∷ filter (is_against q) es) (filter (is_against q) es)) ≡ []
    by true b f g k rec = let c : e.0.region ∷ holders_against p es ≡ [] = k in absurd (cc)
    by false true f g k rec = clash (sym g ∙ not_q f)
    by false false f g k rec = rec k

-- ---- the waiters before a request
-- who waits for another resource doesn't count
ahead_apart : (p q : Request) (ws : List Request) → same_resource p.resource q.resource ≡ false → ahead q (without_wait p ws) ≡ ahead q ws
ahead_apart p q [] out = refl
ahead_apart p q (w ∷ ws) out = by (is_own p w) refl (ahead_apart p q ws out)
  where
    rest : List ℕ
    rest = ahead q ws

    other : is_own p w ≡ true → same_resource w.resource q.resource ≡ false
    other g =
        let r : w.resource ≡ p.resource = resource_exact w.resource p.resource (and_split (same_resource w.resource p.resource) (eqb w.region p.region) g).0 in
        ap (λ x. same_resource x q.resource) r ∙ out

    by : (b : Bool) → is_own p w ≡ b → ahead q (without_wait p ws) ≡ rest
        → ahead q (cond (not b) (w ∷ without_wait p ws) (without_wait p ws)) ≡ cond (is_own q w) [] (cond (same_resource w.resource q.resource) (w.region ∷ rest) rest)
    by true g rec =
        rec ∙ sym ((λ i. cond (other g i && eqb w.region q.region) [] (cond (other g i) (w.region ∷ rest) rest)))
    by false g rec = ap (λ us. cond (is_own q w) [] (cond (same_resource w.resource q.resource) (w.region ∷ us) us)) rec

-- where no holder stands against an exclusive request, no other region waits for a stronger mode
none_upgrading : (T : EnqueueTable) (q : Request) (ws : List Request) → q.mode ≡ Exclusive → holders_against q T.holds ≡ [] → AllByRecursion (Upgrades T) ws → ahead q ws ≡ []
none_upgrading T q [] m none h = refl
none_upgrading T q (w ∷ ws) m none h = by (same_resource w.resource q.resource) (eqb w.region q.region) refl refl (none_upgrading T q ws m none h.1)
  where
    excl : (x : Mode) → excludes x q.mode ≡ true
    excl x = ap (excludes x) m ∙ all x
      where
        all : (x : Mode) → excludes x Exclusive ≡ true
        all Shared = refl
        all Exclusive = refl

    found : (o : Option Mode) → mode_held w T.holds ≡ o → is_some o ≡ true → w.resource ≡ q.resource → eqb w.region q.region ≡ false → ⊥
    found None g f r out = clash (sym f)
    found (Some x) g f r out = against_found q w.region x T.holds (ap (λ y. held_mode w.region y T.holds) (sym r) ∙ g) out (excl x) none

    by : (a b : Bool) → same_resource w.resource q.resource ≡ a → eqb w.region q.region ≡ b → ahead q ws ≡ [] → cond (a && b) [] (cond a (w.region ∷ ahead q ws) (ahead q ws)) ≡ []
    by true true f g rec = refl
    by true false f g rec = absurd (found (mode_held w T.holds) refl h.0.has (resource_exact w.resource q.resource f) g)
    by false b f g rec = rec

-- ---- who blocks a request, after another one of its region was granted
abbrev blockers_of : Mode → Option Mode → List ℕ → List ℕ → List ℕ → List ℕ
blockers_of mode has against upgrading waiting =
    if option_map_or (λ m. mode_serves m mode) has false then []
    else against ++ (upgrading ++ (if is_some has then [] else waiting))

abbrev first : List ℕ → Option ℕ
first xs = slice_get xs 0

pub none_first : (xs : List ℕ) → first xs ≡ None → xs ≡ []
none_first [] h = refl
none_first (x ∷ xs) h = let c : Some x ≡ None = h in absurd (cc)

pub none_both : (xs ys : List ℕ) → xs ++ ys ≡ [] → (xs ≡ []) × (ys ≡ [])
none_both [] ys h = (refl, h)
none_both (x ∷ xs) ys h = let c : x ∷ (xs ++ ys) ≡ [] = h in absurd (cc)

-- the first of a list that isn't empty stays, whatever comes behind
first_stays : (xs us vs : List ℕ) → (xs ≡ [] → us ≡ []) → (xs ≡ [] → vs ≡ []) → first (xs ++ us) ≡ first (xs ++ vs)
first_stays [] us vs f g = ap first (f refl ∙ sym (g refl))
first_stays (x ∷ xs) us vs f g = refl

append_none : (us : List ℕ) → us ≡ [] → us ++ [] ≡ []
append_none us h = ap (λ xs. xs ++ []) h

-- pm is the mode that was granted, qm the one asked for now, and m the one that the region had
module _ (against pagainst upgrading left waiting gone : List ℕ) where
  same_answer : (m : Option Mode) (pm qm : Mode)
      → first (blockers_of pm m pagainst upgrading waiting) ≡ None
      → (pm ≡ qm → pagainst ≡ against) → (qm ≡ Shared → pagainst ≡ [] → against ≡ [])
      → (qm ≡ Exclusive → against ≡ [] → (upgrading ≡ []) × (left ≡ []))
      → first (blockers_of qm (Some (option_map_or (λ x. stronger x pm) m pm)) against left gone) ≡ first (blockers_of qm m against upgrading waiting)
  same_answer (Some Exclusive) pm Shared free same weaker none = refl
  same_answer (Some Exclusive) pm Exclusive free same weaker none = refl
  same_answer (Some Shared) Shared Shared free same weaker none = refl
  same_answer (Some Shared) Exclusive Shared free same weaker none = refl
  same_answer (Some Shared) Shared Exclusive free same weaker none =
      first_stays against (left ++ []) (upgrading ++ []) (λ e. append_none left (none refl e).1) (λ e. append_none upgrading (none refl e).0)
  same_answer (Some Shared) Exclusive Exclusive free same weaker none =
      let all = none_both pagainst (upgrading ++ []) (none_first (pagainst ++ (upgrading ++ [])) free) in
      sym (ap first ((λ i. (sym (same refl) ∙ all.0) i ++ all.1 i)))
  same_answer None Shared Shared free same weaker none =
      let all = none_both pagainst (upgrading ++ waiting) (none_first (pagainst ++ (upgrading ++ waiting)) free) in
      sym (ap first ((λ i. (sym (same refl) ∙ all.0) i ++ all.1 i)))
  same_answer None Exclusive Shared free same weaker none =
      let all = none_both pagainst (upgrading ++ waiting) (none_first (pagainst ++ (upgrading ++ waiting)) free) in
      sym (ap first ((λ i. weaker refl all.0 i ++ all.1 i)))
  same_answer None Exclusive Exclusive free same weaker none =
      let all = none_both pagainst (upgrading ++ waiting) (none_first (pagainst ++ (upgrading ++ waiting)) free) in
      sym (ap first ((λ i. (sym (same refl) ∙ all.0) i ++ all.1 i)))
  same_answer None Shared Exclusive free same weaker none =
      let all = none_both pagainst (upgrading ++ waiting) (none_first (pagainst ++ (upgrading ++ waiting)) free) in
      first_stays against (left ++ []) (upgrading ++ waiting) (λ e. append_none left (none refl e).1) (λ e. all.1)

module _ (T : EnqueueTable) (p q : Request) (kept : IsTableKept T) (same : p.region ≡ q.region) (free : blocked_by p T ≡ None) where
  blockers_is : blockers q (granted p T) ≡ blockers_of q.mode (mode_held q (with_hold p T.holds)) (holders_against q T.holds) (ahead q (without_wait p T.upgrades)) (ahead q (without_wait p T.waits))
  blockers_is = ap (λ us. blockers_of q.mode (mode_held q (with_hold p T.holds)) us (ahead q (without_wait p T.upgrades)) (ahead q (without_wait p T.waits))) (against_kept p q T.holds same)

  apart_answer : same_resource p.resource q.resource ≡ false → blocked_by q (granted p T) ≡ blocked_by q T
  apart_answer out =
      let not_its : is_at (holder_cmp (asker q)) (asker p) ≡ false = at_holder q.region q.resource (asker p) ∙ ap (λ b. b && eqb p.region q.region) out in
      let has : mode_held q (with_hold p T.holds) ≡ mode_held q T.holds = held_after p q.region q.resource T.holds ∙ ap (λ b. cond b (Some (granted_mode p T.holds)) (mode_held q T.holds)) not_its in
      ap first (blockers_is ∙ (λ i. blockers_of q.mode (has i) (holders_against q T.holds) (ahead_apart p q T.upgrades out i) (ahead_apart p q T.waits out i)))

  its_answer : same_resource p.resource q.resource ≡ true → blocked_by q (granted p T) ≡ blocked_by q T
  its_answer hit =
      let r : p.resource ≡ q.resource = resource_exact p.resource q.resource hit in
      let its : is_at (holder_cmp (asker q)) (asker p) ≡ true = at_holder q.region q.resource (asker p) ∙ (λ i. both hit (eq-eqb p.region q.region same) i) in
      let has : mode_held q (with_hold p T.holds) ≡ Some (granted_mode p T.holds) = held_after p q.region q.resource T.holds ∙ ap (λ b. cond b (Some (granted_mode p T.holds)) (mode_held q T.holds)) its in
      let had : mode_held p T.holds ≡ mode_held q T.holds = λ i. held_mode (same i) (r i) T.holds in
      let now : Some (granted_mode p T.holds) ≡ Some (option_map_or (λ x. stronger x p.mode) (mode_held q T.holds) p.mode) = ap (λ o. Some (option_map_or (λ x. stronger x p.mode) o p.mode)) had in
      let ups : ahead p T.upgrades ≡ ahead q T.upgrades = ahead_alike r T.upgrades in
      let ws : ahead p T.waits ≡ ahead q T.waits = ahead_alike r T.waits in
      ap first (blockers_is ∙ (λ i. blockers_of q.mode ((has ∙ now) i) (holders_against q T.holds) (ahead q (without_wait p T.upgrades)) (ahead q (without_wait p T.waits))))
      ∙ same_answer (holders_against q T.holds) (holders_against p T.holds) (ahead q T.upgrades) (ahead q (without_wait p T.upgrades)) (ahead q T.waits) (ahead q (without_wait p T.waits))
      (mode_held q T.holds) p.mode q.mode
      (sym (λ i. first (blockers_of p.mode (had i) (holders_against p T.holds) (ups i) (ws i))) ∙ free)
      (λ m. λ i. holders_against (record { region = same i; resource = r i; mode = m i }) T.holds)
      (λ m none. none_weaker p q T.holds r same m none)
      (λ m none. (none_upgrading T q T.upgrades m none kept.upgrading, none_upgrading T q (without_wait p T.upgrades) m none (all_filtered (Upgrades T) (λ w. not (is_own p w)) T.upgrades kept.upgrading)))
    where
      both : {a b : Bool} → a ≡ true → b ≡ true → a && b ≡ true
      both x y = λ i. x i && y i

      ahead_alike : p.resource ≡ q.resource → (ws : List Request) → ahead p ws ≡ ahead q ws
      ahead_alike r ws = λ i. ahead (record { region = same i; resource = r i; mode = p.mode }) ws

  pub blocked_after : blocked_by q (granted p T) ≡ blocked_by q T
  blocked_after = by (same_resource p.resource q.resource) refl
    where
      by : (b : Bool) → same_resource p.resource q.resource ≡ b → blocked_by q (granted p T) ≡ blocked_by q T
      by true h = its_answer h
      by false h = apart_answer h

-- ---- whether one region stands against a request
module _ (q : Request) (region : ℕ) where
  not_among : (e : Holder × Mode) (es : List (Holder × Mode)) → holds_of q.resource e.0 && eqb e.0.region region ≡ false
      → list_any (λ b. eqb b region) (map (λ h. h.0.region) (cond (is_against q e) (e ∷ es) es)) ≡ list_any (λ b. eqb b region) (map (λ h. h.0.region) es)
  not_among e es h = by (holds_of q.resource e.0) (eqb e.0.region region) (not (eqb e.0.region q.region) && excludes e.1 q.mode) refl h
    where
      rest : Bool
      rest = list_any (λ b. eqb b region) (map (λ h. h.0.region) es)

      by : (a b c : Bool) → eqb e.0.region region ≡ b → a && b ≡ false → list_any (λ x. eqb x region) (map (λ h. h.0.region) (cond (a && c) (e ∷ es) es)) ≡ rest
      by true true c g f = clash f
      by true false true g f = ap (λ x. x || rest) g
      by true false false g f = refl
      by false b c g f = refl

  pub none_against : (es : List (Holder × Mode)) → AllByRecursion (λ h. is_at (holder_cmp (record { resource = q.resource; region = region })) h ≡ false) (keys_of es)
      → list_any (λ b. eqb b region) (holders_against q es) ≡ false
  none_against [] h = refl
  none_against (e ∷ es) h = not_among e (filter (is_against q) es) (sym (at_holder region q.resource e.0) ∙ h.0) ∙ none_against es h.1

  pub absent_against : (es : List (Holder × Mode)) → lookup (is_at (holder_cmp (record { resource = q.resource; region = region }))) es ≡ None
      → false ≡ list_any (λ b. eqb b region) (holders_against q es)
  absent_against es h = sym (none_against es (all_absent es h))
    where
      all_absent : (es : List (Holder × Mode)) → lookup (is_at (holder_cmp (record { resource = q.resource; region = region }))) es ≡ None
          → AllByRecursion (λ h. is_at (holder_cmp (record { resource = q.resource; region = region })) h ≡ false) (keys_of es)
      all_absent [] h = tt
      all_absent (e ∷ es) h = by (is_at (holder_cmp (record { resource = q.resource; region = region })) e.0) refl h (all_absent es)
        where
          by : (b : Bool) → is_at (holder_cmp (record { resource = q.resource; region = region })) e.0 ≡ b
              → cond b (Some e.1) (lookup (is_at (holder_cmp (record { resource = q.resource; region = region }))) es) ≡ None
              → (lookup (is_at (holder_cmp (record { resource = q.resource; region = region }))) es ≡ None
              → AllByRecursion (λ h. is_at (holder_cmp (record { resource = q.resource; region = region })) h ≡ false) (keys_of es))
              → AllByRecursion (λ h. is_at (holder_cmp (record { resource = q.resource; region = region })) h ≡ false) (keys_of (e ∷ es))
          by true g f rec = let c : Some e.1 ≡ None = f in absurd (cc)
          by false g f rec = (g, rec f)

  pub found_against : (mode : Mode) (es : List (Holder × Mode)) → IsStrictlySortedBy holder_cmp (keys_of es)
      → lookup (is_at (holder_cmp (record { resource = q.resource; region = region }))) es ≡ Some mode
      → not (eqb region q.region) && excludes mode q.mode ≡ list_any (λ b. eqb b region) (holders_against q es)
  found_against mode [] s h = let c : None ≡ Some mode = h in absurd (cc)
  found_against mode (e ∷ es) s h =
      by (is_at (holder_cmp (record { resource = q.resource; region = region })) e.0) refl h (found_against mode es (sorted_tail holder_cmp e.0 (keys_of es) s))
    where
      later : is_at (holder_cmp (record { resource = q.resource; region = region })) e.0 ≡ true → list_any (λ b. eqb b region) (holders_against q es) ≡ false
      later g =
          let same : record { resource = q.resource; region = region } ≡ e.0 = holder_exact (record { resource = q.resource; region = region }) e.0 g in
          none_against es (all_map (λ k f. ap (λ x. is_eq (holder_cmp x k)) same ∙ ap is_eq f) (keys_of es) (sorted_head holder_cmp e.0 (keys_of es) s))

      here : (a b c : Bool) → a ≡ true → eqb e.0.region region ≡ true → b ≡ c → list_any (λ x. eqb x region) (holders_against q es) ≡ false
          → c ≡ list_any (λ x. eqb x region) (map (λ h. h.0.region) (cond (a && b) (e ∷ filter (is_against q) es) (filter (is_against q) es)))
      here true true c f g i l = sym i ∙ sym (ap (λ x. x || list_any (λ x. eqb x region) (holders_against q es)) g)
      here true false c f g i l = sym i ∙ sym l
      here false b c f g i l = clash (sym f)

      by : (b : Bool) → is_at (holder_cmp (record { resource = q.resource; region = region })) e.0 ≡ b
          → cond b (Some e.1) (lookup (is_at (holder_cmp (record { resource = q.resource; region = region }))) es) ≡ Some mode
          → (lookup (is_at (holder_cmp (record { resource = q.resource; region = region }))) es ≡ Some mode
          → not (eqb region q.region) && excludes mode q.mode ≡ list_any (λ b. eqb b region) (holders_against q es))
          → not (eqb region q.region) && excludes mode q.mode ≡ list_any (λ b. eqb b region) (holders_against q (e ∷ es))
      by true g f rec =
          let some : Some e.1 ≡ Some mode = f in
          let m : e.1 ≡ mode = cc in
          let parts = and_split (holds_of q.resource e.0) (eqb e.0.region region) (sym (at_holder region q.resource e.0) ∙ g) in
          here (holds_of q.resource e.0) (not (eqb e.0.region q.region) && excludes e.1 q.mode) (not (eqb region q.region) && excludes mode q.mode) parts.0 parts.1
          (λ i. not (eqb (eqb-true e.0.region region parts.1 i) q.region) && excludes (m i) q.mode) (later g)
      by false g f rec = rec f ∙ sym (not_among e (filter (is_against q) es) (sym (at_holder region q.resource e.0) ∙ g))
