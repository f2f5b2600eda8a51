-- What a region comes to hold, and how that is taken back.
use Rattle.std.proofs.Common.{◌≡◌, ℕ, ◌≤◌, ◌-◌, ◌∷◌, [], ◌++◌, List, refl, sym, ap, subst, ◌∙◌, arith, Bool, true, false, cond, not, ◌||◌, ◌&&◌, Option, Some, None, eqb, length}
use Rattle.std.specs.Prelude.{filter, slice_set}
use Rattle.std.specs.List.{AllByRecursion}
use Rattle.std.specs.List.Sorted.{IsStrictlySortedBy}
use Rattle.std.specs.BTreeMap.{insert_entry, is_at}
use Rattle.std.specs.Map.{keys_of, lookup, remove_entry, set_value}
use Rattle.std.specs.Option.{option_map_or}
use Rattle.std.proofs.lemmas.Bool.{eq-eqb, ne_eqb}
use Rattle.std.proofs.lemmas.List.{get_or-set_same, get_or-set_other}
use Rattle.tm_types.specs.declared.resource.Resource.{Resource}
use Rattle.tm_types.specs.declared.resource.Mode.{Mode}
use Rattle.tm_types.specs.declared.resource.Mode.TheVariants.{Shared, Exclusive}
use Rattle.model_data.specs.declared.request.Holder.{Holder}
use Rattle.model_data.specs.declared.request.Request.{Request}
use Rattle.model_data.specs.Modes.{same_resource, mode_serves, stronger, holder_cmp}
use Rattle.model_data.specs.Table.{mode_held, is_request_served}
use Rattle.model_data.specs.EnqueueRequests.{asker, granted_mode, with_hold}
use Rattle.pi_enqueue.specs.declared.holds.Change.{Change}
use Rattle.pi_enqueue.specs.Lists.{IsUpTo, is_on, is_listed, AreListed, StayListed, with_mode, before_all, is_more}
use Rattle.pi_enqueue.proofs.Keys.{held_is}
use Rattle.pi_enqueue.proofs.Ascending.{all_map, all_keys_inserted, insert_same, reset_inserted, remove_inserted, filter_removed, none_removed}
use Rattle.model_data.proofs.Holders.{holder_total, holder_exact, holder_ties, resource_same}

-- ---- the mode
pub serves_keeps : (a b : Mode) → mode_serves a b ≡ true → stronger a b ≡ a
serves_keeps Shared Shared h = refl
serves_keeps Shared Exclusive h = absurd (cc)
serves_keeps Exclusive b h = refl

unserved_takes : (a b : Mode) → mode_serves a b ≡ false → stronger a b ≡ b
unserved_takes Shared b h = refl
unserved_takes Exclusive Shared h = absurd (cc)
unserved_takes Exclusive Exclusive h = refl

pub served_same : (q : Request) (es : List (Holder × Mode)) → IsStrictlySortedBy holder_cmp (keys_of es) → is_request_served q es ≡ true → es ≡ with_hold q es
served_same q es s h = by (mode_held q es) (held_is q es) h
  where
    by : (o : Option Mode) → lookup (is_at (holder_cmp (asker q))) es ≡ o → option_map_or (λ mode. mode_serves mode q.mode) o false ≡ true
        → es ≡ insert_entry holder_cmp es (asker q) (option_map_or (λ mode. stronger mode q.mode) o q.mode)
    by None e g = absurd (cc)
    by (Some mode) e g =
        sym (ap (insert_entry holder_cmp es (asker q)) (serves_keeps mode q.mode g) ∙ insert_same holder_total (asker q) mode es s e)

pub unserved_mode : (q : Request) (es : List (Holder × Mode)) → is_request_served q es ≡ false → granted_mode q es ≡ q.mode
unserved_mode q es h = by (mode_held q es) h
  where
    by : (o : Option Mode) → option_map_or (λ mode. mode_serves mode q.mode) o false ≡ false → option_map_or (λ mode. stronger mode q.mode) o q.mode ≡ q.mode
    by None g = refl
    by (Some mode) g = unserved_takes mode q.mode g

-- ---- changes taken back
pub last_back : (cs : List Change) (c : Change) (es : List (Holder × Mode)) → before_all (cs ++ c ∷ []) es ≡ before_all cs (with_mode c.mode c.holder es)
last_back [] c es = refl
last_back (d ∷ cs) c es = ap (with_mode d.mode d.holder) (last_back cs c es)

pub all_back : (cs : List Change) (es fs : List (Holder × Mode)) → length cs ≡ 0 → before_all cs es ≡ fs → es ≡ fs
all_back [] es fs h e = e
all_back (c ∷ cs) es fs h e = absurd (omega arith)

inserted_back : (o : Option Mode) (k : Holder) (mode : Mode) (es : List (Holder × Mode)) → IsStrictlySortedBy holder_cmp (keys_of es) → lookup (is_at (holder_cmp k)) es ≡ o
    → with_mode o k (insert_entry holder_cmp es k mode) ≡ es
inserted_back None k mode es s e = remove_inserted holder_total k mode es e
inserted_back (Some m) k mode es s e = reset_inserted holder_total k mode m es s e

-- the mode before is given back
pub hold_back : (q : Request) (k : Holder) (o : Option Mode) (es fs : List (Holder × Mode)) → k ≡ asker q → IsStrictlySortedBy holder_cmp (keys_of es) → o ≡ mode_held q es → fs ≡ with_hold q es
    → with_mode o k fs ≡ es
hold_back q k o es fs e s held made =
    ap (with_mode o k) (made ∙ ap (λ x. insert_entry holder_cmp es x (granted_mode q es)) (sym e))
    ∙ inserted_back o k (granted_mode q es) es s (ap (λ x. lookup (is_at (holder_cmp x)) es) e ∙ (held_is q es ∙ sym held))

-- a change that is noted behind the others is taken back first
pub noted_back : (q : Request) (k : Holder) (o : Option Mode) (cs ds : List Change) (es fs : List (Holder × Mode)) → k ≡ asker q → IsStrictlySortedBy holder_cmp (keys_of es) → o ≡ mode_held q es
    → fs ≡ with_hold q es → ds ≡ cs ++ (record { holder = k; mode = o }) ∷ [] → before_all ds fs ≡ before_all cs es
noted_back q k o cs ds es fs e s held made noted =
    ap (λ l. before_all l fs) noted
    ∙ (last_back cs (record { holder = k; mode = o }) fs ∙ ap (before_all cs) (hold_back q k o es fs e s held made))

-- ---- a mode that was set, and the stronger one given back
more_mode : (o : Option Mode) (mode : Mode) → is_more o mode ≡ false → option_map_or (λ m. stronger m mode) o mode ≡ mode
more_mode None mode h = refl
more_mode (Some Shared) mode h = refl
more_mode (Some Exclusive) Shared h = absurd (cc)
more_mode (Some Exclusive) Exclusive h = refl

more_serves : (o : Option Mode) (mode : Mode) → is_more o mode ≡ true → option_map_or (λ m. mode_serves m mode) o false ≡ true
more_serves None mode h = absurd (cc)
more_serves (Some Shared) mode h = absurd (cc)
more_serves (Some Exclusive) Shared h = refl
more_serves (Some Exclusive) Exclusive h = absurd (cc)

module _ (q : Request) (k : Holder) (o : Option Mode) (es : List (Holder × Mode)) (e : k ≡ asker q) (held : o ≡ lookup (is_at (holder_cmp k)) es) where
  pub told_held : o ≡ mode_held q es
  told_held = held ∙ (ap (λ x. lookup (is_at (holder_cmp x)) es) e ∙ held_is q es)

  pub set_new : is_more o q.mode ≡ false → insert_entry holder_cmp es k q.mode ≡ with_hold q es
  set_new h = λ i. insert_entry holder_cmp es (e i) (sym (ap (λ x. option_map_or (λ m. stronger m q.mode) x q.mode) (sym told_held) ∙ more_mode o q.mode h) i)

  pub set_back : is_more o q.mode ≡ true → IsStrictlySortedBy holder_cmp (keys_of es) → with_mode o k (insert_entry holder_cmp es k q.mode) ≡ with_hold q es
  set_back h s =
      inserted_back o k q.mode es s (sym held)
      ∙ served_same q es s (ap (λ x. option_map_or (λ m. mode_serves m q.mode) x false) (sym told_held) ∙ more_serves o q.mode h)

pub reset_absent : (test : Holder → Bool) (mode : Mode) (es : List (Holder × Mode)) → lookup test es ≡ None → set_value test es mode ≡ es
reset_absent test mode [] h = refl
reset_absent test mode (e ∷ es) h = by (test e.0) h (reset_absent test mode es)
  where
    by : (b : Bool) → cond b (Some e.1) (lookup test es) ≡ None → (lookup test es ≡ None → set_value test es mode ≡ es) → cond b ((e.0, mode) ∷ es) (e ∷ set_value test es mode) ≡ e ∷ es
    by true g rec = let clash : Some e.1 ≡ None = g in absurd (cc)
    by false g rec = ap (λ us. e ∷ us) (rec g)

-- ---- lists of what regions hold
pub is_on_end : (rs : List Resource) (r : Resource) → is_on (rs ++ r ∷ []) r ≡ true
is_on_end [] r = ap (λ b. b || false) (resource_same r)
is_on_end (x ∷ rs) r = elim (same_resource x r) as (λ b. b || is_on (rs ++ r ∷ []) r ≡ true) [ true ↦ refl | false ↦ is_on_end rs r ]

pub listed_there : (index : List (List Resource)) (holder : Holder) (old new : List Resource) → 1 ≤ holder.region → holder.region ≤ length index → new ≡ old ++ holder.resource ∷ []
    → is_listed (slice_set index (holder.region - 1) new) holder ≡ true
listed_there index holder old new first last e =
    ap (λ l. is_on l holder.resource) (get_or-set_same index (holder.region - 1) new [] (omega arith) ∙ e) ∙ is_on_end old holder.resource

listed_found : (index : List (List Resource)) (k : Holder) (m : Mode) (es : List (Holder × Mode)) → AreListed index es → lookup (is_at (holder_cmp k)) es ≡ Some m → is_listed index k ≡ true
listed_found index k m [] h e = let clash : None ≡ Some m = e in absurd (cc)
listed_found index k m (x ∷ es) h e = by (is_at (holder_cmp k) x.0) refl e (listed_found index k m es h.1)
  where
    by : (b : Bool) → is_at (holder_cmp k) x.0 ≡ b → cond b (Some x.1) (lookup (is_at (holder_cmp k)) es) ≡ Some m
        → (lookup (is_at (holder_cmp k)) es ≡ Some m → is_listed index k ≡ true) → is_listed index k ≡ true
    by true q g rec = ap (is_listed index) (holder_exact k x.0 q) ∙ h.0
    by false q g rec = rec g

pub still_listed : (old new : List (List Resource)) (es : List (Holder × Mode)) → StayListed old new → AreListed old es → AreListed new es
still_listed old new es stay h = all_map (λ k g. stay k g) (keys_of es) h

module _ (old new : List (List Resource)) (o : Option Mode) (k : Holder) (mode : Mode) (es fs : List (Holder × Mode))
    (stay : StayListed old new) (h : AreListed old es) (fresh : o ≡ None → is_listed new k ≡ true) (e : lookup (is_at (holder_cmp k)) es ≡ o) where
  now_listed : (o' : Option Mode) → o ≡ o' → is_listed new k ≡ true
  now_listed None g = fresh g
  now_listed (Some m) g = stay k (listed_found old k m es h (e ∙ g))

  inserted_listed : fs ≡ insert_entry holder_cmp es k mode → AreListed new fs
  inserted_listed ok = subst (AreListed new) (sym ok) (all_keys_inserted holder_cmp (λ x. is_listed new x ≡ true) k mode es (now_listed o refl) (still_listed old new es stay h))

pub hold_listed : (old new : List (List Resource)) (q : Request) (k : Holder) (o : Option Mode) (es fs : List (Holder × Mode)) → StayListed old new → AreListed old es
    → (o ≡ None → is_listed new k ≡ true) → k ≡ asker q → o ≡ mode_held q es → fs ≡ with_hold q es → AreListed new fs
hold_listed old new q k o es fs stay h fresh e held made =
    inserted_listed old new o k (granted_mode q es) es fs stay h fresh (ap (λ x. lookup (is_at (holder_cmp x)) es) e ∙ (held_is q es ∙ sym held))
    (made ∙ ap (λ x. insert_entry holder_cmp es x (granted_mode q es)) (sym e))

-- ---- a release
abbrev pub is_elsewhere : ℕ → Holder × Mode → Bool
is_elsewhere region hold = not (eqb hold.0.region region)

-- what a region holds is on this list
abbrev pub AreOwnOn : List Resource → ℕ → List (Holder × Mode) → Type 0
AreOwnOn list region es = AllByRecursion (λ holder. holder.region ≡ region → is_on list holder.resource ≡ true) (keys_of es)

abbrev at : Resource → ℕ → Holder
at r region = record { resource = r; region = region }

is_there : (region : ℕ) (r : Resource) (e : Holder × Mode) → is_at (holder_cmp (at r region)) e.0 ≡ true → is_elsewhere region e ≡ false
is_there region r e h = ap (λ n. not (eqb n region)) (sym (ap (λ k. k.region) (holder_exact (at r region) e.0 h))) ∙ ap not (eq-eqb region region refl)

pub elsewhere_stays : (region : ℕ) (r : Resource) (es fs gs : List (Holder × Mode)) → fs ≡ remove_entry (is_at (holder_cmp (at r region))) es
    → filter (is_elsewhere region) es ≡ filter (is_elsewhere region) gs → filter (is_elsewhere region) fs ≡ filter (is_elsewhere region) gs
elsewhere_stays region r es fs gs e h =
    ap (filter (is_elsewhere region)) e ∙ (filter_removed (is_elsewhere region) (is_at (holder_cmp (at r region))) (λ x g. is_there region r x g) es ∙ h)

is_on_push : (list : List Resource) (r x : Resource) → same_resource r x ≡ false → is_on (list ++ r ∷ []) x ≡ is_on list x
is_on_push [] r x h = ap (λ b. b || false) h
is_on_push (y ∷ list) r x h = ap (λ b. same_resource y x || b) (is_on_push list r x h)

apart_from : (a b : Bool) → a && b ≡ false → b ≡ true → a ≡ false
apart_from true b h g = let clash : true ≡ false = sym g ∙ h in absurd (cc)
apart_from false b h g = refl

still_on : (list : List Resource) (r : Resource) (region : ℕ) (holder : Holder) → (holder.region ≡ region → is_on (list ++ r ∷ []) holder.resource ≡ true)
    → is_at (holder_cmp (at r region)) holder ≡ false → holder.region ≡ region → is_on list holder.resource ≡ true
still_on list r region holder h out e =
    sym (is_on_push list r holder.resource (apart_from (same_resource r holder.resource) (eqb region holder.region) (sym (holder_ties (at r region) holder) ∙ out) (eq-eqb region holder.region (sym e))))
    ∙ h e

own_left : (list : List Resource) (r : Resource) (region : ℕ) (es : List (Holder × Mode)) → AreOwnOn (list ++ r ∷ []) region es
    → AllByRecursion (λ x. is_at (holder_cmp (at r region)) x ≡ false) (keys_of es) → AreOwnOn list region es
own_left list r region [] h out = tt
own_left list r region (e ∷ es) h out = (still_on list r region e.0 h.0 out.0, own_left list r region es h.1 out.1)

all_keys_removed : (P : Holder → Type 0) (test : Holder → Bool) (es : List (Holder × Mode)) → AllByRecursion P (keys_of es) → AllByRecursion P (keys_of (remove_entry test es))
all_keys_removed P test [] h = tt
all_keys_removed P test (e ∷ es) h =
    elim (test e.0) as (λ b. AllByRecursion P (keys_of (cond b es (e ∷ remove_entry test es)))) [ true ↦ h.1 | false ↦ (h.0, all_keys_removed P test es h.1) ]

pub own_stays : (old new : List Resource) (r : Resource) (region : ℕ) (es fs : List (Holder × Mode)) → old ≡ new ++ r ∷ [] → fs ≡ remove_entry (is_at (holder_cmp (at r region))) es
    → IsStrictlySortedBy holder_cmp (keys_of es) → AreOwnOn old region es → AreOwnOn new region fs
own_stays old new r region es fs last e s h =
    subst (AreOwnOn new region) (sym e)
    (own_left new r region (remove_entry (is_at (holder_cmp (at r region))) es)
    (subst (λ l. AreOwnOn l region (remove_entry (is_at (holder_cmp (at r region))) es)) last
    (all_keys_removed (λ holder. holder.region ≡ region → is_on old holder.resource ≡ true) (is_at (holder_cmp (at r region))) es h))
    (none_removed holder_total (at r region) es s))

all_elsewhere : (region : ℕ) (es : List (Holder × Mode)) → AreOwnOn [] region es → es ≡ filter (is_elsewhere region) es
all_elsewhere region [] h = refl
all_elsewhere region (e ∷ es) h =
    let out : (e.0.region ≡ region → ⊥) = λ g. (let clash : false ≡ true = h.0 g in absurd (cc)) in
    ap (λ us. e ∷ us) (all_elsewhere region es h.1) ∙ ap (λ b. cond b (e ∷ filter (is_elsewhere region) es) (filter (is_elsewhere region) es)) (sym (ap not (ne_eqb e.0.region region out)))

pub nothing_left : (region : ℕ) (list : List Resource) (es gs : List (Holder × Mode)) → list ≡ [] → AreOwnOn list region es
    → filter (is_elsewhere region) es ≡ filter (is_elsewhere region) gs → es ≡ filter (is_elsewhere region) gs
nothing_left region list es gs e h same = all_elsewhere region es (subst (λ l. AreOwnOn l region es) e h) ∙ same

elsewhere_from : (region : ℕ) (e : Holder × Mode) → is_elsewhere region e ≡ true → e.0.region ≡ region → ⊥
elsewhere_from region e h g = let clash : false ≡ true = sym (ap not (eq-eqb e.0.region region g)) ∙ h in absurd (cc)

other_list : (last region : ℕ) (index : List (List Resource)) (l : List Resource) (e : Holder × Mode) → 1 ≤ region → IsUpTo last e.0 → is_elsewhere region e ≡ true → is_listed index e.0 ≡ true
    → is_listed (slice_set index (region - 1) l) e.0 ≡ true
other_list last region index l e first small out h =
    ap (λ list. is_on list e.0.resource) (get_or-set_other index (region - 1) (e.0.region - 1) l [] (λ g. elsewhere_from region e out (omega (arith, small.0)))) ∙ h

others_listed : (last region : ℕ) (index : List (List Resource)) (l : List Resource) (es : List (Holder × Mode)) → 1 ≤ region → AllByRecursion (IsUpTo last) (keys_of es) → AreListed index es
    → AreListed (slice_set index (region - 1) l) (filter (is_elsewhere region) es)
others_listed last region index l [] first small h = tt
others_listed last region index l (e ∷ es) first small h = by (is_elsewhere region e) refl (others_listed last region index l es first small.1 h.1)
  where
    by : (b : Bool) → is_elsewhere region e ≡ b → AreListed (slice_set index (region - 1) l) (filter (is_elsewhere region) es)
        → AreListed (slice_set index (region - 1) l) (cond b (e ∷ filter (is_elsewhere region) es) (filter (is_elsewhere region) es))
    by true g rec = (other_list last region index l e first small.0 g h.0, rec)
    by false g rec = rec

pub released_listed : (last region : ℕ) (index now : List (List Resource)) (l : List Resource) (es fs gs : List (Holder × Mode)) → 1 ≤ region → AllByRecursion (IsUpTo last) (keys_of es)
    → AreListed index es → now ≡ index → fs ≡ es → gs ≡ filter (is_elsewhere region) fs → AreListed (slice_set now (region - 1) l) gs
released_listed last region index now l es fs gs first small h same kept rest =
    subst (AreListed (slice_set now (region - 1) l)) (sym (rest ∙ ap (filter (is_elsewhere region)) kept))
    (subst (λ i. AreListed (slice_set i (region - 1) l) (filter (is_elsewhere region) es)) (sym same) (others_listed last region index l es first small h))
