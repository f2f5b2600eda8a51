-- Which of a region's requests are blocked depends on its needs up to the first that another region's holder is against.
use Rattle.std.proofs.Common.{◌≡◌, ◌≢◌, ℕ, ◌++◌, ◌∷◌, [], List, map, refl, sym, ap, ◌∙◌, subst, Bool, true, false, cond, not, ◌&&◌, ◌||◌, Option, Some, None, eqb}
use Rattle.std.specs.Prelude.{filter, slice_get}
use Rattle.std.specs.List.{AllByRecursion, list_any}
use Rattle.std.specs.List.Sorted.{IsStrictlySortedBy}
use Rattle.std.specs.Map.{keys_of}
use Rattle.std.specs.BTreeMap.{insert_entry}
use Rattle.std.specs.Option.{option_map_or}
use Rattle.std.specs.Ordering.{is_eq, match_ordering, ordering_reverse}
use Rattle.std.specs.declared.cmp.Ordering.{Ordering}
use Rattle.std.specs.declared.cmp.Ordering.TheVariants.{Less, Equal, Greater}
use Rattle.std.proofs.lemmas.Bool.{false≢true, eq-eqb, ne_eqb}
use Rattle.std.proofs.lemmas.Map.Keys.{sorted_head, sorted_tail}
use Rattle.tm_types.specs.declared.resource.Mode.{Mode}
use Rattle.tm_types.specs.declared.resource.Mode.TheVariants.{Shared, Exclusive}
use Rattle.model_data.specs.declared.need.Need.{Need}
use Rattle.model_data.specs.Footprint.{up_to_blocked}
use Rattle.model_data.specs.declared.request.Holder.{Holder}
use Rattle.model_data.specs.declared.request.Request.{Request}
use Rattle.model_data.specs.Modes.{same_resource, excludes, mode_serves, stronger, holder_cmp}
use Rattle.model_data.specs.Table.{EnqueueTable, holds_of, mode_held, is_request_served, is_against, holders_against, waiters_ahead, blocked_by}
use Rattle.model_data.specs.EnqueueRequests.{asker, granted_mode, with_hold, granted, with_waiter, waits_only_for, after_asks, first_blocked}
use Rattle.pi_enqueue.specs.KeptTable.{held_mode, IsTableKept}
use Rattle.model_data.proofs.Lists.{all_then}
use Rattle.program_rows.specs.Isolation.{request_of}
use Rattle.pi_enqueue.proofs.Keys.{asker_is}
use Rattle.program_rows.proofs.Holders.{holder_total, holder_exact, held_own, held_other, resource_same, resource_exact}
use Rattle.program_rows.proofs.Asking.{is_contested}
use Rattle.program_rows.proofs.Bools.{left_of, right_of, no_right}

turn_true : (b : Bool) → not b ≡ true → b ≡ false
turn_true true e = absurd (false≢true e)
turn_true false e = refl

-- entries after one is put in
module _ {X : Type 0} where
  pub all_put : (P : Holder × X → Type 0) (k : Holder) (v : X) (es : List (Holder × X)) → ((x : Holder) → holder_cmp k x ≡ Equal → P (x, v)) → P (k, v) → AllByRecursion P es
      → AllByRecursion P (insert_entry holder_cmp es k v)
  all_put P k v [] f p h = (p, tt)
  all_put P k v (e ∷ es) f p h = by (holder_cmp k e.0) refl (all_put P k v es f p h.1)
    where
      by : (o : Ordering) → holder_cmp k e.0 ≡ o → AllByRecursion P (insert_entry holder_cmp es k v)
          → AllByRecursion P (match_ordering (holder_cmp k e.0) ((k, v) ∷ e ∷ es) ((e.0, v) ∷ es) (e ∷ insert_entry holder_cmp es k v))
      by Less q rec = subst (λ o. AllByRecursion P (match_ordering o ((k, v) ∷ e ∷ es) ((e.0, v) ∷ es) (e ∷ insert_entry holder_cmp es k v))) (sym q) (p, h)
      by Equal q rec = subst (λ o. AllByRecursion P (match_ordering o ((k, v) ∷ e ∷ es) ((e.0, v) ∷ es) (e ∷ insert_entry holder_cmp es k v))) (sym q) (f e.0 q, h.1)
      by Greater q rec = subst (λ o. AllByRecursion P (match_ordering o ((k, v) ∷ e ∷ es) ((e.0, v) ∷ es) (e ∷ insert_entry holder_cmp es k v))) (sym q) (h.0, rec)

  any_put : (p : Holder × X → Bool) (k : Holder) (v : X) (es : List (Holder × X)) → ((x : Holder) (w : X) → holder_cmp k x ≡ Equal → p (x, w) ≡ false) → p (k, v) ≡ false
      → list_any p (insert_entry holder_cmp es k v) ≡ list_any p es
  any_put p k v [] f h = ap (λ b. b || false) h
  any_put p k v (e ∷ es) f h = by (holder_cmp k e.0) refl (any_put p k v es f h)
    where
      goes : Ordering → List (Holder × X)
      goes o = match_ordering o ((k, v) ∷ e ∷ es) ((e.0, v) ∷ es) (e ∷ insert_entry holder_cmp es k v)

      by : (o : Ordering) → holder_cmp k e.0 ≡ o → list_any p (insert_entry holder_cmp es k v) ≡ list_any p es → list_any p (goes (holder_cmp k e.0)) ≡ (p e || list_any p es)
      by Less q rec = ap (λ o. list_any p (goes o)) q ∙ ap (λ b. b || (p e || list_any p es)) h
      by Equal q rec = ap (λ o. list_any p (goes o)) q ∙ (ap (λ b. b || list_any p es) (f e.0 v q) ∙ sym (ap (λ b. b || list_any p es) (f e.0 e.1 q)))
      by Greater q rec = ap (λ o. list_any p (goes o)) q ∙ ap (λ b. p e || b) rec

-- of other requests of a region no grant to it changes whether they are contested
own_not_against : (q : Request) (x : Holder) (mode : Mode) → x.region ≡ q.region → is_against q (x, mode) ≡ false
own_not_against q x mode e = ap (λ b. holds_of q.resource x && (not b && excludes mode q.mode)) (eq-eqb x.region q.region e) ∙ no_right (holds_of q.resource x)

pub contested_granted : (q first : Request) (holds : List (Holder × Mode)) → first.region ≡ q.region → is_contested q (with_hold first holds) ≡ is_contested q holds
contested_granted q first holds e =
    any_put (is_against q) (asker first) (granted_mode first holds) holds
    (λ x mode same. own_not_against q x mode (sym (ap (λ (h : Holder). h.region) (holder_exact (asker first) x (ap is_eq same))) ∙ e))
    (own_not_against q (asker first) (granted_mode first holds) e)

-- no other holder excludes what the region holds
abbrev pub GoesTogether : ℕ → List (Holder × Mode) → List (Holder × Mode) → Type 0
GoesTogether region holds entries =
    AllByRecursion (λ e. (mode : Mode) → held_mode region e.0.resource holds ≡ Some mode → e.0.region ≢ region → excludes e.1 mode ≡ false) entries

-- each entry is found
entries_found : (holds : List (Holder × Mode)) → IsStrictlySortedBy holder_cmp (keys_of holds) → AllByRecursion (λ e. held_mode e.0.region e.0.resource holds ≡ Some e.1) holds
entries_found [] s = tt
entries_found (e ∷ holds) s = (
  ap (λ b. cond b (Some e.1) (held_mode e.0.region e.0.resource holds)) (λ i. resource_same e.0.resource i && eq-eqb e.0.region e.0.region refl i),
  later holds (sorted_head holder_cmp e.0 (keys_of holds) s) (entries_found holds (sorted_tail holder_cmp e.0 (keys_of holds) s)),
)
  where
    greater_eq : (o p : Ordering) → o ≡ Less → p ≡ ordering_reverse o → is_eq p ≡ false
    greater_eq o p q r = ap is_eq (r ∙ ap ordering_reverse q)

    later : (fs : List (Holder × Mode)) → AllByRecursion (λ k. holder_cmp e.0 k ≡ Less) (keys_of fs) → AllByRecursion (λ f. held_mode f.0.region f.0.resource holds ≡ Some f.1) fs
        → AllByRecursion (λ f. held_mode f.0.region f.0.resource (e ∷ holds) ≡ Some f.1) fs
    later [] less h = tt
    later (f ∷ fs) less h =
        let other : (holds_of f.0.resource e.0 && eqb e.0.region f.0.region) ≡ false =
        sym (asker_is (record { region = f.0.region; resource = f.0.resource; mode = Exclusive }) e.0) ∙ greater_eq (holder_cmp e.0 f.0) (holder_cmp f.0 e.0) less.0 (holder_total.antisymm f.0 e.0) in
        (ap (λ b. cond b (Some e.1) (held_mode f.0.region f.0.resource holds)) other ∙ h.0, later fs less.1 h.1)

pub kept_together : (table : EnqueueTable) (region : ℕ) → IsTableKept table → GoesTogether region table.holds table.holds
kept_together table region kept =
    all_then (λ (e : Holder × Mode). held_mode e.0.region e.0.resource table.holds ≡ Some e.1)
    (λ (e : Holder × Mode). (mode : Mode) → held_mode region e.0.resource table.holds ≡ Some mode → e.0.region ≢ region → excludes e.1 mode ≡ false) table.holds
    (λ e found mode own other. by e e.1 mode found own other) (entries_found table.holds kept.ascending)
  where
    by : (e : Holder × Mode) (m n : Mode) → held_mode e.0.region e.0.resource table.holds ≡ Some m → held_mode region e.0.resource table.holds ≡ Some n → e.0.region ≢ region → excludes m n ≡ false
    by e Shared Shared f o d = refl
    by e Shared Exclusive f o d = absurd (d (sym (kept.alone e.0.resource region e.0.region Shared o f)))
    by e Exclusive n f o d = absurd (d (kept.alone e.0.resource e.0.region region n f o))

-- what is contested isn't served
contested_unserved : (q : Request) (holds entries : List (Holder × Mode)) → GoesTogether q.region holds entries → is_contested q entries ≡ true → is_request_served q holds ≡ false
contested_unserved q holds [] g e = absurd (false≢true e)
contested_unserved q holds (x ∷ entries) g e = by (is_against q x) refl (contested_unserved q holds entries g.1)
  where
    modes : (a m n : Mode) → excludes a m ≡ false → excludes a n ≡ true → mode_serves m n ≡ false
    modes a Shared Shared p r = absurd (false≢true (sym p ∙ r))
    modes a Shared Exclusive p r = refl
    modes Shared Exclusive n p r = absurd (false≢true (sym p))
    modes Exclusive Exclusive n p r = absurd (false≢true (sym p))

    unserved : (o : Option Mode) → mode_held q holds ≡ o → holds_of q.resource x.0 ≡ true → not (eqb x.0.region q.region) ≡ true → excludes x.1 q.mode ≡ true
        → option_map_or (λ mode. mode_serves mode q.mode) o false ≡ false
    unserved None own same other ex = refl
    unserved (Some m) own same other ex =
        let resource : x.0.resource ≡ q.resource = resource_exact x.0.resource q.resource same in
        let here : held_mode q.region x.0.resource holds ≡ Some m = ap (λ r. held_mode q.region r holds) resource ∙ own in
        modes x.1 m q.mode (g.0 m here (λ s. absurd (false≢true (sym (turn_true (eqb x.0.region q.region) other) ∙ eq-eqb x.0.region q.region s)))) ex

    by : (b : Bool) → is_against q x ≡ b → (is_contested q entries ≡ true → is_request_served q holds ≡ false) → is_request_served q holds ≡ false
    by false p rec = rec (sym (ap (λ b. b || is_contested q entries) p) ∙ e)
    by true p rec =
        let rest : (not (eqb x.0.region q.region) && excludes x.1 q.mode) ≡ true = right_of (holds_of q.resource x.0) _ p in
        unserved (mode_held q holds) refl (left_of (holds_of q.resource x.0) _ p) (left_of (not (eqb x.0.region q.region)) _ rest) (right_of (not (eqb x.0.region q.region)) _ rest)

-- and is blocked
filter_some : {A : Type 0} (p : A → Bool) (xs : List A) → list_any p xs ≡ true → (x : A) × (ys : List A) × (filter p xs ≡ x ∷ ys)
filter_some p [] e = absurd (false≢true e)
filter_some p (x ∷ xs) e = by (p x) refl (filter_some p xs)
  where
    by : (b : Bool) → p x ≡ b → (list_any p xs ≡ true → (y : _) × (ys : List _) × (filter p xs ≡ y ∷ ys)) → (y : _) × (ys : List _) × (filter p (x ∷ xs) ≡ y ∷ ys)
    by true q rec = (x, filter p xs, ap (λ b. cond b (x ∷ filter p xs) (filter p xs)) q)
    by false q rec =
        let found = rec (sym (ap (λ b. b || list_any p xs) q) ∙ e) in
        (found.0, found.1, ap (λ b. cond b (x ∷ filter p xs) (filter p xs)) q ∙ found.2)

contested_blocked : (q : Request) (table : EnqueueTable) → is_contested q table.holds ≡ true → is_request_served q table.holds ≡ false → (n : ℕ) × (blocked_by q table ≡ Some n)
contested_blocked q table e unserved =
    let found = filter_some (is_against q) table.holds e in (
      found.0.0.region,
      ap (λ b. slice_get (cond b [] (holders_against q table.holds ++ waiters_ahead q table)) 0) unserved
          ∙ ap (λ (hs : List (Holder × Mode)). slice_get (map (λ hold. hold.0.region) hs ++ waiters_ahead q table) 0) found.2,
    )

-- where nothing blocks a request, what the region then holds goes together with all others
module _ (q : Request) (table : EnqueueTable) (g : GoesTogether q.region table.holds table.holds) (free : blocked_by q table ≡ None) where
  pub not_contested : is_contested q table.holds ≡ false
  not_contested = by (is_contested q table.holds) refl
    where
      by : (b : Bool) → is_contested q table.holds ≡ b → is_contested q table.holds ≡ false
      by false e = e
      by true e =
          let found = contested_blocked q table e (contested_unserved q table.holds table.holds g e) in
          let clash : Some found.0 ≡ None = sym found.1 ∙ free in absurd (cc)

  entries_free : (entries : List (Holder × Mode)) → is_contested q entries ≡ false → AllByRecursion (λ e. e.0.region ≢ q.region → e.0.resource ≡ q.resource → excludes e.1 q.mode ≡ false) entries
  entries_free [] e = tt
  entries_free (x ∷ entries) e = (λ other same. one other same, entries_free entries (rest (is_against q x) (is_contested q entries) e))
    where
      rest : (a b : Bool) → (a || b) ≡ false → b ≡ false
      rest true b p = absurd (false≢true (sym p))
      rest false b p = p

      first : (a b : Bool) → (a || b) ≡ false → a ≡ false
      first true b p = p
      first false b p = refl

      one : x.0.region ≢ q.region → x.0.resource ≡ q.resource → excludes x.1 q.mode ≡ false
      one other same =
          sym (λ i. (ap (λ r. same_resource r q.resource) same ∙ resource_same q.resource) i && (not (ne_eqb x.0.region q.region other i) && excludes x.1 q.mode))
          ∙ first (is_against q x) (is_contested q entries) e

  pub granted_together : GoesTogether q.region (with_hold q table.holds) (with_hold q table.holds)
  granted_together =
      all_put (λ e. (mode : Mode) → held_mode q.region e.0.resource (with_hold q table.holds) ≡ Some mode → e.0.region ≢ q.region → excludes e.1 mode ≡ false)
      (asker q) (granted_mode q table.holds) table.holds
      (λ x same mode own other. absurd (other (sym (ap (λ (h : Holder). h.region) (holder_exact (asker q) x (ap is_eq same))))))
      (λ mode own other. absurd (other refl))
      (each table.holds g (entries_free table.holds not_contested))
    where
      modes : (a m : Mode) (o : Option Mode) → option_map_or (λ h. stronger h q.mode) o q.mode ≡ m → ((n : Mode) → o ≡ Some n → excludes a n ≡ false) → excludes a q.mode ≡ false → excludes a m ≡ false
      modes a m None e f h = ap (excludes a) (sym e) ∙ h
      modes a m (Some Shared) e f h = ap (excludes a) (sym e) ∙ h
      modes a m (Some Exclusive) e f h = ap (excludes a) (sym e) ∙ f Exclusive refl

      one : (x : Holder × Mode) → ((mode : Mode) → held_mode q.region x.0.resource table.holds ≡ Some mode → x.0.region ≢ q.region → excludes x.1 mode ≡ false)
          → (x.0.region ≢ q.region → x.0.resource ≡ q.resource → excludes x.1 q.mode ≡ false) → (mode : Mode) → held_mode q.region x.0.resource (with_hold q table.holds) ≡ Some mode
          → x.0.region ≢ q.region → (b : Bool) → same_resource q.resource x.0.resource ≡ b → excludes x.1 mode ≡ false
      one x old new mode own other false e =
          old mode (sym (held_other q.region x.0.resource q table.holds (ap (λ b. b && eqb q.region q.region) e)) ∙ own) other
      one x old new mode own other true e =
          let same : q.resource ≡ x.0.resource = resource_exact q.resource x.0.resource e in
          let both : Some (granted_mode q table.holds) ≡ Some mode = sym (ap (λ r. held_mode q.region r (with_hold q table.holds)) (sym same) ∙ held_own q table.holds) ∙ own in
          let is : granted_mode q table.holds ≡ mode = cc in
          modes x.1 mode (mode_held q table.holds) is (λ n h. old n (ap (λ r. held_mode q.region r table.holds) (sym same) ∙ h) other) (new other (sym same))

      each : (entries : List (Holder × Mode)) → GoesTogether q.region table.holds entries → AllByRecursion (λ e. e.0.region ≢ q.region → e.0.resource ≡ q.resource → excludes e.1 q.mode ≡ false) entries
          → GoesTogether q.region (with_hold q table.holds) entries
      each [] old new = tt
      each (x ∷ entries) old new = (λ mode own other. one x old.0 new.0 mode own other (same_resource q.resource x.0.resource) refl, each entries old.1 new.1)

module _ (region number : ℕ) (contested : Need → Bool) where
  -- what is asked and what is blocked is the same for needs with the same front
  pub front_asks : (table : EnqueueTable) → GoesTogether region table.holds table.holds → ((need : Need) → contested need ≡ is_contested (request_of region number need) table.holds)
      → (ns ms : List Need) → up_to_blocked contested ns ≡ up_to_blocked contested ms
      → (first_blocked (map (request_of region number) ns) table ≡ first_blocked (map (request_of region number) ms) table)
      × (after_asks region (map (request_of region number) ns) table ≡ after_asks region (map (request_of region number) ms) table)
  front_asks table g is [] [] e = (refl, refl)
  front_asks table g is [] (m ∷ ms) e = let clash : [] ≡ m ∷ cond (contested m) [] (up_to_blocked contested ms) = e in absurd (cc)
  front_asks table g is (n ∷ ns) [] e = let clash : n ∷ cond (contested n) [] (up_to_blocked contested ns) ≡ [] = e in absurd (cc)
  front_asks table g is (n ∷ ns) (m ∷ ms) e =
      let both : n ∷ cond (contested n) [] (up_to_blocked contested ns) ≡ m ∷ cond (contested m) [] (up_to_blocked contested ms) = e in
      let head : n ≡ m = cc in
      let tail : cond (contested n) [] (up_to_blocked contested ns) ≡ cond (contested m) [] (up_to_blocked contested ms) = cc in
      by (blocked_by (request_of region number n) table) refl head tail (λ free p. front_asks (granted (request_of region number n) table)
      (granted_together (request_of region number n) table g free) (λ need. is need ∙ sym (contested_granted (request_of region number need) (request_of region number n) table.holds refl)) ns ms p)
    where
      first : Need → Option ℕ → List Need → Option (Request × ℕ)
      first need o rest = option_map_or (λ k. Some (request_of region number need, k)) o (first_blocked (map (request_of region number) rest) (granted (request_of region number need) table))

      after : Need → Option ℕ → List Need → EnqueueTable
      after need o rest =
          option_map_or (λ k. with_waiter (request_of region number need) (waits_only_for (request_of region number need) table)) o
          (after_asks region (map (request_of region number) rest) (granted (request_of region number need) table))

      by : (o : Option ℕ) → blocked_by (request_of region number n) table ≡ o → n ≡ m → cond (contested n) [] (up_to_blocked contested ns) ≡ cond (contested m) [] (up_to_blocked contested ms)
          → (blocked_by (request_of region number n) table ≡ None → up_to_blocked contested ns ≡ up_to_blocked contested ms
          → (first_blocked (map (request_of region number) ns) (granted (request_of region number n) table) ≡ first_blocked (map (request_of region number) ms) (granted (request_of region number n) table))
          × (after_asks region (map (request_of region number) ns) (granted (request_of region number n) table) ≡ after_asks region (map (request_of region number) ms) (granted (request_of region number n) table)))
          → (first n (blocked_by (request_of region number n) table) ns ≡ first m (blocked_by (request_of region number m) table) ms)
          × (after n (blocked_by (request_of region number n) table) ns ≡ after m (blocked_by (request_of region number m) table) ms)
      by (Some k) q head tail rec =
          let other : blocked_by (request_of region number m) table ≡ Some k = ap (λ x. blocked_by (request_of region number x) table) (sym head) ∙ q in (
            ap (λ o. first n o ns) q ∙ (ap (λ x. Some (request_of region number x, k)) head ∙ sym (ap (λ o. first m o ms) other)),
            ap (λ o. after n o ns) q ∙ (ap (λ x. with_waiter (request_of region number x) (waits_only_for (request_of region number x) table)) head ∙ sym (ap (λ o. after m o ms) other)),
          )
      by None q head tail rec =
          let other : blocked_by (request_of region number m) table ≡ None = ap (λ x. blocked_by (request_of region number x) table) (sym head) ∙ q in
          let open_n : contested n ≡ false = is n ∙ not_contested (request_of region number n) table g q in
          let open_m : contested m ≡ false = ap contested (sym head) ∙ open_n in
          let rest : up_to_blocked contested ns ≡ up_to_blocked contested ms =
          sym (ap (λ b. cond b [] (up_to_blocked contested ns)) open_n) ∙ (tail ∙ ap (λ b. cond b [] (up_to_blocked contested ms)) open_m) in
          let later = rec q rest in (
            ap (λ o. first n o ns) q
                ∙ (later.0 ∙ (ap (λ x. first_blocked (map (request_of region number) ms) (granted (request_of region number x) table)) head ∙ sym (ap (λ o. first m o ms) other))),
            ap (λ o. after n o ns) q
                ∙ (later.1 ∙ (ap (λ x. after_asks region (map (request_of region number) ms) (granted (request_of region number x) table)) head ∙ sym (ap (λ o. after m o ms) other))),
          )

  -- where no request is blocked, none is contested
  pub none_contested : (table : EnqueueTable) → GoesTogether region table.holds table.holds → ((need : Need) → contested need ≡ is_contested (request_of region number need) table.holds)
      → (ns : List Need) → first_blocked (map (request_of region number) ns) table ≡ None → AllByRecursion (λ need. contested need ≡ false) ns
  none_contested table g is [] e = tt
  none_contested table g is (n ∷ ns) e =
      by (blocked_by (request_of region number n) table) refl
      (λ free p. none_contested (granted (request_of region number n) table) (granted_together (request_of region number n) table g free)
      (λ need. is need ∙ sym (contested_granted (request_of region number need) (request_of region number n) table.holds refl)) ns p)
    where
      by : (o : Option ℕ) → blocked_by (request_of region number n) table ≡ o
          → (blocked_by (request_of region number n) table ≡ None → first_blocked (map (request_of region number) ns) (granted (request_of region number n) table) ≡ None → AllByRecursion (λ need. contested need ≡ false) ns)
          → AllByRecursion (λ need. contested need ≡ false) (n ∷ ns)
      by (Some k) q rec =
          let clash : Some (request_of region number n, k) ≡ (let none : Option (Request × ℕ) = None in none) =
          sym (ap (λ o. option_map_or (λ x. Some (request_of region number n, x)) o (first_blocked (map (request_of region number) ns) (granted (request_of region number n) table))) q) ∙ e in absurd (cc)
      by None q rec = (
        is n ∙ not_contested (request_of region number n) table g q,
        rec q (sym (ap (λ o. option_map_or (λ x. Some (request_of region number n, x)) o (first_blocked (map (request_of region number) ns) (granted (request_of region number n) table))) q) ∙ e),
      )

-- a region asks for itself
pub own_requests : (region number : ℕ) (needs : List Need) → AllByRecursion (λ (q : Request). q.region ≡ region) (map (request_of region number) needs)
own_requests region number [] = tt
own_requests region number (need ∷ needs) = (refl, own_requests region number needs)
