-- Which regions wait for which after a change of the table: but for the region that asks, none waits for
-- one for which it didn't wait before.
use Rattle.std.proofs.Common.{◌≡◌, ℕ, ◌∷◌, [], ◌++◌, List, refl, sym, ap, subst, ◌∙◌, Bool, true, false, cond, not, ◌&&◌, ◌||◌, Option, Some, None, eqb}
use Rattle.std.specs.Prelude.{filter, find, map, if◌then◌else◌}
use Rattle.std.specs.List.{list_any}
use Rattle.std.specs.Option.{option_map_or, is_some}
use Rattle.std.specs.BTreeMap.{is_at}
use Rattle.std.proofs.lemmas.Bool.{eq-eqb, ne_eqb, eqb-true}
use Rattle.tm_types.specs.declared.resource.Mode.{Mode}
use Rattle.model_data.specs.declared.request.Holder.{Holder}
use Rattle.model_data.specs.declared.request.Request.{Request}
use Rattle.model_data.specs.Modes.{same_resource, mode_serves, holder_cmp}
use Rattle.model_data.specs.Table.{EnqueueTable, mode_held, is_upgrade, is_against, holders_against, is_own, ahead, blockers, blocked_by, wait_of, waits_for}
use Rattle.model_data.specs.EnqueueRequests.{asker, granted_mode, with_hold, placed_request, granted, with_waiter, waits_only_for, waits_for_nothing, released, after_asks}
use Rattle.pi_enqueue.proofs.Ascending.{filter_inserted}
use Rattle.pi_enqueue.proofs.Granting.{clash, and_split}
use Rattle.pi_enqueue.proofs.Keeping.{held_released}
use Rattle.pi_enqueue.proofs.Asking.{AreOf}
use Rattle.pi_enqueue.proofs.Laws.{others_have}
use Rattle.model_data.proofs.Holders.{holder_total, holder_exact, resource_exact}

-- between other regions than this one, none waits in the new table for one for which it didn't before
pub record Fewer (region : ℕ) (new old : EnqueueTable) : Type 0 where
  pub regions : new.regions ≡ old.regions
  pub waits : (a b : ℕ) → eqb a region ≡ false → eqb b region ≡ false → waits_for a b new ≡ true → waits_for a b old ≡ true

-- the same, also of who waits for that region
pub record Less (region : ℕ) (new old : EnqueueTable) : Type 0 where
  pub regions : new.regions ≡ old.regions
  pub waits : (a b : ℕ) → eqb a region ≡ false → waits_for a b new ≡ true → waits_for a b old ≡ true

pub less_on : {region : ℕ} {X Y Z : EnqueueTable} → Less region X Y → Less region Y Z → Less region X Z
less_on f g = record { regions = f.regions ∙ g.regions; waits = λ a b x h. g.waits a b x (f.waits a b x h) }

pub fewer_less : {region : ℕ} {new old : EnqueueTable} → Less region new old → Fewer region new old
fewer_less h = record { regions = h.regions; waits = λ a b x y g. h.waits a b x g }

pub fewer_same : (region : ℕ) (T : EnqueueTable) → Fewer region T T
fewer_same region T = record { regions = refl; waits = λ a b x y h. h }

pub fewer_on : {region : ℕ} {X Y Z : EnqueueTable} → Fewer region X Y → Fewer region Y Z → Fewer region X Z
fewer_on f g = record { regions = f.regions ∙ g.regions; waits = λ a b x y h. g.waits a b x y (f.waits a b x y h) }

-- ---- whether a region is among some
or_right : (a b : Bool) → b ≡ true → a || b ≡ true
or_right true b h = refl
or_right false b h = h

or_less : (a b c : Bool) → (b ≡ true → c ≡ true) → a || b ≡ true → a || c ≡ true
or_less true b c f h = refl
or_less false b c f h = f h

any_both : (b : ℕ) (xs ys us vs : List ℕ) → (list_any (λ x. eqb x b) xs ≡ true → list_any (λ x. eqb x b) us ≡ true)
    → (list_any (λ x. eqb x b) ys ≡ true → list_any (λ x. eqb x b) vs ≡ true)
    → list_any (λ x. eqb x b) (xs ++ ys) ≡ true → list_any (λ x. eqb x b) (us ++ vs) ≡ true
any_both b xs ys us vs f g h = split (list_any (λ x. eqb x b) xs) (list_any (λ x. eqb x b) ys) refl refl (sym (any_append xs ys) ∙ h)
  where
    any_append : (xs ys : List ℕ) → list_any (λ x. eqb x b) (xs ++ ys) ≡ list_any (λ x. eqb x b) xs || list_any (λ x. eqb x b) ys
    any_append [] ys = refl
    any_append (x ∷ xs) ys = by (eqb x b) (any_append xs ys)
      where
        by : (c : Bool) → list_any (λ x. eqb x b) (xs ++ ys) ≡ list_any (λ x. eqb x b) xs || list_any (λ x. eqb x b) ys
            → c || list_any (λ x. eqb x b) (xs ++ ys) ≡ (c || list_any (λ x. eqb x b) xs) || list_any (λ x. eqb x b) ys
        by true rec = refl
        by false rec = rec

    or_left : (a c : Bool) → a ≡ true → a || c ≡ true
    or_left true c h = refl
    or_left false c h = clash (sym h)

    split : (p q : Bool) → list_any (λ x. eqb x b) xs ≡ p → list_any (λ x. eqb x b) ys ≡ q → p || q ≡ true → list_any (λ x. eqb x b) (us ++ vs) ≡ true
    split true q e k s = any_append us vs ∙ or_left (list_any (λ x. eqb x b) us) (list_any (λ x. eqb x b) vs) (f e)
    split false true e k s = any_append us vs ∙ or_right (list_any (λ x. eqb x b) us) (list_any (λ x. eqb x b) vs) (g k)
    split false false e k s = clash (sym s)

-- ---- waiters before a request, where some wait no longer
ahead_fewer : (b : ℕ) (q : Request) (keep : Request → Bool) → ((w : Request) → keep w ≡ false → is_own q w ≡ false) → (ws : List Request)
    → list_any (λ x. eqb x b) (ahead q (filter keep ws)) ≡ true → list_any (λ x. eqb x b) (ahead q ws) ≡ true
ahead_fewer b q keep other [] h = h
ahead_fewer b q keep other (w ∷ ws) h = by (keep w) refl h (ahead_fewer b q keep other ws)
  where
    gone : (own same : Bool) → own ≡ false → list_any (λ x. eqb x b) (ahead q ws) ≡ true → list_any (λ x. eqb x b) (cond own [] (cond same (w.region ∷ ahead q ws) (ahead q ws))) ≡ true
    gone true same e g = clash e
    gone false true e g = or_right (eqb w.region b) (list_any (λ x. eqb x b) (ahead q ws)) g
    gone false false e g = g

    stays : (own same : Bool) → (list_any (λ x. eqb x b) (ahead q (filter keep ws)) ≡ true → list_any (λ x. eqb x b) (ahead q ws) ≡ true)
        → list_any (λ x. eqb x b) (cond own [] (cond same (w.region ∷ ahead q (filter keep ws)) (ahead q (filter keep ws)))) ≡ true
        → list_any (λ x. eqb x b) (cond own [] (cond same (w.region ∷ ahead q ws) (ahead q ws))) ≡ true
    stays true same rec g = g
    stays false true rec g = or_less (eqb w.region b) (list_any (λ x. eqb x b) (ahead q (filter keep ws))) (list_any (λ x. eqb x b) (ahead q ws)) rec g
    stays false false rec g = rec g

    by : (k : Bool) → keep w ≡ k → list_any (λ x. eqb x b) (ahead q (cond k (w ∷ filter keep ws) (filter keep ws))) ≡ true
        → (list_any (λ x. eqb x b) (ahead q (filter keep ws)) ≡ true → list_any (λ x. eqb x b) (ahead q ws) ≡ true)
        → list_any (λ x. eqb x b) (ahead q (w ∷ ws)) ≡ true
    by true e g rec = stays (is_own q w) (same_resource w.resource q.resource) rec g
    by false e g rec = gone (is_own q w) (same_resource w.resource q.resource) (other w e) (rec g)

-- a region's wait, where only those of others ended
found_still : (p keep : Request → Bool) → ((w : Request) → p w ≡ true → keep w ≡ true) → (ws : List Request) → find p (filter keep ws) ≡ find p ws
found_still p keep f [] = refl
found_still p keep f (w ∷ ws) = by (keep w) (p w) refl refl (found_still p keep f ws)
  where
    by : (k t : Bool) → keep w ≡ k → p w ≡ t → find p (filter keep ws) ≡ find p ws → find p (cond k (w ∷ filter keep ws) (filter keep ws)) ≡ cond t (Some w) (find p ws)
    by true t e g rec = ap (λ c. cond c (Some w) (find p (filter keep ws))) g ∙ ap (cond t (Some w)) rec
    by false true e g rec = clash (sym (f w g) ∙ e)
    by false false e g rec = rec

find_append : (p : Request → Bool) (us ws vs xs : List Request) → find p us ≡ find p vs → find p ws ≡ find p xs → find p (us ++ ws) ≡ find p (vs ++ xs)
find_append p us ws vs xs f g = both us ws ∙ ((λ i. or_else (f i) (g i)) ∙ sym (both vs xs))
  where
    or_else : Option Request → Option Request → Option Request
    or_else None o = o
    or_else (Some w) o = Some w

    both : (us ws : List Request) → find p (us ++ ws) ≡ or_else (find p us) (find p ws)
    both [] ws = refl
    both (u ∷ us) ws = elim (p u) as (λ b. cond b (Some u) (find p (us ++ ws)) ≡ or_else (cond b (Some u) (find p us)) (find p ws)) [ true ↦ refl | false ↦ both us ws ]

-- ---- what a region waits for, and who blocks that
find_passes : (p : Request → Bool) (ws : List Request) (w : Request) → find p ws ≡ Some w → p w ≡ true
find_passes p [] w h = let c : None ≡ Some w = h in absurd (cc)
find_passes p (u ∷ ws) w h = by (p u) refl h (find_passes p ws w)
  where
    by : (b : Bool) → p u ≡ b → cond b (Some u) (find p ws) ≡ Some w → (find p ws ≡ Some w → p w ≡ true) → p w ≡ true
    by true e g rec =
        let s : Some u ≡ Some w = g in
        let i : u ≡ w = cc in
        ap p (sym i) ∙ e
    by false e g rec = rec g

waits_fewer : (a b : ℕ) (new old : EnqueueTable) → wait_of a new ≡ wait_of a old
    → ((q : Request) → q.region ≡ a → list_any (λ x. eqb x b) (blockers q new) ≡ true → list_any (λ x. eqb x b) (blockers q old) ≡ true)
    → waits_for a b new ≡ true → waits_for a b old ≡ true
waits_fewer a b new old same f h =
    by (wait_of a old) refl (ap (λ o. option_map_or (λ q. list_any (λ x. eqb x b) (blockers q new)) o false) (sym same) ∙ h)
  where
    by : (o : Option Request) → wait_of a old ≡ o → option_map_or (λ q. list_any (λ x. eqb x b) (blockers q new)) o false ≡ true → waits_for a b old ≡ true
    by None e g = clash (sym g)
    by (Some q) e g =
        ap (λ o. option_map_or (λ q. list_any (λ x. eqb x b) (blockers q old)) o false) e
        ∙ f q (eqb-true q.region a (find_passes (λ w. eqb w.region a) (old.upgrades ++ old.waits) q e)) g

blockers_fewer : (b : ℕ) (q : Request) (new old : EnqueueTable) → mode_held q new.holds ≡ mode_held q old.holds
    → (list_any (λ x. eqb x b) (holders_against q new.holds) ≡ true → list_any (λ x. eqb x b) (holders_against q old.holds) ≡ true)
    → (list_any (λ x. eqb x b) (ahead q new.upgrades) ≡ true → list_any (λ x. eqb x b) (ahead q old.upgrades) ≡ true)
    → (list_any (λ x. eqb x b) (ahead q new.waits) ≡ true → list_any (λ x. eqb x b) (ahead q old.waits) ≡ true)
    → list_any (λ x. eqb x b) (blockers q new) ≡ true → list_any (λ x. eqb x b) (blockers q old) ≡ true
blockers_fewer b q new old same f g k h =
    by (mode_held q old.holds) (sym (ap (λ o. list_any (λ x. eqb x b) (row o (holders_against q new.holds) (ahead q new.upgrades) (ahead q new.waits))) same) ∙ h)
  where
    row : Option Mode → List ℕ → List ℕ → List ℕ → List ℕ
    row o against us ws = if option_map_or (λ m. mode_serves m q.mode) o false then [] else against ++ (us ++ (if is_some o then [] else ws))

    step : (served up : Bool)
        → list_any (λ x. eqb x b) (if served then [] else holders_against q new.holds ++ (ahead q new.upgrades ++ (if up then [] else ahead q new.waits))) ≡ true
        → list_any (λ x. eqb x b) (if served then [] else holders_against q old.holds ++ (ahead q old.upgrades ++ (if up then [] else ahead q old.waits))) ≡ true
    step true up s = clash (sym s)
    step false true s =
        any_both b (holders_against q new.holds) (ahead q new.upgrades ++ []) (holders_against q old.holds) (ahead q old.upgrades ++ []) f
        (any_both b (ahead q new.upgrades) [] (ahead q old.upgrades) [] g (λ x. x)) s
    step false false s =
        any_both b (holders_against q new.holds) (ahead q new.upgrades ++ ahead q new.waits) (holders_against q old.holds) (ahead q old.upgrades ++ ahead q old.waits) f
        (any_both b (ahead q new.upgrades) (ahead q new.waits) (ahead q old.upgrades) (ahead q old.waits) g k) s

    by : (o : Option Mode) → list_any (λ x. eqb x b) (row o (holders_against q new.holds) (ahead q new.upgrades) (ahead q new.waits)) ≡ true
        → list_any (λ x. eqb x b) (row o (holders_against q old.holds) (ahead q old.upgrades) (ahead q old.waits)) ≡ true
    by o s = step (option_map_or (λ m. mode_serves m q.mode) o false) (is_some o) s

-- ---- some wait no longer
less_waits : (region : ℕ) (keep : Request → Bool) → ((w : Request) → eqb w.region region ≡ false → keep w ≡ true) → (T : EnqueueTable)
    → Less region (record T { upgrades = filter keep T.upgrades; waits = filter keep T.waits }) T
less_waits region keep stay T = record {
  regions = refl;
  waits = λ a b out. waits_fewer a b (record T { upgrades = filter keep T.upgrades; waits = filter keep T.waits }) T (same a out) (λ q e. blockers_fewer b q (record T { upgrades = filter keep T.upgrades; waits = filter keep T.waits }) T refl (λ h. h)
      (ahead_fewer b q keep (λ w g. not_own q w (ap (λ n. eqb n region) e ∙ out) g) T.upgrades)
      (ahead_fewer b q keep (λ w g. not_own q w (ap (λ n. eqb n region) e ∙ out) g) T.waits));
}
  where
    passes : (a : ℕ) → eqb a region ≡ false → (w : Request) → eqb w.region a ≡ true → keep w ≡ true
    passes a out w h = stay w (ap (λ n. eqb n region) (eqb-true w.region a h) ∙ out)

    same : (a : ℕ) → eqb a region ≡ false → find (λ w. eqb w.region a) (filter keep T.upgrades ++ filter keep T.waits) ≡ find (λ w. eqb w.region a) (T.upgrades ++ T.waits)
    same a out =
        find_append (λ w. eqb w.region a) (filter keep T.upgrades) (filter keep T.waits) T.upgrades T.waits
        (found_still (λ w. eqb w.region a) keep (passes a out) T.upgrades) (found_still (λ w. eqb w.region a) keep (passes a out) T.waits)

    not_own : (q w : Request) → eqb q.region region ≡ false → keep w ≡ false → is_own q w ≡ false
    not_own q w out g = by (is_own q w) refl
      where
        by : (b : Bool) → is_own q w ≡ b → is_own q w ≡ false
        by true e =
            let r : w.region ≡ q.region = eqb-true w.region q.region (and_split (same_resource w.resource q.resource) (eqb w.region q.region) e).1 in
            clash (sym (stay w (ap (λ n. eqb n region) r ∙ out)) ∙ g)
        by false e = e

-- ---- a region holds less
against_fewer : (b : ℕ) (q : Request) (keep : Holder × Mode → Bool) (es : List (Holder × Mode))
    → list_any (λ x. eqb x b) (holders_against q (filter keep es)) ≡ true → list_any (λ x. eqb x b) (holders_against q es) ≡ true
against_fewer b q keep [] h = h
against_fewer b q keep (e ∷ es) h = by (keep e) (is_against q e) refl h (against_fewer b q keep es)
  where
    by : (k t : Bool) → is_against q e ≡ t → list_any (λ x. eqb x b) (holders_against q (cond k (e ∷ filter keep es) (filter keep es))) ≡ true
        → (list_any (λ x. eqb x b) (holders_against q (filter keep es)) ≡ true → list_any (λ x. eqb x b) (holders_against q es) ≡ true)
        → list_any (λ x. eqb x b) (map (λ x. x.0.region) (cond t (e ∷ filter (is_against q) es) (filter (is_against q) es))) ≡ true
    by true true g h rec =
        or_less (eqb e.0.region b) (list_any (λ x. eqb x b) (holders_against q (filter keep es))) (list_any (λ x. eqb x b) (holders_against q es)) rec
        (sym (ap (λ c. list_any (λ x. eqb x b) (map (λ x. x.0.region) (cond c (e ∷ filter (is_against q) (filter keep es)) (filter (is_against q) (filter keep es))))) g) ∙ h)
    by true false g h rec =
        rec (sym (ap (λ c. list_any (λ x. eqb x b) (map (λ x. x.0.region) (cond c (e ∷ filter (is_against q) (filter keep es)) (filter (is_against q) (filter keep es))))) g) ∙ h)
    by false true g h rec = or_right (eqb e.0.region b) (list_any (λ x. eqb x b) (holders_against q es)) (rec h)
    by false false g h rec = rec h

less_holds : (region : ℕ) (T : EnqueueTable) → Less region (record T { holds = filter (λ hold. not (eqb hold.0.region region)) T.holds }) T
less_holds region T = record {
  regions = refl;
  waits = λ a b out. waits_fewer a b (record T { holds = filter (λ hold. not (eqb hold.0.region region)) T.holds }) T refl (λ q e. blockers_fewer b q (record T { holds = filter (λ hold. not (eqb hold.0.region region)) T.holds }) T
      (held_released region q.region q.resource T.holds ∙ ap (λ c. cond (not c) (mode_held q T.holds) None) (ap (λ n. eqb n region) e ∙ out))
      (against_fewer b q (λ hold. not (eqb hold.0.region region)) T.holds) (λ h. h) (λ h. h));
}

pub less_nothing : (region : ℕ) (T : EnqueueTable) → Less region (waits_for_nothing region T) T
less_nothing region T = less_waits region (λ w. not (eqb w.region region)) (λ w h. ap not h) T

pub less_released : (region : ℕ) (T : EnqueueTable) → Less region (released region T) T
less_released region T = less_on (less_holds region (waits_for_nothing region T)) (less_nothing region T)

pub fewer_only_for : (q : Request) (T : EnqueueTable) → Fewer q.region (waits_only_for q T) T
fewer_only_for q T = fewer_less (less_waits q.region (λ w. not (eqb w.region q.region && not (is_own q w))) (λ w h. ap (λ b. not (b && not (is_own q w))) h) T)

-- ---- a region holds more
-- whether one region stands against a request hangs on what that region holds
among_is : (b : ℕ) (q : Request) (es : List (Holder × Mode))
    → list_any (λ x. eqb x b) (holders_against q es) ≡ list_any (λ _. true) (filter (λ e. is_against q e && eqb e.0.region b) es)
among_is b q [] = refl
among_is b q (e ∷ es) = by (is_against q e) (eqb e.0.region b) refl (among_is b q es)
  where
    by : (t c : Bool) → eqb e.0.region b ≡ c → list_any (λ x. eqb x b) (holders_against q es) ≡ list_any (λ _. true) (filter (λ e. is_against q e && eqb e.0.region b) es)
        → list_any (λ x. eqb x b) (map (λ x. x.0.region) (cond t (e ∷ filter (is_against q) es) (filter (is_against q) es)))
        ≡ list_any (λ _. true) (cond (t && c) (e ∷ filter (λ e. is_against q e && eqb e.0.region b) es) (filter (λ e. is_against q e && eqb e.0.region b) es))
    by true true g rec = ap (λ x. x || list_any (λ x. eqb x b) (holders_against q es)) g
    by true false g rec = ap (λ x. x || list_any (λ x. eqb x b) (holders_against q es)) g ∙ rec
    by false c g rec = rec

against_same : (b : ℕ) (p q : Request) (es : List (Holder × Mode)) → eqb b p.region ≡ false → list_any (λ x. eqb x b) (holders_against q (with_hold p es)) ≡ list_any (λ x. eqb x b) (holders_against q es)
against_same b p q es out =
    among_is b q (with_hold p es)
    ∙ (ap (list_any (λ _. true)) (filter_inserted holder_total (λ e. is_against q e && eqb e.0.region b) (asker p) (granted_mode p es) apart es) ∙ sym (among_is b q es))
  where
    and_false : (c : Bool) → c && false ≡ false
    and_false true = refl
    and_false false = refl

    apart : (x : Holder) (w : Mode) → is_at (holder_cmp (asker p)) x ≡ true → is_against q (x, w) && eqb x.region b ≡ false
    apart x w h =
        let r : p.region ≡ x.region = ap (λ k. k.region) (holder_exact (asker p) x h) in
        ap (λ c. is_against q (x, w) && c) (ne_eqb x.region b (λ e. clash (sym (eq-eqb b p.region (sym e ∙ sym r)) ∙ out))) ∙ and_false (is_against q (x, w))

fewer_held : (p : Request) (T : EnqueueTable) → Fewer p.region (record T { holds = with_hold p T.holds }) T
fewer_held p T = record {
  regions = refl;
  waits = λ a b out other. waits_fewer a b (record T { holds = with_hold p T.holds }) T refl (λ q e. blockers_fewer b q (record T { holds = with_hold p T.holds }) T
      (others_have p q.region q.resource T.holds (ap (λ n. eqb n p.region) e ∙ out)) (λ h. sym (against_same b p q T.holds other) ∙ h) (λ h. h) (λ h. h));
}

pub fewer_granted : (p : Request) (T : EnqueueTable) → Fewer p.region (granted p T) T
fewer_granted p T = fewer_on (fewer_less (less_waits p.region (λ w. not (is_own p w)) stay (record T { holds = with_hold p T.holds }))) (fewer_held p T)
  where
    and_false : (c : Bool) → c && false ≡ false
    and_false true = refl
    and_false false = refl

    stay : (w : Request) → eqb w.region p.region ≡ false → not (is_own p w) ≡ true
    stay w h = ap not (ap (λ c. same_resource w.resource p.resource && c) h ∙ and_false (same_resource w.resource p.resource))

-- ---- a region waits
ahead_placed : (b : ℕ) (p q : Request) (ws : List Request) → eqb b p.region ≡ false → eqb q.region p.region ≡ false
    → list_any (λ x. eqb x b) (ahead q (placed_request p ws)) ≡ true → list_any (λ x. eqb x b) (ahead q ws) ≡ true
ahead_placed b p q [] out apart h = by (is_own q p) (same_resource p.resource q.resource) h
  where
    by : (own same : Bool) → list_any (λ x. eqb x b) (cond own [] (cond same (p.region ∷ []) [])) ≡ true → false ≡ true
    by true same g = g
    by false true g = sym (ap (λ x. x || false) (ne_eqb p.region b (λ e. clash (sym (eq-eqb b p.region (sym e)) ∙ out)))) ∙ g
    by false false g = g
ahead_placed b p q (w ∷ ws) out apart h = by (is_own p w) refl h (ahead_placed b p q ws out apart)
  where
    stays : (own same : Bool) → (list_any (λ x. eqb x b) (ahead q (placed_request p ws)) ≡ true → list_any (λ x. eqb x b) (ahead q ws) ≡ true)
        → list_any (λ x. eqb x b) (cond own [] (cond same (w.region ∷ ahead q (placed_request p ws)) (ahead q (placed_request p ws)))) ≡ true
        → list_any (λ x. eqb x b) (cond own [] (cond same (w.region ∷ ahead q ws) (ahead q ws))) ≡ true
    stays true same rec g = g
    stays false true rec g = or_less (eqb w.region b) (list_any (λ x. eqb x b) (ahead q (placed_request p ws))) (list_any (λ x. eqb x b) (ahead q ws)) rec g
    stays false false rec g = rec g

    by : (o : Bool) → is_own p w ≡ o → list_any (λ x. eqb x b) (ahead q (cond o (p ∷ ws) (w ∷ placed_request p ws))) ≡ true
        → (list_any (λ x. eqb x b) (ahead q (placed_request p ws)) ≡ true → list_any (λ x. eqb x b) (ahead q ws) ≡ true) → list_any (λ x. eqb x b) (ahead q (w ∷ ws)) ≡ true
    by true e g rec =
        let parts = and_split (same_resource w.resource p.resource) (eqb w.region p.region) e in
        let r : p.region ≡ w.region = sym (eqb-true w.region p.region parts.1) in
        let s : p.resource ≡ w.resource = sym (resource_exact w.resource p.resource parts.0) in
        sym (λ i. list_any (λ x. eqb x b) (ahead q (record { region = r i; resource = s i; mode = p.mode } ∷ ws))) ∙ g
    by false e g rec = stays (is_own q w) (same_resource w.resource q.resource) rec g

found_placed : (a : ℕ) (p : Request) (ws : List Request) → eqb a p.region ≡ false → find (λ w. eqb w.region a) (placed_request p ws) ≡ find (λ w. eqb w.region a) ws
found_placed a p [] out = ap (λ c. cond c (Some p) None) (ne_eqb p.region a (λ e. clash (sym (eq-eqb a p.region (sym e)) ∙ out)))
found_placed a p (w ∷ ws) out = by (is_own p w) refl (found_placed a p ws out)
  where
    miss : eqb p.region a ≡ false
    miss = ne_eqb p.region a (λ e. clash (sym (eq-eqb a p.region (sym e)) ∙ out))

    by : (o : Bool) → is_own p w ≡ o → find (λ w. eqb w.region a) (placed_request p ws) ≡ find (λ w. eqb w.region a) ws
        → find (λ w. eqb w.region a) (cond o (p ∷ ws) (w ∷ placed_request p ws)) ≡ cond (eqb w.region a) (Some w) (find (λ w. eqb w.region a) ws)
    by true e rec =
        let r : w.region ≡ p.region = eqb-true w.region p.region (and_split (same_resource w.resource p.resource) (eqb w.region p.region) e).1 in
        ap (λ c. cond c (Some p) (find (λ w. eqb w.region a) ws)) miss
        ∙ sym (ap (λ c. cond c (Some w) (find (λ w. eqb w.region a) ws)) (ap (λ n. eqb n a) r ∙ miss))
    by false e rec = ap (cond (eqb w.region a) (Some w)) rec

pub fewer_waiting : (p : Request) (T : EnqueueTable) → Fewer p.region (with_waiter p T) T
fewer_waiting p T = by (is_upgrade p T.holds)
  where
    by : (u : Bool) → Fewer p.region (cond u (record T { upgrades = placed_request p T.upgrades }) (record T { waits = placed_request p T.waits })) T
    by true = record {
      regions = refl;
      waits = λ a b out other. waits_fewer a b (record T { upgrades = placed_request p T.upgrades }) T
          (find_append (λ w. eqb w.region a) (placed_request p T.upgrades) T.waits T.upgrades T.waits (found_placed a p T.upgrades out) refl)
          (λ q e. blockers_fewer b q (record T { upgrades = placed_request p T.upgrades }) T refl (λ h. h) (ahead_placed b p q T.upgrades other (ap (λ n. eqb n p.region) e ∙ out)) (λ h. h));
    }
    by false = record {
      regions = refl;
      waits = λ a b out other. waits_fewer a b (record T { waits = placed_request p T.waits }) T
          (find_append (λ w. eqb w.region a) T.upgrades (placed_request p T.waits) T.upgrades T.waits refl (found_placed a p T.waits out))
          (λ q e. blockers_fewer b q (record T { waits = placed_request p T.waits }) T refl (λ h. h) (λ h. h) (ahead_placed b p q T.waits other (ap (λ n. eqb n p.region) e ∙ out)));
    }

-- ---- all requests of a call
pub fewer_asked : (region : ℕ) (qs : List Request) (T : EnqueueTable) → AreOf region qs → Fewer region (after_asks region qs T) T
fewer_asked region [] T of = fewer_less (less_nothing region T)
fewer_asked region (q ∷ qs) T of = by (blocked_by q T) (fewer_asked region qs (granted q T) of.1)
  where
    turned : {U V : EnqueueTable} → Fewer q.region U V → Fewer region U V
    turned {U} {V} f = subst (λ r. Fewer r U V) of.0 f

    by : (o : Option ℕ) → Fewer region (after_asks region qs (granted q T)) (granted q T)
        → Fewer region (option_map_or (λ by. with_waiter q (waits_only_for q T)) o (after_asks region qs (granted q T))) T
    by None rec = fewer_on rec (turned (fewer_granted q T))
    by (Some b) rec = turned (fewer_on (fewer_waiting q (waits_only_for q T)) (fewer_only_for q T))
