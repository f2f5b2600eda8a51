-- The regions that reach a region: where it waits for none of them, it is in no ring.
use Rattle.std.proofs.Common.{◌≡◌, ℕ, ◌<◌, ◌≤◌, ◌+◌, ◌∷◌, [], ◌++◌, List, refl, sym, ap, subst, ◌∙◌, arith, Bool, true, false, not, ◌&&◌, ◌||◌, eqb, length, zero, suc, ⊎_elim, append_assoc, length-append}
use Rattle.std.specs.Prelude.{nat_eq, Option, None, Some, slice_get, if◌then◌else◌}
use Rattle.std.specs.List.{AllByRecursion, list_any}
use Rattle.std.proofs.lemmas.Bool.{eq-eqb, eqb-true, cases_order}
use Rattle.std.proofs.lemmas.Cmp.{nat_eq_equiv}
use Rattle.std.proofs.lemmas.List.Elements.{All-cons, All-push}
use Rattle.std.proofs.lemmas.Map.Keys.{IsDistinct-cons, IsDistinct-push}
use Rattle.model_data.specs.Table.{EnqueueTable, waits_for}
use Rattle.model_data.specs.Cycle.{IsTableRegion, WaitsAlong, HasNoCycle}
use Rattle.deadlock_pick.specs.Way.{BeginsWith}
use Rattle.deadlock_pick.specs.Reached.{AreRegions, IsWaitedForWithin, with_next}
use Rattle.deadlock_pick.proofs.Ways.{each, few_regions, distinct_none, append_nil}
use Rattle.pi_enqueue.proofs.Granting.{clash}

-- a region that was looked at: this one doesn't wait for it, and none does but those that are there
pub record IsLookedAt (table : EnqueueTable) (region : ℕ) (reached : List ℕ) (from : ℕ) : Type 0 where
  pub open_end : waits_for region from table ≡ false
  pub within : IsWaitedForWithin table reached from

-- so was each one before a place
abbrev pub AreLookedAt : EnqueueTable → ℕ → List ℕ → ℕ → Type 0
AreLookedAt table region reached place = (i from : ℕ) → i < place → slice_get reached i ≡ Some from → IsLookedAt table region reached from

any_front : (p : ℕ → Bool) (xs ys : List ℕ) → list_any p xs ≡ true → list_any p (xs ++ ys) ≡ true
any_front p [] ys h = clash (sym h)
any_front p (x ∷ xs) ys h = by (p x) h (any_front p xs ys)
  where
    by : (b : Bool) → b || list_any p xs ≡ true → (list_any p xs ≡ true → list_any p (xs ++ ys) ≡ true) → b || list_any p (xs ++ ys) ≡ true
    by true h rec = refl
    by false h rec = rec h

any_last : (x : ℕ) (xs : List ℕ) → list_any (nat_eq x) (xs ++ x ∷ []) ≡ true
any_last x [] = ap (λ b. b || false) (eq-eqb x x refl)
any_last x (y ∷ ys) = by (eqb x y) (any_last x ys)
  where
    by : (b : Bool) → list_any (nat_eq x) (ys ++ x ∷ []) ≡ true → b || list_any (nat_eq x) (ys ++ x ∷ []) ≡ true
    by true h = refl
    by false h = h

get_front : (xs ys : List ℕ) (i : ℕ) → i < length xs → slice_get (xs ++ ys) i ≡ slice_get xs i
get_front [] ys i h = absurd (omega arith)
get_front (x ∷ xs) ys zero h = refl
get_front (x ∷ xs) ys (suc i) h = get_front xs ys i (omega arith)

pub get_within : (xs : List ℕ) (i x : ℕ) → slice_get xs i ≡ Some x → i < length xs
get_within [] i x h = let bad : None ≡ Some x = h in absurd (cc)
get_within (y ∷ ys) zero x h = omega arith
get_within (y ∷ ys) (suc i) x h = let rec = get_within ys i x h in omega (arith, rec)

get_past : (xs : List ℕ) (i : ℕ) → slice_get xs i ≡ None → length xs ≤ i
get_past [] i h = omega arith
get_past (y ∷ ys) zero h = let bad : Some y ≡ None = h in absurd (cc)
get_past (y ∷ ys) (suc i) h = let rec = get_past ys i h in omega (arith, rec)

pub begins_same : (xs : List ℕ) → BeginsWith xs xs
begins_same xs = record { rest = []; whole = append_nil xs }

pub begins_on : (xs ys zs : List ℕ) → BeginsWith xs ys → BeginsWith ys zs → BeginsWith xs zs
begins_on xs ys zs f g = record { rest = f.rest ++ g.rest; whole = g.whole ∙ (ap (λ l. l ++ g.rest) f.whole ∙ append_assoc xs f.rest g.rest) }

on_more : (x : ℕ) (xs ys : List ℕ) → BeginsWith xs ys → list_any (nat_eq x) xs ≡ true → list_any (nat_eq x) ys ≡ true
on_more x xs ys b h = ap (list_any (nat_eq x)) b.whole ∙ any_front (nat_eq x) xs b.rest h

-- ---- one region more
module _ (T : EnqueueTable) (from next : ℕ) (old new : List ℕ) (is : new ≡ with_next T from next old) (there : IsTableRegion T next) where
  pub next_regions : AreRegions T old → AreRegions T new
  next_regions h = subst (AreRegions T) (sym is) (by (list_any (nat_eq next) old) (waits_for next from T) refl)
    where
      by : (a b : Bool) → list_any (nat_eq next) old ≡ a → AreRegions T (if not a && b then old ++ next ∷ [] else old)
      by true b e = h
      by false true e = record {
        regions = All-push (IsTableRegion T) old next h.regions there;
        distinct = IsDistinct-push nat_eq_equiv old next h.distinct e;
      }
      by false false e = h

  pub next_begins : BeginsWith old new
  next_begins = subst (BeginsWith old) (sym is) (by (not (list_any (nat_eq next) old) && waits_for next from T))
    where
      by : (b : Bool) → BeginsWith old (if b then old ++ next ∷ [] else old)
      by true = record { rest = next ∷ []; whole = refl }
      by false = begins_same old

  next_on : waits_for next from T ≡ true → list_any (nat_eq next) new ≡ true
  next_on w = ap (list_any (nat_eq next)) is ∙ by (list_any (nat_eq next) old) (waits_for next from T) refl w
    where
      by : (a b : Bool) → list_any (nat_eq next) old ≡ a → b ≡ true → list_any (nat_eq next) (if not a && b then old ++ next ∷ [] else old) ≡ true
      by true b e w = e
      by false true e w = any_last next old
      by false false e w = clash (sym w)

  pub next_all : ((m : ℕ) → m < next → IsTableRegion T m → waits_for m from T ≡ true → list_any (nat_eq m) old ≡ true)
      → (m : ℕ) → m < next + 1 → IsTableRegion T m → waits_for m from T ≡ true → list_any (nat_eq m) new ≡ true
  next_all below m h r w =
      ⊎_elim (λ (e : m ≡ next). subst (λ n. list_any (nat_eq n) new ≡ true) (sym e) (next_on (subst (λ n. waits_for n from T ≡ true) e w)))
      (⊎_elim (λ (l : m < next). on_more m old new next_begins (below m l r w)) (λ (l : next < m). absurd (omega arith))) (cases_order m next)

-- what isn't among distinct regions of the table has room behind them
pub has_room : (T : EnqueueTable) (from next : ℕ) (old : List ℕ) → T.regions ≤ 8 → IsTableRegion T next → AreRegions T old
    → not (list_any (nat_eq next) old) && waits_for next from T ≡ true → length old < 8
has_room T from next old few there h goes =
    let longer = next_regions T from next old (old ++ next ∷ []) (sym (ap (λ b. if b then old ++ next ∷ [] else old) goes)) there h in
    let n : length (old ++ next ∷ []) ≤ T.regions = few_regions T (old ++ next ∷ []) longer.distinct (each (IsTableRegion T) (old ++ next ∷ []) longer.regions) in
    omega (arith, n, few, length-append old (next ∷ []))

pub few_reached : (T : EnqueueTable) (reached : List ℕ) → AreRegions T reached → length reached ≤ T.regions
few_reached T reached h = few_regions T reached h.distinct (each (IsTableRegion T) reached h.regions)

pub region_alone : (T : EnqueueTable) (region : ℕ) (reached : List ℕ) → reached ≡ region ∷ [] → IsTableRegion T region → AreRegions T reached
region_alone T region reached e h = subst (AreRegions T) (sym e) (record {
  regions = All-cons (IsTableRegion T) region [] h (λ k d l. absurd (omega arith));
  distinct = IsDistinct-cons nat_eq region [] tt distinct_none;
})

-- ---- one that is looked at more
pub looked_on : (T : EnqueueTable) (region : ℕ) (old new : List ℕ) (place from : ℕ) → AreLookedAt T region old place → slice_get old place ≡ Some from → waits_for region from T ≡ false
    → BeginsWith old new → IsWaitedForWithin T new from → AreLookedAt T region new (place + 1)
looked_on T region old new place from seen at out more all i x h e =
    ⊎_elim (λ (s : i ≡ place). here s) (⊎_elim (λ (l : i < place). before l) (λ (l : place < i). absurd (omega arith))) (cases_order i place)
  where
    within : place < length old
    within = get_within old place from at

    was : i < length old → slice_get old i ≡ Some x
    was l = sym (get_front old more.rest i l) ∙ (ap (λ ys. slice_get ys i) (sym more.whole) ∙ e)

    here : i ≡ place → IsLookedAt T region new x
    here s =
        let both : Some x ≡ Some from = sym (was (omega (arith, s, within))) ∙ (ap (slice_get old) s ∙ at) in
        let same : x ≡ from = cc in
        subst (IsLookedAt T region new) (sym same) (record { open_end = out; within = all })

    before : i < place → IsLookedAt T region new x
    before l =
        let it = seen i x l (was (omega (arith, l, within))) in
        record { open_end = it.open_end; within = λ n r w. on_more n old new more (it.within n r w) }

-- ---- all are looked at
module _ (T : EnqueueTable) (region : ℕ) (reached : List ℕ) (place : ℕ) (seen : AreLookedAt T region reached place) (past : slice_get reached place ≡ None)
    (first : BeginsWith (region ∷ []) reached) where
  every : (P : ℕ → Type 0) (xs : List ℕ) → ((i x : ℕ) → slice_get xs i ≡ Some x → P x) → AllByRecursion P xs
  every P [] h = tt
  every P (x ∷ xs) h = (h zero x refl, every P xs (λ i y e. h (suc i) y e))

  one_of : (P : ℕ → Type 0) (x : ℕ) (xs : List ℕ) → AllByRecursion P xs → list_any (nat_eq x) xs ≡ true → P x
  one_of P x [] h e = clash (sym e)
  one_of P x (y ∷ ys) h e = by (eqb x y) refl e (one_of P x ys h.1)
    where
      by : (b : Bool) → eqb x y ≡ b → b || list_any (nat_eq x) ys ≡ true → (list_any (nat_eq x) ys ≡ true → P x) → P x
      by true s e rec = subst P (sym (eqb-true x y s)) h.0
      by false s e rec = rec e

  looked_at : (from : ℕ) → list_any (nat_eq from) reached ≡ true → IsLookedAt T region reached from
  looked_at from on =
      one_of (IsLookedAt T region reached) from reached
      (every (IsLookedAt T region reached) reached (λ i x e. let l = get_within reached i x e in seen i x (omega (arith, l, get_past reached place past)) e)) on

  region_on : list_any (nat_eq region) reached ≡ true
  region_on = on_more region (region ∷ []) reached first (any_last region [])

  -- who waits along a way for the region is there
  along : (from : ℕ) (others : List ℕ) → IsTableRegion T from → AllByRecursion (IsTableRegion T) others → WaitsAlong T from others region → list_any (nat_eq from) reached ≡ true
  along from [] is there w = let it = looked_at region region_on in it.within from is w
  along from (next ∷ others) is there w =
      let it = looked_at next (along next others there.0 there.1 w.1) in it.within from is w.0

  closed : (others : List ℕ) → AllByRecursion (IsTableRegion T) others → WaitsAlong T region others region → ⊥
  closed [] there w = let it = looked_at region region_on in clash (sym w ∙ it.open_end)
  closed (next ∷ others) there w =
      let it = looked_at next (along next others there.0 there.1 w.1) in clash (sym w.0 ∙ it.open_end)

  pub no_cycle : HasNoCycle T region
  no_cycle [] c = absurd c
  no_cycle (r ∷ others) c = closed others (each (IsTableRegion T) others c.1.regions) (subst (λ r. WaitsAlong T r others r) c.0 c.1.waits)

pub get_on : (xs : List ℕ) (i x : ℕ) (o : Option ℕ) → o ≡ slice_get xs i → o ≡ Some x → i < length xs
get_on xs i x o e f = get_within xs i x (sym e ∙ f)

pub alone_begins : (region : ℕ) (reached : List ℕ) → reached ≡ region ∷ [] → BeginsWith (region ∷ []) reached
alone_begins region reached e = record { rest = []; whole = e }
