-- Slots by database and number, and one more among them.
use Rattle.std.proofs.Common.{◌≡◌, ◌≢◌, ℕ, ◌<◌, ◌≤◌, ◌∷◌, [], List, length, suc, refl, sym, ◌∙◌, ap, Bool, true, false, cond, arith, eqb, ltb, ◌&&◌, ◌||◌, ◌⊎◌, inl, inr, ⊎_elim}
use Rattle.std.specs.List.{AllByRecursion}
use Rattle.std.proofs.lemmas.Bool.{false≢true, eqb-true, eq-eqb, cases_eq, cases_lt, ltb-true, lt-ltb}
use Rattle.unit_work.specs.declared.change.Change.{Change}
use Rattle.unit_work.specs.Changes.{ChangesAscend, AreSlotsInOrder, AreAllKept, has_place, is_slot_before, is_slot, is_seen, with_slot}

abbrev pub before : ℕ → ℕ → ℕ → ℕ → Bool
before a b c d = ltb a c || (eqb a c && ltb b d)

abbrev pub same : ℕ → ℕ → ℕ → ℕ → Bool
same a b c d = eqb a c && eqb b d

abbrev pub Less : ℕ → ℕ → ℕ → ℕ → Type 0
Less a b c d = (a < c) ⊎ ((a ≡ c) × (b < d))

and_both : (x y : Bool) → (x && y) ≡ true → (x ≡ true) × (y ≡ true)
and_both true true e = (refl, refl)
and_both true false e = absurd (false≢true e)
and_both false y e = absurd (false≢true e)

or_either : (x y : Bool) → (x || y) ≡ true → (x ≡ true) ⊎ (y ≡ true)
or_either true y e = inl refl
or_either false y e = inr e

or_right : (x : Bool) → (x || true) ≡ true
or_right true = refl
or_right false = refl

pub less_is : (a b c d : ℕ) → before a b c d ≡ true → Less a b c d
less_is a b c d e =
    ⊎_elim (λ l. inl (ltb-true a c l))
    (λ r. let both = and_both (eqb a c) (ltb b d) r in inr (eqb-true a c both.0, ltb-true b d both.1)) (or_either (ltb a c) (eqb a c && ltb b d) e)

pub is_less : (a b c d : ℕ) → Less a b c d → before a b c d ≡ true
is_less a b c d l =
    ⊎_elim (λ lt. ap (λ x. x || (eqb a c && ltb b d)) (lt-ltb a c lt))
    (λ p. (λ t. ltb a c || (eq-eqb a c p.0 t && lt-ltb b d p.1 t)) ∙ or_right (ltb a c)) l

pub is_same : (a b c d : ℕ) → a ≡ c → b ≡ d → same a b c d ≡ true
is_same a b c d p q = λ t. eq-eqb a c p t && eq-eqb b d q t

pub same_is : (a b c d : ℕ) → same a b c d ≡ true → (a ≡ c) × (b ≡ d)
same_is a b c d e = let both = and_both (eqb a c) (eqb b d) e in (eqb-true a c both.0, eqb-true b d both.1)

pub never_itself : (a b c d : ℕ) → Less a b c d → a ≡ c → b ≡ d → ⊥
never_itself a b c d l p q = ⊎_elim (λ lt. absurd (omega (arith, lt, p))) (λ r. absurd (omega (arith, r.1, q))) l

pub then_less : (a b c d e f : ℕ) → Less a b c d → Less c d e f → Less a b e f
then_less a b c d e f l m =
    ⊎_elim
    (λ lt. ⊎_elim (λ mt. inl (omega (arith, lt, mt))) (λ r. inl (omega (arith, lt, r.0))) m)
    (λ p. ⊎_elim (λ mt. inl (omega (arith, p.0, mt))) (λ r. inr (p.0 ∙ r.0, omega (arith, p.1, r.1))) m) l

pub after : (a b c d : ℕ) → before a b c d ≡ false → same a b c d ≡ false → Less c d a b
after a b c d e s =
    ⊎_elim (λ lt. absurd (false≢true (sym e ∙ is_less a b c d (inl lt))))
    (λ le. ⊎_elim (λ p. ⊎_elim (λ lt. absurd (false≢true (sym e ∙ is_less a b c d (inr (p, lt)))))
    (λ ge. ⊎_elim (λ q. absurd (false≢true (sym s ∙ is_same a b c d p q))) (λ ne. inr (sym p, below d b ge (λ q. ne (sym q)))) (cases_eq b d)) (cases_lt b d))
    (λ ne. inl (below c a le (λ q. ne (sym q)))) (cases_eq a c)) (cases_lt a c)
  where
    below : (m n : ℕ) → m ≤ n → m ≢ n → m < n
    below m n le ne = ⊎_elim (λ lt. lt) (λ ge. let is : m ≡ n = omega (arith, le, ge) in absurd (ne is)) (cases_lt m n)

-- what holds of each slot, whatever root it has, and of the one more where it is new
pub all_with : (P : Change → Type 0) → ((s : Change) (root : List ℕ) → P s → P (record s { root = root })) → (c : Change) (slots : List Change) → AllByRecursion P slots
    → (is_seen c.db c.slot slots ≡ false → P c) → AllByRecursion P (with_slot c slots)
all_with P move c [] h fresh = (fresh refl, tt)
all_with P move c (s ∷ slots) h fresh = by (is_slot_before c.db c.slot s) (is_slot c.db c.slot s) refl refl (all_with P move c slots h.1)
  where
    by : (b a : Bool) → is_slot_before c.db c.slot s ≡ b → is_slot c.db c.slot s ≡ a → ((is_seen c.db c.slot slots ≡ false → P c) → AllByRecursion P (with_slot c slots))
        → AllByRecursion P (cond b (s ∷ with_slot c slots) (cond a (record s { root = c.root } ∷ slots) (c ∷ s ∷ slots)))
    by true a p q rec = (h.0, rec (λ e. fresh (ap (λ b. cond b (is_seen c.db c.slot slots) (is_slot c.db c.slot s)) p ∙ e)))
    by false true p q rec = (move s c.root h.0, h.1)
    by false false p q rec = (fresh (ap (λ b. cond b (is_seen c.db c.slot slots) (is_slot c.db c.slot s)) p ∙ q), h)

-- a slot that isn't among them with one more is another, and wasn't among them
pub seen_with : (db slot : ℕ) (c : Change) (slots : List Change) → is_seen db slot (with_slot c slots) ≡ false → (is_seen db slot slots ≡ false) × (c.db ≡ db → c.slot ≡ slot → ⊥)
seen_with db slot c [] e = (refl, λ p q. one (is_slot_before db slot c) refl p q)
  where
    one : (b : Bool) → is_slot_before db slot c ≡ b → c.db ≡ db → c.slot ≡ slot → ⊥
    one true f p q = never_itself c.db c.slot db slot (less_is c.db c.slot db slot f) p q
    one false f p q =
        false≢true (sym (sym (ap (λ b. cond b false (is_slot db slot c)) f) ∙ e) ∙ is_same c.db c.slot db slot p q)
seen_with db slot c (s ∷ slots) e =
    by (is_slot_before c.db c.slot s) (is_slot c.db c.slot s) refl refl e (seen_with db slot c slots)
  where
    seen : List Change → Change → Bool
    seen rest x = cond (is_slot_before db slot x) (is_seen db slot rest) (is_slot db slot x)

    first : (f : Bool) → is_slot_before db slot s ≡ f → (rest : List Change) → seen rest s ≡ cond f (is_seen db slot rest) (is_slot db slot s)
    first f g rest = ap (λ b. cond b (is_seen db slot rest) (is_slot db slot s)) g

    -- it stands later
    later : is_slot_before c.db c.slot s ≡ true → (f : Bool) → is_slot_before db slot s ≡ f → seen (with_slot c slots) s ≡ false
        → (is_seen db slot (with_slot c slots) ≡ false → (is_seen db slot slots ≡ false) × (c.db ≡ db → c.slot ≡ slot → ⊥))
        → (seen slots s ≡ false) × (c.db ≡ db → c.slot ≡ slot → ⊥)
    later p true g h rec = let found = rec (sym (first true g (with_slot c slots)) ∙ h) in (first true g slots ∙ found.0, found.1)
    later p false g h rec = (
      first false g slots ∙ (sym (first false g (with_slot c slots)) ∙ h),
      λ d q. false≢true (sym g ∙ ((λ t. before s.db s.slot (sym d t) (sym q t)) ∙ p)),
    )

    -- it is this one
    here : is_slot c.db c.slot s ≡ true → seen slots s ≡ false → (seen slots s ≡ false) × (c.db ≡ db → c.slot ≡ slot → ⊥)
    here q h = (h, λ d r. clash (is_slot_before db slot s) refl d r)
      where
        clash : (f : Bool) → is_slot_before db slot s ≡ f → c.db ≡ db → c.slot ≡ slot → ⊥
        clash true g d r =
            let both = same_is s.db s.slot c.db c.slot q in never_itself s.db s.slot db slot (less_is s.db s.slot db slot g) (both.0 ∙ d) (both.1 ∙ r)
        clash false g d r =
            let both = same_is s.db s.slot c.db c.slot q in
            false≢true (sym (sym (first false g slots) ∙ h) ∙ is_same s.db s.slot db slot (both.0 ∙ d) (both.1 ∙ r))

    -- it stands before this one
    earlier : is_slot_before c.db c.slot s ≡ false → is_slot c.db c.slot s ≡ false → (f : Bool) → is_slot_before db slot c ≡ f → seen (s ∷ slots) c ≡ false
        → (seen slots s ≡ false) × (c.db ≡ db → c.slot ≡ slot → ⊥)
    earlier p q true g h = (
      sym (ap (λ b. cond b (is_seen db slot (s ∷ slots)) (is_slot db slot c)) g) ∙ h,
      λ d r. never_itself c.db c.slot db slot (less_is c.db c.slot db slot g) d r,
    )
    earlier p q false g h =
        let other : is_slot db slot c ≡ false = sym (ap (λ b. cond b (is_seen db slot (s ∷ slots)) (is_slot db slot c)) g) ∙ h in
        let less : Less db slot s.db s.slot =
        then_less db slot c.db c.slot s.db s.slot (after c.db c.slot db slot g other) (after s.db s.slot c.db c.slot p q) in (
          none less (is_slot_before db slot s) (is_slot db slot s) refl refl,
          λ d r. false≢true (sym other ∙ is_same c.db c.slot db slot d r),
        )
      where
        none : Less db slot s.db s.slot → (f a : Bool) → is_slot_before db slot s ≡ f → is_slot db slot s ≡ a → seen slots s ≡ false
        none less true a i j =
            absurd (never_itself db slot db slot (then_less db slot s.db s.slot db slot less (less_is s.db s.slot db slot i)) refl refl)
        none less false true i j = let both = same_is s.db s.slot db slot j in absurd (never_itself db slot s.db s.slot less (sym both.0) (sym both.1))
        none less false false i j = first false i slots ∙ j

    by : (b a : Bool) → is_slot_before c.db c.slot s ≡ b → is_slot c.db c.slot s ≡ a
        → is_seen db slot (cond b (s ∷ with_slot c slots) (cond a (record s { root = c.root } ∷ slots) (c ∷ s ∷ slots))) ≡ false
        → (is_seen db slot (with_slot c slots) ≡ false → (is_seen db slot slots ≡ false) × (c.db ≡ db → c.slot ≡ slot → ⊥))
        → (is_seen db slot (s ∷ slots) ≡ false) × (c.db ≡ db → c.slot ≡ slot → ⊥)
    by true a p q h rec = later p (is_slot_before db slot s) refl h rec
    by false true p q h rec = here q h
    by false false p q h rec = earlier p q (is_slot_before db slot c) refl h

-- ---- in order

-- a slot more, or another root, leaves them in order
pub ascend_with : (c : Change) (slots : List Change) → ChangesAscend slots → ChangesAscend (with_slot c slots)
ascend_with c [] h = (tt, tt)
ascend_with c (s ∷ slots) h = by (is_slot_before c.db c.slot s) (is_slot c.db c.slot s) refl refl (ascend_with c slots h.1)
  where
    behind : is_slot_before c.db c.slot s ≡ false → is_slot c.db c.slot s ≡ false → (ds : List Change) → AllByRecursion (λ d. is_slot_before d.db d.slot s ≡ true) ds → AllByRecursion (λ d. is_slot_before d.db d.slot c ≡ true) ds
    behind p q [] g = tt
    behind p q (d ∷ ds) g =
        (is_less c.db c.slot d.db d.slot (then_less c.db c.slot s.db s.slot d.db d.slot (after s.db s.slot c.db c.slot p q) (less_is s.db s.slot d.db d.slot g.0)), behind p q ds g.1)

    by : (b a : Bool) → is_slot_before c.db c.slot s ≡ b → is_slot c.db c.slot s ≡ a → ChangesAscend (with_slot c slots)
        → ChangesAscend (cond b (s ∷ with_slot c slots) (cond a (record s { root = c.root } ∷ slots) (c ∷ s ∷ slots)))
    by true a p q rec = (all_with (λ d. is_slot_before d.db d.slot s ≡ true) (λ d root g. g) c slots h.0 (λ e. p), rec)
    by false true p q rec = (h.0, h.1)
    by false false p q rec = ((is_less c.db c.slot s.db s.slot (after s.db s.slot c.db c.slot p q), behind p q slots h.0), (h.0, h.1))

-- they are as many as before where it was there, and one more else
length_with : (c : Change) (slots : List Change) → length (with_slot c slots) ≡ cond (is_seen c.db c.slot slots) (length slots) (suc (length slots))
length_with c [] = refl
length_with c (s ∷ slots) = by (is_slot_before c.db c.slot s) (is_slot c.db c.slot s) (is_seen c.db c.slot slots) (length_with c slots)
  where
    by : (b a t : Bool) → length (with_slot c slots) ≡ cond t (length slots) (suc (length slots))
        → length (cond b (s ∷ with_slot c slots) (cond a (record s { root = c.root } ∷ slots) (c ∷ s ∷ slots))) ≡ cond (cond b t a) (suc (length slots)) (suc (suc (length slots)))
    by true a true e = ap (λ n. suc n) e
    by true a false e = ap (λ n. suc n) e
    by false true t e = refl
    by false false t e = refl

pub order_with : (c : Change) (slots : List Change) → AreSlotsInOrder slots → has_place c.db c.slot slots ≡ true → AreSlotsInOrder (with_slot c slots)
order_with c slots h place = record { ascend = ascend_with c slots h.ascend; few = by (is_seen c.db c.slot slots) place (length_with c slots) }
  where
    by : (t : Bool) → (t || ltb (length slots) 64) ≡ true → length (with_slot c slots) ≡ cond t (length slots) (suc (length slots)) → length (with_slot c slots) ≤ 64
    by true p e = omega (arith, e, h.few)
    by false p e = omega (arith, e, ltb-true (length slots) 64 p)

pub none_kept : AreAllKept (record { records = []; slots = [] })
none_kept = record { records = record { once = tt; few = omega arith }; slots = record { ascend = tt; few = omega arith } }
