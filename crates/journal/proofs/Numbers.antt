-- The numbers of units as regions take messages and end their work.
use Rattle.std.proofs.Common.{◌≡◌, ◌⊎◌, inl, inr, ℕ, zero, suc, ◌+◌, ◌-◌, ◌<◌, ◌≤◌, Bool, true, false, nat_lt, List, [], ◌∷◌, length, refl, sym, ◌∙◌, ap, subst, arith, Some, None}
use Rattle.std.specs.Prelude.{Option, ◌==◌, slice_get, slice_set, slice_index_or}
use Rattle.std.specs.Option.{is_some}
use Rattle.std.proofs.lemmas.Bool.{eqb-true}
use Rattle.std.proofs.lemmas.Bool.Decides.{nat_tests}
use Rattle.model_data.specs.declared.victim.Victim.{Victim}
use Rattle.model_machine.specs.Machine.{Slot}
use Rattle.model_machine.specs.Requests.{without_victims}
use Rattle.model_machine.specs.declared.entry.Turned.{Turned}
use Rattle.model_machine.specs.declared.entry.Turned.TheVariants.{Scheduled, Called, Next, QC, Done, Abended, Idle, Held, Waits, Backed}
use Rattle.journal.specs.UnitNumbers.{with_unit, without_units, units_after, AreUnitsNumbered}

-- ---- an element set

pub set_length : {A : Type 0} (xs : List A) (i : ℕ) (x : A) → length (slice_set xs i x) ≡ length xs
set_length [] i x = refl
set_length (y ∷ xs) zero x = refl
set_length (y ∷ xs) (suc i) x = ap (λ n. suc n) (set_length xs i x)

-- what stands at a place once one is set: that, at its place, or what stood there
pub record IsSetAt {A : Type 0} (xs : List A) (i : ℕ) (x : A) (k : ℕ) (y : A) : Type 0 where
  pub here : k ≡ i → y ≡ x
  pub there : (k ≡ i → ⊥) → slice_get xs k ≡ Some y

pub set_at : {A : Type 0} (xs : List A) (i : ℕ) (x : A) (k : ℕ) (y : A) → slice_get (slice_set xs i x) k ≡ Some y → IsSetAt xs i x k y
set_at [] i x k y is = absurd cc
set_at (z ∷ xs) zero x zero y is = record { here = λ e. cc; there = λ apart. absurd (apart refl) }
set_at (z ∷ xs) zero x (suc k) y is = record { here = λ e. absurd (omega (arith, e)); there = λ apart. is }
set_at (z ∷ xs) (suc i) x zero y is = record { here = λ e. absurd (omega (arith, e)); there = λ apart. is }
set_at (z ∷ xs) (suc i) x (suc k) y is =
    let more = set_at xs i x k y is in
    record { here = λ e. more.here (omega (arith, e)); there = λ apart. more.there (λ e. apart (omega (arith, e))) }

-- an element elsewhere stays
pub set_else : {A : Type 0} (xs : List A) (i : ℕ) (x : A) (k : ℕ) → (k ≡ i → ⊥) → slice_get (slice_set xs i x) k ≡ slice_get xs k
set_else [] i x k apart = refl
set_else (z ∷ xs) zero x zero apart = absurd (apart refl)
set_else (z ∷ xs) zero x (suc k) apart = refl
set_else (z ∷ xs) (suc i) x zero apart = refl
set_else (z ∷ xs) (suc i) x (suc k) apart = set_else xs i x k (λ e. apart (omega (arith, e)))

pub index_else : {A : Type 0} (xs : List A) (i : ℕ) (x : A) (k : ℕ) (d : A) → (k ≡ i → ⊥) → slice_index_or (slice_set xs i x) k d ≡ slice_index_or xs k d
index_else [] i x k d apart = refl
index_else (z ∷ xs) zero x zero d apart = absurd (apart refl)
index_else (z ∷ xs) zero x (suc k) d apart = refl
index_else (z ∷ xs) (suc i) x zero d apart = refl
index_else (z ∷ xs) (suc i) x (suc k) d apart = index_else xs i x k d (λ e. apart (omega (arith, e)))

-- an element set is there, or none
pub index_here : {A : Type 0} (xs : List A) (i : ℕ) (x d : A) → (slice_index_or (slice_set xs i x) i d ≡ x) ⊎ (slice_index_or (slice_set xs i x) i d ≡ d)
index_here [] i x d = inr refl
index_here (z ∷ xs) zero x d = inl refl
index_here (z ∷ xs) (suc i) x d = index_here xs i x d

-- two places are the same, or not
pub same_or_apart : (a b : ℕ) → (a ≡ b) ⊎ (a ≡ b → ⊥)
same_or_apart a b = by (a == b) refl where
  by : (t : Bool) → a == b ≡ t → (a ≡ b) ⊎ (a ≡ b → ⊥)
  by true e = inl (eqb-true a b e)
  by false e = inr (λ same. let clash : true ≡ false = sym (Rattle.std.proofs.lemmas.Bool.eq-eqb a b same) ∙ e in cc)

-- ---- numbers

module _ (slots : List (Option Slot)) (units : List ℕ) (next : ℕ) (n : AreUnitsNumbered slots units next) where
  abbrev some_next : 0 < next
  some_next = n.some

  module _ (place unit later : ℕ) (slot : Option Slot) (fits : nat_lt 0 unit ≡ is_some slot) (low : unit < later) (more : next ≤ later) (fresh : (unit ≡ 0) ⊎ (next ≤ unit)) where
    busy_now : (k u : ℕ) (s : Option Slot) → slice_get (slice_set units place unit) k ≡ Some u → slice_get (slice_set slots place slot) k ≡ Some s → nat_lt 0 u ≡ is_some s
    busy_now k u s here there =
        let a = set_at units place unit k u here in
        let b = set_at slots place slot k s there in
        by a b (same_or_apart k place) where
          by : IsSetAt units place unit k u → IsSetAt slots place slot k s → (k ≡ place) ⊎ (k ≡ place → ⊥) → nat_lt 0 u ≡ is_some s
          by a b (inl same) = ap (λ x. nat_lt 0 x) (a.here same) ∙ fits ∙ ap is_some (sym (b.here same))
          by a b (inr apart) = n.busy k u s (a.there apart) (b.there apart)

    below_now : (k u : ℕ) → slice_get (slice_set units place unit) k ≡ Some u → u < later
    below_now k u here = by (set_at units place unit k u here) (same_or_apart k place) where
      by : IsSetAt units place unit k u → (k ≡ place) ⊎ (k ≡ place → ⊥) → u < later
      by a (inl same) = subst (λ x. x < later) (sym (a.here same)) low
      by a (inr apart) = omega (arith, n.below k u (a.there apart), more)

    -- the number that is set is no other region's
    not_fresh : (k u : ℕ) → slice_get units k ≡ Some u → 0 < u → u ≡ unit → ⊥
    not_fresh k u found some same = by fresh where
      by : (unit ≡ 0) ⊎ (next ≤ unit) → ⊥
      by (inl none) = omega (arith, none, some, same)
      by (inr above) = omega (arith, above, n.below k u found, same)

    apart_now : (k l u : ℕ) → slice_get (slice_set units place unit) k ≡ Some u → slice_get (slice_set units place unit) l ≡ Some u → 0 < u → k ≡ l
    apart_now k l u one other some = by (set_at units place unit k u one) (set_at units place unit l u other) (same_or_apart k place) (same_or_apart l place) where
      by : IsSetAt units place unit k u → IsSetAt units place unit l u → (k ≡ place) ⊎ (k ≡ place → ⊥) → (l ≡ place) ⊎ (l ≡ place → ⊥) → k ≡ l
      by a b (inl same) (inl equal) = same ∙ sym equal
      by a b (inl same) (inr apart) = absurd (not_fresh l u (b.there apart) some (a.here same))
      by a b (inr apart) (inl equal) = absurd (not_fresh k u (a.there apart) some (b.here equal))
      by a b (inr apart) (inr beside) = n.apart k l u (a.there apart) (b.there beside) some

    -- A region's number is set beside its slot.
    pub numbered_set : AreUnitsNumbered (slice_set slots place slot) (slice_set units place unit) later
    numbered_set = record {
      count = set_length units place unit ∙ n.count ∙ sym (set_length slots place slot);
      some = omega (arith, n.some, more);
      busy = busy_now;
      below = below_now;
      apart = apart_now;
    }

  -- A slot changes that is as full as before.
  pub numbered_kept : (place : ℕ) (slot : Option Slot) → ((unit : ℕ) → slice_get units place ≡ Some unit → nat_lt 0 unit ≡ is_some slot) → AreUnitsNumbered (slice_set slots place slot) units next
  numbered_kept place slot fits = record {
    count = n.count ∙ sym (set_length slots place slot);
    some = n.some;
    busy = λ k u s here there. by k u s here (set_at slots place slot k s there) (same_or_apart k place);
    below = n.below;
    apart = n.apart;
  } where
    by : (k u : ℕ) (s : Option Slot) → slice_get units k ≡ Some u → IsSetAt slots place slot k s → (k ≡ place) ⊎ (k ≡ place → ⊥) → nat_lt 0 u ≡ is_some s
    by k u s here b (inl same) = fits u (subst (λ j. slice_get units j ≡ Some u) same here) ∙ ap is_some (sym (b.here same))
    by k u s here b (inr apart) = n.busy k u s here (b.there apart)

-- A region's work ends.
pub numbered_ended : (slots : List (Option Slot)) (units : List ℕ) (next place : ℕ) → AreUnitsNumbered slots units next → AreUnitsNumbered (slice_set slots place None) (slice_set units place 0) next
numbered_ended slots units next place n = numbered_set slots units next n place 0 next None refl n.some (omega arith) (inl refl)

-- A region takes a message.
pub numbered_taken : (slots : List (Option Slot)) (units : List ℕ) (next place : ℕ) (slot : Slot) → AreUnitsNumbered slots units next → AreUnitsNumbered (slice_set slots place (Some slot)) (slice_set units place next) (next + 1)
numbered_taken slots units next place slot n =
    numbered_set slots units next n place next (next + 1) (Some slot) (grind (arith, nat_tests, n.some)) (omega arith) (omega arith) (inr (omega arith))

-- Victims give up their messages.
pub numbered_victims : (victims : List Victim) (slots : List (Option Slot)) (units : List ℕ) (next : ℕ) → AreUnitsNumbered slots units next → AreUnitsNumbered (without_victims victims slots) (without_units victims units) next
numbered_victims [] slots units next n = n
numbered_victims (v ∷ victims) slots units next n =
    numbered_victims victims (slice_set slots (v.region - 1) None) (with_unit v.region 0 units) next (numbered_ended slots units next (v.region - 1) n)

-- ---- how many they are

without_stay : (victims : List Victim) (units : List ℕ) → length (without_units victims units) ≡ length units
without_stay [] units = refl
without_stay (v ∷ victims) units = without_stay victims (with_unit v.region 0 units) ∙ set_length units (v.region - 1) 0

-- A turn leaves as many numbers.
pub units_stay : (turned : Turned) (region next : ℕ) (units : List ℕ) → length (units_after turned region next units) ≡ length units
units_stay (Scheduled code id) region next units = set_length units (region - 1) next
units_stay (Called function pcb status) region next units = refl
units_stay (Next code id further) region next units = set_length units (region - 1) next
units_stay (QC code id) region next units = set_length units (region - 1) 0
units_stay (Done code id) region next units = set_length units (region - 1) 0
units_stay (Abended code id abend) region next units = set_length units (region - 1) 0
units_stay Idle region next units = refl
units_stay (Held need limit) region next units = refl
units_stay (Waits resource by) region next units = refl
units_stay (Backed victims) region next units = without_stay victims units
