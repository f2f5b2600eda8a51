-- Which of several candidates goes first.
use Rattle.std.proofs.Common.{◌≡◌, ℕ, ◌<◌, ◌≤◌, ◌∷◌, [], List, refl, sym, ◌∙◌, ap, arith, Bool, true, false, cond, ◌&&◌, ◌||◌, Option, Some, None, eqb, ltb, ◌⊎◌, inl, inr, ⊎_elim}
use Rattle.std.proofs.lemmas.Bool.{ltb-true, eqb-true, lt-ltb, le-ltb, eq-eqb, ne_eqb, cases_order, or_cases, and_parts, and_from, and_left, and_right}
use Rattle.model_system.specs.declared.code.Code.{Code}
use Rattle.model_system.specs.declared.code_state.CodeState.{CodeState}
use Rattle.model_machine.specs.Pick.{Candidate, candidate_of, goes_first, better, best_of}

-- what `goes_first` says of the numbers, and what it says where it doesn't hold
abbrev pub GoesFirst : Candidate → Candidate → Type 0
GoesFirst a b = (b.priority < a.priority) ⊎ ((a.priority ≡ b.priority) × (a.id < b.id))

abbrev pub GoesAlong : Candidate → Candidate → Type 0
GoesAlong a b = (b.priority < a.priority) ⊎ ((a.priority ≡ b.priority) × (a.id ≤ b.id))

pub first_from : (a b : Candidate) → goes_first a b ≡ true → GoesFirst a b
first_from a b e =
    ⊎_elim (λ t. inl (ltb-true b.priority a.priority t))
    (λ t. let both = and_parts (eqb a.priority b.priority) (ltb a.id b.id) t in inr (eqb-true a.priority b.priority both.0, ltb-true a.id b.id both.1))
    (or_cases (ltb b.priority a.priority) (eqb a.priority b.priority && ltb a.id b.id) e)

first_by : (a b : Candidate) → GoesFirst a b → goes_first a b ≡ true
first_by a b (inl t) = ap (λ x. x || (eqb a.priority b.priority && ltb a.id b.id)) (lt-ltb b.priority a.priority t)
first_by a b (inr t) =
    ap (λ x. x || (eqb a.priority b.priority && ltb a.id b.id)) (le-ltb b.priority a.priority (omega (arith, t.0)))
    ∙ and_from (eqb a.priority b.priority) (ltb a.id b.id) (eq-eqb a.priority b.priority t.0) (lt-ltb a.id b.id t.1)

pub along_from : (a b : Candidate) → goes_first b a ≡ false → GoesAlong a b
along_from a b e = by (cases_order a.priority b.priority) (cases_order a.id b.id)
  where
    clash : GoesFirst b a → ⊥
    clash g = let t : true ≡ false = sym (first_by b a g) ∙ e in cc

    by : (a.priority ≡ b.priority) ⊎ ((a.priority < b.priority) ⊎ (b.priority < a.priority)) → (a.id ≡ b.id) ⊎ ((a.id < b.id) ⊎ (b.id < a.id)) → GoesAlong a b
    by (inl same) (inl s) = inr (same, omega (arith, s))
    by (inl same) (inr (inl s)) = inr (same, omega (arith, s))
    by (inl same) (inr (inr s)) = absurd (clash (inr (sym same, s)))
    by (inr (inl less)) ids = absurd (clash (inl less))
    by (inr (inr more)) ids = inl more

pub along_by : (a b : Candidate) → GoesAlong a b → goes_first b a ≡ false
along_by a b (inl t) =
    ap (λ x. x || (eqb b.priority a.priority && ltb b.id a.id)) (le-ltb a.priority b.priority (omega (arith, t)))
    ∙ and_left (eqb b.priority a.priority) (ltb b.id a.id) (ne_eqb b.priority a.priority (λ e. absurd (omega (arith, t, e))))
along_by a b (inr t) =
    ap (λ x. x || (eqb b.priority a.priority && ltb b.id a.id)) (le-ltb a.priority b.priority (omega (arith, t.0)))
    ∙ and_right (eqb b.priority a.priority) (ltb b.id a.id) (le-ltb b.id a.id t.1)

first_first : (a b c : Candidate) → GoesFirst c b → GoesFirst b a → GoesFirst c a
first_first a b c (inl s) (inl t) = inl (omega (arith, s, t))
first_first a b c (inl s) (inr t) = inl (omega (arith, s, t.0))
first_first a b c (inr s) (inl t) = inl (omega (arith, s.0, t))
first_first a b c (inr s) (inr t) = inr (s.0 ∙ t.0, omega (arith, s.1, t.1))

pub along_along : (a b c : Candidate) → GoesAlong a b → GoesAlong b c → GoesAlong a c
along_along a b c (inl s) (inl t) = inl (omega (arith, s, t))
along_along a b c (inl s) (inr t) = inl (omega (arith, s, t.0))
along_along a b c (inr s) (inl t) = inl (omega (arith, s.0, t))
along_along a b c (inr s) (inr t) = inr (s.0 ∙ t.0, omega (arith, s.1, t.1))

better_none : (a : Option Candidate) → better a None ≡ a
better_none None = refl
better_none (Some a) = refl

-- the order in which candidates are compared doesn't matter
better_better : (a b c : Option Candidate) → better a (better b c) ≡ better (better a b) c
better_better None b c = refl
better_better (Some a) None c = refl
better_better (Some a) (Some b) None = sym (better_none (better (Some a) (Some b)))
better_better (Some a) (Some b) (Some c) = by (goes_first b a) (goes_first c b) refl refl
  where
    by : (t u : Bool) → goes_first b a ≡ t → goes_first c b ≡ u → better (Some a) (cond u (Some c) (Some b)) ≡ better (cond t (Some b) (Some a)) (Some c)
    by true true e f =
        ap (λ x. cond x (Some c) (Some a)) (first_by c a (first_first a b c (first_from c b f) (first_from b a e)))
        ∙ sym (ap (λ x. cond x (Some c) (Some b)) f)
    by true false e f = ap (λ x. cond x (Some b) (Some a)) e ∙ sym (ap (λ x. cond x (Some c) (Some b)) f)
    by false true e f = refl
    by false false e f =
        ap (λ x. cond x (Some b) (Some a)) e
        ∙ sym (ap (λ x. cond x (Some c) (Some a)) (along_by a c (along_along a b c (along_from a b e) (along_from b c f))))

-- ---- the best of two lists, side by side
module _ (offers : Code → Option ℕ) (class : ℕ) (total : Option Candidate) where
  -- one more code was compared
  pub best_more : (best found new : Option Candidate) (codes rest : List Code) (states later : List CodeState) (code : Code) (state : CodeState)
      → better best (best_of offers class codes states) ≡ total → codes ≡ code ∷ rest → states ≡ state ∷ later → found ≡ candidate_of offers class code state → new ≡ better best found
      → better new (best_of offers class rest later) ≡ total
  best_more best found new codes rest states later code state so_far e f g h =
      ap (λ b. better b (best_of offers class rest later)) (h ∙ ap (better best) g)
      ∙ (sym (better_better best (candidate_of offers class code state) (best_of offers class rest later))
      ∙ ((λ i. better best (best_of offers class (sym e i) (sym f i))) ∙ so_far))

  -- no code is left
  pub best_all : (best : Option Candidate) (codes : List Code) (states : List CodeState) → better best (best_of offers class codes states) ≡ total → (codes ≡ []) ⊎ (states ≡ [])
      → best ≡ total
  best_all best codes states so_far ended =
      sym (better_none best) ∙ (ap (better best) (sym (⊎_elim (λ e. ap (λ cs. best_of offers class cs states) e) (λ e. ap (best_of offers class codes) e ∙ none codes) ended)) ∙ so_far)
    where
      none : (cs : List Code) → best_of offers class cs [] ≡ None
      none [] = refl
      none (c ∷ cs) = refl
