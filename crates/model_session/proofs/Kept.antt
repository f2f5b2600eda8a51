-- What a life leaves is what a front of its entries leads to, and has all lasting steps that are forced.
use Rattle.std.proofs.Common.{◌≡◌, ◌⊎◌, inl, inr, ⊎_elim, ℕ, ◌+◌, ◌-◌, ◌≤◌, List, [], ◌∷◌, ◌++◌, refl, sym, ◌∙◌, ap, arith}
use Rattle.std.specs.Prelude.{Option, Some, None}
use Rattle.std.specs.Option.{option_map_or}
use Rattle.model_machine.specs.declared.entry.Entry.{Entry}
use Rattle.model_system.specs.System.{System}
use Rattle.model_machine.specs.Machine.{LastingState, Moment}
use Rattle.model_machine.specs.LastingSteps.{LastingStep, applied}
use Rattle.model_machine.specs.MachineCalls.{lasting_step}
use Rattle.model_machine.specs.History.{after_entry, call_of, moment_after}
use Rattle.model_session.specs.Lives.{LastLife, LifeLeaves, life_moment}
use Rattle.model_machine.proofs.Rising.{steps_rise}

-- ---- lists

pub head_is : {X : Type 0} (x y : X) (xs ys : List X) → x ∷ xs ≡ y ∷ ys → x ≡ y
head_is x y xs ys e = cc

pub tail_is : {X : Type 0} (x y : X) (xs ys : List X) → x ∷ xs ≡ y ∷ ys → xs ≡ ys
tail_is x y xs ys e = cc

-- The long front goes on from the short one, behind which the rest stands.
pub record IsLonger {X : Type 0} (short long rest others : List X) : Type 0 where
  pub more : List X
  pub are : long ≡ short ++ more
  pub rest_is : rest ≡ more ++ others

-- of two fronts of a list one goes on from the other
pub two_fronts : {X : Type 0} (front rest other behind : List X) → front ++ rest ≡ other ++ behind → IsLonger other front behind rest ⊎ IsLonger front other rest behind
two_fronts front rest [] behind e = inl (record { more = front; are = refl; rest_is = sym e })
two_fronts [] rest (x ∷ other) behind e = inr (record { more = x ∷ other; are = refl; rest_is = e })
two_fronts {X} (y ∷ front) rest (x ∷ other) behind e =
    ⊎_elim
    (λ (h : IsLonger other front behind rest). inl (record { more = h.more; are = ap (λ z. z ∷ front) (head_is y x (front ++ rest) (other ++ behind) e) ∙ ap (λ zs. x ∷ zs) h.are; rest_is = h.rest_is }))
    (λ (h : IsLonger front other rest behind). inr (record { more = h.more; are = ap (λ z. z ∷ other) (sym (head_is y x (front ++ rest) (other ++ behind) e)) ∙ ap (λ zs. y ∷ zs) h.are; rest_is = h.rest_is }))
    (two_fronts front rest other behind (tail_is y x (front ++ rest) (other ++ behind) e))

-- ---- lasting steps are counted on

on : (a b c : ℕ) → a ≤ b → b ≤ c → a ≤ c
on a b c first second = omega (arith, first, second)

pub all_rise : (system : System) (entries : List Entry) (moment : Moment) → moment.lasting.steps ≤ (moment_after system moment entries).lasting.steps
all_rise system [] moment = omega arith
all_rise system (entry ∷ entries) moment =
    on moment.lasting.steps (after_entry system moment entry).lasting.steps (moment_after system (after_entry system moment entry) entries).lasting.steps
    (steps_rise system moment entry) (all_rise system entries (after_entry system moment entry))

pub moment_parts : (system : System) (moment : Moment) (front rest : List Entry) → moment_after system moment (front ++ rest) ≡ moment_after system (moment_after system moment front) rest
moment_parts system moment [] rest = refl
moment_parts system moment (entry ∷ front) rest = moment_parts system (after_entry system moment entry) front rest

-- a front has no more steps than all entries
pub front_rises : (system : System) (moment : Moment) (front rest : List Entry) → (moment_after system moment front).lasting.steps ≤ (moment_after system moment (front ++ rest)).lasting.steps
front_rises system moment [] rest = all_rise system rest moment
front_rises system moment (entry ∷ front) rest = front_rises system (after_entry system moment entry) front rest

-- ---- where no step lasts, what lasts is the same

none_more : (n : ℕ) → n + 1 ≤ n → ⊥
none_more n e = omega (arith, e)

unless_step : (lasting : LastingState) (step : Option LastingStep) → (option_map_or (λ s. applied s lasting) step lasting).steps ≤ lasting.steps → option_map_or (λ s. applied s lasting) step lasting ≡ lasting
unless_step lasting None e = refl
unless_step lasting (Some step) e = absurd (none_more lasting.steps e)

pub same_after : (system : System) (moment : Moment) (entry : Entry) → (after_entry system moment entry).lasting.steps ≤ moment.lasting.steps → (after_entry system moment entry).lasting ≡ moment.lasting
same_after system moment entry e = unless_step moment.lasting (lasting_step system moment (call_of entry)) e

pub same_behind : (system : System) (entries : List Entry) (moment : Moment) → (moment_after system moment entries).lasting.steps ≤ moment.lasting.steps → (moment_after system moment entries).lasting ≡ moment.lasting
same_behind system [] moment e = refl
same_behind system (entry ∷ entries) moment e =
    let after : Moment = after_entry system moment entry in
    same_behind system entries after (on (moment_after system after entries).lasting.steps moment.lasting.steps after.lasting.steps e (steps_rise system moment entry))
    ∙ same_after system moment entry (on after.lasting.steps (moment_after system after entries).lasting.steps moment.lasting.steps (all_rise system entries after) e)

-- ---- what a life leaves

-- what lasts behind this front of a life and some of the entries behind it
pub record IsLeftBehind (system : System) (life : LastLife) (front rest : List Entry) (state : LastingState) : Type 0 where
  pub more : List Entry
  pub others : List Entry
  pub rest_is : rest ≡ more ++ others
  pub left : state ≡ (moment_after system (life_moment system life front) more).lasting

reached : (opening forced kept steps front : ℕ) → opening ≤ steps → kept ≡ steps - opening → forced ≤ kept → front ≤ opening + forced → front ≤ steps
reached opening forced kept steps front least counted enough within = omega (arith, least, counted, enough, within)

-- So it is of whatever the life leaves, where all steps of the front are forced: one that is shorter has the same steps, and so the same
-- lasts behind it.
pub left_behind : (system : System) (life : LastLife) (front rest : List Entry) (kept : ℕ) (state : LastingState) → life.history ≡ front ++ rest
    → (life_moment system life front).lasting.steps ≤ life.opening.steps + life.forced → LifeLeaves system life kept state → IsLeftBehind system life front rest state
left_behind system life front rest kept state split forced leaves =
    ⊎_elim
    (λ (h : IsLonger front leaves.front rest leaves.rest). record {
      more = h.more;
      others = leaves.rest;
      rest_is = h.rest_is;
      left = leaves.left ∙ ap (λ es. (life_moment system life es).lasting) h.are ∙ ap (λ (m : Moment). m.lasting) (moment_parts system (life_moment system life []) front h.more);
    })
    (λ (h : IsLonger leaves.front front leaves.rest rest).
    let start : Moment = life_moment system life [] in
    let there : Moment = life_moment system life leaves.front in
    let along : life_moment system life front ≡ moment_after system there h.more = ap (life_moment system life) h.are ∙ moment_parts system start leaves.front h.more in
    let most : (life_moment system life front).lasting.steps ≤ state.steps =
    reached life.opening.steps life.forced kept state.steps (life_moment system life front).lasting.steps
    (at_least system life leaves.front state leaves.left) leaves.counted leaves.enough forced in
    record {
      more = [];
      others = rest;
      rest_is = refl;
      left = leaves.left ∙ sym (ap (λ (m : Moment). m.lasting) along ∙ same_behind system h.more there (no_more system life front leaves.front h.more state along leaves.left most));
    })
    (two_fronts leaves.front leaves.rest front rest (sym leaves.split ∙ split))
  where
    at_least : (system : System) (life : LastLife) (entries : List Entry) (state : LastingState) → state ≡ (life_moment system life entries).lasting → life.opening.steps ≤ state.steps
    at_least system life entries state left = let rises = all_rise system entries (life_moment system life []) in let steps = ap (λ (s : LastingState). s.steps) left in omega (arith, rises, steps)

    no_more : (system : System) (life : LastLife) (front entries more : List Entry) (state : LastingState) → life_moment system life front ≡ moment_after system (life_moment system life entries) more
        → state ≡ (life_moment system life entries).lasting → (life_moment system life front).lasting.steps ≤ state.steps
        → (moment_after system (life_moment system life entries) more).lasting.steps ≤ (life_moment system life entries).lasting.steps
    no_more system life front entries more state along left most =
        let steps = ap (λ (s : LastingState). s.steps) left in let same = ap (λ (m : Moment). m.lasting.steps) along in omega (arith, steps, same, most)
