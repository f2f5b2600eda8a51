-- How lives end, and what the next ones open with.
use Rattle.std.proofs.Common.{◌≡◌, ◌≢◌, ◌⊎◌, inl, inr, ⊎_elim, ℕ, ◌+◌, ◌-◌, ◌≤◌, Bool, true, false, List, [], ◌∷◌, ◌++◌, refl, sym, ap, ◌∙◌, subst, arith, append_assoc, append-nil}
use Rattle.std.specs.Prelude.{Option, Some, None}
use Rattle.std.specs.List.{list_all}
use Rattle.model_system.specs.System.{System}
use Rattle.model_machine.specs.declared.entry.Entry.{Entry}
use Rattle.model_machine.specs.Machine.{LastingState, Moment, start_of}
use Rattle.model_machine.specs.History.{May, AreSteps, call_of, after_entry, history_ended_by, moment_after}
use Rattle.model_machine.proofs.Histories.{moment_after-append}
use Rattle.model_machine.proofs.Rising.{steps_rise}
use Rattle.model_session.specs.Lives.{LifeState, LastLife, LifeLeaves, IsLegalLife, AreLegal, life_moment, binds, failed_force}
use Rattle.model_session.proofs.Kept.{IsLonger, two_fronts, all_rise, front_rises, moment_parts, same_after}
use Rattle.session_law.specs.ResentInputs.{any_call}
use Rattle.session_law.specs.SentAgain.{alone, IsLeftBy, AreLeft, AreLinked, IsLifeBound, AreBound, IsDoubted, steps_of}
use Rattle.session_law.proofs.Sessions.{AllKeep, Leaving, EndsRest, all_keep, force_keeps, front_keeps, last_in, leaves_behind}

-- ---- lists

pub head_is : {X : Type 0} (x y : X) (xs ys : List X) → x ∷ xs ≡ y ∷ ys → x ≡ y
head_is x y xs ys e = cc

pub tail_is : {X : Type 0} (x y : X) (xs ys : List X) → x ∷ xs ≡ y ∷ ys → xs ≡ ys
tail_is x y xs ys e = cc

pub none_there : {X : Type 0} (xs : List X) (x : X) (ys : List X) → [] ≡ xs ++ x ∷ ys → ⊥
none_there [] x ys e = cc
none_there (z ∷ xs) x ys e = cc

pub apart : true ≡ false → ⊥
apart e = cc

pub ended_more : (entry : Entry) (entries : List Entry) (last : Option Entry) → history_ended_by (entry ∷ entries) last ≡ entry ∷ history_ended_by entries last
ended_more entry entries None = refl
ended_more entry entries (Some last) = refl

pub all_any : (entries : List Entry) → list_all (λ e. any_call (call_of e)) entries ≡ true
all_any [] = refl
all_any (entry ∷ entries) = all_any entries

-- ---- entries that are steps

-- A front of a legal life behind which an entry stands has the machine's answers.
pub front_steps : (system : System) (steps : List Entry) (last : Option Entry) (moment : Moment) (front : List Entry) (entry : Entry) (rest : List Entry) → AreSteps system moment steps
    → history_ended_by steps last ≡ front ++ entry ∷ rest → AreSteps system moment front
front_steps system steps last moment [] entry rest legal same = tt
front_steps system [] None moment (f ∷ front) entry rest legal same = cc
front_steps system [] (Some last) moment (f ∷ front) entry rest legal same = absurd (none_there front entry rest (tail_is last f [] (front ++ entry ∷ rest) same))
front_steps system (step ∷ steps) last moment (f ∷ front) entry rest legal same =
    let all : step ∷ history_ended_by steps last ≡ f ∷ (front ++ entry ∷ rest) = sym (ended_more step steps last) ∙ same in
    subst (λ (e : Entry). May system moment e × AreSteps system (after_entry system moment e) front) (head_is step f (history_ended_by steps last) (front ++ entry ∷ rest) all)
    (legal.0, front_steps system steps last (after_entry system moment step) front entry rest legal.1 (tail_is step f (history_ended_by steps last) (front ++ entry ∷ rest) all))

pub steps_behind : (system : System) (front rest : List Entry) (moment : Moment) → AreSteps system moment (front ++ rest) → AreSteps system (moment_after system moment front) rest
steps_behind system [] rest moment legal = legal
steps_behind system (entry ∷ front) rest moment legal = steps_behind system front rest (after_entry system moment entry) legal.1

-- ---- what a life leaves

-- it holds at each place of these entries
abbrev pub HoldsAlong : (LastingState → Type 0) → System → Moment → List Entry → Type 0
HoldsAlong P system moment [] = P moment.lasting
HoldsAlong P system moment (entry ∷ entries) = P moment.lasting × HoldsAlong P system (after_entry system moment entry) entries

pub along_first : (P : LastingState → Type 0) (system : System) (moment : Moment) (entries : List Entry) → HoldsAlong P system moment entries → P moment.lasting
along_first P system moment [] h = h
along_first P system moment (entry ∷ entries) h = h.0

pub along_last : (P : LastingState → Type 0) (system : System) (moment : Moment) (entries : List Entry) → HoldsAlong P system moment entries → P (moment_after system moment entries).lasting
along_last P system moment [] h = h
along_last P system moment (entry ∷ entries) h = along_last P system (after_entry system moment entry) entries h.1

pub along_as : (P Q : LastingState → Type 0) → ((s : LastingState) → P s → Q s) → (system : System) (moment : Moment) (entries : List Entry) → HoldsAlong P system moment entries → HoldsAlong Q system moment entries
along_as P Q on system moment [] h = on moment.lasting h
along_as P Q on system moment (entry ∷ entries) h = (on moment.lasting h.0, along_as P Q on system (after_entry system moment entry) entries h.1)

along_front : (P : LastingState → Type 0) (system : System) (moment : Moment) (entries front others : List Entry) → entries ≡ front ++ others → HoldsAlong P system moment entries
    → P (moment_after system moment front).lasting
along_front P system moment entries [] others same h = along_first P system moment entries h
along_front P system moment [] (f ∷ front) others same h = cc
along_front P system moment (entry ∷ entries) (f ∷ front) others same h =
    subst (λ (e : Entry). P (moment_after system (after_entry system moment e) front).lasting) (head_is entry f entries (front ++ others) same)
    (along_front P system (after_entry system moment entry) entries front others (tail_is entry f entries (front ++ others) same) h.1)

-- The entry that stands behind the answered ones leads to what has it, too.
abbrev pub EndHas : (LastingState → Type 0) → System → Moment → Option Entry → Type 0
EndHas P system moment None = Unit {0}
EndHas P system moment (Some entry) = P (after_entry system moment entry).lasting

-- So whatever the life leaves has it.
pub life_leaves : (system : System) (P : LastingState → Type 0) (life : LifeState) (steps : List Entry) (last : Option Entry) → life.history ≡ history_ended_by steps last
    → HoldsAlong P system (start_of system life.opening) steps → EndHas P system (life_moment system (alone life) steps) last → Leaving P system (alone life)
life_leaves system P life steps None all has end kept state h =
    subst P (sym h.left) (along_front P system (start_of system life.opening) steps h.front h.rest (sym all ∙ h.split) has)
life_leaves system P life steps (Some entry) all has end kept state h =
    ⊎_elim
    (λ whole.
    subst P
    (sym (h.left ∙ ap (λ (es : List Entry). (life_moment system (alone life) es).lasting) whole ∙ ap (λ (m : Moment). m.lasting) (moment_after-append system (start_of system life.opening) steps entry)))
    end)
    (λ (ends : EndsRest steps entry h.front h.rest). subst P (sym h.left) (along_front P system (start_of system life.opening) steps h.front ends.others ends.before has))
    (last_in steps entry h.front h.rest (sym all ∙ h.split))

-- ---- what is forced of a life

few_steps : (steps opening forced : ℕ) → steps - opening ≤ forced → steps ≤ opening + forced
few_steps steps opening forced few = omega (arith, few)

-- All steps up to an entry whose text binds are forced, but where the disk failed behind it.
pub bound_to : (system : System) (life : LifeState) (front rest : List Entry) (entry : Entry) → IsLifeBound system life → life.history ≡ front ++ entry ∷ rest → binds entry ≡ true → rest ≢ failed_force ∷ []
    → (life_moment system (alone life) (front ++ entry ∷ [])).lasting.steps ≤ life.opening.steps + life.forced
bound_to system life front rest entry bound split binding goes_on = by (bound front rest entry split binding) where
  by : (rest ≡ failed_force ∷ []) ⊎ (steps_of system life (front ++ entry ∷ []) ≤ life.forced) → (life_moment system (alone life) (front ++ entry ∷ [])).lasting.steps ≤ life.opening.steps + life.forced
  by (inl same) = absurd (goes_on same)
  by (inr few) = few_steps (life_moment system (alone life) (front ++ entry ∷ [])).lasting.steps life.opening.steps life.forced few

-- What holds behind an entry up to which all steps are forced, and what those behind it keep, whatever the life leaves has.
pub forced_leaves : (P : LastingState → Type 0) (system : System) (life : LifeState) (front rest : List Entry) (entry : Entry) → life.history ≡ front ++ entry ∷ rest
    → steps_of system life (front ++ entry ∷ []) ≤ life.forced → AllKeep P system rest → P (after_entry system (life_moment system (alone life) front) entry).lasting → Leaving P system (alone life)
forced_leaves P system life front rest entry split few keep has =
    leaves_behind P system (alone life) (front ++ entry ∷ []) rest (split ∙ sym (append_assoc front (entry ∷ []) rest))
    (few_steps (life_moment system (alone life) (front ++ entry ∷ [])).lasting.steps life.opening.steps life.forced few) keep
    (subst (λ (m : Moment). P m.lasting) (sym (moment_after-append system (start_of system life.opening) front entry)) has)

-- ---- a life that ended in doubt

-- The next life opened with what the entry in doubt leads to, and all its steps are kept.
pub record OpensWhole (system : System) (life next : LifeState) (before : List Entry) (entry : Entry) : Type 0 where
  pub counted : life.kept ≡ steps_of system life life.history
  pub opening : next.opening ≡ (after_entry system (life_moment system (alone life) before) entry).lasting

-- a life that had only these entries
abbrev pub up_to : LifeState → List Entry → LastLife
up_to life before = record { opening = life.opening; checkpoint = life.checkpoint; history = before; forced = life.forced }

-- The next life opened with what only the entries before would leave, and no more steps are kept than these have.
pub record OpensBefore (system : System) (life next : LifeState) (before : List Entry) : Type 0 where
  pub leaves : LifeLeaves system (up_to life before) life.kept next.opening
  pub few : life.kept ≤ steps_of system life before

fewer : (kept left most opening : ℕ) → kept ≡ left - opening → left ≤ most → kept ≤ most - opening
fewer kept left most opening counted less = omega (arith, counted, less)

module _ (system : System) (life next : LifeState) (before after : List Entry) (entry : Entry) (leaves : LifeLeaves system (alone life) life.kept next.opening) (all : life.history ≡ before ++ entry ∷ after) (doubted : IsDoubted entry after) where
  abbrev then_moment : Moment
  then_moment = life_moment system (alone life) before

  -- what stands behind it leaves what lasts
  after_keeps : (P : LastingState → Type 0) → AllKeep P system after
  after_keeps P = by doubted where
    by : IsDoubted entry after → AllKeep P system after
    by (inl (fault, none)) = subst (AllKeep P system) (sym none) tt
    by (inr one) = subst (AllKeep P system) (sym one) (force_keeps P system, tt)

  abbrev Same : LastingState → Type 0
  Same state = state ≡ (after_entry system then_moment entry).lasting

  whole_is : Same (life_moment system (alone life) life.history).lasting
  whole_is =
      ap (λ (es : List Entry). (life_moment system (alone life) es).lasting) all ∙ ap (λ (m : Moment). m.lasting) (moment_parts system (start_of system life.opening) before (entry ∷ after))
      ∙ all_keep Same system after (after_entry system then_moment entry) (after_keeps Same) refl

  opens_whole : (rest : List Entry) (e : Entry) (more : List Entry) → leaves.front ≡ before ++ e ∷ more → entry ∷ after ≡ e ∷ (more ++ rest) → OpensWhole system life next before entry
  opens_whole rest e more longer same =
      let is : entry ≡ e = head_is entry e after (more ++ rest) same in
      let keep : AllKeep Same system more = front_keeps Same system more rest (subst (AllKeep Same system) (tail_is entry e after (more ++ rest) same) (after_keeps Same)) in
      let opening : Same next.opening =
      leaves.left ∙ ap (λ (es : List Entry). (life_moment system (alone life) es).lasting) longer ∙ ap (λ (m : Moment). m.lasting) (moment_parts system (start_of system life.opening) before (e ∷ more))
      ∙ all_keep Same system more (after_entry system then_moment e) keep (ap (λ (x : Entry). (after_entry system then_moment x).lasting) (sym is)) in
      record { counted = leaves.counted ∙ ap (λ (s : LastingState). s.steps - life.opening.steps) (opening ∙ sym whole_is); opening = opening }

  opens_before : (more : List Entry) → before ≡ leaves.front ++ more → OpensBefore system life next before
  opens_before more same = record {
    leaves = record { front = leaves.front; rest = more; split = same; left = leaves.left; counted = leaves.counted; enough = leaves.enough };
    few = fewer life.kept next.opening.steps then_moment.lasting.steps life.opening.steps leaves.counted
        (subst (λ (n : ℕ). n ≤ then_moment.lasting.steps) (sym (ap (λ (s : LastingState). s.steps) leaves.left))
        (subst (λ (es : List Entry). (life_moment system (alone life) leaves.front).lasting.steps ≤ (life_moment system (alone life) es).lasting.steps) (sym same)
        (front_rises system (start_of system life.opening) leaves.front more)));
  }

  by_more : (more rest : List Entry) → leaves.front ≡ before ++ more → entry ∷ after ≡ more ++ rest → OpensWhole system life next before entry ⊎ OpensBefore system life next before
  by_more [] rest longer same = inr (opens_before [] (sym (append-nil leaves.front ∙ longer ∙ append-nil before)))
  by_more (e ∷ more) rest longer same = inl (opens_whole rest e more longer same)

  -- It is one or the other.
  pub opened_in_doubt : OpensWhole system life next before entry ⊎ OpensBefore system life next before
  opened_in_doubt =
      ⊎_elim
      (λ (h : IsLonger before leaves.front (entry ∷ after) leaves.rest). by_more h.more leaves.rest h.are h.rest_is)
      (λ (h : IsLonger leaves.front before leaves.rest (entry ∷ after)). inr (opens_before h.more h.are))
      (two_fronts leaves.front leaves.rest before (entry ∷ after) (sym leaves.split ∙ all))

-- ---- up to the entry in doubt

-- an entry that is no failed force doesn't stand at such a place
pub not_alone : (entries : List Entry) (entry : Entry) (after : List Entry) → entry ≢ failed_force → entries ++ entry ∷ after ≢ failed_force ∷ []
not_alone [] entry after other same = other (head_is entry failed_force after [] same)
not_alone (e ∷ entries) entry after other same = none_there entries entry after (sym (tail_is e failed_force (entries ++ entry ∷ after) [] same))

-- What each entry before keeps that doesn't bind, all before keep behind what the next life opened with: no step lasts up to one that binds.
pub kept_between : (P : LastingState → Type 0) (system : System) → ((moment : Moment) (entry : Entry) → May system moment entry → binds entry ≡ false → P moment.lasting → P (after_entry system moment entry).lasting)
    → (low : ℕ) (entries : List Entry) (moment : Moment) → low ≤ moment.lasting.steps → AreSteps system moment entries
    → ((front rest : List Entry) (entry : Entry) → entries ≡ front ++ entry ∷ rest → binds entry ≡ true → (moment_after system moment (front ++ entry ∷ [])).lasting.steps ≤ low)
    → P moment.lasting → P (moment_after system moment entries).lasting
kept_between P system keeps low [] moment least legal bound has = has
kept_between P system keeps low (entry ∷ entries) moment least legal bound has =
    kept_between P system keeps low entries (after_entry system moment entry) (on low moment.lasting.steps (after_entry system moment entry).lasting.steps least (steps_rise system moment entry)) legal.1
    (λ front rest other split binding. bound (entry ∷ front) rest other (ap (λ (es : List Entry). entry ∷ es) split) binding)
    (by (binds entry) refl)
  where
    on : (a b c : ℕ) → a ≤ b → b ≤ c → a ≤ c
    on a b c first second = omega (arith, first, second)

    by : (b : Bool) → binds entry ≡ b → P (after_entry system moment entry).lasting
    by true binding =
        subst P
        (sym (same_after system moment entry (on (after_entry system moment entry).lasting.steps low moment.lasting.steps (bound [] entries entry refl binding) least))) has
    by false binding = keeps moment entry legal.0 binding has

bound_low : (steps opening forced kept left : ℕ) → steps ≤ opening + forced → forced ≤ kept → kept ≡ left - opening → opening ≤ left → steps ≤ left
bound_low steps opening forced kept left most enough counted least = omega (arith, most, enough, counted, least)

module _ (system : System) (life next : LifeState) (before after : List Entry) (entry : Entry) (its : IsLegalLife system life.opening life.checkpoint life.history) (bound : IsLifeBound system life) (all : life.history ≡ before ++ entry ∷ after) (other : entry ≢ failed_force) (opens : OpensBefore system life next before) where
  abbrev left_moment : Moment
  left_moment = life_moment system (alone life) opens.leaves.front

  left_steps : left_moment.lasting.steps ≡ next.opening.steps
  left_steps = ap (λ (s : LastingState). s.steps) (sym opens.leaves.left)

  -- an entry before that binds adds no step to what the next life opened with
  none_bound : (front rest : List Entry) (e : Entry) → opens.leaves.rest ≡ front ++ e ∷ rest → binds e ≡ true → (moment_after system left_moment (front ++ e ∷ [])).lasting.steps ≤ left_moment.lasting.steps
  none_bound front rest e split binding =
      let whole : life.history ≡ (opens.leaves.front ++ front) ++ e ∷ (rest ++ entry ∷ after) =
      all ∙ ap (λ (es : List Entry). es ++ entry ∷ after) (opens.leaves.split ∙ ap (λ (es : List Entry). opens.leaves.front ++ es) split)
      ∙ ap (λ (es : List Entry). es ++ entry ∷ after) (sym (append_assoc opens.leaves.front front (e ∷ rest))) ∙ append_assoc (opens.leaves.front ++ front) (e ∷ rest) (entry ∷ after) in
      let most = bound_to system life (opens.leaves.front ++ front) (rest ++ entry ∷ after) e bound whole binding (not_alone rest entry after other) in
      let place : (life_moment system (alone life) ((opens.leaves.front ++ front) ++ e ∷ [])).lasting.steps ≡ (moment_after system left_moment (front ++ e ∷ [])).lasting.steps =
      ap (λ (es : List Entry). (life_moment system (alone life) es).lasting.steps) (append_assoc opens.leaves.front front (e ∷ []))
      ∙ ap (λ (m : Moment). m.lasting.steps) (moment_parts system (start_of system life.opening) opens.leaves.front (front ++ e ∷ [])) in
      subst (λ (n : ℕ). n ≤ left_moment.lasting.steps) place
      (bound_low (life_moment system (alone life) ((opens.leaves.front ++ front) ++ e ∷ [])).lasting.steps life.opening.steps life.forced life.kept left_moment.lasting.steps most opens.leaves.enough
      (opens.leaves.counted ∙ ap (λ (n : ℕ). n - life.opening.steps) (sym left_steps)) (all_rise system opens.leaves.front (start_of system life.opening)))

  steps_before : AreSteps system (start_of system life.opening) before
  steps_before = front_steps system its.legal.steps its.legal.last (start_of system life.opening) before entry after its.legal.legal (sym its.legal.all ∙ all)

  -- So what it opened with and what lasts before the entry in doubt have the same, where each entry that doesn't bind keeps it.
  pub kept_to_doubt : (P : LastingState → Type 0) → ((moment : Moment) (e : Entry) → May system moment e → binds e ≡ false → P moment.lasting → P (after_entry system moment e).lasting)
      → P next.opening → P (life_moment system (alone life) before).lasting
  kept_to_doubt P keeps has =
      subst (λ (m : Moment). P m.lasting) (sym (ap (life_moment system (alone life)) opens.leaves.split ∙ moment_parts system (start_of system life.opening) opens.leaves.front opens.leaves.rest))
      (kept_between P system keeps left_moment.lasting.steps opens.leaves.rest left_moment (same_least left_moment.lasting.steps)
      (steps_behind system opens.leaves.front opens.leaves.rest (start_of system life.opening) (subst (AreSteps system (start_of system life.opening)) opens.leaves.split steps_before))
      none_bound (subst P opens.leaves.left has))
    where
      same_least : (n : ℕ) → n ≤ n
      same_least n = omega arith

-- ---- parts of lives

pub linked_behind : (system : System) (before lives : List LifeState) → AreLeft system (before ++ lives) → AreLeft system lives
linked_behind system [] lives linked = linked
linked_behind system (life ∷ before) lives linked = linked_behind system before lives linked.1

pub legal_behind : (system : System) (before lives : List LifeState) → AreLegal system (before ++ lives) → AreLegal system lives
legal_behind system [] lives legal = legal
legal_behind system (life ∷ before) lives legal = legal_behind system before lives legal.1

pub bound_behind : (system : System) (before lives : List LifeState) → AreBound system (before ++ lives) → AreBound system lives
bound_behind system [] lives bound = bound
bound_behind system (life ∷ before) lives bound = bound_behind system before lives bound.1

-- the first of these lives opened with what has it
abbrev pub OpenedWith : (LastingState → Type 0) → List LifeState → Type 0
OpenedWith P [] = Unit {0}
OpenedWith P (life ∷ lives) = P life.opening

pub opened_behind : (system : System) (P : LastingState → Type 0) (life : LifeState) (later : List LifeState) → Leaving P system (alone life) → IsLeftBy system life later → OpenedWith P later
opened_behind system P life [] has opens = tt
opened_behind system P life (next ∷ later) has opens = has life.kept next.opening opens

-- one or the other, of the first of these lives
pub opened_either : (P Q : LastingState → Type 0) (lives : List LifeState) → OpenedWith (λ (s : LastingState). P s ⊎ Q s) lives → OpenedWith P lives ⊎ OpenedWith Q lives
opened_either P Q [] has = inl tt
opened_either P Q (life ∷ lives) has = has

-- what goes by links goes by this too
pub linked_left : (system : System) (lives : List LifeState) → AreLinked system lives → AreLeft system lives
linked_left system [] linked = tt
linked_left system (life ∷ []) linked = (tt, tt)
linked_left system (life ∷ next ∷ lives) linked = (linked.0.left, linked_left system (next ∷ lives) linked.1)

-- ---- runs of lives

pub legal_parts : (system : System) (lives others : List LifeState) → AreLegal system (lives ++ others) → AreLegal system lives × AreLegal system others
legal_parts system [] others legal = (tt, legal)
legal_parts system (life ∷ lives) others legal = let its = legal_parts system lives others legal.1 in ((legal.0, its.0), its.1)

pub bound_parts : (system : System) (lives others : List LifeState) → AreBound system (lives ++ others) → AreBound system lives × AreBound system others
bound_parts system [] others bound = (tt, bound)
bound_parts system (life ∷ lives) others bound = let its = bound_parts system lives others bound.1 in ((bound.0, its.0), its.1)
