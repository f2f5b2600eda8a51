-- What always holds of what lasts, over the lines of a session.
use Rattle.std.proofs.Common.{◌≡◌, ◌⊎◌, inl, inr, ⊎_elim, ℕ, suc, ◌+◌, ◌-◌, ◌≤◌, Bool, true, false, List, [], ◌∷◌, ◌++◌, length, Some, refl, sym, ap, ◌∙◌, subst, arith, append-nil}
use Rattle.std.specs.List.{list_all, AllByRecursion}
use Rattle.model_machine.specs.declared.entry.Entry.{Entry}
use Rattle.model_machine.specs.declared.entry.ControlCall.{ControlCall}
use Rattle.model_machine.specs.declared.entry.ControlCall.TheVariants.{Turn}
use Rattle.model_system.specs.System.{System}
use Rattle.model_machine.specs.Machine.{LastingState, Moment}
use Rattle.model_machine.specs.History.{call_of, after_entry, moment_after}
use Rattle.model_session.specs.declared.asked.Asked.{Asked}
use Rattle.model_session.specs.declared.asked.Asked.TheVariants.{Bad, BadCommand, Stopped, Call, Quiet, Power, PowerIn, Restart, ColdStart}
use Rattle.model_session.specs.Blocks.{Block}
use Rattle.model_session.specs.Lines.{asked_of}
use Rattle.model_session.specs.QuietTurns.{AreTurns, region_behind_turns}
use Rattle.model_session.specs.Lives.{LastLife, LifeLeaves, IsAllForced, life_moment, now_in, longer, forced_to, ends_life, failed_force}
use Rattle.model_session.specs.SessionState.{Setting, SessionState, Outage, Standing, called_on}
use Rattle.model_session.specs.SessionState.Standing.{Up, Down}
use Rattle.model_session.specs.Session.{AreServed, IsServedUp, IsServedDown, ServedBy, IsRestarted, IsCalled, IsCallCutOff, IsForceCutOff, IsQuietTurned, IsTurnedOff}
use Rattle.session_law.specs.ResentInputs.{HasAlways, IsForcedWithin, IsKeptBy, asks_only, all_ask_only}
use Rattle.tm_types.proofs.Truths.{both}
use Rattle.model_session.proofs.Kept.{head_is, tail_is, IsLonger, two_fronts, moment_parts, IsLeftBehind, left_behind}
use Rattle.image_law.proofs.Bools.{first_of, second_of}
use Rattle.session_law.proofs.ForcedWithin.{block_within}

-- ---- Booleans and lists

-- the last of a list belongs to its front or to its rest
pub record EndsRest {X : Type 0} (xs : List X) (x : X) (front rest : List X) : Type 0 where
  pub others : List X
  pub before : xs ≡ front ++ others
  pub rest_is : rest ≡ others ++ x ∷ []

none_left : {X : Type 0} (xs ys : List X) → [] ≡ xs ++ ys → xs ≡ []
none_left [] ys e = refl
none_left (x ∷ xs) ys e = cc

pub last_in : {X : Type 0} (xs : List X) (x : X) (front rest : List X) → xs ++ x ∷ [] ≡ front ++ rest → (front ≡ xs ++ x ∷ []) ⊎ EndsRest xs x front rest
last_in xs x [] rest e = inr (record { others = xs; before = refl; rest_is = sym e })
last_in [] x (y ∷ front) rest e =
    inl (ap (λ ys. y ∷ ys) (none_left front rest (tail_is x y [] (front ++ rest) e)) ∙ ap (λ z. z ∷ []) (sym (head_is x y [] (front ++ rest) e)))
last_in {X} (z ∷ xs) x (y ∷ front) rest e =
    ⊎_elim
    (λ all. inl (ap (λ ys. y ∷ ys) all ∙ ap (λ u. u ∷ xs ++ x ∷ []) (sym (head_is z y (xs ++ x ∷ []) (front ++ rest) e))))
    (λ (h : EndsRest xs x front rest). inr (record { others = h.others; before = ap (λ u. u ∷ xs) (head_is z y (xs ++ x ∷ []) (front ++ rest) e) ∙ ap (λ ys. y ∷ ys) h.before; rest_is = h.rest_is }))
    (last_in xs x front rest (tail_is z y (xs ++ x ∷ []) (front ++ rest) e))

-- ---- what a life leaves

-- an entry of a force in which the disk failed leaves what lasts
pub force_keeps : (P : LastingState → Type 0) (system : System) (moment : Moment) → P moment.lasting → P (after_entry system moment failed_force).lasting
force_keeps P system moment has = has

module _ (P : LastingState → Type 0) (system : System) where
  -- each of these entries keeps it, wherever it stands
  abbrev pub AllKeep : List Entry → Type 0
  AllKeep entries = AllByRecursion (λ (entry : Entry). (moment : Moment) → P moment.lasting → P (after_entry system moment entry).lasting) entries

  pub all_keep : (entries : List Entry) (moment : Moment) → AllKeep entries → P moment.lasting → P (moment_after system moment entries).lasting
  all_keep [] moment keep has = has
  all_keep (entry ∷ entries) moment keep has = all_keep entries (after_entry system moment entry) keep.1 (keep.0 moment has)

  pub front_keeps : (entries others : List Entry) → AllKeep (entries ++ others) → AllKeep entries
  front_keeps [] others keep = tt
  front_keeps (entry ∷ entries) others keep = (keep.0, front_keeps entries others keep.1)

  pub keep_more : (entries others : List Entry) → AllKeep entries → AllKeep others → AllKeep (entries ++ others)
  keep_more [] others keep more = more
  keep_more (entry ∷ entries) others keep more = (keep.0, keep_more entries others keep.1 more)

  pub of_kind : (kind : ControlCall → Bool) → IsKeptBy P system kind → (entries : List Entry) → list_all (λ e. kind (call_of e)) entries ≡ true → AllKeep entries
  of_kind kind keeps [] all = tt
  of_kind kind keeps (entry ∷ entries) all = (
    λ moment has. keeps moment entry (first_of (kind (call_of entry)) (list_all (λ e. kind (call_of e)) entries) all) has,
    of_kind kind keeps entries (second_of (kind (call_of entry)) (list_all (λ e. kind (call_of e)) entries) all),
  )

  -- whatever this life leaves has it
  abbrev pub Leaving : LastLife → Type 0
  Leaving life = (kept : ℕ) (state : LastingState) → LifeLeaves system life kept state → P state

  -- So it is where all steps of a front are forced behind which it holds, and the entries behind that keep it.
  pub leaves_behind : (life : LastLife) (front rest : List Entry) → life.history ≡ front ++ rest → (life_moment system life front).lasting.steps ≤ life.opening.steps + life.forced
      → AllKeep rest → P (life_moment system life front).lasting → Leaving life
  leaves_behind life front rest split forced keep has kept state leaves =
      let its : IsLeftBehind system life front rest state = left_behind system life front rest kept state split forced leaves in
      subst P (sym its.left) (all_keep its.more (life_moment system life front) (front_keeps its.more its.others (subst AllKeep its.rest_is keep)) has)

  -- and where it opened with what has it, and all entries keep it
  pub opened_leaves : (life : LastLife) → AllKeep life.history → P life.opening → Leaving life
  opened_leaves life keep has = leaves_behind life [] life.history refl (as_many life.opening.steps life.forced) keep has where
    as_many : (n m : ℕ) → n ≤ n + m
    as_many n m = omega arith

  pub now_has : (life : LastLife) → IsForcedWithin system (Up life) → Leaving life → P (now_in system life).lasting
  now_has life within has = has ((now_in system life).lasting.steps - life.opening.steps) (now_in system life).lasting (record {
    front = life.history;
    rest = [];
    split = sym (append-nil life.history);
    left = refl;
    counted = refl;
    enough = few life.opening.steps life.forced (now_in system life).lasting.steps within;
  }) where
    few : (opening forced now : ℕ) → opening + forced ≤ now → forced ≤ now - opening
    few opening forced now most = omega (arith, most)

  -- The life goes on with entries that keep it, and no fewer steps are forced.
  pub more : (life : LastLife) (entries : List Entry) (forced : ℕ) → AllKeep entries → IsForcedWithin system (Up life) → life.forced ≤ forced → Leaving life → Leaving (forced_to forced (longer life entries))
  more life entries forced keep within least has kept state leaves =
      ⊎_elim
      (λ (h : IsLonger life.history leaves.front entries leaves.rest).
      subst P
      (sym (leaves.left ∙ ap (λ es. (life_moment system life es).lasting) h.are ∙ ap (λ (m : Moment). m.lasting) (moment_parts system (life_moment system life []) life.history h.more)))
      (all_keep h.more (now_in system life) (front_keeps h.more leaves.rest (subst AllKeep h.rest_is keep)) (now_has life within has)))
      (λ (h : IsLonger leaves.front life.history leaves.rest entries). has kept state (record {
        front = leaves.front;
        rest = h.more;
        split = h.are;
        left = leaves.left;
        counted = leaves.counted;
        enough = on life.forced forced kept least leaves.enough;
      }))
      (two_fronts leaves.front leaves.rest life.history entries (sym leaves.split))
    where
      on : (a b c : ℕ) → a ≤ b → b ≤ c → a ≤ c
      on a b c first second = omega (arith, first, second)

  -- all its steps are forced
  pub leaves_all : (life : LastLife) → IsAllForced system life life.forced → P (now_in system life).lasting → Leaving life
  leaves_all life all has = leaves_behind life life.history [] (sym (append-nil life.history)) (few (now_in system life).lasting.steps (life.opening.steps + life.forced) all) tt has where
    few : (n m : ℕ) → m ≡ n → n ≤ m
    few n m same = omega (arith, same)

module _ (system : System) (kind : ControlCall → Bool) where
  -- turns are of the kind
  pub turned : ((region : ℕ) → kind (Turn region) ≡ true) → (turns : List Entry) (before : ℕ) (moment : Moment) → AreTurns system before moment turns → list_all (λ e. kind (call_of e)) turns ≡ true
  turned are [] before moment h = refl
  turned are (entry ∷ entries) before moment h =
      both (kind (call_of entry)) (list_all (λ e. kind (call_of e)) entries) (ap kind h.1 ∙ are (region_behind_turns system before)) (turned are entries (suc before) (after_entry system moment entry) h.2)

-- ---- what a session leaves

module _ (P : LastingState → Type 0) (setting : Setting) (kind : ControlCall → Bool) (turns : (region : ℕ) → kind (Turn region) ≡ true) (keeps : IsKeptBy P setting.system kind) where
  pub up_has : (life : LastLife) → Leaving P setting.system life → HasAlways P setting (Up life)
  up_has life has kept state (inl leaves) = has kept state leaves
  up_has life has kept state (inr empty) = absurd (no empty.broke_off)
    where
      no : false ≡ true → ⊥
      no e = cc

  leaving : (life : LastLife) → HasAlways P setting (Up life) → Leaving P setting.system life
  leaving life has kept state leaves = has kept state (inl leaves)

  -- what a crash would leave of a life is what it leaves when it has ended
  down_has : (life : LastLife) (stopped : Bool) → Leaving P setting.system life → HasAlways P setting (Down (record { last = Some life; emptied = false; stopped = stopped }))
  down_has life stopped has kept state h = up_has life has kept state h

  same : (old new : SessionState) → new ≡ old → HasAlways P setting old.standing → HasAlways P setting new.standing
  same old new e has = subst (λ (s : SessionState). HasAlways P setting s.standing) (sym e) has

  called : (b : Bool) (old : SessionState) (life : LastLife) (entries : List Entry) (forced : ℕ) → Leaving P setting.system (forced_to forced (longer life entries)) → HasAlways P setting (called_on b old life entries forced).standing
  called true old life entries forced has = down_has (forced_to forced (longer life entries)) false has
  called false old life entries forced has = up_has (forced_to forced (longer life entries)) has

  one_keeps : (call : ControlCall) (entry : Entry) → kind call ≡ true → call_of entry ≡ call → (moment : Moment) → P moment.lasting → P (after_entry setting.system moment entry).lasting
  one_keeps call entry is asked moment has = keeps moment entry (ap kind asked ∙ is) has

  by_call : (call : ControlCall) (old : SessionState) (life : LastLife) (new : SessionState) (text : List ℕ) → kind call ≡ true → IsForcedWithin setting.system (Up life) → HasAlways P setting (Up life)
      → IsCalled setting.system call old life new text ⊎ (IsCallCutOff setting.system call old life new text ⊎ IsForceCutOff setting.system call old life new text) → HasAlways P setting new.standing
  by_call call old life new text is within has (inl h) =
      same (called_on (ends_life h.entry) old life (h.entry ∷ []) h.forced) new h.goes
      (called (ends_life h.entry) old life (h.entry ∷ []) h.forced
      (more P setting.system life (h.entry ∷ []) h.forced (one_keeps call h.entry is h.asked, tt) within h.is_forced.least (leaving life has)))
  by_call call old life new text is within has (inr (inl h)) =
      same _ new h.ends
      (down_has (forced_to h.forced (longer life (h.entry ∷ []))) true
      (more P setting.system life (h.entry ∷ []) h.forced (one_keeps call h.entry is h.breaks.asked, tt) within h.is_forced.least (leaving life has)))
  by_call call old life new text is within has (inr (inr h)) =
      same _ new h.ends
      (down_has (forced_to h.forced (longer life (h.entry ∷ failed_force ∷ []))) true
      (more P setting.system life (h.entry ∷ failed_force ∷ []) h.forced (one_keeps call h.entry is h.asked, (force_keeps P setting.system, tt)) within h.is_forced.least (leaving life has)))

  turns_keep : (turns : List Entry) (before : ℕ) (moment : Moment) → AreTurns setting.system before moment turns → AllKeep P setting.system turns
  turns_keep entries before moment h = of_kind P setting.system kind keeps entries (turned setting.system kind turns entries before moment h)

  by_turns : (most : ℕ) (old : SessionState) (life : LastLife) (new : SessionState) (text : List ℕ) → IsForcedWithin setting.system (Up life) → HasAlways P setting (Up life)
      → IsQuietTurned setting.system most old life new text ⊎ IsTurnedOff setting.system most old life new text → HasAlways P setting new.standing
  by_turns most old life new text within has (inl h) =
      same _ new h.goes
      (up_has (forced_to h.forced (longer life h.turns))
      (more P setting.system life h.turns h.forced (turns_keep h.turns 0 (now_in setting.system life) h.quieted.turns) within h.is_forced.least (leaving life has)))
  by_turns most old life new text within has (inr h) =
      same _ new h.ends
      (down_has (forced_to h.forced (longer life (h.turns ++ h.entry ∷ []))) true
      (more P setting.system life (h.turns ++ h.entry ∷ []) h.forced
      (keep_more P setting.system h.turns (h.entry ∷ []) (turns_keep h.turns 0 (now_in setting.system life) h.begun.turns)
      (one_keeps (Turn (region_behind_turns setting.system (length h.turns))) h.entry (turns (region_behind_turns setting.system (length h.turns))) h.breaks.asked, tt))
      within h.is_forced.least (leaving life has)))

  served_up : (asked : Asked) (old : SessionState) (life : LastLife) (new : SessionState) (text : List ℕ) → asks_only kind asked ≡ true
      → HasAlways P setting old.standing → IsForcedWithin setting.system (Up life) → HasAlways P setting (Up life) → IsServedUp asked setting old life new text → HasAlways P setting new.standing
  served_up (Bad rule) old life new text is here within has h = same old new h.0 here
  served_up (BadCommand rule) old life new text is here within has h = same old new h.0 here
  served_up (Stopped terminal number reason) old life new text is here within has h = same old new h.0 here
  served_up (Call call) old life new text is here within has h = by_call call old life new text is within has h
  served_up (Quiet most) old life new text is here within has h = by_turns most old life new text within has h
  served_up (Power pick) old life new text is here within has h =
      same _ new h.0 (down_has (longer life []) false (more P setting.system life [] life.forced tt within (no_less life.forced) (leaving life has)))
    where
      no_less : (n : ℕ) → n ≤ n
      no_less n = omega arith
  served_up (PowerIn writes pick) old life new text is here within has h = same _ new h.0 here
  served_up Restart old life new text is here within has h = same old new h.0 here
  served_up ColdStart old life new text is here within has h = absurd (no is)
    where
      no : false ≡ true → ⊥
      no e = cc

  restarted : (old : SessionState) (outage : Outage) (new : SessionState) (text : List ℕ) → setting.tells ≡ true → HasAlways P setting old.standing → HasAlways P setting (Down outage)
      → IsRestarted false setting old outage new text → HasAlways P setting new.standing
  restarted old outage new text tells here has (inl h) =
      let opens = h.0 in
      let life : LastLife = record { opening = opens.state; checkpoint = opens.checkpoint; history = []; forced = 0 } in
      same _ new opens.goes (up_has life (opened_leaves P setting.system life tt (has opens.kept opens.state (opens.may tells))))
  restarted old outage new text tells here has (inr (inl h)) = same _ new h.0.ends (λ kept state found. has kept state found)
  restarted old outage new text tells here has (inr (inr h)) = same old new h.stays here

  served_down : (asked : Asked) (old : SessionState) (outage : Outage) (new : SessionState) (text : List ℕ) → asks_only kind asked ≡ true → setting.tells ≡ true
      → HasAlways P setting old.standing → HasAlways P setting (Down outage) → IsServedDown asked setting old outage new text → HasAlways P setting new.standing
  served_down (Bad rule) old outage new text is tells here has h = same old new h.0 here
  served_down (BadCommand rule) old outage new text is tells here has h = same old new h.0 here
  served_down (Stopped terminal number reason) old outage new text is tells here has h = same old new h.0 here
  served_down (Call call) old outage new text is tells here has h = same old new h.0 here
  served_down (Quiet most) old outage new text is tells here has h = same old new h.0 here
  served_down (Power pick) old outage new text is tells here has h = same old new h.0 here
  served_down (PowerIn writes pick) old outage new text is tells here has h = same old new h.0 here
  served_down Restart old outage new text is tells here has h = restarted old outage new text tells here has h
  served_down ColdStart old outage new text is tells here has h = absurd (no is)
    where
      no : false ≡ true → ⊥
      no e = cc

  by_standing : (standing : Standing) (asked : Asked) (old new : SessionState) (text : List ℕ) → asks_only kind asked ≡ true → setting.tells ≡ true
      → HasAlways P setting old.standing → IsForcedWithin setting.system standing → HasAlways P setting standing → ServedBy standing asked setting old new text → HasAlways P setting new.standing
  by_standing (Up life) asked old new text is tells here within has h = served_up asked old life new text is here within has h
  by_standing (Down outage) asked old new text is tells here within has h = served_down asked old outage new text is tells here has h

  -- What always holds of what a stop leaves holds behind lines that ask for calls of this kind, and for no cold start.
  pub kept_over : (blocks : List Block) (old new : SessionState) (text : List ℕ) → setting.tells ≡ true → all_ask_only kind setting.system blocks ≡ true
      → AreServed setting blocks old new text → IsForcedWithin setting.system old.standing → HasAlways P setting old.standing → HasAlways P setting new.standing
  kept_over [] old new text tells all h within has = same old new h.0 has
  kept_over (block ∷ blocks) old new text tells all h within has =
      kept_over blocks h.mid new h.later tells (second_of (asks_only kind (asked_of setting.system block)) (all_ask_only kind setting.system blocks) all) h.on
      (block_within setting (asked_of setting.system block) old h.mid h.first h.here within)
      (by_standing old.standing (asked_of setting.system block) old h.mid h.first (first_of (asks_only kind (asked_of setting.system block)) (all_ask_only kind setting.system blocks) all) tells has within has h.here)
