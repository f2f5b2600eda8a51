-- All lasting steps of a session's lives up to an entry whose text binds are forced, but where the disk failed in the force behind it.
use Rattle.std.proofs.Common.{◌≡◌, ◌⊎◌, inl, inr, ⊎_elim, ℕ, suc, ◌+◌, ◌-◌, ◌≤◌, Bool, true, false, List, [], ◌∷◌, ◌++◌, refl, sym, ap, ◌∙◌, subst, arith, append_assoc, append-nil}
use Rattle.std.specs.Prelude.{Option, Some, None, Ok, Err}
use Rattle.std.specs.List.{AllByRecursion}
use Rattle.model_system.specs.System.{System}
use Rattle.model_machine.specs.declared.entry.Entry.{Entry}
use Rattle.model_machine.specs.declared.entry.Entry.TheVariants.{Accept, Show, Acked as AckedEntry, Turn as TurnEntry, Commanded, Checked, Quiet as QuietEntry}
use Rattle.model_machine.specs.declared.entry.ControlCall.TheVariants.{Turn}
use Rattle.model_machine.specs.Machine.{Moment}
use Rattle.model_machine.specs.History.{after_entry, call_of}
use Rattle.model_session.specs.declared.asked.Asked.{Asked}
use Rattle.model_session.specs.declared.asked.Asked.TheVariants.{Bad, BadCommand, Stopped, Call, Quiet, Power, PowerIn, Restart, ColdStart}
use Rattle.model_session.specs.Blocks.{Block}
use Rattle.model_session.specs.Lines.{asked_of}
use Rattle.model_session.specs.QuietTurns.{AreTurns, region_behind_turns}
use Rattle.model_session.specs.Lives.{LifeState, LastLife, IsForcedTo, binds, ends_life, failed_force, forced_to, is_disk_fault, kept_life, life_moment, longer, now_in, with_life}
use Rattle.model_session.specs.SessionState.{Setting, SessionState, Outage, Standing, Stop, AreAllLives, broken, called_on, last_life, no_life, unbegun}
use Rattle.model_session.specs.SessionState.Standing.{Up, Down}
use Rattle.model_session.specs.Session.{AreServed, BeginsSession, EndsAt, IsBegunBy, IsRestarted, IsServedDown, IsServedUp, OpensSession, ServedBy}
use Rattle.model_session.proofs.Kept.{front_rises, head_is, tail_is}
use Rattle.session_law.specs.LeftOver.{IsLeftOver}
use Rattle.session_law.specs.SentAgain.{AreBound, IsLifeBound}
use Rattle.session_law.proofs.LifeEnds.{none_there}

apart : true ≡ false → ⊥
apart e = cc

-- ---- entries that don't bind

-- the disk's fault stands in place of an answer
pub fault_unbound : (entry : Entry) → is_disk_fault entry ≡ true → binds entry ≡ true → ⊥
fault_unbound (Accept terminal number segments (Ok taken)) fault binding = cc
fault_unbound (Accept terminal number segments (Err refused)) fault binding = cc
fault_unbound (Show terminal answer) fault binding = cc
fault_unbound (AckedEntry terminal number (Ok acked)) fault binding = cc
fault_unbound (AckedEntry terminal number (Err refused)) fault binding = cc
fault_unbound (TurnEntry region answer) fault binding = cc
fault_unbound (Commanded command (Ok answer)) fault binding = cc
fault_unbound (Commanded command (Err refused)) fault binding = cc
fault_unbound (Checked freeze (Ok number)) fault binding = cc
fault_unbound (Checked freeze (Err refused)) fault binding = cc
fault_unbound (QuietEntry quiet) fault binding = cc

-- a turn tells of nothing that binds
turn_unbound : (region : ℕ) (entry : Entry) → call_of entry ≡ Turn region → binds entry ≡ true → ⊥
turn_unbound region (TurnEntry other answer) is binding = cc
turn_unbound region (Accept terminal number segments answer) is binding = cc
turn_unbound region (Show terminal answer) is binding = cc
turn_unbound region (AckedEntry terminal number answer) is binding = cc
turn_unbound region (Commanded command answer) is binding = cc
turn_unbound region (Checked freeze answer) is binding = cc
turn_unbound region (QuietEntry quiet) is binding = cc

-- none of these entries binds
abbrev NoneBinds : List Entry → Type 0
NoneBinds entries = AllByRecursion (λ (entry : Entry). binds entry ≡ true → ⊥) entries

none_more : (entries others : List Entry) → NoneBinds entries → NoneBinds others → NoneBinds (entries ++ others)
none_more [] others none more = more
none_more (entry ∷ entries) others none more = (none.0, none_more entries others none.1 more)

turns_unbound : (system : System) (turns : List Entry) (before : ℕ) (moment : Moment) → AreTurns system before moment turns → NoneBinds turns
turns_unbound system [] before moment h = tt
turns_unbound system (entry ∷ entries) before moment h = (turn_unbound (region_behind_turns system before) entry h.1, turns_unbound system entries (suc before) (after_entry system moment entry) h.2)

none_within : (entries front rest : List Entry) (entry : Entry) → NoneBinds entries → entries ≡ front ++ entry ∷ rest → binds entry ≡ true → ⊥
none_within [] front rest entry none split binding = none_there front entry rest split
none_within (first ∷ entries) [] rest entry none split binding = none.0 (ap binds (head_is first entry entries rest split) ∙ binding)
none_within (first ∷ entries) (f ∷ front) rest entry none split binding = none_within entries front rest entry none.1 (tail_is first f entries (front ++ entry ∷ rest) split) binding

-- ---- where an entry stands

-- it stands in the one list, or in the other behind it
record StandsFirst (entries others front rest : List Entry) (entry : Entry) : Type 0 where
  behind : List Entry
  are : entries ≡ front ++ entry ∷ behind
  rest_is : rest ≡ behind ++ others

record StandsBehind (entries others front rest : List Entry) (entry : Entry) : Type 0 where
  before : List Entry
  front_is : front ≡ entries ++ before
  are : others ≡ before ++ entry ∷ rest

stands_at : (entries others front rest : List Entry) (entry : Entry) → entries ++ others ≡ front ++ entry ∷ rest → StandsFirst entries others front rest entry ⊎ StandsBehind entries others front rest entry
stands_at [] others front rest entry e = inr (record { before = front; front_is = refl; are = e })
stands_at (x ∷ entries) others [] rest entry e =
    inl (record { behind = entries; are = ap (λ z. z ∷ entries) (head_is x entry (entries ++ others) rest e); rest_is = sym (tail_is x entry (entries ++ others) rest e) })
stands_at (x ∷ entries) others (y ∷ front) rest entry e =
    let same : x ≡ y = head_is x y (entries ++ others) (front ++ entry ∷ rest) e in
    ⊎_elim
    (λ (h : StandsFirst entries others front rest entry). inl (record { behind = h.behind; are = ap (λ z. z ∷ entries) same ∙ ap (λ zs. y ∷ zs) h.are; rest_is = h.rest_is }))
    (λ (h : StandsBehind entries others front rest entry). inr (record { before = h.before; front_is = ap (λ zs. y ∷ zs) h.front_is ∙ ap (λ z. z ∷ (entries ++ h.before)) (sym same); are = h.are }))
    (stands_at entries others front rest entry (tail_is x y (entries ++ others) (front ++ entry ∷ rest) e))

-- ---- a life

-- all steps of the life up to an entry that binds are forced, whatever stands behind it
abbrev IsBoundThrough : System → LastLife → Type 0
IsBoundThrough system life =
    (front rest : List Entry) (entry : Entry) → life.history ≡ front ++ entry ∷ rest → binds entry ≡ true
    → (life_moment system life (front ++ entry ∷ [])).lasting.steps - life.opening.steps ≤ life.forced

-- or the disk failed in the force behind it
abbrev IsBoundAtEnd : System → LastLife → Type 0
IsBoundAtEnd system life =
    (front rest : List Entry) (entry : Entry) → life.history ≡ front ++ entry ∷ rest → binds entry ≡ true
    → (rest ≡ failed_force ∷ []) ⊎ ((life_moment system life (front ++ entry ∷ [])).lasting.steps - life.opening.steps ≤ life.forced)

on : (a b c : ℕ) → a ≤ b → b ≤ c → a ≤ c
on a b c first second = omega (arith, first, second)

module _ (system : System) where
  at_end : (life : LastLife) → IsBoundThrough system life → IsBoundAtEnd system life
  at_end life bound front rest entry split binding = inr (bound front rest entry split binding)

  -- the life goes on with entries of which none binds
  longer_bound : (life : LastLife) (entries : List Entry) (forced : ℕ) → life.forced ≤ forced → NoneBinds entries → IsBoundThrough system life → IsBoundThrough system (forced_to forced (longer life entries))
  longer_bound life entries forced least none bound front rest entry split binding = by (stands_at life.history entries front rest entry split) where
    by : StandsFirst life.history entries front rest entry ⊎ StandsBehind life.history entries front rest entry
        → (life_moment system life (front ++ entry ∷ [])).lasting.steps - life.opening.steps ≤ forced
    by (inl h) = on ((life_moment system life (front ++ entry ∷ [])).lasting.steps - life.opening.steps) life.forced forced (bound front h.behind entry h.are binding) least
    by (inr h) = absurd (none_within entries h.before rest entry none h.are binding)

  all_steps : (opening forced now : ℕ) → opening + forced ≡ now → now - opening ≤ forced
  all_steps opening forced now all = omega (arith, all)

  -- with one entry, where all its steps are forced if that binds
  one_bound : (life : LastLife) (entry : Entry) (forced : ℕ) → IsForcedTo system (longer life (entry ∷ [])) (binds entry) forced → IsBoundThrough system life → IsBoundThrough system (forced_to forced (longer life (entry ∷ [])))
  one_bound life entry forced is bound front rest other split binding = by (stands_at life.history (entry ∷ []) front rest other split) where
    last_one : (before : List Entry) → front ≡ life.history ++ before → entry ∷ [] ≡ before ++ other ∷ rest → (life_moment system life (front ++ other ∷ [])).lasting.steps - life.opening.steps ≤ forced
    last_one [] front_is are =
        let same : entry ≡ other = head_is entry other [] rest are in
        subst (λ (es : List Entry). (life_moment system life es).lasting.steps - life.opening.steps ≤ forced)
        (ap (λ (e : Entry). life.history ++ e ∷ []) same ∙ ap (λ (es : List Entry). es ++ other ∷ []) (sym (front_is ∙ append-nil life.history)))
        (all_steps life.opening.steps forced (life_moment system life (life.history ++ entry ∷ [])).lasting.steps (is.all (ap binds same ∙ binding)))
    last_one (b ∷ before) front_is are = absurd (none_there before other rest (tail_is entry b [] (before ++ other ∷ rest) are))

    by : StandsFirst life.history (entry ∷ []) front rest other ⊎ StandsBehind life.history (entry ∷ []) front rest other
        → (life_moment system life (front ++ other ∷ [])).lasting.steps - life.opening.steps ≤ forced
    by (inl h) = on ((life_moment system life (front ++ other ∷ [])).lasting.steps - life.opening.steps) life.forced forced (bound front h.behind other h.are binding) is.least
    by (inr h) = last_one h.before h.front_is h.are

  force_unbound : NoneBinds (failed_force ∷ [])
  force_unbound = ((λ binding. apart (sym binding)), tt)

  -- with one entry, and a force behind it in which the disk failed
  cut_bound : (life : LastLife) (entry : Entry) (forced : ℕ) → life.forced ≤ forced → IsBoundThrough system life → IsBoundAtEnd system (forced_to forced (longer life (entry ∷ failed_force ∷ [])))
  cut_bound life entry forced least bound front rest other split binding = by (stands_at life.history (entry ∷ failed_force ∷ []) front rest other split) where
    Claim : Type 0
    Claim = (rest ≡ failed_force ∷ []) ⊎ ((life_moment system life (front ++ other ∷ [])).lasting.steps - life.opening.steps ≤ forced)

    last_two : (before : List Entry) → entry ∷ failed_force ∷ [] ≡ before ++ other ∷ rest → Claim
    last_two [] are = inl (sym (tail_is entry other (failed_force ∷ []) rest are))
    last_two (b ∷ before) are = absurd (none_within (failed_force ∷ []) before rest other force_unbound (tail_is entry b (failed_force ∷ []) (before ++ other ∷ rest) are) binding)

    by : StandsFirst life.history (entry ∷ failed_force ∷ []) front rest other ⊎ StandsBehind life.history (entry ∷ failed_force ∷ []) front rest other → Claim
    by (inl h) = inr (on ((life_moment system life (front ++ other ∷ [])).lasting.steps - life.opening.steps) life.forced forced (bound front h.behind other h.are binding) least)
    by (inr h) = last_two h.before h.are

  -- all its steps are forced
  all_forced : (life : LastLife) (forced : ℕ) → life.opening.steps + forced ≡ (now_in system life).lasting.steps → IsBoundThrough system (forced_to forced (longer life []))
  all_forced life forced all front rest entry split binding =
      let whole : life.history ≡ (front ++ entry ∷ []) ++ rest = sym (append-nil life.history) ∙ split ∙ sym (append_assoc front (entry ∷ []) rest) in
      up_to_now (life_moment system life (front ++ entry ∷ [])).lasting.steps (now_in system life).lasting.steps life.opening.steps forced
      (subst (λ (es : List Entry). (life_moment system life (front ++ entry ∷ [])).lasting.steps ≤ (life_moment system life es).lasting.steps) (sym whole)
      (front_rises system (life_moment system life []) (front ++ entry ∷ []) rest)) all
    where
      up_to_now : (steps now opening forced : ℕ) → steps ≤ now → opening + forced ≡ now → steps - opening ≤ forced
      up_to_now steps now opening forced less all = omega (arith, less, all)

-- ---- lives

bound_more : (system : System) (lives : List LifeState) (life : LifeState) → AreBound system lives → IsLifeBound system life → AreBound system (lives ++ life ∷ [])
bound_more system [] life bound its = (its, tt)
bound_more system (first ∷ lives) life bound its = (bound.0, bound_more system lives life bound.1 its)

-- of a life that is up, and of one that has ended
abbrev IsLastBound : System → Option LastLife → Type 0
IsLastBound system None = Unit {0}
IsLastBound system (Some life) = IsBoundAtEnd system life

abbrev IsStandingBound : System → Standing → Type 0
IsStandingBound system (Up life) = IsBoundThrough system life
IsStandingBound system (Down outage) = IsLastBound system outage.last

-- the lives of a session so far
pub record IsSessionBound (setting : Setting) (state : SessionState) : Type 0 where
  pub lives : AreBound setting.system state.lives
  pub last : IsStandingBound setting.system state.standing

with_last : (system : System) (lives : List LifeState) (last : Option LastLife) (kept : ℕ) → AreBound system lives → IsLastBound system last → AreBound system (with_life lives last kept)
with_last system lives None kept bound its = bound
with_last system lives (Some life) kept bound its = bound_more system lives (kept_life life kept) bound its

last_of : (system : System) (standing : Standing) → IsStandingBound system standing → IsLastBound system (last_life standing)
last_of system (Up life) its = at_end system life its
last_of system (Down outage) its = its

none_entered : (system : System) (life : LastLife) → life.history ≡ [] → IsBoundThrough system life
none_entered system life none front rest entry split binding = absurd (none_there front entry rest (sym none ∙ split))

-- ---- a session

module _ (setting : Setting) where
  abbrev Bound : SessionState → Type 0
  Bound state = IsSessionBound setting state

  same_bound : (old new : SessionState) → new ≡ old → Bound old → Bound new
  same_bound old new same bound = subst Bound (sym same) bound

  called_bound : (b : Bool) (old : SessionState) (life : LastLife) (entries : List Entry) (forced : ℕ) → AreBound setting.system old.lives → IsBoundThrough setting.system (forced_to forced (longer life entries)) → Bound (called_on b old life entries forced)
  called_bound true old life entries forced lives its = record { lives = lives; last = at_end setting.system (forced_to forced (longer life entries)) its }
  called_bound false old life entries forced lives its = record { lives = lives; last = its }

  broken_bound : (old : SessionState) (life : LastLife) (entries : List Entry) (forced : ℕ) (stop : Stop) → AreBound setting.system old.lives → IsBoundAtEnd setting.system (forced_to forced (longer life entries)) → Bound (broken old life entries forced stop)
  broken_bound old life entries forced stop lives its = record { lives = lives; last = its }

  -- with entries of which none binds the life ended, or goes on
  unbound_end : (life : LastLife) (entries : List Entry) (forced : ℕ) → life.forced ≤ forced → NoneBinds entries → IsBoundThrough setting.system life → IsBoundAtEnd setting.system (forced_to forced (longer life entries))
  unbound_end life entries forced least none bound = at_end setting.system (forced_to forced (longer life entries)) (longer_bound setting.system life entries forced least none bound)

  same_forced : (n : ℕ) → n ≤ n
  same_forced n = omega arith

  up_bound : (asked : Asked) (old : SessionState) (life : LastLife) (new : SessionState) (text : List ℕ) → Bound old → IsBoundThrough setting.system life → IsServedUp asked setting old life new text → Bound new
  up_bound (Bad rule) old life new text bound its (same, printed) = same_bound old new same bound
  up_bound (BadCommand rule) old life new text bound its (same, printed) = same_bound old new same bound
  up_bound (Stopped terminal number reason) old life new text bound its (same, printed) = same_bound old new same bound
  up_bound (Call call) old life new text bound its (inl one) =
      subst Bound (sym one.goes) (called_bound (ends_life one.entry) old life (one.entry ∷ []) one.forced bound.lives (one_bound setting.system life one.entry one.forced one.is_forced its))
  up_bound (Call call) old life new text bound its (inr (inl one)) =
      subst Bound (sym one.ends)
      (broken_bound old life (one.entry ∷ []) one.forced one.stop bound.lives
      (unbound_end life (one.entry ∷ []) one.forced one.is_forced.least (fault_unbound one.entry one.breaks.fault, tt) its))
  up_bound (Call call) old life new text bound its (inr (inr one)) =
      subst Bound (sym one.ends)
      (broken_bound old life (one.entry ∷ failed_force ∷ []) one.forced one.stop bound.lives (cut_bound setting.system life one.entry one.forced one.is_forced.least its))
  up_bound (Quiet most) old life new text bound its (inl one) =
      subst Bound (sym one.goes)
      (called_bound false old life one.turns one.forced bound.lives
      (longer_bound setting.system life one.turns one.forced one.is_forced.least (turns_unbound setting.system one.turns 0 (now_in setting.system life) one.quieted.turns) its))
  up_bound (Quiet most) old life new text bound its (inr one) =
      subst Bound (sym one.ends)
      (broken_bound old life (one.turns ++ one.entry ∷ []) one.forced one.stop bound.lives
      (unbound_end life (one.turns ++ one.entry ∷ []) one.forced one.is_forced.least
      (none_more one.turns (one.entry ∷ []) (turns_unbound setting.system one.turns 0 (now_in setting.system life) one.begun.turns) (fault_unbound one.entry one.breaks.fault, tt)) its))
  up_bound (Power pick) old life new text bound its (same, printed) =
      subst Bound (sym same) (record { lives = bound.lives; last = unbound_end life [] life.forced (same_forced life.forced) tt its })
  up_bound (PowerIn writes pick) old life new text bound its (same, printed) = subst Bound (sym same) (record { lives = bound.lives; last = bound.last })
  up_bound Restart old life new text bound its (same, printed) = same_bound old new same bound
  up_bound ColdStart old life new text bound its (same, printed) = same_bound old new same bound

  opened_bound : (cold : Bool) (old : SessionState) (outage : Outage) (new : SessionState) → AreBound setting.system old.lives → IsLastBound setting.system outage.last → OpensSession cold setting old outage new → Bound new
  opened_bound cold old outage new lives its opens =
      subst Bound (sym opens.goes) (record {
        lives = with_last setting.system old.lives outage.last opens.kept lives its;
        last = none_entered setting.system (record { opening = opens.state; checkpoint = opens.checkpoint; history = []; forced = 0 }) refl;
      })

  restart_bound : (cold : Bool) (old : SessionState) (outage : Outage) (new : SessionState) (text : List ℕ) → Bound old → IsLastBound setting.system outage.last → IsRestarted cold setting old outage new text → Bound new
  restart_bound cold old outage new text bound its (inl (opens, printed)) = opened_bound cold old outage new bound.lives its opens
  restart_bound cold old outage new text bound its (inr (inl (fails, printed))) = subst Bound (sym fails.ends) (record { lives = bound.lives; last = its })
  restart_bound cold old outage new text bound its (inr (inr none)) = same_bound old new none.stays bound

  down_bound : (asked : Asked) (old : SessionState) (outage : Outage) (new : SessionState) (text : List ℕ) → Bound old → IsLastBound setting.system outage.last → IsServedDown asked setting old outage new text → Bound new
  down_bound (Bad rule) old outage new text bound its (same, printed) = same_bound old new same bound
  down_bound (BadCommand rule) old outage new text bound its (same, printed) = same_bound old new same bound
  down_bound (Stopped terminal number reason) old outage new text bound its (same, printed) = same_bound old new same bound
  down_bound (Call call) old outage new text bound its (same, printed) = same_bound old new same bound
  down_bound (Quiet most) old outage new text bound its (same, printed) = same_bound old new same bound
  down_bound (Power pick) old outage new text bound its (same, printed) = same_bound old new same bound
  down_bound (PowerIn writes pick) old outage new text bound its (same, printed) = same_bound old new same bound
  down_bound Restart old outage new text bound its one = restart_bound false old outage new text bound its one
  down_bound ColdStart old outage new text bound its one = restart_bound true old outage new text bound its one

  block_bound : (standing : Standing) (asked : Asked) (old new : SessionState) (text : List ℕ) → IsStandingBound setting.system standing → Bound old → ServedBy standing asked setting old new text → Bound new
  block_bound (Up life) asked old new text its bound one = up_bound asked old life new text bound its one
  block_bound (Down outage) asked old new text its bound one = down_bound asked old outage new text bound its one

  pub blocks_bound : (blocks : List Block) (old new : SessionState) (text : List ℕ) → AreServed setting blocks old new text → IsSessionBound setting old → IsSessionBound setting new
  blocks_bound [] old new text (same, none) bound = same_bound old new same bound
  blocks_bound (block ∷ blocks) old new text one bound =
      blocks_bound blocks one.mid new one.later one.on (block_bound old.standing (asked_of setting.system block) old one.mid one.first bound.last bound one.here)

  pub begun_bound : (first : SessionState) → BeginsSession setting first → IsSessionBound setting first
  begun_bound first (inl opens) = opened_bound false unbegun no_life first tt tt opens
  begun_bound first (inr fails) = subst Bound (sym fails.ends) (record { lives = tt; last = tt })

  -- turns of a QUIET that broke off
  turned_bound : (asked : Asked) (old : SessionState) (standing : Standing) (new : SessionState) → IsStandingBound setting.system standing → IsBegunBy asked setting.system old standing new → Bound old → Bound new
  turned_bound (Quiet most) old (Up life) new its (inl same) bound = same_bound old new same bound
  turned_bound (Quiet most) old (Up life) new its (inr one) bound =
      subst Bound (sym one.goes)
      (called_bound false old life one.turns one.forced bound.lives
      (longer_bound setting.system life one.turns one.forced one.is_forced.least (turns_unbound setting.system one.turns 0 (now_in setting.system life) one.begun.turns) its))
  turned_bound (Quiet most) old (Down outage) new its same bound = same_bound old new same bound
  turned_bound (Bad rule) old standing new its same bound = same_bound old new same bound
  turned_bound (BadCommand rule) old standing new its same bound = same_bound old new same bound
  turned_bound (Stopped terminal number reason) old standing new its same bound = same_bound old new same bound
  turned_bound (Call call) old standing new its same bound = same_bound old new same bound
  turned_bound (Power pick) old standing new its same bound = same_bound old new same bound
  turned_bound (PowerIn writes pick) old standing new its same bound = same_bound old new same bound
  turned_bound Restart old standing new its same bound = same_bound old new same bound
  turned_bound ColdStart old standing new its same bound = same_bound old new same bound

  -- the end of the source
  ended_bound : (old : SessionState) (standing : Standing) (new : SessionState) (text : List ℕ) → IsStandingBound setting.system standing → EndsAt standing setting.system old new text → Bound old → Bound new
  ended_bound old (Up life) new text its (inl one) bound = subst Bound (sym one.goes) (called_bound false old life [] one.forced bound.lives (all_forced setting.system life one.forced one.all))
  ended_bound old (Up life) new text its (inr cut) bound =
      subst Bound (sym cut.ends)
      (broken_bound old life (failed_force ∷ []) life.forced cut.stop bound.lives (unbound_end life (failed_force ∷ []) life.forced (same_forced life.forced) (force_unbound setting.system) its))
  ended_bound old (Down outage) new text its (same, none) bound = same_bound old new same bound

  pub left_bound : (others : List Block) (mid last : SessionState) → IsLeftOver setting.system others mid last → IsSessionBound setting mid → IsSessionBound setting last
  left_bound others mid last (inl same) bound = same_bound mid last same bound
  left_bound [] mid last (inr (inl same)) bound = same_bound mid last same bound
  left_bound (block ∷ others) mid last (inr (inl one)) bound = turned_bound (asked_of setting.system block) mid mid.standing last bound.last one bound
  left_bound others mid last (inr (inr (text, ends))) bound = ended_bound mid mid.standing last text bound.last ends bound

  pub bound_lives : (last : SessionState) (lives : List LifeState) → AreAllLives setting.system last lives → IsSessionBound setting last → AreBound setting.system lives
  bound_lives last lives all bound =
      subst (AreBound setting.system) (sym all.are) (with_last setting.system last.lives (last_life last.standing) all.count bound.lives (last_of setting.system last.standing bound.last))

  -- So it is of all lives of a session, whatever its disk tells.
  pub lives_bound : (blocks others : List Block) (first mid last : SessionState) (text : List ℕ) (lives : List LifeState) → BeginsSession setting first → AreServed setting blocks first mid text
      → IsLeftOver setting.system others mid last → AreAllLives setting.system last lives → AreBound setting.system lives
  lives_bound blocks others first mid last text lives begins served left all =
      bound_lives last lives all (left_bound others mid last left (blocks_bound blocks first mid text served (begun_bound first begins)))
