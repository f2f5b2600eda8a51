-- The first life of a session opens what was handed in, where no block asks for a cold start.
use Rattle.std.proofs.Common.{◌≡◌, ◌≢◌, ◌⊎◌, ℕ, Bool, true, false, List, [], ◌∷◌, sym, ◌∙◌, subst, refl, inl, inr}
use Rattle.std.specs.Prelude.{Option, Some, None}
use Rattle.std.specs.Option.{is_some}
use Rattle.std.specs.List.{AllByRecursion}
use Rattle.model_machine.specs.Machine.{LastingState}
use Rattle.model_system.specs.System.{System}
use Rattle.model_session.specs.declared.asked.Asked.{Asked}
use Rattle.model_session.specs.declared.asked.Asked.TheVariants.{Bad, BadCommand, Stopped, Call, Quiet, Power, PowerIn, Restart, ColdStart}
use Rattle.model_session.specs.Blocks.{Block}
use Rattle.model_session.specs.Lines.{asked_of}
use Rattle.model_machine.specs.declared.entry.Entry.{Entry}
use Rattle.model_session.specs.Lives.{LastLife}
use Rattle.model_session.specs.SessionState.{Setting, SessionState, Outage, Standing, IsStateEmptied, MayBeFound, no_life, unbegun, called_on, is_session_stopped, last_life}
use Rattle.model_session.specs.SessionState.Standing.{Up, Down}
use Rattle.model_session.specs.Session.{OpensSession, ServedBy, IsServedUp, IsServedDown, IsRestarted, AreServed, BeginsSession, IsSessionBegun, IsBegunBy, EndsAt, IsSourceEnded}
use Rattle.session_law.specs.LeftOver.{IsLeftOver}

-- ---- what was handed in

-- What was handed in was opened: it is of the definition's text, and this is a state of it.
pub record IsFound (setting : Setting) : Type 0 where
  pub opening : LastingState
  pub begins : setting.begins opening
  pub right : setting.right_text

-- no life has begun, and no cold start has emptied what was handed in
pub record IsUntouched (outage : Outage) : Type 0 where
  pub first : outage.last ≡ None
  pub not_emptied : outage.emptied ≡ false

module _ (setting : Setting) (tells : setting.tells ≡ true) where
  abbrev Stands : Standing → Type 0
  Stands (Up life) = IsFound setting
  Stands (Down outage) = IsUntouched outage ⊎ IsFound setting

  found_stands : (standing : Standing) → IsFound setting → Stands standing
  found_stands (Up life) found = found
  found_stands (Down outage) found = inr found

  same_stands : (new old : SessionState) (standing : Standing) → new ≡ old → old.standing ≡ standing → Stands standing → Stands new.standing
  same_stands new old standing same at stands = subst (λ (s : SessionState). Stands s.standing) (sym same) (subst Stands (sym at) stands)

  -- ---- an opening

  found_by : (last : Option LastLife) (emptied stopped : Bool) (kept : ℕ) (state : LastingState) → last ≡ None → emptied ≡ false
      → MayBeFound setting (record { last = last; emptied = emptied; stopped = stopped }) kept state → setting.begins state
  found_by None emptied stopped kept state none not (inl begins) = begins
  found_by None emptied stopped kept state none not (inr empty) = let never : true ≡ false = sym empty.broke_off ∙ not in cc
  found_by (Some life) emptied stopped kept state none not found = cc

  right_by : (last : Option LastLife) (emptied : Bool) (kept : ℕ) (state : LastingState) → emptied ≡ false → setting.right_text ⊎ IsStateEmptied setting.system last emptied kept state → setting.right_text
  right_by last emptied kept state not (inl right) = right
  right_by last emptied kept state not (inr empty) = let never : true ≡ false = sym empty.broke_off ∙ not in cc

  opens_found : (old : SessionState) (outage : Outage) (new : SessionState) → IsUntouched outage → OpensSession false setting old outage new → IsFound setting
  opens_found old outage new yet opens = record {
    opening = opens.state;
    begins = found_by outage.last outage.emptied outage.stopped opens.kept opens.state yet.first yet.not_emptied (opens.may tells);
    right = right_by outage.last outage.emptied opens.kept opens.state yet.not_emptied (opens.right tells (record { found = refl; first = yet.first }));
  }

  restart_stands : (old : SessionState) (outage : Outage) (new : SessionState) (text : List ℕ) → old.standing ≡ Down outage → IsUntouched outage → IsRestarted false setting old outage new text → Stands new.standing
  restart_stands old outage new text at yet (inl (opens, printed)) = found_stands new.standing (opens_found old outage new yet opens)
  restart_stands old outage new text at yet (inr (inl (fails, printed))) =
      subst (λ (s : SessionState). Stands s.standing) (sym fails.ends) (inl (record { first = yet.first; not_emptied = yet.not_emptied }))
  restart_stands old outage new text at yet (inr (inr none)) = same_stands new old (Down outage) none.stays at (inl yet)

  -- ---- a block

  down_stands : (asked : Asked) (old : SessionState) (outage : Outage) (new : SessionState) (text : List ℕ) → asked ≢ ColdStart → old.standing ≡ Down outage → IsUntouched outage
      → IsServedDown asked setting old outage new text → Stands new.standing
  down_stands (Bad rule) old outage new text warm at yet (same, printed) = same_stands new old (Down outage) same at (inl yet)
  down_stands (BadCommand rule) old outage new text warm at yet (same, printed) = same_stands new old (Down outage) same at (inl yet)
  down_stands (Stopped terminal number reason) old outage new text warm at yet (same, printed) = same_stands new old (Down outage) same at (inl yet)
  down_stands (Call call) old outage new text warm at yet (same, printed) = same_stands new old (Down outage) same at (inl yet)
  down_stands (Quiet most) old outage new text warm at yet (same, printed) = same_stands new old (Down outage) same at (inl yet)
  down_stands (Power pick) old outage new text warm at yet (same, printed) = same_stands new old (Down outage) same at (inl yet)
  down_stands (PowerIn writes pick) old outage new text warm at yet (same, printed) = same_stands new old (Down outage) same at (inl yet)
  down_stands Restart old outage new text warm at yet one = restart_stands old outage new text at yet one
  down_stands ColdStart old outage new text warm at yet one = absurd (warm refl)

  block_stands : (asked : Asked) (old new : SessionState) (text : List ℕ) → asked ≢ ColdStart → (standing : Standing) → old.standing ≡ standing → ServedBy standing asked setting old new text → Stands standing
      → Stands new.standing
  block_stands asked old new text warm (Up life) at one found = found_stands new.standing found
  block_stands asked old new text warm (Down outage) at one (inr found) = found_stands new.standing found
  block_stands asked old new text warm (Down outage) at one (inl yet) = down_stands asked old outage new text warm at yet one

  blocks_stand : (blocks : List Block) (old new : SessionState) (text : List ℕ) → AllByRecursion (λ (block : Block). asked_of setting.system block ≢ ColdStart) blocks → AreServed setting blocks old new text
      → Stands old.standing → Stands new.standing
  blocks_stand [] old new text warm (same, none) stands = same_stands new old old.standing same refl stands
  blocks_stand (block ∷ blocks) old new text warm one stands =
      blocks_stand blocks one.mid new one.later warm.1 one.on (block_stands (asked_of setting.system block) old one.mid one.first warm.0 old.standing refl one.here stands)

  first_stands : (first : SessionState) → BeginsSession setting first → Stands first.standing
  first_stands first (inl opens) = found_stands first.standing (opens_found unbegun no_life first (record { first = refl; not_emptied = refl }) opens)
  first_stands first (inr fails) = subst (λ (s : SessionState). Stands s.standing) (sym fails.ends) (inl (record { first = refl; not_emptied = refl }))

  -- ---- turns of a QUIET that broke off

  begun_stands : (asked : Asked) (system : System) (old : SessionState) (standing : Standing) (new : SessionState) → old.standing ≡ standing → IsBegunBy asked system old standing new → Stands standing → Stands new.standing
  begun_stands asked system old (Up life) new at one found = found_stands new.standing found
  begun_stands (Quiet most) system old (Down outage) new at same stands = same_stands new old (Down outage) same at stands
  begun_stands (Bad rule) system old (Down outage) new at same stands = same_stands new old (Down outage) same at stands
  begun_stands (BadCommand rule) system old (Down outage) new at same stands = same_stands new old (Down outage) same at stands
  begun_stands (Stopped terminal number reason) system old (Down outage) new at same stands = same_stands new old (Down outage) same at stands
  begun_stands (Call call) system old (Down outage) new at same stands = same_stands new old (Down outage) same at stands
  begun_stands (Power pick) system old (Down outage) new at same stands = same_stands new old (Down outage) same at stands
  begun_stands (PowerIn writes pick) system old (Down outage) new at same stands = same_stands new old (Down outage) same at stands
  begun_stands Restart system old (Down outage) new at same stands = same_stands new old (Down outage) same at stands
  begun_stands ColdStart system old (Down outage) new at same stands = same_stands new old (Down outage) same at stands

  turns_stand : (system : System) (others : List Block) (mid last : SessionState) → IsSessionBegun system others mid last → Stands mid.standing → Stands last.standing
  turns_stand system [] mid last same stands = same_stands last mid mid.standing same refl stands
  turns_stand system (block ∷ others) mid last one stands = begun_stands (asked_of system block) system mid mid.standing last refl one stands

  -- ---- the end of the source

  end_stands : (system : System) (old : SessionState) (standing : Standing) (new : SessionState) (text : List ℕ) → old.standing ≡ standing → EndsAt standing system old new text → Stands standing → Stands new.standing
  end_stands system old (Up life) new text at one found = found_stands new.standing found
  end_stands system old (Down outage) new text at (same, none) stands = same_stands new old (Down outage) same at stands

  left_stands : (system : System) (others : List Block) (mid last : SessionState) → IsLeftOver system others mid last → Stands mid.standing → Stands last.standing
  left_stands system others mid last (inl same) stands = same_stands last mid mid.standing same refl stands
  left_stands system others mid last (inr (inl turns)) stands = turns_stand system others mid last turns stands
  left_stands system others mid last (inr (inr (text, one))) stands = end_stands system mid mid.standing last text refl one stands

  some_none : (last : Option LastLife) → is_some last ≡ true → last ≡ None → ⊥
  some_none None some none = cc
  some_none (Some life) some none = cc

  life_found : (standing : Standing) → is_some (last_life standing) ≡ true → Stands standing → IsFound setting
  life_found (Up life) some found = found
  life_found (Down outage) some (inl yet) = absurd (some_none outage.last some yet.first)
  life_found (Down outage) some (inr found) = found

  -- A life has begun, and no block asked for a cold start: what was handed in was opened.
  pub opened_found : (blocks others : List Block) (first mid last : SessionState) (text : List ℕ) → BeginsSession setting first → AreServed setting blocks first mid text → IsLeftOver setting.system others mid last
      → AllByRecursion (λ (block : Block). asked_of setting.system block ≢ ColdStart) blocks → is_some (last_life last.standing) ≡ true → IsFound setting
  opened_found blocks others first mid last text begins served left warm some =
      life_found last.standing some (left_stands setting.system others mid last left (blocks_stand blocks first mid text warm served (first_stands first begins)))

-- ---- no life

-- where no life has begun, the system is down by a stop
abbrev IsTold : SessionState → Type 0
IsTold state = last_life state.standing ≡ None → is_session_stopped state.standing ≡ true

told_same : (new old : SessionState) → new ≡ old → IsTold old → IsTold new
told_same new old same told = subst IsTold (sym same) told

told_called : (ends : Bool) (state : SessionState) (life : LastLife) (entries : List Entry) (forced : ℕ) → IsTold (called_on ends state life entries forced)
told_called true state life entries forced = λ none. cc
told_called false state life entries forced = λ none. cc

module _ (setting : Setting) where
  told_up : (asked : Asked) (old : SessionState) (life : LastLife) (new : SessionState) (text : List ℕ) → IsServedUp asked setting old life new text → IsTold old → IsTold new
  told_up (Bad rule) old life new text (same, printed) told = told_same new old same told
  told_up (BadCommand rule) old life new text (same, printed) told = told_same new old same told
  told_up (Stopped terminal number reason) old life new text (same, printed) told = told_same new old same told
  told_up (Call call) old life new text (inl one) told = told_same new _ one.goes (told_called _ old life _ _)
  told_up (Call call) old life new text (inr (inl one)) told = told_same new _ one.ends (λ none. cc)
  told_up (Call call) old life new text (inr (inr one)) told = told_same new _ one.ends (λ none. cc)
  told_up (Quiet most) old life new text (inl one) told = told_same new _ one.goes (λ none. cc)
  told_up (Quiet most) old life new text (inr one) told = told_same new _ one.ends (λ none. cc)
  told_up (Power pick) old life new text (same, printed) told = told_same new _ same (λ none. cc)
  told_up (PowerIn writes pick) old life new text (same, printed) told = told_same new _ same told
  told_up Restart old life new text (same, printed) told = told_same new old same told
  told_up ColdStart old life new text (same, printed) told = told_same new old same told

  told_restart : (cold : Bool) (old : SessionState) (outage : Outage) (new : SessionState) (text : List ℕ) → IsRestarted cold setting old outage new text → IsTold old → IsTold new
  told_restart cold old outage new text (inl (opens, printed)) told = told_same new _ opens.goes (λ none. cc)
  told_restart cold old outage new text (inr (inl (fails, printed))) told = told_same new _ fails.ends (λ none. refl)
  told_restart cold old outage new text (inr (inr none)) told = told_same new old none.stays told

  told_down : (asked : Asked) (old : SessionState) (outage : Outage) (new : SessionState) (text : List ℕ) → IsServedDown asked setting old outage new text → IsTold old → IsTold new
  told_down (Bad rule) old outage new text (same, printed) told = told_same new old same told
  told_down (BadCommand rule) old outage new text (same, printed) told = told_same new old same told
  told_down (Stopped terminal number reason) old outage new text (same, printed) told = told_same new old same told
  told_down (Call call) old outage new text (same, printed) told = told_same new old same told
  told_down (Quiet most) old outage new text (same, printed) told = told_same new old same told
  told_down (Power pick) old outage new text (same, printed) told = told_same new old same told
  told_down (PowerIn writes pick) old outage new text (same, printed) told = told_same new old same told
  told_down Restart old outage new text one told = told_restart false old outage new text one told
  told_down ColdStart old outage new text one told = told_restart true old outage new text one told

  told_block : (standing : Standing) (asked : Asked) (old new : SessionState) (text : List ℕ) → ServedBy standing asked setting old new text → IsTold old → IsTold new
  told_block (Up life) asked old new text one told = told_up asked old life new text one told
  told_block (Down outage) asked old new text one told = told_down asked old outage new text one told

  told_blocks : (blocks : List Block) (old new : SessionState) (text : List ℕ) → AreServed setting blocks old new text → IsTold old → IsTold new
  told_blocks [] old new text (same, none) told = told_same new old same told
  told_blocks (block ∷ blocks) old new text one told =
      told_blocks blocks one.mid new one.later one.on (told_block old.standing (asked_of setting.system block) old one.mid one.first one.here told)

  told_first : (first : SessionState) → BeginsSession setting first → IsTold first
  told_first first (inl opens) = told_same first _ opens.goes (λ none. cc)
  told_first first (inr fails) = told_same first _ fails.ends (λ none. refl)

  told_end : (system : System) (old : SessionState) (standing : Standing) (new : SessionState) (text : List ℕ) → EndsAt standing system old new text → IsTold old → IsTold new
  told_end system old (Up life) new text (inl one) told = told_same new _ one.goes (λ none. cc)
  told_end system old (Up life) new text (inr one) told = told_same new _ one.ends (λ none. cc)
  told_end system old (Down outage) new text (same, none) told = told_same new old same told

  -- A session that isn't down by a stop behind the end of its source has begun a life.
  life_by : (last : Option LastLife) (stopped : Bool) → (last ≡ None → stopped ≡ true) → stopped ≡ false → is_some last ≡ true
  life_by None stopped told not = let never : true ≡ false = sym (told refl) ∙ not in cc
  life_by (Some life) stopped told not = refl

  pub life_begun : (blocks : List Block) (first mid last : SessionState) (text end_text : List ℕ) → BeginsSession setting first → AreServed setting blocks first mid text → IsSourceEnded setting.system mid last end_text
      → is_session_stopped last.standing ≡ false → is_some (last_life last.standing) ≡ true
  life_begun blocks first mid last text end_text begins served ends not =
      life_by (last_life last.standing) (is_session_stopped last.standing)
      (told_end setting.system mid mid.standing last end_text ends (told_blocks blocks first mid text served (told_first first begins))) not
