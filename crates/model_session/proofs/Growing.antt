-- A stop that was told stays told.
use Rattle.std.proofs.Common.{◌≡◌, ◌≢◌, ℕ, Bool, true, false, List, [], ◌∷◌, ◌++◌, sym, subst, inl, inr}
use Rattle.model_machine.specs.declared.entry.Entry.{Entry}
use Rattle.model_system.specs.System.{System}
use Rattle.model_session.specs.declared.asked.Asked.{Asked}
use Rattle.model_session.specs.declared.asked.Asked.TheVariants.{Bad, BadCommand, Stopped, Call, Quiet, Power, PowerIn, Restart, ColdStart}
use Rattle.model_session.specs.Blocks.{Block}
use Rattle.model_session.specs.Lines.{asked_of}
use Rattle.model_session.specs.Lives.{LastLife, ends_life}
use Rattle.model_session.specs.SessionState.{Setting, SessionState, Outage, Standing, Stop, no_life, unbegun, called_on, failed}
use Rattle.model_session.specs.SessionState.Standing.{Up, Down}
use Rattle.model_session.specs.Session.{ServedBy, IsServedUp, IsServedDown, IsRestarted, AreServed, EndsAt, IsSourceEnded}

-- a stop is told
abbrev pub HasStop : SessionState → Type 0
HasStop state = state.stops ≢ []

more : (stops : List Stop) (stop : Stop) → stops ++ stop ∷ [] ≢ []
more [] stop e = cc
more (first ∷ stops) stop e = cc

has : (new old : SessionState) → new ≡ old → HasStop old → HasStop new
has new old same h = subst HasStop (sym same) h

calling : (ends : Bool) (state : SessionState) (life : LastLife) (entries : List Entry) (forced : ℕ) → HasStop state → HasStop (called_on ends state life entries forced)
calling true state life entries forced h = h
calling false state life entries forced h = h

module _ (setting : Setting) where
  by_up : (asked : Asked) (old : SessionState) (life : LastLife) (new : SessionState) (text : List ℕ) → IsServedUp asked setting old life new text → HasStop old → HasStop new
  by_up (Bad rule) old life new text (same, printed) h = has new old same h
  by_up (BadCommand rule) old life new text (same, printed) h = has new old same h
  by_up (Stopped terminal number reason) old life new text (same, printed) h = has new old same h
  by_up (Call call) old life new text (inl one) h = has new _ one.goes (calling (ends_life one.entry) old life (one.entry ∷ []) one.forced h)
  by_up (Call call) old life new text (inr (inl one)) h = has new _ one.ends (more old.stops one.stop)
  by_up (Call call) old life new text (inr (inr one)) h = has new _ one.ends (more old.stops one.stop)
  by_up (Quiet most) old life new text (inl one) h = has new _ one.goes h
  by_up (Quiet most) old life new text (inr one) h = has new _ one.ends (more old.stops one.stop)
  by_up (Power pick) old life new text (same, printed) h = has new _ same h
  by_up (PowerIn writes pick) old life new text (same, printed) h = has new _ same h
  by_up Restart old life new text (same, printed) h = has new old same h
  by_up ColdStart old life new text (same, printed) h = has new old same h

  by_restart : (cold : Bool) (old : SessionState) (outage : Outage) (new : SessionState) (text : List ℕ) → IsRestarted cold setting old outage new text → HasStop old → HasStop new
  by_restart cold old outage new text (inl (opens, printed)) h = has new _ opens.goes h
  by_restart cold old outage new text (inr (inl (fails, printed))) h = has new _ fails.ends (more old.stops fails.stop)
  by_restart cold old outage new text (inr (inr none)) h = has new old none.stays h

  by_down : (asked : Asked) (old : SessionState) (outage : Outage) (new : SessionState) (text : List ℕ) → IsServedDown asked setting old outage new text → HasStop old → HasStop new
  by_down (Bad rule) old outage new text (same, printed) h = has new old same h
  by_down (BadCommand rule) old outage new text (same, printed) h = has new old same h
  by_down (Stopped terminal number reason) old outage new text (same, printed) h = has new old same h
  by_down (Call call) old outage new text (same, printed) h = has new old same h
  by_down (Quiet most) old outage new text (same, printed) h = has new old same h
  by_down (Power pick) old outage new text (same, printed) h = has new old same h
  by_down (PowerIn writes pick) old outage new text (same, printed) h = has new old same h
  by_down Restart old outage new text one h = by_restart false old outage new text one h
  by_down ColdStart old outage new text one h = by_restart true old outage new text one h

  by_standing : (standing : Standing) (asked : Asked) (old new : SessionState) (text : List ℕ) → ServedBy standing asked setting old new text → HasStop old → HasStop new
  by_standing (Up life) asked old new text one h = by_up asked old life new text one h
  by_standing (Down outage) asked old new text one h = by_down asked old outage new text one h

  pub stop_stays : (blocks : List Block) (old new : SessionState) (text : List ℕ) → AreServed setting blocks old new text → HasStop old → HasStop new
  stop_stays [] old new text (same, none) h = has new old same h
  stop_stays (block ∷ blocks) old new text one h =
      stop_stays blocks one.mid new one.later one.on (by_standing old.standing (asked_of setting.system block) old one.mid one.first one.here h)

-- and where its source has ended
ended_at : (system : System) (old : SessionState) (standing : Standing) (new : SessionState) (text : List ℕ) → EndsAt standing system old new text → HasStop old → HasStop new
ended_at system old (Up life) new text (inl forced) h = has new _ forced.goes h
ended_at system old (Up life) new text (inr cut) h = has new _ cut.ends (more old.stops cut.stop)
ended_at system old (Down outage) new text (same, none) h = has new old same h

pub stop_at_end : (system : System) (old new : SessionState) (text : List ℕ) → IsSourceEnded system old new text → HasStop old → HasStop new
stop_at_end system old new text ends h = ended_at system old old.standing new text ends h

-- an opening that failed is told
pub failed_told : (first : SessionState) (stop : Stop) → first ≡ failed unbegun no_life false stop → HasStop first
failed_told first stop fails = has first (failed unbegun no_life false stop) fails (more [] stop)
