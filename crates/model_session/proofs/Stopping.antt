-- A session is down by a stop, or has no life yet, only where a stop is told.
use Rattle.std.proofs.Common.{◌≡◌, ◌≢◌, ℕ, Bool, true, false, List, [], ◌∷◌, ◌++◌, sym, subst, inl, inr}
use Rattle.std.specs.Prelude.{None}
use Rattle.model_machine.specs.declared.entry.Entry.{Entry}
use Rattle.model_system.specs.System.{System}
use Rattle.model_session.specs.declared.asked.Asked.{Asked}
use Rattle.model_session.specs.declared.asked.Asked.TheVariants.{Bad, BadCommand, Stopped, Call, Quiet, Power, PowerIn, Restart, ColdStart}
use Rattle.model_session.specs.Blocks.{Block}
use Rattle.model_session.specs.Lines.{asked_of}
use Rattle.model_session.specs.Lives.{LastLife}
use Rattle.model_session.specs.SessionState.{Setting, SessionState, Outage, Standing, Stop, no_life, unbegun, life_gone_on, called_on, life_ended, broken, failed, is_session_stopped, last_life}
use Rattle.model_session.specs.SessionState.Standing.{Up, Down}
use Rattle.model_session.specs.Session.{ServedBy, IsServedUp, IsServedDown, IsRestarted, AreServed, BeginsSession, IsSessionBegun, IsBegunBy, EndsAt, IsSourceEnded}

-- Where a session is down by a stop, or no life has begun, a stop is told.
pub record HasStops (state : SessionState) : Type 0 where
  pub stopped : is_session_stopped state.standing ≡ true → state.stops ≢ []
  pub unbegun : last_life state.standing ≡ None → state.stops ≢ []

one_more : (stops : List Stop) (stop : Stop) → stops ++ stop ∷ [] ≢ []
one_more [] stop e = cc
one_more (first ∷ stops) stop e = cc

going : (state : SessionState) (life : LastLife) (entries : List Entry) (forced : ℕ) → HasStops (life_gone_on state life entries forced)
going state life entries forced = record { stopped = λ is. cc; unbegun = λ is. cc }

ending : (state : SessionState) (life : LastLife) (entries : List Entry) (forced : ℕ) → HasStops (life_ended state life entries forced)
ending state life entries forced = record { stopped = λ is. cc; unbegun = λ is. cc }

calling : (ends : Bool) (state : SessionState) (life : LastLife) (entries : List Entry) (forced : ℕ) → HasStops (called_on ends state life entries forced)
calling true state life entries forced = ending state life entries forced
calling false state life entries forced = going state life entries forced

breaking : (state : SessionState) (life : LastLife) (entries : List Entry) (forced : ℕ) (stop : Stop) → HasStops (broken state life entries forced stop)
breaking state life entries forced stop = record { stopped = λ is. one_more state.stops stop; unbegun = λ is. one_more state.stops stop }

failing : (state : SessionState) (outage : Outage) (cold : Bool) (stop : Stop) → HasStops (failed state outage cold stop)
failing state outage cold stop = record { stopped = λ is. one_more state.stops stop; unbegun = λ is. one_more state.stops stop }

has : (new old : SessionState) → new ≡ old → HasStops old → HasStops new
has new old same h = subst HasStops (sym same) h

module _ (setting : Setting) where
  by_up : (asked : Asked) (old : SessionState) (life : LastLife) (new : SessionState) (text : List ℕ) → IsServedUp asked setting old life new text → HasStops old → HasStops new
  by_up (Bad rule) old life new text (same, printed) h = has new old same h
  by_up (BadCommand rule) old life new text (same, printed) h = has new old same h
  by_up (Stopped terminal number reason) old life new text (same, printed) h = has new old same h
  by_up (Call call) old life new text (inl one) h = has new _ one.goes (calling _ old life _ one.forced)
  by_up (Call call) old life new text (inr (inl one)) h = has new _ one.ends (breaking old life _ one.forced one.stop)
  by_up (Call call) old life new text (inr (inr one)) h = has new _ one.ends (breaking old life _ one.forced one.stop)
  by_up (Quiet most) old life new text (inl one) h = has new _ one.goes (going old life one.turns one.forced)
  by_up (Quiet most) old life new text (inr one) h = has new _ one.ends (breaking old life _ one.forced one.stop)
  by_up (Power pick) old life new text (same, printed) h = has new _ same (record { stopped = λ is. cc; unbegun = λ is. cc })
  by_up (PowerIn writes pick) old life new text (same, printed) h = has new _ same (record { stopped = h.stopped; unbegun = h.unbegun })
  by_up Restart old life new text (same, printed) h = has new old same h
  by_up ColdStart old life new text (same, printed) h = has new old same h

  by_restart : (cold : Bool) (old : SessionState) (outage : Outage) (new : SessionState) (text : List ℕ) → IsRestarted cold setting old outage new text → HasStops old → HasStops new
  by_restart cold old outage new text (inl (opens, printed)) h = has new _ opens.goes (record { stopped = λ is. cc; unbegun = λ is. cc })
  by_restart cold old outage new text (inr (inl (fails, printed))) h = has new _ fails.ends (failing old outage cold fails.stop)
  by_restart cold old outage new text (inr (inr none)) h = has new old none.stays h

  by_down : (asked : Asked) (old : SessionState) (outage : Outage) (new : SessionState) (text : List ℕ) → IsServedDown asked setting old outage new text → HasStops old → HasStops new
  by_down (Bad rule) old outage new text (same, printed) h = has new old same h
  by_down (BadCommand rule) old outage new text (same, printed) h = has new old same h
  by_down (Stopped terminal number reason) old outage new text (same, printed) h = has new old same h
  by_down (Call call) old outage new text (same, printed) h = has new old same h
  by_down (Quiet most) old outage new text (same, printed) h = has new old same h
  by_down (Power pick) old outage new text (same, printed) h = has new old same h
  by_down (PowerIn writes pick) old outage new text (same, printed) h = has new old same h
  by_down Restart old outage new text one h = by_restart false old outage new text one h
  by_down ColdStart old outage new text one h = by_restart true old outage new text one h

  by_standing : (standing : Standing) (asked : Asked) (old new : SessionState) (text : List ℕ) → ServedBy standing asked setting old new text → HasStops old → HasStops new
  by_standing (Up life) asked old new text one h = by_up asked old life new text one h
  by_standing (Down outage) asked old new text one h = by_down asked old outage new text one h

  stops_on : (blocks : List Block) (old new : SessionState) (text : List ℕ) → AreServed setting blocks old new text → HasStops old → HasStops new
  stops_on [] old new text (same, none) h = has new old same h
  stops_on (block ∷ blocks) old new text one h =
      stops_on blocks one.mid new one.later one.on (by_standing old.standing (asked_of setting.system block) old one.mid one.first one.here h)

  first_stops : (first : SessionState) → BeginsSession setting first → HasStops first
  first_stops first (inl opens) = has first _ opens.goes (record { stopped = λ is. cc; unbegun = λ is. cc })
  first_stops first (inr fails) = has first _ fails.ends (failing unbegun no_life false fails.stop)

  -- So it is of each session.
  pub stops_told : (blocks : List Block) (first mid : SessionState) (text : List ℕ) → BeginsSession setting first → AreServed setting blocks first mid text → HasStops mid
  stops_told blocks first mid text begins served = stops_on blocks first mid text served (first_stops first begins)

-- and where turns stand of a block that was not served
begun_on : (asked : Asked) (system : System) (old : SessionState) (standing : Standing) (new : SessionState) → IsBegunBy asked system old standing new → HasStops old → HasStops new
begun_on (Quiet most) system old (Up life) new (inl same) h = has new old same h
begun_on (Quiet most) system old (Up life) new (inr one) h = has new _ one.goes (going old life one.turns one.forced)
begun_on (Quiet most) system old (Down outage) new same h = has new old same h
begun_on (Bad rule) system old standing new same h = has new old same h
begun_on (BadCommand rule) system old standing new same h = has new old same h
begun_on (Stopped terminal number reason) system old standing new same h = has new old same h
begun_on (Call call) system old standing new same h = has new old same h
begun_on (Power pick) system old standing new same h = has new old same h
begun_on (PowerIn writes pick) system old standing new same h = has new old same h
begun_on Restart system old standing new same h = has new old same h
begun_on ColdStart system old standing new same h = has new old same h

pub stops_begun : (system : System) (others : List Block) (old new : SessionState) → IsSessionBegun system others old new → HasStops old → HasStops new
stops_begun system [] old new same h = has new old same h
stops_begun system (block ∷ others) old new one h = begun_on (asked_of system block) system old old.standing new one h

-- and where its source has ended
ended_at : (system : System) (old : SessionState) (standing : Standing) (new : SessionState) (text : List ℕ) → EndsAt standing system old new text → HasStops old → HasStops new
ended_at system old (Up life) new text (inl forced) h = has new _ forced.goes (going old life [] forced.forced)
ended_at system old (Up life) new text (inr cut) h = has new _ cut.ends (breaking old life _ life.forced cut.stop)
ended_at system old (Down outage) new text (same, none) h = has new old same h

pub stops_at_end : (system : System) (old new : SessionState) (text : List ℕ) → IsSourceEnded system old new text → HasStops old → HasStops new
stops_at_end system old new text ends h = ended_at system old old.standing new text ends h
