-- A session without a stop is not down by one, and its disk was opened.
use Rattle.std.proofs.Common.{◌≡◌, ◌⊎◌, ℕ, ◌+◌, ◌≤◌, true, List, [], ◌∷◌, map, sym, ◌∙◌, subst, refl, arith, inl, inr, ⊎_elim}
use Rattle.std.specs.Prelude.{Option, Some, None}
use Rattle.std.specs.Option.{is_some}
use Rattle.tm_disk.specs.Disk.{DiskState, IsDisk, Rose}
use Rattle.model_system.specs.System.{System}
use Rattle.model_session.specs.declared.asked.ImageRefused.{ImageRefused}
use Rattle.model_session.specs.Blocks.{Block}
use Rattle.model_session.specs.Lives.{LifeState}
use Rattle.model_session.specs.SessionState.{Setting, SessionState, Standing, Stop, AreStops, last_life}
use Rattle.model_session.specs.SessionState.Standing.{Up, Down}
use Rattle.model_session.specs.Session.{BeginsSession}
use Rattle.model_session.proofs.Growing.{HasStop, stop_stays, failed_told}
use Rattle.model_session.proofs.Stopping.{HasStops, stops_told}
use Rattle.openings.specs.declared.how.How.TheVariants.{Found}
use Rattle.openings.specs.LifeBeginning.{Refuses}
use Rattle.openings.specs.declared.life.Life.{Life}
use Rattle.tm_edge.specs.Lines.{lines_of}
use Rattle.sysdef_text.specs.DefinitionEnd.{definition_lines}
use Rattle.session_lives.specs.RunningSession.{life_of, session_setting, error_of}
use Rattle.session_lives.specs.Openings.{MayRefuseAt}
use Rattle.session_lives.proofs.Valid.{valid_opens}
use Rattle.tm_session.specs.declared.outcome.Ended.{Ended}
use Rattle.tm_session.specs.declared.outcome.Ended.TheVariants.{Done, Down as DownAtEnd, Image}
use Rattle.tm_session.specs.DefinedSystem.{text_of_definition}
use Rattle.tm_session.specs.Outcome.{UndoneAs}
use Rattle.tm_session.specs.Headline.{HasLived, HasSession, IsNeverOpened, IsOpenedBy, IsDiskOpened, IsFoundDisk, AskNoColdStart, IsDiskValid}
use Rattle.tm_session.proofs.First.{life_begun}
use Rattle.tm_session.proofs.SourceEnd.{ended_stop, left_over, left_stops}

-- ---- counts

reaches : (low high : ℕ) (stops : List Stop) → AreStops low stops high → low ≤ high
reaches low high [] h = omega (arith, h)
reaches low high ((began, end) ∷ stops) h = omega (arith, h.0, h.1, reaches end high stops h.3)

-- a stop is told only where the count rose
stop_rose : (low high : ℕ) (stop : Stop) (stops : List Stop) → AreStops low (stop ∷ stops) high → Rose low high
stop_rose low high (began, end) stops h =
    let up : end ≤ high = reaches end high stops h.3 in
    ⊎_elim (λ (risen : began + 1 ≤ end). inl (omega (arith, h.0, risen, up))) (λ (full : 18446744073709551615 ≤ end). inr (omega (arith, full, up))) h.2

pub no_stops : (low high : ℕ) (stops : List Stop) → AreStops low stops high → (Rose low high → ⊥) → stops ≡ []
no_stops low high [] h calm = refl
no_stops low high (stop ∷ stops) h calm = absurd (calm (stop_rose low high stop stops h))

-- ---- a session

abbrev IsUpAtFirst : Standing → Type 0
IsUpAtFirst (Up life) = Unit {0}
IsUpAtFirst (Down outage) = ⊥

no_life_at : (setting : Setting) (standing : Standing) (refusal : ImageRefused) → MayRefuseAt setting standing refusal → last_life standing ≡ None
no_life_at setting (Up life) refusal may = absurd may
no_life_at setting (Down outage) refusal may = may.0

no_life_as : (others : List Block) (setting : Setting) (last : SessionState) (refusal : ImageRefused) → UndoneAs (Image refusal) others setting last → last_life last.standing ≡ None
no_life_as [] setting last refusal never = absurd never
no_life_as (block ∷ others) setting last refusal (may, looked) = no_life_at setting last.standing refusal may

module _ {D : Type 0} (state : D → DiskState) (system : System) (source : List ℕ) (handed disk : D) (told left old new : Option (List ℕ)) (lives : List LifeState) (stops : List Stop) where
  lived_stops : (ended : Ended) (h : HasLived state system source told left old new handed disk ended lives stops) → HasStops h.last
  lived_stops ended h =
      left_stops system h.others h.mid h.last (left_over ended system h.others h.mid h.last h.end_text h.behind) (stops_told (session_setting state system source handed) h.blocks h.first h.mid h.text h.begins h.session)

  never_down : HasLived state system source told left old new handed disk DownAtEnd lives stops → stops ≡ [] → ⊥
  never_down h none = (lived_stops DownAtEnd h).stopped h.by (sym h.stops_are ∙ none)

  never_refused : (refusal : ImageRefused) → HasLived state system source told left old new handed disk (Image refusal) lives stops → stops ≡ [] → ⊥
  never_refused refusal h none =
      (lived_stops (Image refusal) h).unbegun (no_life_as h.others (session_setting state system source handed) h.last refusal h.undone) (sym h.stops_are ∙ none)

  -- a session without a stop has opened its disk
  begun_or : (first : SessionState) → BeginsSession (session_setting state system source handed) first → HasStop first ⊎ IsUpAtFirst first.standing
  begun_or first (inl opens) = inr (subst (λ (s : SessionState). IsUpAtFirst s.standing) (sym opens.goes) tt)
  begun_or first (inr fails) = inl (failed_told first fails.stop fails.ends)

  opened_up : (standing : Standing) → IsUpAtFirst standing → IsOpenedBy standing system source (state handed) → IsDiskOpened system source (state handed)
  opened_up (Up life) up opened = opened
  opened_up (Down outage) up opened = absurd up

  lived_opened : HasLived state system source told left old new handed disk Done lives stops → stops ≡ [] → IsDiskOpened system source (state handed)
  lived_opened h none =
      ⊎_elim
      (λ stop. absurd (ended_stop system h.mid h.last h.end_text h.behind
      (stop_stays (session_setting state system source handed) h.blocks h.first h.mid h.text h.session stop) (sym h.stops_are ∙ none)))
      (λ up. opened_up h.first.standing up h.opened)
      (begun_or h.first h.begins)

  -- with a status of 0 a life has begun
  lived_life : (h : HasLived state system source told left old new handed disk Done lives stops) → is_some (last_life h.last.standing) ≡ true
  lived_life h =
      life_begun (session_setting state system source handed) h.blocks h.first h.mid h.last h.text h.end_text h.begins h.session h.behind h.by

module _ {D : Type 0} (state : D → DiskState) (handed disk : D) (told left old new : Option (List ℕ)) (lives : List Life) (stops : List Stop) where
  pub not_down : HasSession state told left old new handed disk DownAtEnd lives stops → stops ≡ [] → ⊥
  not_down h none = never_down state h.system h.text handed disk told left old new (map life_of lives) stops h.lived none

  pub not_refused : (refusal : ImageRefused) → HasSession state told left old new handed disk (Image refusal) lives stops → stops ≡ [] → ⊥
  not_refused refusal h none = never_refused state h.system h.text handed disk told left old new (map life_of lives) stops refusal h.lived none

  pub done_opened : (h : HasSession state told left old new handed disk Done lives stops) → stops ≡ [] → IsDiskOpened h.system h.text (state handed)
  done_opened h none = lived_opened state h.system h.text handed disk told left old new (map life_of lives) stops h.lived none

  pub done_found : (h : HasSession state told left old new handed disk Done lives stops) → AskNoColdStart h.system h.lived.blocks → IsFoundDisk h.system h.text (state handed)
  done_found h warm = h.lived.found (lived_life state h.system h.text handed disk told left old new (map life_of lives) stops h.lived) warm

-- nor is a disk refused that can be opened
pub valid_opened : {D : Type 0} (state : D → DiskState) (bytes : List ℕ) (handed disk : D) (refusal : ImageRefused) → IsDisk (state handed) → (never : IsNeverOpened state (Some bytes) handed disk (Image refusal))
    → IsDiskValid never.system (text_of_definition (definition_lines (lines_of bytes))) (state handed) → ⊥
valid_opened state bytes handed disk refusal is_disk never valid =
    valid_opens never.system (text_of_definition (definition_lines (lines_of bytes))) (state handed) refusal is_disk valid
    (subst (λ (t : List ℕ). Refuses Found never.system t (state handed) (error_of refusal)) never.text_is never.refusal)
