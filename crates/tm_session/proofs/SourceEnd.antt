-- What comes behind the blocks that were served.
use Rattle.std.proofs.Common.{◌≡◌, ◌≢◌, ℕ, ◌+◌, ◌≤◌, List, [], ◌∷◌, ◌++◌, sym, ◌∙◌, ap, subst, refl, arith, inl, inr}
use Rattle.std.proofs.lemmas.List.{append-nil}
use Rattle.std.specs.Prelude.{Option, Some, None, Ok}
use Rattle.std.specs.Option.{option_map_or}
use Rattle.tm_disk.specs.Disk.{DiskState, Image}
use Rattle.model_image.specs.RecoveredState.{Recovers}
use Rattle.model_machine.specs.declared.entry.Entry.{Entry}
use Rattle.model_machine.specs.History.{after_entry, call_of, moment_after}
use Rattle.model_machine.specs.LastingSteps.{LastingStep, applied}
use Rattle.model_machine.specs.Machine.{LastingState, Moment, start_of}
use Rattle.model_machine.specs.MachineCalls.{lasting_step}
use Rattle.model_machine.proofs.Rising.{steps_rise}
use Rattle.model_system.specs.System.{System}
use Rattle.model_session.specs.Blocks.{Block}
use Rattle.model_session.specs.Lives.{LastLife, LifeLeaves, IsAllForced, forced_to, longer, now_in}
use Rattle.model_session.specs.SessionState.{SessionState, Standing, Stop}
use Rattle.model_session.specs.SessionState.Standing.{Up, Down}
use Rattle.model_session.specs.Session.{EndsAt, IsSourceEnded}
use Rattle.model_session.proofs.Growing.{HasStop}
use Rattle.model_session.proofs.Stopping.{HasStops, stops_begun}
use Rattle.session_law.specs.LeftOver.{IsLeftOver}
use Rattle.session_lives.specs.RunningSession.{HoldsSession}
use Rattle.tm_session.specs.declared.outcome.Ended.{Ended}
use Rattle.tm_session.specs.declared.outcome.Ended.TheVariants.{Done, Words, BadLine, BadCross, Down as DownAtEnd, Read, Write, Image as BadImage, Memory, Limit, Spent}
use Rattle.tm_session.specs.Outcome.{IsLeftBehind}
use Rattle.tm_session.specs.Headline.{IsWhole}

pub left_over : (ended : Ended) (system : System) (others : List Block) (mid last : SessionState) (text : List ℕ) → IsLeftBehind ended system others mid last text → IsLeftOver system others mid last
left_over Done system others mid last text one = inr (inr (text, one))
left_over DownAtEnd system others mid last text one = inr (inr (text, one))
left_over Write system others mid last text (inl (same, none)) = inl same
left_over Write system others mid last text (inr (none, printed, one)) = inr (inr (text, one))
left_over Memory system others mid last text (begun, none) = inr (inl begun)
left_over Spent system others mid last text (begun, none) = inr (inl begun)
left_over (BadImage refusal) system others mid last text (begun, none) = inr (inl begun)
left_over Read system others mid last text (same, none) = inl same
left_over (Limit n) system others mid last text (same, none) = inl same
left_over (Words word rule) system others mid last text (same, none) = inl same
left_over (BadLine line rule) system others mid last text (same, none) = inl same
left_over (BadCross line rule) system others mid last text (same, none) = inl same

-- ---- stops

one_more : (stops : List Stop) (stop : Stop) → stops ++ stop ∷ [] ≢ []
one_more [] stop e = cc
one_more (first ∷ stops) stop e = cc

end_stop : (system : System) (old : SessionState) (standing : Standing) (new : SessionState) (text : List ℕ) → EndsAt standing system old new text → HasStop old → HasStop new
end_stop system old (Up life) new text (inl one) h = subst HasStop (sym one.goes) h
end_stop system old (Up life) new text (inr one) h = subst HasStop (sym one.ends) (one_more old.stops one.stop)
end_stop system old (Down outage) new text (same, none) h = subst HasStop (sym same) h

-- a stop that was told stays told
pub ended_stop : (system : System) (old new : SessionState) (text : List ℕ) → IsSourceEnded system old new text → HasStop old → HasStop new
ended_stop system old new text ends h = end_stop system old old.standing new text ends h

end_stops : (system : System) (old : SessionState) (standing : Standing) (new : SessionState) (text : List ℕ) → EndsAt standing system old new text → HasStops old → HasStops new
end_stops system old (Up life) new text (inl one) h = subst HasStops (sym one.goes) (record { stopped = λ is. cc; unbegun = λ is. cc })
end_stops system old (Up life) new text (inr one) h = subst HasStops (sym one.ends) (record { stopped = λ is. one_more old.stops one.stop; unbegun = λ is. one_more old.stops one.stop })
end_stops system old (Down outage) new text (same, none) h = subst HasStops (sym same) h

pub left_stops : (system : System) (others : List Block) (mid last : SessionState) → IsLeftOver system others mid last → HasStops mid → HasStops last
left_stops system others mid last (inl same) h = subst HasStops (sym same) h
left_stops system others mid last (inr (inl begun)) h = stops_begun system others mid last begun h
left_stops system others mid last (inr (inr (text, one))) h = end_stops system mid mid.standing last text one h

-- ---- a session that is up

-- a call of which no step lasts leaves what lasts
no_step : (lasting : LastingState) (step : Option LastingStep) → (option_map_or (λ s. applied s lasting) step lasting).steps ≤ lasting.steps → option_map_or (λ s. applied s lasting) step lasting ≡ lasting
no_step lasting None no_more = refl
no_step lasting (Some step) no_more = let more : lasting.steps + 1 ≤ lasting.steps = no_more in absurd (omega (arith, more))

all_rise : (system : System) (moment : Moment) (entries : List Entry) → moment.lasting.steps ≤ (moment_after system moment entries).lasting.steps
all_rise system moment [] = omega arith
all_rise system moment (entry ∷ entries) = omega (arith, steps_rise system moment entry, all_rise system (after_entry system moment entry) entries)

-- nor do entries with no step that lasts
still : (system : System) (moment : Moment) (entries : List Entry) → (moment_after system moment entries).lasting.steps ≤ moment.lasting.steps → (moment_after system moment entries).lasting ≡ moment.lasting
still system moment [] no_more = refl
still system moment (entry ∷ entries) no_more =
    let after : Moment = after_entry system moment entry in
    let behind : after.lasting.steps ≤ (moment_after system after entries).lasting.steps = all_rise system after entries in
    let first : after.lasting.steps ≤ moment.lasting.steps = omega (arith, behind, no_more) in
    let rise : moment.lasting.steps ≤ after.lasting.steps = steps_rise system moment entry in
    still system after entries (omega (arith, no_more, rise)) ∙ no_step moment.lasting (lasting_step system moment (call_of entry)) first

append_moment : (system : System) (moment : Moment) (front rest : List Entry) → moment_after system moment (front ++ rest) ≡ moment_after system (moment_after system moment front) rest
append_moment system moment [] rest = refl
append_moment system moment (entry ∷ front) rest = append_moment system (after_entry system moment entry) front rest

-- what is left of a life of which all lasting steps are forced is all of it
all_left : (system : System) (life : LastLife) (kept : ℕ) (state : LastingState) → IsAllForced system life life.forced → LifeLeaves system life kept state → state ≡ (now_in system life).lasting
all_left system life kept state all leaves =
    let start : Moment = start_of system life.opening in
    let here : Moment = moment_after system start leaves.front in
    let now : now_in system life ≡ moment_after system here leaves.rest = ap (moment_after system start) leaves.split ∙ append_moment system start leaves.front leaves.rest in
    let steps : state.steps ≡ here.lasting.steps = ap (λ (s : LastingState). s.steps) leaves.left in
    let low : life.opening.steps ≤ here.lasting.steps = all_rise system start leaves.front in
    let same : life.opening.steps + life.forced ≡ (moment_after system here leaves.rest).lasting.steps = all ∙ ap (λ (m : Moment). m.lasting.steps) now in
    let no_more : (moment_after system here leaves.rest).lasting.steps ≤ here.lasting.steps = omega (arith, steps, low, same, leaves.counted, leaves.enough) in
    leaves.left ∙ sym (still system here leaves.rest no_more) ∙ sym (ap (λ (m : Moment). m.lasting) now)

-- the life is forced whole where it is up behind the end of the source
abbrev IsForcedWhole : System → Standing → Type 0
IsForcedWhole system (Up life) = IsAllForced system life life.forced
IsForcedWhole system (Down outage) = Unit {0}

forced_at : (system : System) (life : LastLife) (forced : ℕ) → IsAllForced system life forced → IsForcedWhole system (Up (forced_to forced (longer life [])))
forced_at system life forced all = all ∙ ap (λ (entries : List Entry). (moment_after system (start_of system life.opening) entries).lasting.steps) (sym (append-nil life.history))

ends_forced : (system : System) (old : SessionState) (standing : Standing) (new : SessionState) (text : List ℕ) → old.standing ≡ standing → EndsAt standing system old new text → IsForcedWhole system new.standing
ends_forced system old (Up life) new text at (inl one) = subst (λ (s : SessionState). IsForcedWhole system s.standing) (sym one.goes) (forced_at system life one.forced one.all)
ends_forced system old (Up life) new text at (inr one) = subst (λ (s : SessionState). IsForcedWhole system s.standing) (sym one.ends) tt
ends_forced system old (Down outage) new text at (same, none) = subst (λ (s : SessionState). IsForcedWhole system s.standing) (sym same) (subst (IsForcedWhole system) (sym at) tt)

module _ {D : Type 0} (state : D → DiskState) (system : System) (source : List ℕ) (handed : D) where
  whole_up : (life : LastLife) (image : Image) → IsAllForced system life life.forced → HoldsSession state system source handed (Up life) image → Recovers system image (Ok (now_in system life).lasting)
  whole_up life image all (inl recalls) = subst (λ (s : LastingState). Recovers system image (Ok s)) (all_left system life recalls.may.0 recalls.state all recalls.may.1) recalls.recovers
  whole_up life image all (inr unopened) = let never : Some life ≡ None = unopened.no_life in cc

  whole_standing : (standing : Standing) (image : Image) → IsForcedWhole system standing → HoldsSession state system source handed standing image → IsWhole Done system standing image
  whole_standing (Up life) image all holds = whole_up life image all holds
  whole_standing (Down outage) image all holds = tt

  -- Behind the end of the source an image recovers to all that a life that is up has come to.
  pub whole_image : (ended : Ended) (others : List Block) (mid last : SessionState) (text : List ℕ) (image : Image) → IsLeftBehind ended system others mid last text
      → HoldsSession state system source handed last.standing image → IsWhole ended system last.standing image
  whole_image Done others mid last text image ends holds = whole_standing last.standing image (ends_forced system mid mid.standing last text refl ends) holds
  whole_image DownAtEnd others mid last text image ends holds = tt
  whole_image (Words word rule) others mid last text image ends holds = tt
  whole_image (BadLine line rule) others mid last text image ends holds = tt
  whole_image (BadCross line rule) others mid last text image ends holds = tt
  whole_image Read others mid last text image ends holds = tt
  whole_image Write others mid last text image ends holds = tt
  whole_image (BadImage refusal) others mid last text image ends holds = tt
  whole_image Memory others mid last text image ends holds = tt
  whole_image (Limit n) others mid last text image ends holds = tt
  whole_image Spent others mid last text image ends holds = tt
