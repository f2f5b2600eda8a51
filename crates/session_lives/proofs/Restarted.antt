-- A system that was down, and what a restart comes to.
use Rattle.std.proofs.Common.{◌≡◌, ◌⊎◌, ℕ, suc, ◌+◌, ◌*◌, ◌-◌, ◌≤◌, ◌<◌, max, Bool, true, false, List, [], ◌∷◌, ◌++◌, map, sym, ◌∙◌, ap, subst, refl, arith, inl, inr, ⊎_elim}
use Rattle.std.proofs.lemmas.List.{append-nil, map-append}
use Rattle.std.proofs.lemmas.Bool.{cases_Bool, eq-eqb}
use Rattle.std.specs.Prelude.{◌==◌, if◌then◌else◌, Option, Some, None, Result, Ok, Err}
use Rattle.std.specs.Option.{option_map, is_some}
use Rattle.tm_disk.specs.Disk.{Image, DiskState, IsDisk, IsSameDisk, ComesFrom, Within}
use Rattle.tm_disk.proofs.Words.{same_on, stays_is_same, within_each, leaves_none}
use Rattle.model_system.specs.System.{System}
use Rattle.model_machine.specs.Machine.{LastingState, empty_state}
use Rattle.model_image.specs.AlikeImages.{RecoversAlike}
use Rattle.model_image.specs.Faults.{Fault}
use Rattle.model_image.specs.RecoveredState.{Recovers}
use Rattle.model_image.proofs.Answers.{one_answer_of, zeros_are_empty}
use Rattle.model_session.specs.declared.asked.ImageRefused.{ImageRefused}
use Rattle.model_session.specs.declared.asked.ImageRefused.TheVariants.{Rule, Text, Size}
use Rattle.model_session.specs.declared.asked.Asked.{Asked}
use Rattle.model_session.specs.declared.asked.Asked.TheVariants.{Bad, BadCommand, Stopped, Call, Quiet, Power, PowerIn, Restart, ColdStart}
use Rattle.model_session.specs.Text.{broken_text, down_text}
use Rattle.model_session.specs.Lives.{LifeState, LastLife, AreLegal, LifeLeaves, with_life}
use Rattle.model_session.specs.SessionState.{Setting, Outage, DiskEvent, SessionState, AreStops, IsStateEmptied, MayBeFound, LastAnswered, IsStateLeft, last_forced, or_cold, life_opened, failed}
use Rattle.model_session.specs.SessionState.Standing.{Up as StandsUp, Down as StandsDown}
use Rattle.model_session.specs.SessionState.DiskEvent.{CutWith}
use Rattle.model_session.specs.Session.{MayOpenWith, MayRefuse, OpensFirst, OpensAbove, IsRestarted, OpensSession as OpensLife, FailsToOpen}
use Rattle.restart_data.specs.declared.restart.RestartSector.{RestartSector}
use Rattle.restart_data.specs.Restart.{restart_in}
use Rattle.model_machine.specs.declared.counts.Counter.{Counter}
use Rattle.model_system.specs.Areas.{is_single, sectors_needed, snapshot_area}
use Rattle.model_image.specs.Counters.{next_sequence}
use Rattle.model_image.specs.Text.{text_in, first_difference}
use Rattle.checkpointing.specs.DefinitionText.{HasText, IsNumberedFrom}
use Rattle.checkpointing.specs.Counts.{AreUpTo, CountsUpTo, RaisesCounts}
use Rattle.checkpointing.proofs.Counted.{up_to_more, same_raises}
use Rattle.session_law.specs.Measures.{call_raises, measure}
use Rattle.session_law.specs.SpentCounters.{FindsSpent, IsSpentAt}
use Rattle.session_law.proofs.SessionMeasures.{opened_measure, failed_measure}
use Rattle.openings.specs.declared.refusals.OpenError.{OpenError}
use Rattle.openings.specs.declared.refusals.OpenError.TheVariants.{Spent as SpentCounter}
use Rattle.openings.specs.OpeningParts.{OpeningParts}
use Rattle.openings.specs.OpenedImage.{TellsOpening, SizeFirst, IsOther, IsSpent}
use Rattle.disk_law.specs.JournalState.{JournalState}
use Rattle.openings.specs.LifeBeginning.{KeepsBy, BeginsLife, Refuses}
use Rattle.openings.specs.declared.life.Life.{Life}
use Rattle.session_lives.specs.declared.called.Opening.{Opening}
use Rattle.session_lives.specs.declared.called.Opening.TheVariants.{Opened, Broke as OpeningBroke, Refused, Memory as OpeningMemory, Spent as OpeningSpent}
use Rattle.session_lives.specs.declared.called.Served.{Served}
use Rattle.session_lives.specs.declared.called.Served.TheVariants.{Printed, Broke, Undone as NotServed}
use Rattle.session_lives.specs.declared.place.Idle.{Idle}
use Rattle.session_lives.specs.declared.place.Place.TheVariants.{Up, Down}
use Rattle.session_lives.specs.declared.place.Kept.{Kept}
use Rattle.session_lives.specs.declared.place.Session.{Session}
use Rattle.session_lives.specs.RunningSession.{life_of, last_life_of, last_up, kept_steps, outage_of, session_at, session_of, session_down, session_setting, CountsDown, CountsFirst, LeadsBy, IsBrokenAs, IsRefusedFirst, IsOfDefinition, IsEmptyImage, IsRight, IsOfText, HoldsSession, IsNumberedAt, IsDownSound, IsSessionSound, IsSoundAt, error_of}
use Rattle.session_lives.specs.ControlCounts.{CountsUp, force_raises}
use Rattle.session_lives.specs.ToldNumbers.{numbers_told, numbers_so_far}
use Rattle.session_lives.proofs.Counting.{stands_more}
use Rattle.session_lives.proofs.Told.{told_text, one_restart, no_restart}
use Rattle.session_lives.specs.Openings.{how_of, life_kept_by, with_last_life, HasOpened, StaysIdle, HasFailed, HasGone, RefusesSpent, IsOpeningTold, IsRefusalTold, IsRestartedSo, IsLookedAt, CountsOn, UndoneBy, IsServedSo, asked_restart}
use Rattle.session_lives.proofs.Ends.{past_with, same_state, outage_with, life_with, same_life, stops_one, rose_from}
use Rattle.session_lives.proofs.Happening.{events_go, events_one}
use Rattle.session_lives.proofs.Telling.{with_numbers, cut_numbers}

some_is : (a b : Bool) → Some b ≡ Some a → a ≡ b
some_is a b e = cc

abbrev SameAnswer : Result LastingState Fault → Result LastingState Fault → Type 0
SameAnswer a b = a ≡ b

ok_is : (a b : LastingState) → SameAnswer (Ok a) (Ok b) → a ≡ b
ok_is a b e = cc

pub ok_or_err : (a : LastingState) (fault : Fault) → SameAnswer (Ok a) (Err fault) → ⊥
ok_or_err a fault e = cc

no_true : true ≡ false → ⊥
no_true e = cc

higher : (least kept more : ℕ) → least ≤ kept → kept ≡ more → kept ≡ max least more
higher least kept more less same = omega (arith, less, same)

nothing_more : (count before steps : ℕ) → steps ≡ 0 → count ≡ max count (steps - before)
nothing_more count before steps none = omega (arith, none)

some_last : (last : Option Life) → is_some last ≡ true → is_some (option_map last_life_of last) ≡ true
some_last None is = cc
some_last (Some life) is = refl

-- ---- texts

some_none : (place : ℕ) (o : Option ℕ) → o ≡ None → o ≡ Some place → ⊥
some_none place o none some = cc

first_none : (same : Bool) (rest : Option ℕ) → same ≡ true → rest ≡ None → (if same then option_map (λ n. suc n) rest else Some 0) ≡ None
first_none true rest is none = ap (option_map (λ n. suc n)) none
first_none false rest is none = cc

no_difference_in : (text : List ℕ) → first_difference text text ≡ None
no_difference_in [] = refl
no_difference_in (b ∷ text) = first_none (b == b) (first_difference text text) (eq-eqb b b refl) (no_difference_in text)

-- a text doesn't differ from itself
pub no_difference : (text there : List ℕ) (place : ℕ) → there ≡ text → first_difference text there ≡ Some place → ⊥
no_difference text there place same differs =
    some_none place (first_difference text there) (ap (first_difference text) same ∙ no_difference_in text) differs

-- ---- lives

-- how many lasting steps of the last life are kept
abbrev count_of : Option Life → Bool → ℕ → ℕ
count_of None cold steps = 0
count_of (Some life) cold steps = (life_kept_by cold life steps).kept

kept_life_is : (cold : Bool) (life : Life) (steps : ℕ) → life_of (life_kept_by cold life steps) ≡ record { opening = life.opening; checkpoint = life.checkpoint; history = life.history; forced = life.forced; kept = (life_kept_by cold life steps).kept }
kept_life_is true life steps = refl
kept_life_is false life steps = refl

lives_with : (lives : List Life) (last : Option Life) (cold : Bool) (steps : ℕ)
    → map life_of (with_last_life lives last cold steps) ≡ with_life (map life_of lives) (option_map last_life_of last) (count_of last cold steps)
lives_with lives None cold steps = refl
lives_with lives (Some life) cold steps =
    map-append life_of lives (life_kept_by cold life steps ∷ []) ∙ ap (λ l. map life_of lives ++ l ∷ []) (kept_life_is cold life steps)

pub legal_with : (system : System) (lives : List LifeState) (last : Option LastLife) (answered kept : ℕ) → AreLegal system lives → LastAnswered system last answered → AreLegal system (with_life lives last kept)
legal_with system [] None answered kept legal is = tt
legal_with system (first ∷ lives) None answered kept legal is = legal
legal_with system [] (Some life) answered kept legal is = (is.life_is, tt)
legal_with system (first ∷ lives) (Some life) answered kept legal is = (legal.0, legal_with system lives (Some life) answered kept legal.1 is)

-- what has been done with the disk behind an opening: where it failed, it was also cut with the pick that was kept
abbrev pub events_opening : List DiskEvent → Kept → Opening → List DiskEvent
events_opening events old Opened = events
events_opening events old OpeningBroke = events ++ CutWith old.pick ∷ []
events_opening events old (Refused refusal) = events
events_opening events old OpeningMemory = events
events_opening events old OpeningSpent = events

module _ {D : Type 0} (state : D → DiskState) (is_disk : (disk : D) → IsDisk (state disk)) (system : System) (source : List ℕ) (handed : D) (events : List DiskEvent) (idle : Idle D) (old : Kept) (session : Session D)
    (sound : IsDownSound state system source handed events idle old) where
  abbrev before : SessionState
  before = session_at events (Down idle) old

  -- where it failed it was cut with the pick that was kept
  abbrev events_failed : List DiskEvent
  events_failed = events ++ CutWith old.pick ∷ []

  abbrev setting : Setting
  setting = session_setting state system source handed

  abbrev outage : Outage
  outage = outage_of idle

  -- ---- what may be found

  -- an image that recovers as what was handed in
  begins_by : (found first : Image) (opening : LastingState) → (state handed).may_leave first → RecoversAlike system first found → Recovers system found (Ok opening) → setting.begins opening
  begins_by found first opening left alike recovers = λ image there.
      let same : image ≡ first = sound.handed_alone image there ∙ sym (sound.handed_alone first left) in
      record { found = found; alike = subst (λ i. RecoversAlike system i found) (sym same) alike; recovers = recovers }

  found_is : (kept : ℕ) (state_then opening : LastingState) → opening ≡ state_then → MayBeFound setting outage kept state_then → MayBeFound setting outage kept opening
  found_is kept state_then opening same may = subst (λ s. MayBeFound setting outage kept s) (sym same) may

  -- as it is counted: what is left of a life has all of its steps that were forced
  counted_as : (last : Option Life) (kept : ℕ) (opening : LastingState) → IsStateLeft setting (option_map last_life_of last) kept opening
      → IsStateLeft setting (option_map last_life_of last) (count_of last false opening.steps) opening
  counted_as None kept opening left = left
  counted_as (Some life) kept opening left =
      subst (λ n. LifeLeaves system (last_life_of life) n opening) (higher life.forced kept (opening.steps - life.opening.steps) left.enough left.counted) left

  -- and where nothing is left, just these
  emptied_as : (last : Option Life) (kept : ℕ) (emptied : Bool) (opening : LastingState) → IsStateEmptied system (option_map last_life_of last) emptied kept opening
      → IsStateEmptied system (option_map last_life_of last) emptied (count_of last false opening.steps) opening
  emptied_as None kept emptied opening is = record { broke_off = is.broke_off; empty = is.empty; counted = refl }
  emptied_as (Some life) kept emptied opening is =
      record { broke_off = is.broke_off; empty = is.empty; counted = sym (nothing_more life.forced life.opening.steps opening.steps (ap (λ s. s.steps) is.empty)) }

  count_found : (kept : ℕ) (opening : LastingState) → MayBeFound setting outage kept opening → MayBeFound setting outage (count_of idle.last false opening.steps) opening
  count_found kept opening (inl left) = inl (counted_as idle.last kept opening left)
  count_found kept opening (inr emptied) = inr (emptied_as idle.last kept idle.emptied opening emptied)

  found_by : (image : Image) (opening : LastingState) → HoldsSession state system source handed (StandsDown outage) image → Recovers system image (Ok opening)
      → MayBeFound setting outage (count_of idle.last false opening.steps) opening
  found_by image opening (inl recalls) recovers =
      let same : opening ≡ recalls.state = ok_is opening recalls.state (one_answer_of system image (Ok opening) (Ok recalls.state) recovers recalls.recovers) in
      count_found recalls.may.0 opening (found_is recalls.may.0 recalls.state opening same recalls.may.1)
  found_by image opening (inr unopened) recovers =
      inl (subst (λ l. IsStateLeft setting l (count_of idle.last false opening.steps) opening) (sym unopened.no_life) (begins_by image unopened.before opening unopened.left unopened.alike recovers))

  tells_now : setting.tells ≡ true → (state idle.disk).tells ≡ true
  tells_now tells = sound.same.tells ∙ tells

  shown_holds : setting.tells ≡ true → HoldsSession state system source handed (StandsDown outage) (state idle.disk).shown
  shown_holds tells = sound.images (state idle.disk).shown ((is_disk idle.disk).shown_left (tells_now tells))

  -- what the disk tells when it was opened
  told_state : (parts : OpeningParts) (opening : LastingState) (text : List ℕ) → TellsOpening idle.system text (state idle.disk).shown (Ok (parts, opening)) → Recovers idle.system (state idle.disk).shown (Ok opening)
  told_state parts opening text (inl reopened) = reopened.found.recovers
  told_state parts opening text (inr cold) =
      subst (λ s. Recovers idle.system (state idle.disk).shown (Ok s)) (sym cold.begun.empty) (zeros_are_empty idle.system (state idle.disk).shown cold.zeros)

  may_open : (cold : Bool) (opening : LastingState) (journal : JournalState) (next : ℕ) → BeginsLife (how_of cold) idle.system idle.text (state idle.disk) opening journal.restart journal.log next → setting.tells ≡ true
      → MayOpenWith cold setting outage (count_of idle.last cold opening.steps) opening
  may_open false opening journal next begins tells =
      found_by (state idle.disk).shown opening (shown_holds tells)
      (subst (λ s. Recovers s (state idle.disk).shown (Ok opening)) sound.system_is (told_state begins.parts opening idle.text (begins.found refl (tells_now tells))))
  may_open true opening journal next begins tells =
      ((begins.cold refl).empty ∙ ap empty_state sound.system_is, answered_as idle.last sound.answered)
    where
      answered_as : (last : Option Life) → LastAnswered system (option_map last_life_of last) (kept_steps last) → LastAnswered system (option_map last_life_of last) (count_of last true opening.steps)
      answered_as None is = is
      answered_as (Some life) is = is

  -- ---- how far the disk counts

  -- up to where what was done before has brought it
  abbrev bound : ℕ → ℕ
  bound high = high + call_raises * measure before

  -- what an opening may leave at any moment counts one further at most
  raised : (disk : D) → Within (RaisesCounts 1 idle.system) (state idle.disk) (state disk) → (high : ℕ) → CountsFirst system high (state handed) → CountsDown system (bound high + 1) (state disk)
  raised disk within high first image left =
      let here : Within (RaisesCounts 1 system) (state idle.disk) (state disk) = subst (λ (s : System). Within (RaisesCounts 1 s) (state idle.disk) (state disk)) sound.system_is within in
      let comes : ComesFrom (RaisesCounts 1 system) (state idle.disk) image =
      within_each (RaisesCounts 1 system) (state idle.disk) (state disk) (is_disk idle.disk) (λ (i : Image). same_raises 1 system i i refl) here image
      ((is_disk disk).now_counts (state idle.disk).clock image here.later left) in
      comes.by (bound high) (sound.counts high first comes.before comes.left)

  shown_counts : (high : ℕ) → CountsFirst system high (state handed) → CountsUpTo idle.system (bound high) (state idle.disk).shown
  shown_counts high first =
      subst (λ (s : System). CountsUpTo s (bound high) (state idle.disk).shown) (sym sound.system_is)
      (sound.counts high first (state idle.disk).shown ((is_disk idle.disk).shown_left (tells_now first.tells)))

  -- ---- a life opened

  sectors_there : sectors_needed idle.system ≤ (state idle.disk).size → sectors_needed system ≤ (state handed).size
  sectors_there enough = subst (λ n. sectors_needed system ≤ n) sound.same.size (subst (λ s. sectors_needed s ≤ (state idle.disk).size) sound.system_is enough)

  opened_state : (cold : Bool) (gone : HasOpened state idle old cold session) → session_of events session ≡ life_opened before outage (count_of idle.last cold gone.control.control.opening.steps) gone.control.checkpoint gone.control.control.opening
  opened_state cold gone =
      ap (λ p. session_at events p session.kept) gone.place
      ∙ same_state (with_life (map life_of old.lives.items) outage.last (count_of idle.last cold gone.control.control.opening.steps)) (map life_of session.kept.lives.items)
      old.stops.items session.kept.stops.items (past_with events old.pick) (past_with events session.kept.pick) (StandsUp (life_with gone.control.control.opening gone.control.checkpoint [] 0)) (StandsUp (last_up gone.control))
      (ap (map life_of) gone.lives ∙ lives_with old.lives.items idle.last cold gone.control.control.opening.steps) gone.stops (ap (past_with events) gone.pick)
      (ap StandsUp (same_life gone.control.control.opening gone.control.control.opening gone.control.checkpoint gone.control.checkpoint [] gone.control.control.history 0 gone.control.forced refl refl gone.opens.history gone.opens.forced))

  opened_measured : (cold : Bool) (gone : HasOpened state idle old cold session) → measure (session_at events (Up gone.control) session.kept) ≡ measure before + 1
  opened_measured cold gone =
      ap measure (sym (ap (λ p. session_at events p session.kept) gone.place) ∙ opened_state cold gone)
      ∙ opened_measure before outage (count_of idle.last cold gone.control.control.opening.steps) gone.control.checkpoint gone.control.control.opening

  opened_counts : (cold : Bool) (gone : HasOpened state idle old cold session) (high : ℕ) → CountsFirst system high (state handed)
      → CountsUp state (high + call_raises * measure (session_at events (Up gone.control) session.kept) - force_raises) gone.control
  opened_counts cold gone high first =
      let more : bound high + 1 ≤ high + call_raises * measure (session_at events (Up gone.control) session.kept) - force_raises = omega (arith, opened_measured cold gone) in
      record {
        own = λ up.
            stands_more (bound high + 1) (high + call_raises * measure (session_at events (Up gone.control) session.kept) - force_raises) gone.control.journal gone.control.next_unit more
            (gone.stands (bound high) (λ found. tells_now first.tells) (λ found. shown_counts high first));
        images = λ image left.
            subst (λ (s : System). CountsUpTo s (high + call_raises * measure (session_at events (Up gone.control) session.kept) - force_raises + force_raises) image) (sym (gone.opens.system_is ∙ sound.system_is))
            (up_to_more system (bound high + 1) (high + call_raises * measure (session_at events (Up gone.control) session.kept) - force_raises + force_raises) image (omega (arith, more)) (raised gone.control.disk gone.counts high first image left));
      }

  -- ---- the numbers that were told

  opened_numbers : (cold : Bool) (gone : HasOpened state idle old cold session) → numbers_so_far (session_at events (Up gone.control) session.kept) ≡ numbers_so_far before
  opened_numbers cold gone =
      ap numbers_so_far (sym (ap (λ p. session_at events p session.kept) gone.place) ∙ opened_state cold gone)
      ∙ append-nil (numbers_told (with_life (map life_of old.lives.items) outage.last (count_of idle.last cold gone.control.control.opening.steps)))
      ∙ with_numbers (map life_of old.lives.items) outage.last (count_of idle.last cold gone.control.control.opening.steps)

  opened_sound : (cold : Bool) → HasOpened state idle old cold session → IsSessionSound state system source handed events session
  opened_sound cold gone =
      subst (λ p. IsSoundAt state system source handed events p session.kept) (sym gone.place) (record {
        handed_alone = sound.handed_alone;
        system_is = gone.opens.system_is ∙ sound.system_is;
        text_is = gone.opens.text_is ∙ sound.text_is;
        size = sectors_there gone.opens.size;
        same = same_on (state handed) (state idle.disk) (state gone.control.disk) sound.same (stays_is_same (state idle.disk) (state gone.control.disk) gone.opens.stays);
        stops = subst (λ n. AreStops (state handed).faults session.kept.stops.items n) (sym gone.opens.began)
            (subst (λ s. AreStops (state handed).faults s (state idle.disk).faults) (sym gone.stops) sound.stops);
        began = gone.opens.began ∙ sym gone.opens.no_fault;
        legal = subst (λ l. AreLegal system l) (sym (ap (map life_of) gone.lives ∙ lives_with old.lives.items idle.last cold gone.control.control.opening.steps))
            (legal_with system (map life_of old.lives.items) outage.last (kept_steps idle.last) (count_of idle.last cold gone.control.control.opening.steps) sound.legal sound.answered);
        valid = sound.valid;
        counts = opened_counts cold gone;
        happened = events_go state system events handed idle.disk gone.control.disk sound.happened (record { stays = gone.opens.stays; later = gone.opens.any_moment.later });
        told = sound.told ∙ sym (opened_numbers cold gone);
      })

  -- ---- the disk failed

  outage_after : (after : Idle D) (emptied stopped : Bool) → after.last ≡ idle.last → after.emptied ≡ emptied → after.stopped ≡ stopped
      → outage_of after ≡ outage_with outage.last emptied stopped
  outage_after after emptied stopped last e t =
      ap (λ l. outage_with (option_map last_life_of l) after.emptied after.stopped) last ∙ ap (λ b. outage_with outage.last b after.stopped) e ∙ ap (outage_with outage.last emptied) t

  failed_state : (cold : Bool) (gone : HasFailed state idle old cold session) → session_of events_failed session ≡ failed before outage cold ((state idle.disk).faults, (state gone.disk).faults)
  failed_state cold gone =
      ap (λ p. session_at events_failed p session.kept) gone.place
      ∙ same_state (map life_of old.lives.items) (map life_of session.kept.lives.items) (old.stops.items ++ ((state idle.disk).faults, (state gone.disk).faults) ∷ []) session.kept.stops.items
      (past_with events_failed 0) (past_with events_failed session.kept.pick) (StandsDown (outage_with outage.last (or_cold cold outage.emptied) true)) (StandsDown (outage_of gone.after))
      (ap (map life_of) gone.lives) gone.stops (ap (past_with events_failed) gone.pick) (ap StandsDown (outage_after gone.after (or_cold cold outage.emptied) true gone.last gone.emptied gone.stopped))

  -- what was held before is held still, where a cold start may have emptied it
  keeps_holding : (cold : Bool) (image : Image) → HoldsSession state system source handed (StandsDown outage) image → HoldsSession state system source handed (StandsDown (outage_with outage.last (or_cold cold outage.emptied) true)) image
  keeps_holding cold image (inl recalls) = inl (record { state = recalls.state; recovers = recalls.recovers; may = (recalls.may.0, still cold recalls.may.1) })
    where
      still : (cold : Bool) → MayBeFound setting outage recalls.may.0 recalls.state → MayBeFound setting (outage_with outage.last (or_cold cold outage.emptied) true) recalls.may.0 recalls.state
      still cold (inl left) = inl left
      still true (inr emptied) = inr (record { broke_off = refl; empty = emptied.empty; counted = emptied.counted })
      still false (inr emptied) = inr emptied
  keeps_holding cold image (inr unopened) = inr (record { no_life = unopened.no_life; before = unopened.before; left = unopened.left; alike = unopened.alike })

  alike_holds : (first image : Image) → RecoversAlike system first image → HoldsSession state system source handed (StandsDown outage) first → HoldsSession state system source handed (StandsDown outage) image
  alike_holds first image alike (inl recalls) = inl (record { state = recalls.state; recovers = alike (Ok recalls.state) recalls.recovers; may = recalls.may })
  alike_holds first image alike (inr unopened) =
      inr (record { no_life = unopened.no_life; before = unopened.before; left = unopened.left; alike = λ answer is. alike answer (unopened.alike answer is) })

  broken_by : (cold : Bool) (first image : Image) → KeepsBy (how_of cold) system source first image → HoldsSession state system source handed (StandsDown outage) first
      → HoldsSession state system source handed (StandsDown (outage_with outage.last (or_cold cold outage.emptied) true)) image
  broken_by false first image keeps holds = keeps_holding false image (alike_holds first image keeps.alike holds)
  broken_by true first image (inl same) holds = keeps_holding true image (subst (λ i. HoldsSession state system source handed (StandsDown outage) i) (sym same) holds)
  broken_by true first image (inr empty) holds = inl (record { state = empty_state system; recovers = empty.recovers; may = (last_forced outage.last, inr (record { broke_off = refl; empty = refl; counted = refl })) })

  same_image : (cold : Bool) (image : Image) → KeepsBy (how_of cold) system source image image
  same_image false image = record { alike = λ answer is. is; texts = inl refl; number = λ low is. is }
  same_image true image = inl refl

  abbrev outage_behind : Bool → Outage
  outage_behind cold = outage_with outage.last (or_cold cold outage.emptied) true

  -- where the disk that was handed in may be opened yet, so it was before
  yet_before : (cold : Bool) → OpensFirst false (outage_behind cold) → OpensFirst false outage
  yet_before cold yet = record { found = refl; first = yet.first }

  -- an image that was emptied is so still
  still_emptied : (cold : Bool) → outage.emptied ≡ true → or_cold cold outage.emptied ≡ true
  still_emptied true emptied = refl
  still_emptied false emptied = emptied

  -- of an image that recovers alike
  right_behind : (cold : Bool) (first image : Image) → RecoversAlike system first image → IsOfDefinition system source (state handed) ⊎ IsEmptyImage system (StandsDown outage) first
      → IsOfDefinition system source (state handed) ⊎ IsEmptyImage system (StandsDown (outage_behind cold)) image
  right_behind cold first image alike (inl was) = inl was
  right_behind cold first image alike (inr emptied) = inr (record { broke_off = still_emptied cold emptied.broke_off; empty = alike (Ok (empty_state system)) emptied.empty })

  alike_same : (first image : Image) → image ≡ first → RecoversAlike system first image
  alike_same first image same = λ answer is. subst (λ (i : Image). Recovers system i answer) (sym same) is

  -- its text
  text_same : (cold : Bool) (first image : Image) → image ≡ first → IsOfText state system source handed (StandsDown outage) first → IsOfText state system source handed (StandsDown (outage_behind cold)) image
  text_same cold first image same (inl right) =
      inl (record {
        has_text = subst (λ (i : Image). HasText system source i) (sym same) right.has_text;
        first = λ yet. right_behind cold first image (alike_same first image same) (right.first (yet_before cold yet));
      })
  text_same cold first image same (inr there) = inr (record { no_life = there.no_life; left = subst (λ (i : Image). (state handed).may_leave i) (sym same) there.left })

  -- each image that was handed in is of a text that one of them has
  handed_text : (one : Image) → (state handed).may_leave one → HasText system source one → IsOfDefinition system source (state handed)
  handed_text one there has image left = subst (λ (i : Image). HasText system source i) (sound.handed_alone one there ∙ sym (sound.handed_alone image left)) has

  text_kept : (first image : Image) → RecoversAlike system first image → HasText system source first → HasText system source image → IsOfText state system source handed (StandsDown outage) first
      → IsRight state system source handed (StandsDown (outage_behind false)) image
  text_kept first image alike had has (inl right) = record { has_text = has; first = λ yet. right_behind false first image alike (right.first (yet_before false yet)) }
  text_kept first image alike had has (inr there) = record { has_text = has; first = λ yet. inl (handed_text first there.left had) }

  text_by : (cold : Bool) (first image : Image) → KeepsBy (how_of cold) system source first image → IsOfText state system source handed (StandsDown outage) first
      → IsOfText state system source handed (StandsDown (outage_behind cold)) image
  text_by false first image keeps text = ⊎_elim (λ same. text_same false first image same text) (λ both. inl (text_kept first image keeps.alike both.0 both.1 text)) keeps.texts
  text_by true first image (inl same) text = text_same true first image same text
  text_by true first image (inr empty) text = inl (record { has_text = empty.has_text; first = λ yet. inr (record { broke_off = refl; empty = empty.recovers }) })

  failed_from : (cold : Bool) (gone : HasFailed state idle old cold session) (image : Image) → (state gone.after.disk).may_leave image → ComesFrom (KeepsBy (how_of cold) system source) (state idle.disk) image
  failed_from cold gone image left =
      let moved : Within (KeepsBy (how_of cold) system idle.text) (state idle.disk) (state gone.disk) =
      subst (λ s. Within (KeepsBy (how_of cold) s idle.text) (state idle.disk) (state gone.disk)) sound.system_is gone.back.any_moment in
      let within : Within (KeepsBy (how_of cold) system source) (state idle.disk) (state gone.disk) =
      subst (λ (t : List ℕ). Within (KeepsBy (how_of cold) system t) (state idle.disk) (state gone.disk)) sound.text_is moved in
      within_each (KeepsBy (how_of cold) system source) (state idle.disk) (state gone.disk) (is_disk idle.disk) (same_image cold) within image
      ((is_disk gone.disk).now_counts (state idle.disk).clock image within.later (gone.cut.no_more image left))

  failed_texts : (cold : Bool) (gone : HasFailed state idle old cold session) (image : Image) → (state gone.after.disk).may_leave image → IsOfText state system source handed (StandsDown (outage_behind cold)) image
  failed_texts cold gone image left =
      let comes = failed_from cold gone image left in
      text_by cold comes.before image comes.by (sound.texts comes.before comes.left)

  failed_holds : (cold : Bool) (gone : HasFailed state idle old cold session) (image : Image) → (state gone.after.disk).may_leave image
      → HoldsSession state system source handed (StandsDown (outage_with outage.last (or_cold cold outage.emptied) true)) image
  failed_holds cold gone image left =
      let comes = failed_from cold gone image left in
      broken_by cold comes.before image comes.by (sound.images comes.before comes.left)

  -- the number of its checkpoint
  numbered_still : (cold : Bool) (first image : Image) → KeepsBy (how_of cold) system source first image → IsNumberedAt setting (StandsDown outage) first → IsNumberedAt setting (StandsDown (outage_behind cold)) image
  numbered_still true first image keeps numbered = inl refl
  numbered_still false first image keeps (inl emptied) = inl emptied
  numbered_still false first image keeps (inr above) = inr (λ number known. keeps.number number (above number known))

  failed_numbered : (cold : Bool) (gone : HasFailed state idle old cold session) (image : Image) → (state gone.after.disk).may_leave image → IsNumberedAt setting (StandsDown (outage_behind cold)) image
  failed_numbered cold gone image left =
      let comes = failed_from cold gone image left in
      numbered_still cold comes.before image comes.by (sound.numbered comes.before comes.left)

  failed_measured : (cold : Bool) (gone : HasFailed state idle old cold session) → measure (session_at events_failed (Down gone.after) session.kept) ≡ measure before + 1
  failed_measured cold gone =
      ap measure (sym (ap (λ p. session_at events_failed p session.kept) gone.place) ∙ failed_state cold gone) ∙ failed_measure before outage cold ((state idle.disk).faults, (state gone.disk).faults)

  failed_counts : (cold : Bool) (gone : HasFailed state idle old cold session) (high : ℕ) → CountsFirst system high (state handed)
      → CountsDown system (high + call_raises * measure (session_at events_failed (Down gone.after) session.kept)) (state gone.after.disk)
  failed_counts cold gone high first image left =
      up_to_more system (bound high + 1) (high + call_raises * measure (session_at events_failed (Down gone.after) session.kept)) image (omega (arith, failed_measured cold gone))
      (raised gone.disk gone.counts high first image (gone.cut.no_more image left))

  failed_sound : (cold : Bool) → HasFailed state idle old cold session → IsSessionSound state system source handed events_failed session
  failed_sound cold gone =
      let outage_is : outage_of gone.after ≡ outage_with outage.last (or_cold cold outage.emptied) true = outage_after gone.after (or_cold cold outage.emptied) true gone.last gone.emptied gone.stopped in
      let same : IsSameDisk (state handed) (state gone.disk) = same_on (state handed) (state idle.disk) (state gone.disk) sound.same (stays_is_same (state idle.disk) (state gone.disk) gone.back.stays) in
      subst (λ p. IsSoundAt state system source handed events_failed p session.kept) (sym gone.place) (record {
        handed_alone = sound.handed_alone;
        system_is = gone.back.system_is ∙ sound.system_is;
        text_is = gone.back.text_is ∙ sound.text_is;
        size = λ begun. sound.size (ap is_some (sym gone.last) ∙ begun);
        texts = λ image left. subst (λ o. IsOfText state system source handed (StandsDown o) image) (sym outage_is) (failed_texts cold gone image left);
        same = same_on (state handed) (state gone.disk) (state gone.after.disk) same gone.cut.same;
        stops = subst (λ n. AreStops (state handed).faults session.kept.stops.items n) (sym gone.cut.faults)
            (subst (λ s. AreStops (state handed).faults s (state gone.disk).faults) (sym gone.stops)
            (stops_one (state handed).faults (state idle.disk).faults (state gone.disk).faults old.stops.items sound.stops gone.back.stays.faults
            (rose_from (state idle.disk).faults (state idle.disk).faults (state gone.disk).faults refl gone.back.cause)));
        legal = subst (λ l. AreLegal system (map life_of l)) (sym gone.lives) sound.legal;
        answered = subst (λ l. LastAnswered system (option_map last_life_of l) (kept_steps l)) (sym gone.last) sound.answered;
        images = λ image left. subst (λ o. HoldsSession state system source handed (StandsDown o) image) (sym outage_is) (failed_holds cold gone image left);
        numbered = λ image left. subst (λ o. IsNumberedAt setting (StandsDown o) image) (sym outage_is) (failed_numbered cold gone image left);
        valid = sound.valid;
        counts = failed_counts cold gone;
        happened = events_one state system events (CutWith old.pick) handed gone.disk gone.after.disk
            (events_go state system events handed idle.disk gone.disk sound.happened (record { stays = gone.back.stays; later = gone.back.any_moment.later })) gone.cut;
        told = cut_numbers events old.pick ∙ sound.told
            ∙ sym (ap numbers_so_far (sym (ap (λ p. session_at events_failed p session.kept) gone.place) ∙ failed_state cold gone));
      })

  -- ---- all is as it was

  idle_state : StaysIdle state idle old session → session_of events session ≡ before
  idle_state idles =
      ap (λ p. session_at events p session.kept) idles.place
      ∙ same_state (map life_of old.lives.items) (map life_of session.kept.lives.items) old.stops.items session.kept.stops.items
      (past_with events old.pick) (past_with events session.kept.pick) (StandsDown outage) (StandsDown (outage_of idles.after))
      (ap (map life_of) idles.lives) idles.stops (ap (past_with events) idles.pick) (ap StandsDown (outage_after idles.after outage.emptied outage.stopped idles.last idles.emptied idles.stopped))

  idle_measured : (idles : StaysIdle state idle old session) → measure (session_at events (Down idles.after) session.kept) ≡ measure before
  idle_measured idles = ap measure (sym (ap (λ p. session_at events p session.kept) idles.place) ∙ idle_state idles)

  idle_counts : (idles : StaysIdle state idle old session) (high : ℕ) → CountsFirst system high (state handed)
      → CountsDown system (high + call_raises * measure (session_at events (Down idles.after) session.kept)) (state idles.after.disk)
  idle_counts idles high first image left =
      up_to_more system (bound high) (high + call_raises * measure (session_at events (Down idles.after) session.kept)) image (omega (arith, idle_measured idles))
      (sound.counts high first image (idles.wrote.keeps.no_more image left))

  idle_sound : StaysIdle state idle old session → IsSessionSound state system source handed events session
  idle_sound idles =
      let outage_is : outage_of idles.after ≡ outage = outage_after idles.after outage.emptied outage.stopped idles.last idles.emptied idles.stopped in
      subst (λ p. IsSoundAt state system source handed events p session.kept) (sym idles.place) (record {
        handed_alone = sound.handed_alone;
        system_is = idles.system_is ∙ sound.system_is;
        text_is = idles.text_is ∙ sound.text_is;
        size = λ begun. sound.size (ap is_some (sym idles.last) ∙ begun);
        texts = λ image left. subst (λ o. IsOfText state system source handed (StandsDown o) image) (sym outage_is) (sound.texts image (idles.wrote.keeps.no_more image left));
        same = same_on (state handed) (state idle.disk) (state idles.after.disk) sound.same (stays_is_same (state idle.disk) (state idles.after.disk) idles.wrote.keeps.stays);
        stops = subst (λ n. AreStops (state handed).faults session.kept.stops.items n) (sym idles.wrote.no_fault)
            (subst (λ s. AreStops (state handed).faults s (state idle.disk).faults) (sym idles.stops) sound.stops);
        legal = subst (λ l. AreLegal system (map life_of l)) (sym idles.lives) sound.legal;
        answered = subst (λ l. LastAnswered system (option_map last_life_of l) (kept_steps l)) (sym idles.last) sound.answered;
        images = λ image left. subst (λ o. HoldsSession state system source handed (StandsDown o) image) (sym outage_is) (sound.images image (idles.wrote.keeps.no_more image left));
        numbered = λ image left. subst (λ o. IsNumberedAt setting (StandsDown o) image) (sym outage_is) (sound.numbered image (idles.wrote.keeps.no_more image left));
        valid = sound.valid;
        counts = idle_counts idles;
        happened = events_go state system events handed idle.disk idles.after.disk sound.happened (record { stays = idles.wrote.keeps.stays; later = idles.wrote.keeps.elapses.later });
        told = sound.told ∙ sym (ap numbers_so_far (sym (ap (λ p. session_at events p session.kept) idles.place) ∙ idle_state idles));
      })

  -- ---- a disk that can't be opened

  never_none : (last : Option Life) → is_some last ≡ true → option_map last_life_of last ≡ None → ⊥
  never_none None begun none = cc
  never_none (Some life) begun none = cc

  no_rule : (rule sector : ℕ) → Refuses (how_of false) idle.system idle.text (state idle.disk) (error_of (Rule rule sector)) → is_some idle.last ≡ true → setting.tells ≡ true → ⊥
  no_rule rule sector refuses begun tells =
      let recovers : Recovers system (state idle.disk).shown (Err (rule, sector)) =
      subst (λ s. Recovers s (state idle.disk).shown (Err (rule, sector))) sound.system_is (refuses.found refl (tells_now tells)).recovers in
      ⊎_elim
      (λ recalls. ok_or_err recalls.state (rule, sector) (one_answer_of system (state idle.disk).shown (Ok recalls.state) (Err (rule, sector)) recalls.recovers recovers))
      (λ unopened. never_none idle.last begun unopened.no_life)
      (shown_holds tells)

  no_size : (cold : Bool) (needed has : ℕ) → Refuses (how_of cold) idle.system idle.text (state idle.disk) (error_of (Size needed has)) → is_some idle.last ≡ true → ⊥
  no_size cold needed has refuses begun =
      let enough : sectors_needed system ≤ (state handed).size = sound.size begun in
      let need : needed ≡ sectors_needed system = refuses.size.right_need ∙ ap sectors_needed sound.system_is in
      omega (arith, enough, need, refuses.size.right_size, sound.same.size, refuses.size.less)

  -- the text of what is shown is the definition's
  no_other : (place : ℕ) → Refuses (how_of false) idle.system idle.text (state idle.disk) (error_of (Text place)) → setting.tells ≡ true → HasText system source (state idle.disk).shown → ⊥
  no_other place refuses tells text =
      let other : IsOther idle.system idle.text (state idle.disk).shown place = refuses.found refl (tells_now tells) in
      let has : restart_in (snapshot_area system) (is_single system) (state idle.disk).shown ≡ Ok (Some other.restart) =
      subst (λ s. restart_in (snapshot_area s) (is_single s) (state idle.disk).shown ≡ Ok (Some other.restart)) sound.system_is other.has_restart in
      no_difference idle.text (text_in (state idle.disk).shown other.restart.text) place (text other.restart has ∙ sym sound.text_is) other.differs

  shown_text : setting.tells ≡ true → IsOfText state system source handed (StandsDown outage) (state idle.disk).shown
  shown_text tells = sound.texts (state idle.disk).shown ((is_disk idle.disk).shown_left (tells_now tells))

  no_text : (place : ℕ) → Refuses (how_of false) idle.system idle.text (state idle.disk) (error_of (Text place)) → is_some idle.last ≡ true → setting.tells ≡ true → ⊥
  no_text place refuses begun tells = ⊎_elim (λ right. no_other place refuses tells right.has_text) (λ there. never_none idle.last begun there.no_life) (shown_text tells)

  may_refuse : (cold : Bool) (refusal : ImageRefused) → Refuses (how_of cold) idle.system idle.text (state idle.disk) (error_of refusal) → is_some idle.last ≡ true → MayRefuse setting.tells refusal
  may_refuse cold (Size needed has) refuses begun = no_size cold needed has refuses begun
  may_refuse true (Text place) refuses begun = absurd (refuses.cold refl)
  may_refuse false (Text place) refuses begun =
      ⊎_elim (λ tells. absurd (no_text place refuses begun tells)) (λ silent. silent) (cases_Bool setting.tells)
  may_refuse true (Rule rule sector) refuses begun = absurd (refuses.cold refl)
  may_refuse false (Rule rule sector) refuses begun =
      ⊎_elim (λ tells. absurd (no_rule rule sector refuses begun tells)) (λ silent. silent) (cases_Bool setting.tells)

  not_cold : (cold : Bool) (refusal : ImageRefused) → Refuses (how_of cold) idle.system idle.text (state idle.disk) (error_of refusal) → is_some idle.last ≡ true → cold ≡ false
  not_cold false refusal refuses begun = refl
  not_cold true (Size needed has) refuses begun = absurd (no_size true needed has refuses begun)
  not_cold true (Text place) refuses begun = absurd (refuses.cold refl)
  not_cold true (Rule rule sector) refuses begun = absurd (refuses.cold refl)

  no_life : is_some idle.last ≡ false → outage.last ≡ None
  no_life none = of idle.last none
    where
      of : (last : Option Life) → is_some last ≡ false → option_map last_life_of last ≡ None
      of None none = refl
      of (Some life) none = cc

  -- ---- while no life has begun

  -- What is shown recovers as what was handed in; or a cold start broke off since, and it is empty.
  abbrev AlikeFirst : Type 0
  AlikeFirst = ((image : Image) → (state handed).may_leave image → RecoversAlike system image (state idle.disk).shown)
      ⊎ ((outage.emptied ≡ true) × Recovers system (state idle.disk).shown (Ok (empty_state system)))

  alike_found : (lasting : LastingState) → Recovers system (state idle.disk).shown (Ok lasting) → (last : Option LastLife) → last ≡ None → (kept : ℕ) → IsStateLeft setting last kept lasting
      → (image : Image) → (state handed).may_leave image → RecoversAlike system image (state idle.disk).shown
  alike_found lasting recovers (Some life) none kept left image there answer is = cc
  alike_found lasting recovers None none kept left image there answer is =
      let found = left image there in
      subst (λ (a : Result LastingState Fault). Recovers system (state idle.disk).shown a) (one_answer_of system found.found (Ok lasting) answer found.recovers (found.alike answer is)) recovers

  alike_first : outage.last ≡ None → HoldsSession state system source handed (StandsDown outage) (state idle.disk).shown → AlikeFirst
  alike_first none (inl recalls) = of recalls.may.1
    where
      of : MayBeFound setting outage recalls.may.0 recalls.state → AlikeFirst
      of (inl left) = inl (alike_found recalls.state recalls.recovers outage.last none recalls.may.0 left)
      of (inr emptied) = inr (emptied.broke_off, subst (λ s. Recovers system (state idle.disk).shown (Ok s)) emptied.empty recalls.recovers)
  alike_first none (inr unopened) = inl (λ image there.
      subst (λ (i : Image). RecoversAlike system i (state idle.disk).shown) (sym (sound.handed_alone image there ∙ sym (sound.handed_alone unopened.before unopened.left))) unopened.alike)

  size_first : (error : OpenError) → SizeFirst idle.system (state idle.disk).size (Err error) → SizeFirst system (state handed).size (Err error)
  size_first error size = subst (λ n. SizeFirst system n (Err error)) sound.same.size (subst (λ s. SizeFirst s (state idle.disk).size (Err error)) sound.system_is size)

  -- of a disk that tells nothing no image is named
  silent_first : setting.tells ≡ false → (image : Image) → (state handed).may_leave image → ⊥
  silent_first silent image there = leaves_none (state handed) (is_disk handed) silent image there

  broken_shown : (rule sector : ℕ) → Refuses (how_of false) idle.system idle.text (state idle.disk) (error_of (Rule rule sector)) → setting.tells ≡ true
      → Recovers system (state idle.disk).shown (Err (rule, sector))
  broken_shown rule sector refuses tells = subst (λ s. Recovers s (state idle.disk).shown (Err (rule, sector))) sound.system_is (refuses.found refl (tells_now tells)).recovers

  broken_first : (rule sector : ℕ) → Refuses (how_of false) idle.system idle.text (state idle.disk) (error_of (Rule rule sector)) → outage.last ≡ None → (image : Image) → (state handed).may_leave image
      → IsBrokenAs system image rule sector
  broken_first rule sector refuses none image there = ⊎_elim told (λ silent. absurd (silent_first silent image there)) (cases_Bool setting.tells)
    where
      of : setting.tells ≡ true → AlikeFirst → IsBrokenAs system image rule sector
      of tells (inl alike) = record { found = (state idle.disk).shown; alike = alike image there; broken = broken_shown rule sector refuses tells }
      of tells (inr (emptied, empty)) =
          absurd (ok_or_err (empty_state system) (rule, sector) (one_answer_of system (state idle.disk).shown (Ok (empty_state system)) (Err (rule, sector)) empty (broken_shown rule sector refuses tells)))

      told : setting.tells ≡ true → IsBrokenAs system image rule sector
      told tells = of tells (alike_first none (shown_holds tells))

  other_first : (place : ℕ) → Refuses (how_of false) idle.system idle.text (state idle.disk) (error_of (Text place)) → (image : Image) → (state handed).may_leave image → IsOther system source image place
  other_first place refuses image there = ⊎_elim told (λ silent. absurd (silent_first silent image there)) (cases_Bool setting.tells)
    where
      shown_other : setting.tells ≡ true → IsOther system source (state idle.disk).shown place
      shown_other tells =
          subst (λ (t : List ℕ). IsOther system t (state idle.disk).shown place) sound.text_is
          (subst (λ s. IsOther s idle.text (state idle.disk).shown place) sound.system_is (refuses.found refl (tells_now tells)))

      of : setting.tells ≡ true → IsOfText state system source handed (StandsDown outage) (state idle.disk).shown → IsOther system source image place
      of tells (inl right) = absurd (no_other place refuses tells right.has_text)
      of tells (inr shown) =
          subst (λ (i : Image). IsOther system source i place) (sound.handed_alone (state idle.disk).shown shown.left ∙ sym (sound.handed_alone image there)) (shown_other tells)

      told : setting.tells ≡ true → IsOther system source image place
      told tells = of tells (shown_text tells)

  refused_first : (cold : Bool) (refusal : ImageRefused) → Refuses (how_of cold) idle.system idle.text (state idle.disk) (error_of refusal) → outage.last ≡ None → IsRefusedFirst state system source handed refusal
  refused_first cold (Size needed has) refuses none = record { size = size_first (error_of (Size needed has)) refuses.size; images = λ image there. tt }
  refused_first true (Rule rule sector) refuses none = absurd (refuses.cold refl)
  refused_first false (Rule rule sector) refuses none =
      record { size = size_first (error_of (Rule rule sector)) refuses.size; images = λ image there. broken_first rule sector refuses none image there }
  refused_first true (Text place) refuses none = absurd (refuses.cold refl)
  refused_first false (Text place) refuses none =
      record { size = size_first (error_of (Text place)) refuses.size; images = λ image there. other_first place refuses image there }

  -- ---- a counter is spent

  spent_found : (counter : Counter) → Refuses (how_of false) idle.system idle.text (state idle.disk) (SpentCounter counter) → setting.tells ≡ true → FindsSpent setting.counts (measure before) setting outage
  spent_found counter refuses tells =
      let is : IsSpent idle.system idle.text (state idle.disk).shown counter = refuses.found refl (tells_now tells) in
      record {
        kept = count_of idle.last false is.state.steps;
        state = is.state;
        found = found_by (state idle.disk).shown is.state (shown_holds tells) (subst (λ s. Recovers s (state idle.disk).shown (Ok is.state)) sound.system_is is.found.recovers);
        spent = record {
          epoch = is.restart.epoch;
          sequence = next_sequence idle.system (state idle.disk).shown is.restart;
          checkpoint = is.restart.checkpoint;
          unit = is.unit;
          counter = counter;
          spent = is.spent;
          own = λ high first. let counts : AreUpTo idle.system (bound high) (state idle.disk).shown is.restart = shown_counts high first is.restart is.found.has_restart in
              record {
                epoch_low = counts.epoch;
                sequence_low = counts.sequence;
                checkpoint_low = counts.checkpoint;
                unit_low = subst (λ (n : ℕ). n ≤ bound high) (sym is.found.next) (counts.unit is.found.snapshot is.found.has_snapshot);
              };
        };
      }

  abbrev restart_asked : Bool → Asked
  restart_asked true = ColdStart
  restart_asked false = Restart

  spent_down : (cold : Bool) → RefusesSpent state idle cold → IsSpentAt setting.counts setting before × CountsOn before.standing (restart_asked cold)
  spent_down true spent = absurd (spent.refuses.cold refl)
  spent_down false spent = ((λ tells. spent_found spent.counter spent.refuses tells), tt)

  -- ---- all of it

  -- a cold start is refused by its size alone
  looked_at : (cold : Bool) (refusal : ImageRefused) → Refuses (how_of cold) idle.system idle.text (state idle.disk) (error_of refusal) → IsLookedAt (restart_asked cold) refusal
  looked_at true (Size needed has) refuses = tt
  looked_at true (Rule rule sector) refuses = absurd (refuses.cold refl)
  looked_at true (Text place) refuses = absurd (refuses.cold refl)
  looked_at false (Size needed has) refuses = tt
  looked_at false (Rule rule sector) refuses = tt
  looked_at false (Text place) refuses = tt

  -- what has been done with the disk then
  abbrev events_by : Served → List DiskEvent
  events_by Printed = events
  events_by Broke = events_failed
  events_by (NotServed undone) = events

  abbrev Restarted : Bool → List ℕ → Served → Type 0
  Restarted cold text Printed = IsRestarted cold setting before outage (session_of events session) text
  Restarted cold text Broke = IsRestarted cold setting before outage (session_of events_failed session) broken_text
  Restarted cold text (NotServed undone) = (session_of events session ≡ before) × UndoneBy undone (restart_asked cold) setting before

  refused : (cold begun : Bool) (refusal : ImageRefused) (text : List ℕ) (served : Served) → is_some idle.last ≡ begun → StaysIdle state idle old session
      → Refuses (how_of cold) idle.system idle.text (state idle.disk) (error_of refusal) → IsRefusalTold begun refusal text served → Restarted cold text served
  refused cold true refusal text served is idles refuses (printed, same) =
      subst (λ s. Restarted cold text s) (sym printed)
      (inr (inr (record { found = not_cold cold refusal refuses is; refusal = refusal; begun = some_last idle.last is; may = may_refuse cold refusal refuses is; stays = idle_state idles; printed = same })))
  refused cold false refusal text served is idles refuses undone =
      subst (λ s. Restarted cold text s) (sym undone) (idle_state idles, ((no_life is, refused_first cold refusal refuses (no_life is)), looked_at cold refusal refuses))

  -- What was handed in is opened only where it is of the definition's text; or a cold start has emptied it.
  right_first : (cold : Bool) (gone : HasOpened state idle old cold session) → setting.tells ≡ true → OpensFirst cold outage
      → setting.right_text ⊎ IsStateEmptied system outage.last outage.emptied (count_of idle.last cold gone.control.control.opening.steps) gone.control.control.opening
  right_first true gone tells yet = absurd (no_true yet.found)
  right_first false gone tells yet = of (shown_text tells)
    where
      told : TellsOpening idle.system idle.text (state idle.disk).shown (Ok (gone.opens.begins.parts, gone.control.control.opening))
      told = gone.opens.begins.found refl (tells_now tells)

      has : HasText system source (state idle.disk).shown
      has =
          subst (λ (t : List ℕ). HasText system t (state idle.disk).shown) sound.text_is
          (subst (λ s. HasText s idle.text (state idle.disk).shown) sound.system_is (told_text idle.system idle.text (state idle.disk).shown gone.opens.begins.parts gone.control.control.opening told))

      recovers : Recovers system (state idle.disk).shown (Ok gone.control.control.opening)
      recovers = subst (λ s. Recovers s (state idle.disk).shown (Ok gone.control.control.opening)) sound.system_is (told_state gone.opens.begins.parts gone.control.control.opening idle.text told)

      opens_empty : IsEmptyImage system (StandsDown outage) (state idle.disk).shown
          → IsStateEmptied system outage.last outage.emptied (count_of idle.last false gone.control.control.opening.steps) gone.control.control.opening
      opens_empty emptied =
          emptied_as idle.last (last_forced outage.last) idle.emptied gone.control.control.opening
          (record {
            broke_off = emptied.broke_off;
            empty = ok_is gone.control.control.opening (empty_state system)
                (one_answer_of system (state idle.disk).shown (Ok gone.control.control.opening) (Ok (empty_state system)) recovers emptied.empty);
            counted = refl;
          })

      of : IsOfText state system source handed (StandsDown outage) (state idle.disk).shown
          → setting.right_text ⊎ IsStateEmptied system outage.last outage.emptied (count_of idle.last false gone.control.control.opening.steps) gone.control.control.opening
      of (inl right) = ⊎_elim (λ was. inl was) (λ emptied. inr (opens_empty emptied)) (right.first (record { found = refl; first = yet.first }))
      of (inr there) = inl (handed_text (state idle.disk).shown there.left has)

  -- a life opens with a higher number than any before it
  told_above : (number : ℕ) (parts : OpeningParts) (opening : LastingState) → IsNumberedFrom system number (state idle.disk).shown
      → TellsOpening idle.system idle.text (state idle.disk).shown (Ok (parts, opening)) → number < parts.now.checkpoint
  told_above number parts opening is (inl reopened) =
      let here : IsNumberedFrom idle.system number (state idle.disk).shown = subst (λ (s : System). IsNumberedFrom s number (state idle.disk).shown) (sym sound.system_is) is in
      let same : here.restart ≡ reopened.restart =
      one_restart here.restart reopened.restart (restart_in (snapshot_area idle.system) (is_single idle.system) (state idle.disk).shown) here.found reopened.found.has_restart in
      omega (arith, here.least, ap (λ (r : RestartSector). r.checkpoint) same, reopened.next.checkpoint)
  told_above number parts opening is (inr cold) =
      let here : IsNumberedFrom idle.system number (state idle.disk).shown = subst (λ (s : System). IsNumberedFrom s number (state idle.disk).shown) (sym sound.system_is) is in
      absurd (no_restart here.restart (restart_in (snapshot_area idle.system) (is_single idle.system) (state idle.disk).shown) cold.zeros here.found)

  shown_above : (gone : HasOpened state idle old false session) → setting.tells ≡ true → IsNumberedAt setting (StandsDown outage) (state idle.disk).shown
      → OpensAbove false setting outage gone.control.checkpoint
  shown_above gone tells (inl emptied) = inl emptied
  shown_above gone tells (inr numbered) =
      inr (λ number known.
      let above : number < gone.opens.begins.parts.now.checkpoint =
      told_above number gone.opens.begins.parts gone.control.control.opening (numbered number known) (gone.opens.begins.found refl (tells_now tells)) in
      omega (arith, above, gone.opens.checkpoint, ap (λ (r : RestartSector). r.checkpoint) gone.opens.begins.restart_is))

  opens_above : (cold : Bool) (gone : HasOpened state idle old cold session) → setting.tells ≡ true → OpensAbove cold setting outage gone.control.checkpoint
  opens_above false gone tells = shown_above gone tells (sound.numbered (state idle.disk).shown ((is_disk idle.disk).shown_left (tells_now tells)))
  opens_above true gone tells = gone.opens.checkpoint ∙ ap (λ (r : RestartSector). r.checkpoint) gone.opens.begins.restart_is ∙ (gone.opens.begins.cold refl).first.checkpoint

  -- a life that opened, and a disk that failed
  pub opens_gone : (cold : Bool) → HasOpened state idle old cold session → OpensLife cold setting before outage (session_of events session)
  opens_gone cold gone = record {
    kept = count_of idle.last cold gone.control.control.opening.steps;
    checkpoint = gone.control.checkpoint;
    state = gone.control.control.opening;
    above = opens_above cold gone;
    may = λ tells. may_open cold gone.control.control.opening gone.control.journal gone.control.next_unit gone.opens.begins tells;
    right = right_first cold gone;
    goes = opened_state cold gone;
  }

  pub fails_gone : (cold : Bool) → HasFailed state idle old cold session → FailsToOpen cold before outage (session_of events_failed session)
  fails_gone cold gone = record { stop = ((state idle.disk).faults, (state gone.disk).faults); ends = failed_state cold gone }

  pub restarted : (cold : Bool) (opening : Opening) (text : List ℕ) (served : Served) → HasGone state idle old cold session opening → IsOpeningTold cold (is_some idle.last) opening text served → Restarted cold text served
  restarted cold Opened text served gone (printed, same) =
      subst (λ s. Restarted cold text s) (sym printed)
      (inl (opens_gone cold gone, same))
  restarted cold OpeningBroke text served gone broke =
      subst (λ s. Restarted cold text s) (sym broke) (inr (inl (fails_gone cold gone, refl)))
  restarted cold (Refused refusal) text served gone told = refused cold (is_some idle.last) refusal text served refl gone.0 gone.1 told
  restarted cold OpeningMemory text served gone why = subst (λ s. Restarted cold text s) (sym why) (idle_state gone, tt)
  restarted cold OpeningSpent text served (gone, spent) why = subst (λ s. Restarted cold text s) (sym why) (idle_state gone, spent_down cold spent)

  pub gone_sound : (cold : Bool) (opening : Opening) → HasGone state idle old cold session opening → IsSessionSound state system source handed (events_opening events old opening) session
  gone_sound cold Opened gone = opened_sound cold gone
  gone_sound cold OpeningBroke gone = failed_sound cold gone
  gone_sound cold (Refused refusal) gone = idle_sound gone.0
  gone_sound cold OpeningMemory gone = idle_sound gone
  gone_sound cold OpeningSpent gone = idle_sound gone.0

  -- as it was printed
  events_refused : (begun : Bool) (refusal : ImageRefused) (text : List ℕ) (served : Served) → IsRefusalTold begun refusal text served → events ≡ events_by served
  events_refused true refusal text served (printed, same) = subst (λ (s : Served). events ≡ events_by s) (sym printed) refl
  events_refused false refusal text served undone = subst (λ (s : Served). events ≡ events_by s) (sym undone) refl

  events_as_told : (cold begun : Bool) (opening : Opening) (text : List ℕ) (served : Served) → IsOpeningTold cold begun opening text served → events_opening events old opening ≡ events_by served
  events_as_told cold begun Opened text served (printed, same) = subst (λ (s : Served). events ≡ events_by s) (sym printed) refl
  events_as_told cold begun OpeningBroke text served broke = subst (λ (s : Served). events_failed ≡ events_by s) (sym broke) refl
  events_as_told cold begun (Refused refusal) text served told = events_refused begun refusal text served told
  events_as_told cold begun OpeningMemory text served undone = subst (λ (s : Served). events ≡ events_by s) (sym undone) refl
  events_as_told cold begun OpeningSpent text served undone = subst (λ (s : Served). events ≡ events_by s) (sym undone) refl

  -- a block that asks for a restart
  served_restart : (asked : Asked) (text : List ℕ) (served : Served) (cold : Bool) → asked_restart asked ≡ Some cold → Restarted cold text served → IsServedSo asked text served setting before (session_of (events_by served) session)
  served_restart Restart text Printed cold is one = subst (λ c. IsRestarted c setting before outage (session_of events session) text) (some_is cold false is) one
  served_restart Restart text Broke cold is one = subst (λ c. IsRestarted c setting before outage (session_of events_failed session) broken_text) (some_is cold false is) one
  served_restart Restart text (NotServed undone) cold is one =
      (one.0, subst (λ s. UndoneBy undone Restart setting s) (sym one.0) (subst (λ c. UndoneBy undone (restart_asked c) setting before) (some_is cold false is) one.1))
  served_restart ColdStart text Printed cold is one = subst (λ c. IsRestarted c setting before outage (session_of events session) text) (some_is cold true is) one
  served_restart ColdStart text Broke cold is one = subst (λ c. IsRestarted c setting before outage (session_of events_failed session) broken_text) (some_is cold true is) one
  served_restart ColdStart text (NotServed undone) cold is one =
      (one.0, subst (λ s. UndoneBy undone ColdStart setting s) (sym one.0) (subst (λ c. UndoneBy undone (restart_asked c) setting before) (some_is cold true is) one.1))
  served_restart (Bad rule) text served cold is one = cc
  served_restart (BadCommand rule) text served cold is one = cc
  served_restart (Stopped terminal number reason) text served cold is one = cc
  served_restart (Call call) text served cold is one = cc
  served_restart (Quiet most) text served cold is one = cc
  served_restart (Power pick) text served cold is one = cc
  served_restart (PowerIn writes pick) text served cold is one = cc

  pub served_down : (asked : Asked) (text : List ℕ) (served : Served) (cold : Bool) → asked_restart asked ≡ Some cold → IsRestartedSo state idle old cold session text served
      → LeadsBy state (λ setting old new. IsServedSo asked text served setting old new) system source handed events (session_down idle old) session
  served_down asked text served cold is one = record {
    events_now = events_by served;
    goes = served_restart asked text served cold is (restarted cold one.opening text served one.gone one.told);
    sound = subst (λ then_events. IsSessionSound state system source handed then_events session) (events_as_told cold (is_some idle.last) one.opening text served one.told) (gone_sound cold one.opening one.gone);
  }

-- another block
pub served_else : {D : Type 0} (state : D → DiskState) (idle : Idle D) (old : Kept) (setting : Setting) (asked : Asked) → asked_restart asked ≡ None
    → (events : List DiskEvent) → IsServedSo asked down_text Printed setting (session_at events (Down idle) old) (session_at events (Down idle) old)
served_else state idle old setting Restart is events = cc
served_else state idle old setting ColdStart is events = cc
served_else state idle old setting (Bad rule) is events = (refl, refl)
served_else state idle old setting (BadCommand rule) is events = (refl, refl)
served_else state idle old setting (Stopped terminal number reason) is events = (refl, refl)
served_else state idle old setting (Call call) is events = (refl, refl)
served_else state idle old setting (Quiet most) is events = (refl, refl)
served_else state idle old setting (Power pick) is events = (refl, refl)
served_else state idle old setting (PowerIn writes pick) is events = (refl, refl)
