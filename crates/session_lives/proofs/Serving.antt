-- What was asked of a control region that is up, as a block that was served.
use Rattle.std.proofs.Common.{◌≡◌, ℕ, ◌+◌, ◌-◌, ◌*◌, ◌≤◌, ◌<◌, Bool, true, false, List, [], ◌∷◌, ◌++◌, length, map, sym, ◌∙◌, ap, subst, refl, arith, inl, inr, append_assoc}
use Rattle.std.proofs.lemmas.List.{append-nil}
use Rattle.std.specs.Prelude.{if◌then◌else◌, Option, Some, None, Ok, Err, vec_len, vec_capacity}
use Rattle.tm_disk.specs.Disk.{DiskState, IsSameDisk, Only, Rose}
use Rattle.tm_disk.proofs.Words.{same_on}
use Rattle.model_system.specs.System.{System}
use Rattle.model_machine.specs.declared.entry.Entry.{Entry}
use Rattle.model_machine.specs.declared.entry.Entry.TheVariants.{Accept, Show, Acked, Turn as TurnEntry, Commanded, Checked, Quiet as IsQuiet}
use Rattle.model_machine.specs.declared.entry.ControlCall.TheVariants.{Turn}
use Rattle.model_machine.specs.Machine.{LastingState, Moment, start_of}
use Rattle.model_machine.specs.History.{May, AreSteps, IsCall, call_of, control_moment, moment_after}
use Rattle.model_session.specs.declared.asked.Asked.{Asked}
use Rattle.model_session.specs.declared.asked.Asked.TheVariants.{Bad, BadCommand, Stopped, Call, Quiet, Power as AskedPower, PowerIn, Restart, ColdStart}
use Rattle.model_session.specs.Text.{entry_text, broken_text, armed_text}
use Rattle.model_session.specs.QuietTurns.{AreTurns, IsQuieted, IsBrokenOff, quieted_text, region_behind_turns}
use Rattle.model_session.specs.Lives.{AreLegal, IsAllForced, IsForcedTo, binds, failed_force, longer, now_in}
use Rattle.model_session.specs.SessionState.{Setting, DiskEvent, DiskPast, SessionState, AreStops, life_gone_on, called_on, broken, stop_armed, told_one, told_by}
use Rattle.model_session.specs.SessionState.Standing.{Up as StandsUp}
use Rattle.model_session.specs.SessionState.DiskEvent.{StopsAt, CutWith, Tells}
use Rattle.model_session.specs.Session.{IsServedUp, IsBegunBy, IsSourceEnded}
use Rattle.tm_control.specs.ControlOnDisk.{ControlOnDisk, Lasts, front_of, lasting_after_entries}
use Rattle.tm_control.specs.ControlCalls.{IsSameControl, StaysSo}
use Rattle.session_lives.specs.declared.called.Called.{Called}
use Rattle.session_lives.specs.declared.called.Called.TheVariants.{Answered, Frozen, Power, Broke, Memory, Spent}
use Rattle.session_lives.specs.declared.called.Ending.{Ending}
use Rattle.session_lives.specs.declared.called.Ending.TheVariants.{Forced, Broke as HasBroken}
use Rattle.session_lives.specs.declared.called.Served.{Served}
use Rattle.session_lives.specs.declared.place.Place.TheVariants.{Up}
use Rattle.session_lives.specs.declared.place.Kept.{Kept}
use Rattle.session_lives.specs.declared.place.Session.{Session}
use Rattle.session_law.specs.Measures.{call_raises, lives_measure, measure}
use Rattle.session_law.specs.SpentCounters.{HasSpent, IsSpentAt}
use Rattle.session_lives.specs.ControlCounts.{CountsUp, KeepsPace, force_raises}
use Rattle.session_lives.specs.DiskEvents.{GoesOn, AreEvents}
use Rattle.session_lives.specs.ToldNumbers.{numbers_in, numbers_told, told_numbers, ShowsTold}
use Rattle.session_lives.specs.RunningSession.{life_of, last_up, session_at, session_of, session_up, session_setting, CountsFirst, IsUpReady, IsUpSound, IsSessionSound, IsSoundAt, IsReadyAt, LeadsBy}
use Rattle.session_lives.specs.AskedControl.{IsAsked, IsBound, IsForcedSo, DidNothing, DoesAsked, Freezes, AskedFails, PowersOff, Undoes, IsSpentUp, LooksAtCounters, StaysBy, pick_by}
use Rattle.session_lives.specs.Openings.{IsEndable, HasEndedLife, IsAloneBy, IsCallSettled, CountsOn, IsServedSo}
use Rattle.session_lives.specs.SourceEnd.{IsEndSettled, end_text}
use Rattle.session_lives.proofs.Bound.{bound_same, fails_before, front_is, most_up}
use Rattle.session_lives.proofs.Counting.{counts_more}
use Rattle.session_lives.proofs.Happening.{events_go, events_one, events_told, events_armed}
use Rattle.session_lives.proofs.Telling.{numbers_more, fault_numbers, turns_numbers, turns_told, cut_numbers, armed_numbers, one_numbers, numbers_behind}
use Rattle.session_lives.proofs.Staying.{stays_else, not_frozen, not_power, not_broke, not_memory, not_spent}
use Rattle.session_lives.proofs.Ends.{past_with, state_with, up_state, up_with, ended_state, broken_state, down_sound, stop_behind, no_stop}
use Rattle.session_lives.proofs.Picks.{pick_broke, pick_undone, pick_spent}

-- the pick that is kept, by whether the disk can be told to stop
armed_one : (can : Bool) (events : List DiskEvent) (writes pick before after : ℕ) → after ≡ (if can then pick else before)
    → past_with (stop_armed can writes pick (past_with events before)).events after ≡ stop_armed can writes pick (past_with events before)
armed_one true events writes pick before after is = ap (past_with (events ++ StopsAt writes ∷ [])) is
armed_one false events writes pick before after is = ap (past_with events) is

-- an entry leaves the pick as it is
told_picked : (entry : Entry) (events : List DiskEvent) (before after : ℕ) → after ≡ before → past_with (told_one entry (past_with events before)).events after ≡ told_one entry (past_with events before)
told_picked (Checked freeze (Ok number)) events before after is = ap (past_with (events ++ Tells number ∷ [])) is
told_picked (Checked freeze (Err refused)) events before after is = ap (past_with events) is
told_picked (Accept terminal number segments answer) events before after is = ap (past_with events) is
told_picked (Show terminal answer) events before after is = ap (past_with events) is
told_picked (Acked terminal number answer) events before after is = ap (past_with events) is
told_picked (TurnEntry region answer) events before after is = ap (past_with events) is
told_picked (Commanded command answer) events before after is = ap (past_with events) is
told_picked (IsQuiet quiet) events before after is = ap (past_with events) is

-- an entry with no checkpoint's number tells nothing
silent_one : (entry : Entry) → numbers_in (entry ∷ []) ≡ [] → (past : DiskPast) → told_one entry past ≡ past
silent_one (Checked freeze (Ok number)) none past = let clash : number ∷ [] ≡ [] = none in absurd (cc)
silent_one (Checked freeze (Err refused)) none past = refl
silent_one (Accept terminal number segments answer) none past = refl
silent_one (Show terminal answer) none past = refl
silent_one (Acked terminal number answer) none past = refl
silent_one (TurnEntry region answer) none past = refl
silent_one (Commanded command answer) none past = refl
silent_one (IsQuiet quiet) none past = refl

-- it is up still
module _ {D : Type 0} (state : D → DiskState) (a b : ControlOnDisk D) where
  up_undone : (asked : Asked) → Undoes state asked a b → b.up ≡ true
  up_undone (Quiet most) (inl added) = added.up
  up_undone (Quiet most) (inr stand) = stand.up
  up_undone (Bad rule) added = added.up
  up_undone (BadCommand rule) added = added.up
  up_undone (Stopped terminal number reason) added = added.up
  up_undone (Call call) added = added.up
  up_undone (AskedPower pick) added = added.up
  up_undone (PowerIn writes pick) added = added.up
  up_undone Restart added = added.up
  up_undone ColdStart added = added.up

module _ {D : Type 0} (state : D → DiskState) (system : System) (source : List ℕ) (handed : D) (events : List DiskEvent) (a b : ControlOnDisk D) (old kept : Kept) (session : Session D) (text : List ℕ)
    (sound : IsUpSound state system source handed events a old) (stays : IsSameControl state a b) (lives : kept.lives ≡ old.lives) (stops : kept.stops ≡ old.stops) (pace : KeepsPace state a b) (lasts : Lasts state b) where
  abbrev before : SessionState
  before = session_at events (Up a) old

  abbrev setting : Setting
  setting = session_setting state system source handed

  -- what was done with the disk before
  abbrev past : DiskPast
  past = past_with events old.pick

  -- where the session stands now
  goes_up : (now : List DiskEvent) → session ≡ session_up b kept → session_of now session ≡ session_at now (Up b) kept
  goes_up now on = ap (λ (s : Session D). session_of now s) on

  up_after : (now : List DiskEvent) → session ≡ session_up b kept → (entries : List Entry) → past_with now kept.pick ≡ told_by entries past → b.control.history ≡ a.control.history ++ entries
      → session_of now session ≡ life_gone_on before (last_up a) entries b.forced
  up_after now on entries same history = goes_up now on ∙ up_state events now a b old kept entries stays.opening stays.checkpoint history lives stops same

  past_after : (now : List DiskEvent) → session ≡ session_up b kept → (then_past : DiskPast) → past_with now kept.pick ≡ then_past → DidNothing state a b
      → session_of now session ≡ state_with (map life_of old.lives.items) old.stops.items then_past (StandsUp (last_up a))
  past_after now on then_past is added = goes_up now on ∙ up_with now a b old kept then_past stays.opening stays.checkpoint added.adds.history added.forced lives stops is

  same_after : session ≡ session_up b kept → kept.pick ≡ old.pick → DidNothing state a b → session_of events session ≡ before
  same_after on pick added = past_after events on past (ap (past_with events) pick) added

  -- ---- what happened at the disk

  went_on : StaysSo state a b → GoesOn (state a.disk) (state b.disk)
  went_on by = record { stays = by.disk; later = by.later }

  happened_now : StaysSo state a b → AreEvents state system events handed b.disk
  happened_now by = events_go state system events handed a.disk b.disk sound.happened (went_on by)

  -- an entry was told
  abbrev with_entry : Entry → List DiskEvent
  with_entry entry = (told_one entry past).events

  happened_entry : (entry : Entry) → StaysSo state a b → ShowsTold b.control.system entry (state b.disk) → AreEvents state system (with_entry entry) handed b.disk
  happened_entry entry by shows =
      events_told state system entry past handed b.disk (happened_now by) (subst (λ (s : System). ShowsTold s entry (state b.disk)) (stays.system ∙ sound.system_is) shows)

  -- it was told to stop, where it can be told so
  abbrev with_stop : ℕ → ℕ → List DiskEvent
  with_stop writes pick = (stop_armed setting.can_arm writes pick past).events

  happened_armed : (writes pick : ℕ) → StaysBy state (PowerIn writes pick) Answered a b → AreEvents state system (with_stop writes pick) handed b.disk
  happened_armed writes pick by =
      subst (λ (can : Bool). AreEvents state system (stop_armed can writes pick past).events handed b.disk) sound.same.can_arm
      (events_armed state system (state a.disk).can_arm writes pick past handed a.disk b.disk sound.happened by.told by.until_stop)

  happened_left : (now : List DiskEvent) (over : HasEndedLife state b kept None false session) → AreEvents state system now handed b.disk → AreEvents state system now handed over.idle.disk
  happened_left now over are = subst (λ (d : D). AreEvents state system now handed d) (sym over.disk) are

  happened_cut : {stopped : Bool} (pick : ℕ) → (over : HasEndedLife state b kept (Some pick) stopped session) → StaysSo state a b → AreEvents state system (events ++ CutWith pick ∷ []) handed over.idle.disk
  happened_cut pick over by = events_one state system events (CutWith pick) handed b.disk over.idle.disk (happened_now by) over.disk

  -- the pick that is kept where the disk was told to stop
  armed_past : (writes pick : ℕ) → kept.pick ≡ pick_by (PowerIn writes pick) Answered (state a.disk).can_arm old.pick → past_with (with_stop writes pick) kept.pick ≡ stop_armed setting.can_arm writes pick past
  armed_past writes pick is =
      subst (λ (can : Bool). past_with (stop_armed can writes pick past).events kept.pick ≡ stop_armed can writes pick past) sound.same.can_arm
      (armed_one (state a.disk).can_arm events writes pick old.pick kept.pick is)

  -- what has been done with it behind a call that was answered, and behind a freeze
  abbrev events_done : (asked : Asked) → DoesAsked state asked a b text → List DiskEvent
  events_done (Bad rule) does_it = events
  events_done (BadCommand rule) does_it = events
  events_done (Stopped terminal number reason) does_it = events
  events_done (Call call) told = with_entry told.entry
  events_done (Quiet most) turned = events
  events_done (AskedPower pick) never = events
  events_done (PowerIn writes pick) does_it = with_stop writes pick
  events_done Restart does_it = events
  events_done ColdStart does_it = events

  abbrev events_frozen : (asked : Asked) → Freezes state asked a b text → List DiskEvent
  events_frozen (Bad rule) never = events
  events_frozen (BadCommand rule) never = events
  events_frozen (Stopped terminal number reason) never = events
  events_frozen (Call call) frozen = with_entry frozen.entry
  events_frozen (Quiet most) never = events
  events_frozen (AskedPower pick) never = events
  events_frozen (PowerIn writes pick) never = events
  events_frozen Restart never = events
  events_frozen ColdStart never = events

  happened_done : (asked : Asked) → (does_it : DoesAsked state asked a b text) → StaysBy state asked Answered a b → AreEvents state system (events_done asked does_it) handed b.disk
  happened_done (Bad rule) does_it by = happened_now by
  happened_done (BadCommand rule) does_it by = happened_now by
  happened_done (Stopped terminal number reason) does_it by = happened_now by
  happened_done (Call call) told by = happened_entry told.entry by told.told
  happened_done (Quiet most) turned by = happened_now by
  happened_done (AskedPower pick) never by = absurd never
  happened_done (PowerIn writes pick) does_it by = happened_armed writes pick by
  happened_done Restart does_it by = happened_now by
  happened_done ColdStart does_it by = happened_now by

  happened_frozen : (asked : Asked) → (frozen : Freezes state asked a b text) → StaysSo state a b → AreEvents state system (events_frozen asked frozen) handed b.disk
  happened_frozen (Bad rule) never by = absurd never
  happened_frozen (BadCommand rule) never by = absurd never
  happened_frozen (Stopped terminal number reason) never by = absurd never
  happened_frozen (Call call) frozen by = happened_entry frozen.entry by frozen.told
  happened_frozen (Quiet most) never by = absurd never
  happened_frozen (AskedPower pick) never by = absurd never
  happened_frozen (PowerIn writes pick) never by = absurd never
  happened_frozen Restart never by = absurd never
  happened_frozen ColdStart never by = absurd never

  -- the machine's answer, in the system's own words
  may_in : (entry : Entry) → May a.control.system (control_moment a.control) entry → May system (now_in system (last_up a)) entry
  may_in entry may = subst (λ s. May s (moment_after s (start_of s a.control.opening) a.control.history) entry) sound.system_is may

  steps_in : (entries : List Entry) → AreSteps a.control.system (control_moment a.control) entries → AreSteps system (now_in system (last_up a)) entries
  steps_in entries steps = subst (λ s. AreSteps s (moment_after s (start_of s a.control.opening) a.control.history) entries) sound.system_is steps

  text_in : (entry : Entry) → text ≡ entry_text a.control.system (control_moment a.control) entry → text ≡ entry_text system (now_in system (last_up a)) entry
  text_in entry same = subst (λ s. text ≡ entry_text s (moment_after s (start_of s a.control.opening) a.control.history) entry) sound.system_is same

  quieted_in : (most : ℕ) (turns : List Entry) → IsQuieted most a.control.system (control_moment a.control) turns → IsQuieted most system (now_in system (last_up a)) turns
  quieted_in most turns quieted = subst (λ s. IsQuieted most s (moment_after s (start_of s a.control.opening) a.control.history) turns) sound.system_is quieted

  quiet_text_in : (turns : List Entry) → text ≡ quieted_text a.control.system (control_moment a.control) turns → text ≡ quieted_text system (now_in system (last_up a)) turns
  quiet_text_in turns same = subst (λ s. text ≡ quieted_text s (moment_after s (start_of s a.control.opening) a.control.history) turns) sound.system_is same

  begun_in : (most : ℕ) (turns : List Entry) → IsBrokenOff most a.control.system (control_moment a.control) turns → IsBrokenOff most system (now_in system (last_up a)) turns
  begun_in most turns begun = subst (λ s. IsBrokenOff most s (moment_after s (start_of s a.control.opening) a.control.history) turns) sound.system_is begun

  -- ---- what is forced

  moment_now : (entries : List Entry) → b.control.history ≡ a.control.history ++ entries → control_moment b.control ≡ now_in system (longer (last_up a) entries)
  moment_now entries history =
      ap (λ (s : System). moment_after s (start_of s b.control.opening) b.control.history) (stays.system ∙ sound.system_is)
      ∙ ap (λ o. moment_after system (start_of system o) b.control.history) stays.opening
      ∙ ap (moment_after system (start_of system a.control.opening)) history

  forced_to_now : (bound : Bool) (entries : List Entry) → b.up ≡ true → b.control.history ≡ a.control.history ++ entries → IsBound bound a b → IsForcedTo system (longer (last_up a) entries) bound b.forced
  forced_to_now bound entries up history is =
      let most : b.control.opening.steps + b.forced ≤ (control_moment b.control).lasting.steps = most_up state b up lasts in
      let steps : (control_moment b.control).lasting.steps ≡ (now_in system (longer (last_up a) entries)).lasting.steps = ap (λ (m : Moment). m.lasting.steps) (moment_now entries history) in
      let opening : b.control.opening.steps ≡ a.control.opening.steps = ap (λ (o : LastingState). o.steps) stays.opening in
      record {
        least = is.least;
        most = omega (arith, most, steps, opening);
        all = λ binding. let all : b.forced ≡ front_of b.control = is.all binding in omega (arith, all, most, steps, opening);
      }

  -- where the disk has failed, no more than stood before its last entry
  most_before : (entries : List Entry) (last : Entry) → b.up ≡ false → b.control.history ≡ a.control.history ++ entries ++ last ∷ []
      → a.control.opening.steps + b.forced ≤ (now_in system (longer (last_up a) entries)).lasting.steps
  most_before entries last down history =
      let left = fails_before b.up b.control b.forced b.checkpoint b.text (state b.disk) down lasts in
      let front : left.before ≡ a.control.history ++ entries = front_is left.before (a.control.history ++ entries) left.entry last (sym left.all ∙ history) in
      let steps : (lasting_after_entries b.control.system b.control.opening left.before).steps ≡ (now_in system (longer (last_up a) entries)).lasting.steps =
      ap (λ (s : System). (lasting_after_entries s b.control.opening left.before).steps) (stays.system ∙ sound.system_is)
      ∙ ap (λ o. (lasting_after_entries system o left.before).steps) stays.opening
      ∙ ap (λ es. (lasting_after_entries system a.control.opening es).steps) front in
      omega (arith, left.most, steps, ap (λ (o : LastingState). o.steps) stays.opening)

  forced_before : (entries : List Entry) (last : Entry) → b.up ≡ false → b.control.history ≡ a.control.history ++ (entries ++ last ∷ []) → IsBound false a b → IsForcedTo system (longer (last_up a) entries) false b.forced
  forced_before entries last down history is = record {
    least = is.least;
    most = most_before entries last down (history ∙ sym (append_assoc a.control.history entries (last ∷ [])));
    all = λ binding. cc;
  }

  forced_here : (last : Entry) → b.up ≡ false → b.control.history ≡ a.control.history ++ last ∷ [] → b.forced ≡ a.forced → IsForcedTo system (last_up a) false b.forced
  forced_here last down history same =
      subst (λ (es : List Entry). IsForcedTo system (record (last_up a) { history = es }) false b.forced) (append-nil a.control.history) (forced_before [] last down history (bound_same a b same))

  -- ---- the numbers that were told

  abbrev Told : List DiskEvent → Type 0
  Told now = told_numbers now ≡ numbers_told (map life_of kept.lives.items) ++ numbers_in b.control.history

  told_with : (now : List DiskEvent) (entries : List Entry) → b.control.history ≡ a.control.history ++ entries → told_numbers now ≡ told_numbers events ++ numbers_in entries → Told now
  told_with now entries history more =
      numbers_behind (map life_of old.lives.items) (map life_of kept.lives.items) a.control.history b.control.history entries (told_numbers events) (told_numbers now)
      (ap (λ v. map life_of v.items) lives) history sound.told more

  told_none : (entries : List Entry) → b.control.history ≡ a.control.history ++ entries → numbers_in entries ≡ [] → Told events
  told_none entries history none =
      told_with events entries history (sym (ap (λ (numbers : List ℕ). told_numbers events ++ numbers) none ∙ append-nil (told_numbers events)))

  told_same : b.control.history ≡ a.control.history → Told events
  told_same history = told_none [] (history ∙ sym (append-nil a.control.history)) refl

  told_entry : (entry : Entry) → b.control.history ≡ a.control.history ++ entry ∷ [] → Told (with_entry entry)
  told_entry entry history = told_with (with_entry entry) (entry ∷ []) history (one_numbers entry past)

  told_done : (asked : Asked) → (does_it : DoesAsked state asked a b text) → Told (events_done asked does_it)
  told_done (Bad rule) does_it = told_same does_it.0.adds.history
  told_done (BadCommand rule) does_it = told_same does_it.0.adds.history
  told_done (Stopped terminal number reason) does_it = told_same does_it.0.adds.history
  told_done (Call call) told = told_entry told.entry told.answered.adds.history
  told_done (Quiet most) turned = told_none turned.turns turned.adds.history (turns_numbers a.control.system 0 (control_moment a.control) turned.turns turned.quieted.turns)
  told_done (AskedPower pick) never = absurd never
  told_done (PowerIn writes pick) does_it = armed_numbers setting.can_arm writes pick past ∙ told_same does_it.0.adds.history
  told_done Restart does_it = told_same does_it.0.adds.history
  told_done ColdStart does_it = told_same does_it.0.adds.history

  told_frozen : (asked : Asked) → (frozen : Freezes state asked a b text) → Told (events_frozen asked frozen)
  told_frozen (Bad rule) never = absurd never
  told_frozen (BadCommand rule) never = absurd never
  told_frozen (Stopped terminal number reason) never = absurd never
  told_frozen (Call call) frozen = told_entry frozen.entry frozen.answered.adds.history
  told_frozen (Quiet most) never = absurd never
  told_frozen (AskedPower pick) never = absurd never
  told_frozen (PowerIn writes pick) never = absurd never
  told_frozen Restart never = absurd never
  told_frozen ColdStart never = absurd never

  told_power : (asked : Asked) (pick : ℕ) → PowersOff state asked pick a b text → Told events
  told_power (Bad rule) pick never = absurd never
  told_power (BadCommand rule) pick never = absurd never
  told_power (Stopped terminal number reason) pick never = absurd never
  told_power (Call call) pick never = absurd never
  told_power (Quiet most) pick never = absurd never
  told_power (AskedPower asked) pick (same, unchanged, added, printed) = told_same added.adds.history
  told_power (PowerIn writes picked) pick never = absurd never
  told_power Restart pick never = absurd never
  told_power ColdStart pick never = absurd never

  told_failed : (asked : Asked) → AskedFails state asked a b → Told events
  told_failed (Bad rule) never = absurd never
  told_failed (BadCommand rule) never = absurd never
  told_failed (Stopped terminal number reason) never = absurd never
  told_failed (Call call) (inl failed) = told_none (failed.entry ∷ []) failed.broke.history (fault_numbers failed.entry failed.fault)
  told_failed (Call call) (inr failed) =
      told_none (failed.entry ∷ failed_force ∷ []) failed.history (numbers_more (failed.entry ∷ []) (failed_force ∷ []) ∙ ap (λ (numbers : List ℕ). numbers ++ []) failed.silent)
  told_failed (Quiet most) failed =
      told_none (failed.turns ++ failed.entry ∷ []) failed.history
      (numbers_more failed.turns (failed.entry ∷ [])
      ∙ ap (λ (numbers : List ℕ). numbers ++ numbers_in (failed.entry ∷ [])) (turns_numbers a.control.system 0 (control_moment a.control) failed.turns failed.begun.turns)
      ∙ fault_numbers failed.entry failed.fault)
  told_failed (AskedPower pick) never = absurd never
  told_failed (PowerIn writes pick) never = absurd never
  told_failed Restart never = absurd never
  told_failed ColdStart never = absurd never

  told_undone : (asked : Asked) → Undoes state asked a b → Told events
  told_undone (Bad rule) added = told_same added.adds.history
  told_undone (BadCommand rule) added = told_same added.adds.history
  told_undone (Stopped terminal number reason) added = told_same added.adds.history
  told_undone (Call call) added = told_same added.adds.history
  told_undone (Quiet most) (inl added) = told_same added.adds.history
  told_undone (Quiet most) (inr stand) = told_none stand.turns stand.adds.history (turns_numbers a.control.system 0 (control_moment a.control) stand.turns stand.begun.turns)
  told_undone (AskedPower pick) added = told_same added.adds.history
  told_undone (PowerIn writes pick) added = told_same added.adds.history
  told_undone Restart added = told_same added.adds.history
  told_undone ColdStart added = told_same added.adds.history

  -- and behind a cut
  told_cut : (pick : ℕ) → Told events → Told (events ++ CutWith pick ∷ [])
  told_cut pick told = cut_numbers events pick ∙ told

  -- ---- how far it counts

  -- up to where the lives before and the stops have brought it
  abbrev base : ℕ → ℕ
  base high = high + call_raises * (lives_measure (map life_of old.lives.items) + length old.stops.items + 1) - force_raises

  counts_now : (high : ℕ) → CountsFirst system high (state handed) → CountsUp state (high + call_raises * measure (session_at events (Up b) kept) - force_raises) b
  counts_now high first =
      let logs : a.control.system.logs ≤ 2048 = subst (λ (s : System). s.logs ≤ 2048) (sym sound.system_is) sound.valid.most_logs in
      let same_lives : lives_measure (map life_of kept.lives.items) ≡ lives_measure (map life_of old.lives.items) = ap (λ v. lives_measure (map life_of v.items)) lives in
      let same_stops : length kept.stops.items ≡ length old.stops.items = ap (λ v. length v.items) stops in
      counts_more state (base high + call_raises * length b.control.history) (high + call_raises * measure (session_at events (Up b) kept) - force_raises) b (omega (arith, same_lives, same_stops))
      (pace logs (base high) (counts_more state (high + call_raises * measure before - force_raises) (base high + call_raises * length a.control.history) a (omega arith) (sound.counts high first)))

  -- ---- what is sound behind it

  pub up_sound : (now : List DiskEvent) → session ≡ session_up b kept → (state b.disk).faults ≡ (state a.disk).faults → AreEvents state system now handed b.disk → Told now
      → IsSessionSound state system source handed now session
  up_sound now on calm happened told =
      subst (λ (s : Session D). IsSoundAt state system source handed now s.place s.kept) (sym on)
      (record {
        handed_alone = sound.handed_alone;
        system_is = stays.system ∙ sound.system_is;
        text_is = stays.text ∙ sound.text_is;
        size = sound.size;
        same = same_on (state handed) (state a.disk) (state b.disk) sound.same stays.disk;
        stops = subst (λ v. AreStops (state handed).faults v.items b.began) (sym stops) (subst (λ n. AreStops (state handed).faults old.stops.items n) (sym stays.began) sound.stops);
        began = stays.began ∙ sound.began ∙ sym calm;
        legal = subst (λ v. AreLegal system (map life_of v.items)) (sym lives) sound.legal;
        valid = sound.valid;
        counts = counts_now;
        happened = happened;
        told = told;
      })

  same_now : IsSameDisk (state handed) (state b.disk)
  same_now = same_on (state handed) (state a.disk) (state b.disk) sound.same stays.disk

  legal_now : AreLegal system (map life_of kept.lives.items)
  legal_now = subst (λ v. AreLegal system (map life_of v.items)) (sym lives) sound.legal

  stops_now : AreStops (state handed).faults kept.stops.items b.began
  stops_now = subst (λ v. AreStops (state handed).faults v.items b.began) (sym stops) (subst (λ n. AreStops (state handed).faults old.stops.items n) (sym stays.began) sound.stops)

  began_before : b.began ≡ (state a.disk).faults
  began_before = stays.began ∙ sound.began

  pub power_sound : {by : Option ℕ} (events_then : List DiskEvent) → (over : HasEndedLife state b kept by false session) → AreEvents state system events_then handed over.idle.disk
      → Told events_then → (state b.disk).faults ≡ (state a.disk).faults → IsSessionSound state system source handed events_then session
  power_sound events_then over happened told calm =
      subst (λ p. IsSoundAt state system source handed events_then p session.kept) (sym over.place)
      (down_sound state system source handed b (stays.system ∙ sound.system_is) sound.handed_alone (stays.text ∙ sound.text_is) sound.size events_then kept session.kept false over.idle happened told over.down same_now legal_now
      (no_stop state system source handed b (stays.system ∙ sound.system_is) kept session.kept over.idle over.down stops_now (began_before ∙ sym calm)) sound.valid counts_now)

  pub broke_sound : {by : Option ℕ} (events_then : List DiskEvent) → (over : HasEndedLife state b kept by true session) → AreEvents state system events_then handed over.idle.disk
      → Told events_then → Rose (state a.disk).faults (state b.disk).faults → IsSessionSound state system source handed events_then session
  broke_sound events_then over happened told rose =
      subst (λ p. IsSoundAt state system source handed events_then p session.kept) (sym over.place)
      (down_sound state system source handed b (stays.system ∙ sound.system_is) sound.handed_alone (stays.text ∙ sound.text_is) sound.size events_then kept session.kept true over.idle happened told over.down same_now legal_now
      (stop_behind state system source handed b (stays.system ∙ sound.system_is) kept session.kept over.idle (state a.disk).faults over.down stops_now began_before stays.disk.faults rose) sound.valid counts_now)

  -- ---- what was served

  turned_after : session ≡ session_up b kept → kept.pick ≡ old.pick → (turns : List Entry) → AreTurns a.control.system 0 (control_moment a.control) turns
      → b.control.history ≡ a.control.history ++ turns → session_of events session ≡ life_gone_on before (last_up a) turns b.forced
  turned_after on pick turns are history =
      up_after events on turns (ap (past_with events) pick ∙ sym (turns_told a.control.system 0 (control_moment a.control) turns past are)) history

  nothing : session ≡ session_up b kept → kept.pick ≡ old.pick → DidNothing state a b → session_of events session ≡ before
  nothing on pick added = same_after on pick added

  does : (asked : Asked) → (does_it : DoesAsked state asked a b text) → kept.pick ≡ pick_by asked Answered (state a.disk).can_arm old.pick → session ≡ session_up b kept
      → IsServedUp asked setting before (last_up a) (session_of (events_done asked does_it) session) text
  does (Bad rule) (added, printed) pick on = (nothing on pick added, printed)
  does (BadCommand rule) (added, printed) pick on = (nothing on pick added, printed)
  does (Stopped terminal number reason) (added, printed) pick on = (nothing on pick added, printed)
  does (Call call) told pick on = inl (record {
    entry = told.entry;
    forced = b.forced;
    asked = told.asked;
    may = may_in told.entry told.answered.adds.may;
    is_forced = forced_to_now (binds told.entry) (told.entry ∷ []) told.answered.up told.answered.adds.history told.forced;
    goes = subst (λ ends. session_of (with_entry told.entry) session ≡ called_on ends before (last_up a) (told.entry ∷ []) b.forced) (sym told.goes_on)
        (up_after (with_entry told.entry) on (told.entry ∷ []) (told_picked told.entry events old.pick kept.pick pick) told.answered.adds.history);
    printed = text_in told.entry told.printed;
  })
  does (Quiet most) turned pick on = inl (record {
    turns = turned.turns;
    forced = b.forced;
    steps = steps_in turned.turns turned.steps;
    quieted = quieted_in most turned.turns turned.quieted;
    is_forced = forced_to_now false turned.turns turned.up turned.adds.history turned.forced;
    goes = turned_after on pick turned.turns turned.quieted.turns turned.adds.history;
    printed = quiet_text_in turned.turns turned.printed;
  })
  does (AskedPower pick) never is on = absurd never
  does (PowerIn writes pick) (added, printed) is on =
      (past_after (with_stop writes pick) on (stop_armed setting.can_arm writes pick past) (armed_past writes pick is) added, subst (λ can. text ≡ armed_text can writes) sound.same.can_arm printed)
  does Restart (added, printed) pick on = (nothing on pick added, printed)
  does ColdStart (added, printed) pick on = (nothing on pick added, printed)

  freezes : (asked : Asked) → (frozen : Freezes state asked a b text) → kept.pick ≡ pick_by asked Frozen (state a.disk).can_arm old.pick → HasEndedLife state b kept None false session
      → IsServedUp asked setting before (last_up a) (session_of (events_frozen asked frozen) session) text
  freezes (Call call) frozen pick over = inl (record {
    entry = frozen.entry;
    forced = b.forced;
    asked = frozen.asked;
    may = may_in frozen.entry frozen.answered.adds.may;
    is_forced = forced_to_now (binds frozen.entry) (frozen.entry ∷ []) frozen.answered.up frozen.answered.adds.history frozen.forced;
    goes = subst (λ ends. session_of (with_entry frozen.entry) session ≡ called_on ends before (last_up a) (frozen.entry ∷ []) b.forced) (sym frozen.ends)
        (ap (λ p. session_at (with_entry frozen.entry) p session.kept) over.place
        ∙ ended_state state (with_entry frozen.entry) a b old kept session.kept (told_one frozen.entry past) over.idle (frozen.entry ∷ []) b.forced over.down lives stops
        (told_picked frozen.entry events old.pick session.kept.pick (over.pick ∙ pick)) stays.opening stays.checkpoint frozen.answered.adds.history refl);
    printed = text_in frozen.entry frozen.printed;
  })
  freezes (Bad rule) never is over = absurd never
  freezes (BadCommand rule) never is over = absurd never
  freezes (Stopped terminal number reason) never is over = absurd never
  freezes (Quiet most) never is over = absurd never
  freezes (AskedPower pick) never is over = absurd never
  freezes (PowerIn writes pick) never is over = absurd never
  freezes Restart never is over = absurd never
  freezes ColdStart never is over = absurd never

  -- a stop is a cut with the pick that was kept
  abbrev events_stopped : List DiskEvent
  events_stopped = events ++ CutWith old.pick ∷ []

  ends_with : {pick : ℕ} → (entries : List Entry) → b.control.history ≡ a.control.history ++ entries → (over : HasEndedLife state b kept (Some pick) true session)
      → session_of events_stopped session ≡ broken before (last_up a) entries b.forced (b.began, (state over.down.disk).faults)
  ends_with entries history over =
      ap (λ p. session_at events_stopped p session.kept) over.place ∙ broken_state state events a b old kept session.kept over.idle entries over.down lives stops over.pick stays.opening stays.checkpoint history

  fails : (asked : Asked) → AskedFails state asked a b → HasEndedLife state b kept (Some kept.pick) true session → IsServedUp asked setting before (last_up a) (session_of events_stopped session) broken_text
  fails (Call call) (inl failed) over = inr (inl (record {
    entry = failed.entry;
    forced = b.forced;
    stop = (b.began, (state over.down.disk).faults);
    breaks = record { asked = failed.asked; can = subst (λ c. IsCall system c) failed.asked (subst (λ s. IsCall s (call_of failed.entry)) sound.system_is failed.broke.call); fault = failed.fault };
    is_forced = forced_here failed.entry failed.broke.down failed.broke.history failed.forced;
    ends = ends_with (failed.entry ∷ []) failed.broke.history over;
    printed = refl;
  }))
  fails (Call call) (inr failed) over = inr (inr (record {
    entry = failed.entry;
    forced = b.forced;
    stop = (b.began, (state over.down.disk).faults);
    asked = failed.asked;
    may = may_in failed.entry failed.may;
    bound = failed.bound;
    silent = silent_one failed.entry failed.silent;
    is_forced = forced_before (failed.entry ∷ []) failed_force failed.down failed.history failed.forced;
    ends = ends_with (failed.entry ∷ failed_force ∷ []) failed.history over;
    printed = refl;
  }))
  fails (Quiet most) failed over = inr (record {
    turns = failed.turns;
    entry = failed.entry;
    forced = b.forced;
    stop = (b.began, (state over.down.disk).faults);
    steps = steps_in failed.turns failed.steps;
    begun = begun_in most failed.turns failed.begun;
    breaks = record {
      asked = failed.asked ∙ ap (λ s. Turn (region_behind_turns s (length failed.turns))) sound.system_is;
      can = subst (λ c. IsCall system c) (failed.asked ∙ ap (λ s. Turn (region_behind_turns s (length failed.turns))) sound.system_is) (subst (λ s. IsCall s (call_of failed.entry)) sound.system_is failed.can);
      fault = failed.fault;
    };
    is_forced = forced_before failed.turns failed.entry failed.down failed.history failed.forced;
    ends = ends_with (failed.turns ++ failed.entry ∷ []) failed.history over;
    printed = refl;
  })
  fails (Bad rule) never over = absurd never
  fails (BadCommand rule) never over = absurd never
  fails (Stopped terminal number reason) never over = absurd never
  fails (AskedPower pick) never over = absurd never
  fails (PowerIn writes pick) never over = absurd never
  fails Restart never over = absurd never
  fails ColdStart never over = absurd never

  rose_in : (asked : Asked) → AskedFails state asked a b → Rose (state a.disk).faults (state b.disk).faults
  rose_in (Call call) (inl failed) = failed.broke.failed
  rose_in (Call call) (inr failed) = failed.failed
  rose_in (Quiet most) failed = failed.failed
  rose_in (Bad rule) never = absurd never
  rose_in (BadCommand rule) never = absurd never
  rose_in (Stopped terminal number reason) never = absurd never
  rose_in (AskedPower pick) never = absurd never
  rose_in (PowerIn writes pick) never = absurd never
  rose_in Restart never = absurd never
  rose_in ColdStart never = absurd never

  powers : (asked : Asked) (pick : ℕ) → PowersOff state asked pick a b text → HasEndedLife state b kept (Some pick) false session
      → IsServedUp asked setting before (last_up a) (session_of (events ++ CutWith pick ∷ []) session) text
  powers (AskedPower asked) pick (same, unchanged, added, printed) over = (
    ap (λ p. session_at (events ++ CutWith pick ∷ []) p session.kept) over.place
        ∙ ended_state state (events ++ CutWith pick ∷ []) a b old kept session.kept (past_with (events ++ CutWith asked ∷ []) 0) over.idle [] a.forced over.down lives stops
        (ap (past_with (events ++ CutWith pick ∷ [])) over.pick ∙ ap (λ n. past_with (events ++ CutWith n ∷ []) 0) same) stays.opening stays.checkpoint (added.adds.history ∙ sym (append-nil a.control.history)) added.forced,
    printed,
  )
  powers (Bad rule) pick never over = absurd never
  powers (BadCommand rule) pick never over = absurd never
  powers (Stopped terminal number reason) pick never over = absurd never
  powers (Call call) pick never over = absurd never
  powers (Quiet most) pick never over = absurd never
  powers (PowerIn writes picked) pick never over = absurd never
  powers Restart pick never over = absurd never
  powers ColdStart pick never over = absurd never

  undoes : (asked : Asked) → Undoes state asked a b → kept.pick ≡ old.pick → session ≡ session_up b kept → IsBegunBy asked system before before.standing (session_of events session)
  undoes (Quiet most) (inl added) pick on = inl (nothing on pick added)
  undoes (Quiet most) (inr stand) pick on =
      inr (record {
        turns = stand.turns;
        forced = b.forced;
        steps = steps_in stand.turns stand.steps;
        begun = begun_in most stand.turns stand.begun;
        is_forced = forced_to_now false stand.turns stand.up stand.adds.history stand.forced;
        goes = turned_after on pick stand.turns stand.begun.turns stand.adds.history;
      })
  undoes (Bad rule) added pick on = nothing on pick added
  undoes (BadCommand rule) added pick on = nothing on pick added
  undoes (Stopped terminal number reason) added pick on = nothing on pick added
  undoes (Call call) added pick on = nothing on pick added
  undoes (AskedPower picked) added pick on = nothing on pick added
  undoes (PowerIn writes picked) added pick on = nothing on pick added
  undoes Restart added pick on = nothing on pick added
  undoes ColdStart added pick on = nothing on pick added

  -- a counter is spent
  has_spent : b.up ≡ true → IsSpentUp b → IsSpentAt setting.counts setting (session_at events (Up b) kept)
  has_spent up spent =
      subst (λ s. HasSpent setting.counts (measure (session_at events (Up b) kept)) (moment_after s (start_of s b.control.opening) b.control.history).lasting) (stays.system ∙ sound.system_is)
      (record {
        epoch = b.journal.restart.epoch;
        sequence = b.journal.log.sequence + b.journal.log.place;
        checkpoint = b.journal.restart.checkpoint;
        unit = b.next_unit;
        counter = spent.counter;
        spent = spent.spent;
        own = λ high first. let stands = (counts_now high first).own up in
            record { epoch_low = omega (arith, stands.epoch); sequence_low = omega (arith, stands.sequence); checkpoint_low = omega (arith, stands.checkpoint); unit_low = omega (arith, stands.unit) };
      })

  spent_now_at : session ≡ session_up b kept → b.up ≡ true → IsSpentUp b → IsSpentAt setting.counts setting (session_of events session)
  spent_now_at on up spent = subst (λ s. IsSpentAt setting.counts setting s) (sym (goes_up events on)) (has_spent up spent)

  counts_on : (asked : Asked) → LooksAtCounters asked → session ≡ session_up b kept → CountsOn (session_of events session).standing asked
  counts_on asked looks on = subst (λ (s : SessionState). CountsOn s.standing asked) (sym (goes_up events on)) looks

  -- ---- the disk fails in a stop alone

  calm_done : (asked : Asked) → DoesAsked state asked a b text → (state b.disk).faults ≡ (state a.disk).faults
  calm_done (Bad rule) does_it = does_it.0.no_fault
  calm_done (BadCommand rule) does_it = does_it.0.no_fault
  calm_done (Stopped terminal number reason) does_it = does_it.0.no_fault
  calm_done (Call call) told = told.answered.no_fault
  calm_done (Quiet most) turned = turned.no_fault
  calm_done (AskedPower pick) never = absurd never
  calm_done (PowerIn writes pick) does_it = does_it.0.no_fault
  calm_done Restart does_it = does_it.0.no_fault
  calm_done ColdStart does_it = does_it.0.no_fault

  calm_frozen : (asked : Asked) → Freezes state asked a b text → (state b.disk).faults ≡ (state a.disk).faults
  calm_frozen (Call call) frozen = frozen.answered.no_fault
  calm_frozen (Bad rule) never = absurd never
  calm_frozen (BadCommand rule) never = absurd never
  calm_frozen (Stopped terminal number reason) never = absurd never
  calm_frozen (Quiet most) never = absurd never
  calm_frozen (AskedPower pick) never = absurd never
  calm_frozen (PowerIn writes pick) never = absurd never
  calm_frozen Restart never = absurd never
  calm_frozen ColdStart never = absurd never

  calm_power : (asked : Asked) (pick : ℕ) → PowersOff state asked pick a b text → (state b.disk).faults ≡ (state a.disk).faults
  calm_power (AskedPower asked) pick (same, unchanged, added, printed) = added.no_fault
  calm_power (Bad rule) pick never = absurd never
  calm_power (BadCommand rule) pick never = absurd never
  calm_power (Stopped terminal number reason) pick never = absurd never
  calm_power (Call call) pick never = absurd never
  calm_power (Quiet most) pick never = absurd never
  calm_power (PowerIn writes picked) pick never = absurd never
  calm_power Restart pick never = absurd never
  calm_power ColdStart pick never = absurd never

  calm_undone : (asked : Asked) → Undoes state asked a b → (state b.disk).faults ≡ (state a.disk).faults
  calm_undone (Quiet most) (inl added) = added.no_fault
  calm_undone (Quiet most) (inr stand) = stand.no_fault
  calm_undone (Bad rule) added = added.no_fault
  calm_undone (BadCommand rule) added = added.no_fault
  calm_undone (Stopped terminal number reason) added = added.no_fault
  calm_undone (Call call) added = added.no_fault
  calm_undone (AskedPower pick) added = added.no_fault
  calm_undone (PowerIn writes pick) added = added.no_fault
  calm_undone Restart added = added.no_fault
  calm_undone ColdStart added = added.no_fault

  -- ---- all of it

  pub served_up : (asked : Asked) (called : Called) (served : Served) → StaysBy state asked called a b → IsAsked state asked a b text called → kept.pick ≡ pick_by asked called (state a.disk).can_arm old.pick
      → IsCallSettled state (session_up b kept) called session served
      → LeadsBy state (λ setting old new. IsServedSo asked text served setting old new) system source handed events (session_up a old) session
  served_up asked Answered served by does_it pick (on, printed) =
      subst (λ s. LeadsBy state (λ setting old new. IsServedSo asked text s setting old new) system source handed events (session_up a old) session) (sym printed)
      (record {
        events_now = events_done asked does_it;
        goes = does asked does_it pick on;
        sound = up_sound (events_done asked does_it) on (calm_done asked does_it) (happened_done asked does_it by) (told_done asked does_it);
      })
  served_up asked Frozen served by frozen pick (over, printed) =
      subst (λ s. LeadsBy state (λ setting old new. IsServedSo asked text s setting old new) system source handed events (session_up a old) session) (sym printed)
      (record {
        events_now = events_frozen asked frozen;
        goes = freezes asked frozen pick over;
        sound = power_sound (events_frozen asked frozen) over
            (happened_left (events_frozen asked frozen) over (happened_frozen asked frozen (stays_else state asked Frozen a b not_frozen by)))
            (told_frozen asked frozen) (calm_frozen asked frozen);
      })
  served_up asked (Power pick) served by power is (over, printed) =
      subst (λ s. LeadsBy state (λ setting old new. IsServedSo asked text s setting old new) system source handed events (session_up a old) session) (sym printed)
      (record {
        events_now = events ++ CutWith pick ∷ [];
        goes = powers asked pick power over;
        sound = power_sound (events ++ CutWith pick ∷ []) over (happened_cut pick over (stays_else state asked (Power pick) a b (not_power pick) by))
            (told_cut pick (told_power asked pick power)) (calm_power asked pick power);
      })
  served_up asked Broke served by failed pick (over, broke) =
      subst (λ s. LeadsBy state (λ setting old new. IsServedSo asked text s setting old new) system source handed events (session_up a old) session) (sym broke)
      (record {
        events_now = events_stopped;
        goes = fails asked failed over;
        sound = broke_sound events_stopped over
            (subst (λ n. AreEvents state system (events ++ CutWith n ∷ []) handed over.idle.disk) (pick ∙ pick_broke asked (state a.disk).can_arm old.pick)
            (happened_cut kept.pick over (stays_else state asked Broke a b not_broke by)))
            (told_cut old.pick (told_failed asked failed)) (rose_in asked failed);
      })
  served_up asked Memory served by undone pick (on, why) =
      subst (λ s. LeadsBy state (λ setting old new. IsServedSo asked text s setting old new) system source handed events (session_up a old) session) (sym why)
      (record {
        events_now = events;
        goes = (undoes asked undone (pick ∙ pick_undone asked (state a.disk).can_arm old.pick) on, tt);
        sound = up_sound events on (calm_undone asked undone) (happened_now (stays_else state asked Memory a b not_memory by)) (told_undone asked undone);
      })
  served_up asked Spent served by (undone, spent, looks) pick (on, why) =
      subst (λ s. LeadsBy state (λ setting old new. IsServedSo asked text s setting old new) system source handed events (session_up a old) session) (sym why)
      (record {
        events_now = events;
        goes = (undoes asked undone (pick ∙ pick_spent asked (state a.disk).can_arm old.pick) on, (spent_now_at on (up_undone state a b asked undone) spent, counts_on asked looks on));
        sound = up_sound events on (calm_undone asked undone) (happened_now (stays_else state asked Spent a b not_spent by)) (told_undone asked undone);
      })

  -- ---- the end of the source

  pub ended_up : (ending : Ending) → StaysSo state a b → IsForcedSo state ending a b → kept.pick ≡ old.pick → IsEndSettled state (session_up b kept) ending session
      → LeadsBy state (λ setting old new. IsSourceEnded setting.system old new (end_text ending)) system source handed events (session_up a old) session
  ended_up Forced by behind pick on =
      let history : b.control.history ≡ a.control.history ++ [] = behind.adds.history ∙ sym (append-nil a.control.history) in
      record {
        events_now = events;
        goes = inl (record {
          forced = b.forced;
          all = subst (λ (es : List Entry). IsAllForced system (record (last_up a) { history = es }) b.forced) (append-nil a.control.history)
              ((forced_to_now true [] behind.up history (record { least = behind.least; all = λ bound. behind.all })).all refl);
          goes = up_after events on [] (ap (past_with events) pick) history;
          silent = refl;
        });
        sound = up_sound events on behind.no_fault (happened_now by) (told_same behind.adds.history);
      }
  ended_up HasBroken by fails pick over = record {
    events_now = events_stopped;
    goes = inr (record {
      stop = (b.began, (state over.down.disk).faults);
      ends = ends_with (failed_force ∷ []) fails.broke.history over ∙ ap (λ n. broken before (last_up a) (failed_force ∷ []) n (b.began, (state over.down.disk).faults)) fails.forced;
      printed = refl;
    });
    sound = broke_sound events_stopped over
        (subst (λ n. AreEvents state system (events ++ CutWith n ∷ []) handed over.idle.disk) pick (happened_cut kept.pick over by))
        (told_cut old.pick (told_none (failed_force ∷ []) fails.broke.history refl)) fails.broke.failed;
  }

-- ---- what is ready behind it

module _ {D : Type 0} (state : D → DiskState) (a b : ControlOnDisk D) (old kept : Kept) (session : Session D) (text : List ℕ)
    (ready : IsUpReady a old) (stays : IsSameControl state a b) (lives : kept.lives ≡ old.lives) (stops : kept.stops ≡ old.stops) where
  up_done : (asked : Asked) → DoesAsked state asked a b text → b.up ≡ true
  up_done (Bad rule) does_it = does_it.0.up
  up_done (BadCommand rule) does_it = does_it.0.up
  up_done (Stopped terminal number reason) does_it = does_it.0.up
  up_done (Call call) told = told.answered.up
  up_done (Quiet most) turned = turned.up
  up_done (AskedPower pick) never = absurd never
  up_done (PowerIn writes pick) does_it = does_it.0.up
  up_done Restart does_it = does_it.0.up
  up_done ColdStart does_it = does_it.0.up

  text_room : length b.text ≤ 262144
  text_room = subst (λ t. length t ≤ 262144) (sym stays.text) ready.text

  life_room : vec_len kept.lives < vec_capacity kept.lives
  life_room = subst (λ v. vec_len v < vec_capacity v) (sym lives) ready.life_room

  stop_room : vec_len kept.stops < vec_capacity kept.stops
  stop_room = subst (λ v. vec_len v < vec_capacity v) (sym stops) ready.stop_room

  pub endable_up : IsEndable b kept
  endable_up = record { text = text_room; life_room = life_room; stop_room = stop_room }

  -- behind a freeze
  alone_by : (asked : Asked) → Freezes state asked a b text → Only (state b.disk).shown (state b.disk)
  alone_by (Call call) frozen = frozen.only
  alone_by (Bad rule) never = absurd never
  alone_by (BadCommand rule) never = absurd never
  alone_by (Stopped terminal number reason) never = absurd never
  alone_by (Quiet most) never = absurd never
  alone_by (AskedPower pick) never = absurd never
  alone_by (PowerIn writes pick) never = absurd never
  alone_by Restart never = absurd never
  alone_by ColdStart never = absurd never

  pub alone_up : (asked : Asked) (called : Called) → IsAsked state asked a b text called → IsAloneBy state b called
  alone_up asked Answered is = tt
  alone_up asked Frozen is = alone_by asked is
  alone_up asked (Power pick) is = tt
  alone_up asked Broke is = tt
  alone_up asked Memory is = tt
  alone_up asked Spent is = tt

  ready_on : b.up ≡ true → session ≡ session_up b kept → IsReadyAt state session.place session.kept
  ready_on up on =
      subst (λ (s : Session D). IsReadyAt state s.place s.kept) (sym on) (record { up = up; text = text_room; life_room = life_room; stop_room = stop_room })

  ready_over : {cut : Option ℕ} → (stopped : Bool) → HasEndedLife state b kept cut stopped session → IsReadyAt state session.place session.kept
  ready_over stopped over = subst (λ p. IsReadyAt state p session.kept) (sym over.place) over.ready

  pub ready_ended : (ending : Ending) → IsForcedSo state ending a b → IsEndSettled state (session_up b kept) ending session → IsReadyAt state session.place session.kept
  ready_ended Forced behind on = ready_on behind.up on
  ready_ended HasBroken fails over = ready_over true over

  pub ready_up : (asked : Asked) (called : Called) (served : Served) → IsAsked state asked a b text called → IsCallSettled state (session_up b kept) called session served → IsReadyAt state session.place session.kept
  ready_up asked Answered served does_it settled = ready_on (up_done asked does_it) settled.0
  ready_up asked Frozen served frozen settled = ready_over false settled.0
  ready_up asked (Power pick) served power settled = ready_over false settled.0
  ready_up asked Broke served failed settled = ready_over true settled.0
  ready_up asked Memory served undone settled = ready_on (up_undone state a b asked undone) settled.0
  ready_up asked Spent served undone settled = ready_on (up_undone state a b asked undone.0) settled.0
