-- A call of a control region, by what it leaves of its machine.
use Rattle.std.proofs.Common.{◌≡◌, ◌≤◌, ◌+◌, ◌*◌, ℕ, Bool, true, false, List, [], ◌∷◌, ◌++◌, refl, sym, ◌∙◌, ap, subst, arith, ◌⊎◌, inl, inr, ⊎_elim, ◌-◌, ◌<◌, length}
use Rattle.std.specs.Prelude.{Option, Some, None, Result, Ok, Err, IfErr, OnErr, OnOk, if◌then◌else◌}
use Rattle.std.proofs.lemmas.Bool.{cases_lt}
use Rattle.restart_data.specs.declared.restart.RestartSector.{RestartSector}
use Rattle.log_writer.specs.Writer.{Writer}
use Rattle.log_writer.specs.ForcedLog.{log_sectors_of}
use Rattle.tm_disk.specs.Disk.{Image, DiskState, IsDisk}
use Rattle.tm_disk.proofs.Words.{stays_same}
use Rattle.model_system.specs.System.{System}
use Rattle.model_machine.specs.declared.entry.CheckpointRefused.{CheckpointRefused}
use Rattle.model_machine.specs.declared.entry.CheckpointRefused.TheVariants.{BusyRegion, Fault}
use Rattle.model_machine.specs.declared.entry.Entry.{Entry}
use Rattle.model_machine.specs.declared.entry.Entry.TheVariants.{Checked}
use Rattle.model_machine.specs.declared.entry.ControlFault.{ControlFault}
use Rattle.model_machine.specs.declared.entry.ControlFault.TheVariants.{Memory, Disk, Spent}
use Rattle.model_machine.specs.Machine.{LastingState, Moment, start_of}
use Rattle.model_machine.specs.History.{after_entry, call_of, moment_after, AscendAbove, IsCall, May, AreSteps}
use Rattle.model_machine.proofs.Histories.{moment_after-append, AreSteps-append}
use Rattle.tm_machine.specs.Answers.{IsAnswered}
use Rattle.tm_machine.specs.SlotChanges.{HasSlots}
use Rattle.disk_law.specs.UnitCounts.{StandsUpTo}
use Rattle.checkpointing.specs.DefinitionText.{HasText, IsNumberedFrom}
use Rattle.checkpointing.proofs.Counted.{up_to_more}
use Rattle.disk_law.specs.JournalState.{JournalState}
use Rattle.logged_machine.specs.LoggedState.{LoggedState, LastsNow, Pends}
use Rattle.logged_machine.specs.CallOutcome.{ActsOn, CrashesIntoPending, Failed, HasForced, KeepsMachine, MachineGoesBy, PendsAnew, PendsBy, PendsStill, with_step}
use Rattle.openings.specs.Faults.{fault_in}
use Rattle.tm_control.specs.ControlOnDisk.{ControlOnDisk, IsControlDown, IsControlUp, Lasts, LastsBy, RecoversSince, front_of, last_checked, lasting_after_entries}
use Rattle.model_machine.specs.declared.entry.ControlCall.{ControlCall}
use Rattle.tm_machine.specs.Parts.{PartsState}
use Rattle.logged_machine.specs.CheckpointDue.{NoCheckpointIsDue, TakesCheckpointWhereDue}
use Rattle.logged_machine.specs.ToldCalls.{own_bytes}
use Rattle.logged_machine.specs.TakenCheckpoint.{StaysUntaken}
use Rattle.tm_control.specs.ControlCalls.{KeepsLog, Shows, StaysSo, StaysSpent, ControlCountsSince, StaysUndone, ControlStaysUntaken as Untaken, AddsBy, ControlCrashes, ForcesBy, ForcesLog, is_noted, noted, parts_now}
use Rattle.tm_control.specs.ControlParts.{IsControlServed, HoldsControl, HoldsBy, states_pending}
use Rattle.tm_control.proofs.Along.{forced_within, lasts_at, pending_last, pending_more, recovers_since}
use Rattle.tm_control.proofs.Closing.{none_some}
use Rattle.tm_control.proofs.Numbers.{ascend_more, last_more, Numbers, Next, next_number, fault_ascends, fault_tells}

-- a control region by its parts
abbrev pub seen : {D : Type 0} → LoggedState D → LastingState → ℕ → List Entry → ℕ → ℕ → ControlOnDisk D
seen machine opening first history room began = record {
  control = record { system = machine.machine.system; opening = opening; history = history; room = room };
  checkpoint = first;
  text = machine.text;
  up = machine.served;
  forced = machine.forced - opening.steps;
  began = began;
  databases = machine.machine.databases;
  journal = machine.journal;
  units = machine.units;
  next_unit = machine.next_unit;
  disk = machine.disk;
}

-- ---- the parts are those of the machine

abbrev with_moment : PartsState → Moment → PartsState
with_moment parts moment = record { system = parts.system; moment = moment; databases = parts.databases }

parts_are : {D : Type 0} (state : D → DiskState) (machine : LoggedState D) (opening : LastingState) (first : ℕ) (history : List Entry) (room began steps : ℕ) → IsControlServed state machine opening first history steps → parts_now (seen machine opening first history room began) ≡ machine.machine
parts_are state machine opening first history room began steps h = ap (with_moment machine.machine) h.moment

-- so what its calls write is what those of the machine do
pub frugal_too : {D : Type 0} (state : D → DiskState) (machine : LoggedState D) (opening : LastingState) (first : ℕ) (history : List Entry) (room began steps : ℕ) → IsControlServed state machine opening first history steps
    → (fault : Option ControlFault) (call : ControlCall) (journal : JournalState) (disk : D) → TakesCheckpointWhereDue state fault machine.machine machine.units call machine.journal journal machine.disk disk
    → TakesCheckpointWhereDue state fault (parts_now (seen machine opening first history room began)) machine.units call machine.journal journal machine.disk disk
frugal_too state machine opening first history room began steps h fault call journal disk =
    subst (λ (p : PartsState). TakesCheckpointWhereDue state fault p machine.units call machine.journal journal machine.disk disk) (sym (parts_are state machine opening first history room began steps h))

-- and what holds of its slots does here
pub slots_too : {D : Type 0} (state : D → DiskState) (machine : LoggedState D) (opening : LastingState) (first : ℕ) (history : List Entry) (room began steps : ℕ) → IsControlServed state machine opening first history steps → HasSlots machine.machine
    → HasSlots (parts_now (seen machine opening first history room began))
slots_too state machine opening first history room began steps h = subst HasSlots (sym (parts_are state machine opening first history room began steps h))

-- a number below is one from which it is numbered, too
lower : (system : System) (low high : ℕ) (image : Image) → low ≤ high → IsNumberedFrom system high image → IsNumberedFrom system low image
lower system low high image le n = record { restart = n.restart; found = n.found; least = omega (arith, le, n.least) }

-- ---- while it is served

-- what each image has that a crash may leave
pub up_lasts : {D : Type 0} (state : D → DiskState) (machine : LoggedState D) (opening : LastingState) (first : ℕ) (history : List Entry) (room began steps : ℕ)
    → machine.served ≡ true → IsControlServed state machine opening first history steps → LastsNow state machine
    → IsControlUp (seen machine opening first history room began).control (machine.forced - opening.steps) first machine.text (state machine.disk)
up_lasts state machine opening first history room began steps served h lasts = record {
  legal = h.legal;
  most =
      subst (λ (m : Moment). opening.steps + (machine.forced - opening.steps) ≤ m.lasting.steps) (sym h.moment)
      (omega (arith, h.more, forced_within state machine opening first history steps h));
  images = λ image left.
      recovers_since machine.machine.system opening machine.forced history image
      ((lasts served).recover (states_pending machine.machine.system opening machine.forced history) h.pends image left);
  texts = (lasts served).have_text;
  numbered = λ image left. lower machine.machine.system (last_checked first history) machine.journal.restart.checkpoint image h.reached ((lasts served).numbered image left);
}

-- ---- an opening

-- all that lasts is forced as a life begins
pub opened_holds : {D : Type 0} (state : D → DiskState) (machine : LoggedState D) (opening : LastingState) (first : ℕ) (history : List Entry) (steps : ℕ) → history ≡ [] → machine.machine.moment ≡ start_of machine.machine.system opening
    → machine.forced ≡ opening.steps → Pends state (opening ∷ []) machine → steps ≡ machine.machine.moment.lasting.steps → first ≡ machine.journal.restart.checkpoint
    → IsControlServed state machine opening first history steps
opened_holds state machine opening first history steps none moment forced pends count number =
    subst (λ (h : List Entry). IsControlServed state machine opening first h steps) (sym none)
    (record {
      moment = sym moment;
      legal = tt;
      count = count;
      more = omega (arith, forced);
      pends = subst (λ (states : List LastingState). Pends state states machine) (sym (pending_last machine.machine.system opening [] machine.forced forced)) pends;
      ascend = tt;
      reached = omega (arith, number);
    })

pub lasts_open : {D : Type 0} (state : D → DiskState) (machine : LoggedState D) (opening : LastingState) (first : ℕ) (history : List Entry) (room began : ℕ) → history ≡ [] → machine.machine.moment ≡ start_of machine.machine.system opening
    → machine.forced ≡ opening.steps → Pends state (opening ∷ []) machine → machine.served ≡ true → first ≡ machine.journal.restart.checkpoint → LastsNow state machine → Lasts state (seen machine opening first history room began)
lasts_open state machine opening first history room began none moment forced pends served number lasts =
    subst (λ (b : Bool). LastsBy b (seen machine opening first history room began).control (machine.forced - opening.steps) first machine.text (state machine.disk)) (sym served)
    (up_lasts state machine opening first history room began machine.machine.moment.lasting.steps served
    (opened_holds state machine opening first history machine.machine.moment.lasting.steps none moment forced pends refl number) lasts)

-- ---- lasting steps are counted on

-- what lasts with an entry more
pub lasting_with : (system : System) (opening : LastingState) (before : List Entry) (entry : Entry) (moment : Moment)
    → moment_after system (start_of system opening) before ≡ moment
    → lasting_after_entries system opening (before ++ entry ∷ []) ≡ (after_entry system moment entry).lasting
lasting_with system opening before entry moment here =
    ap (λ (m : Moment). m.lasting) (moment_after-append system (start_of system opening) before entry)
    ∙ ap (λ (m : Moment). (after_entry system m entry).lasting) here

-- ---- whether a checkpoint is due

pub is_due : (log : Writer) (own : List ℕ) → NoCheckpointIsDue log own ⊎ (NoCheckpointIsDue log own → ⊥)
is_due log [] = inl (inl refl)
is_due log (byte ∷ own) = by (cases_lt log.count sectors)
  where
    sectors : ℕ
    sectors = log.place + log_sectors_of (length log.appended + length (byte ∷ own)) + 32

    apart : byte ∷ own ≡ [] → ⊥
    apart e = cc

    over : log.count < sectors → log.place + log_sectors_of (length log.appended + length (byte ∷ own)) + 32 ≤ log.count → ⊥
    over less free = omega (arith, less, free)

    by : (log.count < sectors) ⊎ (sectors ≤ log.count) → NoCheckpointIsDue log (byte ∷ own) ⊎ (NoCheckpointIsDue log (byte ∷ own) → ⊥)
    by (inl less) = inr (λ none. ⊎_elim apart (over less) none)
    by (inr fits) = inl (inr fits)

-- ---- what pends behind a call that was answered

-- No fewer steps are forced than before, and what isn't pends.
pub record PendsOn {D : Type 0} (state : D → DiskState) (old new : LoggedState D) (opening : LastingState) (after : List Entry) : Type 0 where
  pub more : old.forced ≤ new.forced
  pub pends : Pends state (states_pending new.machine.system opening new.forced after) new

module _ {D : Type 0} (state : D → DiskState) (old new : LoggedState D) (opening : LastingState) (first : ℕ) (before : List Entry) (steps : ℕ) (h : IsControlServed state old opening first before steps)
    (entry : Entry) (answered : IsAnswered old.machine new.machine entry) where
  -- with so many steps forced, what pended and the call's step behind it
  behind : (forced : ℕ) → new.forced ≡ forced → forced ≤ old.machine.moment.lasting.steps
      → states_pending new.machine.system opening new.forced (before ++ entry ∷ [])
      ≡ with_step (states_pending old.machine.system opening forced before) (lasts_at old.machine.system old.machine.moment entry) new.machine.moment.lasting
  behind forced are within =
      ap (λ (s : System). states_pending s opening new.forced (before ++ entry ∷ [])) answered.system
      ∙ ap (λ n. states_pending old.machine.system opening n (before ++ entry ∷ [])) are
      ∙ pending_more old.machine.system opening forced before entry (subst (λ (m : Moment). forced ≤ m.lasting.steps) (sym h.moment) within)
      ∙ ap (λ (m : Moment). with_step (states_pending old.machine.system opening forced before) (lasts_at old.machine.system m entry) (lasting_after_entries old.machine.system opening (before ++ entry ∷ []))) h.moment
      ∙ ap (with_step (states_pending old.machine.system opening forced before) (lasts_at old.machine.system old.machine.moment entry))
      (lasting_with old.machine.system opening before entry old.machine.moment h.moment ∙ ap (λ (m : Moment). m.lasting) (sym answered.after))

  within : old.forced ≤ old.machine.moment.lasting.steps
  within = forced_within state old opening first before steps h

  pub pends_still : PendsStill state (lasts_at old.machine.system old.machine.moment entry) old new → PendsOn state old new opening (before ++ entry ∷ [])
  pends_still still = record {
    more = omega (arith, still.forced);
    pends = subst (λ (states : List LastingState). Pends state states new) (sym (behind old.forced still.forced within)) (still.pends (states_pending old.machine.system opening old.forced before) h.pends);
  }

  pub pends_anew : PendsAnew state (lasts_at old.machine.system old.machine.moment entry) old new → PendsOn state old new opening (before ++ entry ∷ [])
  pends_anew anew =
      let last : lasting_after_entries old.machine.system opening before ≡ old.machine.moment.lasting = ap (λ (m : Moment). m.lasting) h.moment in
      let all : states_pending old.machine.system opening old.machine.moment.lasting.steps before ≡ old.machine.moment.lasting ∷ [] =
      pending_last old.machine.system opening before old.machine.moment.lasting.steps (ap (λ (s : LastingState). s.steps) (sym last)) ∙ ap (λ (s : LastingState). s ∷ []) last in
      record {
        more = omega (arith, anew.forced, within);
        pends =
            subst (λ (states : List LastingState). Pends state states new)
            (sym (behind old.machine.moment.lasting.steps anew.forced (omega arith)
            ∙ ap (λ (states : List LastingState). with_step states (lasts_at old.machine.system old.machine.moment entry) new.machine.moment.lasting) all)) anew.pends;
      }

  -- whether a checkpoint is due before it or not
  pub pends_served : (fault : Option ControlFault) → fault ≡ None → PendsBy state fault (call_of entry) old new → PendsOn state old new opening (before ++ entry ∷ [])
  pends_served None e pends = by (is_due old.journal.log (own_bytes old.machine old.units (call_of entry)))
    where
      by : NoCheckpointIsDue old.journal.log (own_bytes old.machine old.units (call_of entry)) ⊎ (NoCheckpointIsDue old.journal.log (own_bytes old.machine old.units (call_of entry)) → ⊥) → PendsOn state old new opening (before ++ entry ∷ [])
      by (inl none) = pends_still (pends.spares none)
      by (inr due) = pends_anew (pends.due due)
  pends_served (Some fault) e pends = absurd cc

-- ---- the machine went on

pub served_next : {D : Type 0} (state : D → DiskState) (old new : LoggedState D) (opening : LastingState) (first : ℕ) (before after : List Entry) (entry : Entry) (steps steps' : ℕ)
    → IsControlServed state old opening first before steps → after ≡ before ++ entry ∷ [] → IsAnswered old.machine new.machine entry → PendsOn state old new opening (before ++ entry ∷ []) → steps' ≡ new.machine.moment.lasting.steps
    → Next entry (last_checked first before) new.journal.restart.checkpoint
    → IsControlServed state new opening first after steps'
served_next state old new opening first before after entry steps steps' h longer answered on count number = record {
  moment =
      ap (λ s. moment_after s (start_of s opening) after) answered.system ∙ ap (moment_after old.machine.system (start_of old.machine.system opening)) longer
      ∙ moment_after-append old.machine.system (start_of old.machine.system opening) before entry ∙ ap (λ m. after_entry old.machine.system m entry) h.moment ∙ sym answered.after;
  legal =
      let here : AreSteps old.machine.system (start_of old.machine.system opening) (before ++ entry ∷ []) =
      AreSteps-append old.machine.system (start_of old.machine.system opening) before entry h.legal (subst (λ m. May old.machine.system m entry) (sym h.moment) answered.may) in
      let longer-legal : AreSteps old.machine.system (start_of old.machine.system opening) after = subst (AreSteps old.machine.system (start_of old.machine.system opening)) (sym longer) here in
      subst (λ s. AreSteps s (start_of s opening) after) (sym answered.system) longer-legal;
  count = count;
  more = omega (arith, h.more, on.more);
  pends = subst (λ (es : List Entry). Pends state (states_pending new.machine.system opening new.forced es) new) (sym longer) on.pends;
  ascend = subst (AscendAbove first) (sym longer) (ascend_more first before (entry ∷ []) h.ascend number.ascend);
  reached =
      subst (λ (es : List Entry). last_checked first es ≤ new.journal.restart.checkpoint) (sym longer)
      (subst (λ (n : ℕ). n ≤ new.journal.restart.checkpoint) (sym (last_more first before (entry ∷ []))) number.reached);
}

-- ---- a call

-- what a call of the machine left
pub record Went {D : Type 0} (state : D → DiskState) (old new : LoggedState D) (opening : LastingState) (first : ℕ) (before : List Entry) (steps : ℕ) (entry : Entry) : Type 0 where
  pub served : old.served ≡ true
  pub holds : IsControlServed state old opening first before steps
  pub call : IsCall old.machine.system (call_of entry)
  pub keeps : KeepsMachine state old new
  pub lasts : LastsNow state new
  pub disk : IsDisk (state new.disk)
  pub numbers : new.served ≡ true → Numbers entry old.journal.restart.checkpoint new.journal.restart.checkpoint
  pub pends : fault_in entry ≡ None → IsAnswered old.machine new.machine entry → PendsOn state old new opening (before ++ entry ∷ [])

-- what it is for the control region
pub record Is {D : Type 0} (state : D → DiskState) (fault : Option ControlFault) (old new : ControlOnDisk D) (entry : Entry) : Type 0 where
  pub adds : AddsBy state fault old new entry
  pub crash : ControlCrashes state old new
  pub lasts : Lasts state new
  pub stays : StaysSo state old new
  pub undone : StaysUndone fault old new
  pub nothing : StaysSpent fault old new

module _ {D : Type 0} (state : D → DiskState) (old new : LoggedState D) (opening : LastingState) (first : ℕ) (before after : List Entry) (entry : Entry) (room room' began steps steps' : ℕ)
    (went : Went state old new opening first before steps entry)
    (count : steps' ≡ (if new.served then new.machine.moment.lasting.steps else steps)) where
  abbrev pub was : ControlOnDisk D
  was = seen old opening first before room began

  abbrev pub is : ControlOnDisk D
  is = seen new opening first after room' began

  stay : StaysSo state was is
  stay = record { system = went.keeps.system; opening = refl; checkpoint = refl; text = went.keeps.text; began = refl; disk = went.keeps.disk; later = went.keeps.later }

  lasts_up : new.served ≡ true → IsControlServed state new opening first after steps' → Lasts state is
  lasts_up served here =
      subst (λ (b : Bool). LastsBy b is.control is.forced first new.text (state new.disk)) (sym served) (up_lasts state new opening first after room' began steps' served here went.lasts)

  number : new.served ≡ true → Next entry (last_checked first before) new.journal.restart.checkpoint
  number served = next_number entry (last_checked first before) old.journal.restart.checkpoint new.journal.restart.checkpoint went.holds.reached (went.keeps.numbers served) (went.numbers served)

  counted : new.served ≡ true → steps' ≡ new.machine.moment.lasting.steps
  counted served = count ∙ ap (λ (b : Bool). if b then new.machine.moment.lasting.steps else steps) served

  kept_up : new.served ≡ true → IsControlServed state new opening first after steps' → HoldsControl state new opening first after steps'
  kept_up served here = subst (λ (b : Bool). HoldsBy b state new opening first after steps') (sym served) here

  -- whatever a crash might have left recovers to one of those that pended
  since : CrashesIntoPending state old new → ControlCrashes state was is
  since crash image left =
      recovers_since old.machine.system opening old.forced before image (crash (states_pending old.machine.system opening old.forced before) went.holds.pends image left)

  -- no more were forced than were done
  most : old.forced ≤ steps
  most = omega (arith, forced_within state old opening first before steps went.holds, went.holds.count)

  -- the disk failed
  broken : fault_in entry ≡ Some Disk → Failed state old new → CrashesIntoPending state old new → after ≡ before ++ entry ∷ [] → IsControlDown is.control is.forced first new.text (state new.disk)
  broken fault failed crash longer = record {
    before = before;
    entry = entry;
    all = longer;
    legal = subst (λ (s : System). AreSteps s (start_of s opening) before) (sym went.keeps.system) went.holds.legal;
    call = subst (λ (s : System). IsCall s (call_of entry)) (sym went.keeps.system) went.call;
    fault = fault;
    most =
        subst (λ (s : System). opening.steps + (new.forced - opening.steps) ≤ (lasting_after_entries s opening before).steps) (sym went.keeps.system)
        (subst (λ (m : Moment). opening.steps + (new.forced - opening.steps) ≤ m.lasting.steps) (sym went.holds.moment)
        (omega (arith, failed.forced, went.holds.more, forced_within state old opening first before steps went.holds)));
    images = λ image left.
        subst (λ (s : System). RecoversSince s opening (new.forced - opening.steps) before image) (sym went.keeps.system)
        (subst (λ n. RecoversSince old.machine.system opening (n - opening.steps) before image) (sym failed.forced)
        (since crash image (went.disk.now_counts (state old.disk).clock image went.keeps.later left)));
    texts = λ image left. subst (λ (t : List ℕ). HasText new.machine.system t image) (sym went.keeps.text) (subst (λ (s : System). HasText s old.text image) (sym went.keeps.system) (failed.have_text image left));
    numbered = λ image left.
        subst (λ (s : System). IsNumberedFrom s (last_checked first after) image) (sym went.keeps.system)
        (lower old.machine.system (last_checked first after) old.journal.restart.checkpoint image
        (omega (arith, ap (last_checked first) longer, last_more first before (entry ∷ []), fault_tells entry Disk (last_checked first before) fault, went.holds.reached)) (failed.numbered image left));
  }

  by : (fault : Option ControlFault) → fault_in entry ≡ fault → MachineGoesBy state fault old new entry → CrashesIntoPending state old new → after ≡ noted (is_noted fault) before entry
      → Is state fault was is entry × HoldsControl state new opening first after steps'
  unfolding broken
  by None f goes crash longer =
      let here : IsControlServed state new opening first after steps' =
      served_next state old new opening first before after entry steps steps' went.holds longer goes.answered (went.pends f goes.answered) (counted goes.served) (number goes.served) in (
        record {
          adds = record {
            adds = record { system = went.keeps.system; opening = refl; history = longer; may = subst (λ m. May old.machine.system m entry) (sym went.holds.moment) goes.answered.may };
            numbers = goes.numbers;
            acts = subst (λ (m : Moment). ActsOn old.units entry (record { system = old.machine.system; moment = m; databases = old.machine.databases }) (parts_now is)) (sym went.holds.moment)
                (subst (λ (m : Moment). ActsOn old.units entry old.machine (record { system = new.machine.system; moment = m; databases = new.machine.databases })) (sym here.moment) goes.acts);
            up = goes.served;
            no_fault = goes.no_fault;
          };
          crash = since crash;
          lasts = lasts_up goes.served here;
          stays = stay;
          undone = tt;
          nothing = tt;
        },
        kept_up goes.served here,
      )
  by (Some Disk) f goes crash longer =
      let down : IsControlDown is.control is.forced first new.text (state new.disk) = broken f goes crash longer in (
        record {
          adds = record { history = longer; call = went.call; down = goes.served; failed = goes.failed };
          crash = since crash;
          lasts = subst (λ (b : Bool). LastsBy b is.control is.forced first new.text (state new.disk)) (sym goes.served) down;
          stays = stay;
          undone = tt;
          nothing = tt;
        },
        subst (λ (b : Bool). HoldsBy b state new opening first after steps') (sym goes.served)
            (record {
              before = before;
              entry = entry;
              all = longer;
              legal = down.legal;
              call = down.call;
              fault = f;
              images = down.images;
              most =
                  let same : steps' ≡ steps = count ∙ ap (λ (b : Bool). if b then new.machine.moment.lasting.steps else steps) goes.served in
                  omega (arith, same, most, goes.forced);
              texts = down.texts;
              numbered = down.numbered;
              count =
                  count ∙ ap (λ (b : Bool). if b then new.machine.moment.lasting.steps else steps) goes.served
                  ∙ went.holds.count ∙ ap (λ (m : Moment). m.lasting.steps) (sym went.holds.moment) ∙ ap (λ (s : System). (lasting_after_entries s opening before).steps) (sym went.keeps.system);
              more = omega (arith, goes.forced, went.holds.more);
              ascend =
                  subst (AscendAbove first) (sym longer)
                  (ascend_more first before (entry ∷ []) went.holds.ascend (fault_ascends entry Disk (last_checked first before) f));
            }),
      )
  by (Some Memory) f goes crash longer =
      let moment : new.machine.moment ≡ old.machine.moment = ap (λ (l : LoggedState D). l.machine.moment) goes in
      let served : new.served ≡ true = ap (λ (l : LoggedState D). l.served) goes ∙ went.served in
      let stands : moment_after new.machine.system (start_of new.machine.system opening) after ≡ new.machine.moment =
      ap (λ (s : System). moment_after s (start_of s opening) after) went.keeps.system
      ∙ ap (moment_after old.machine.system (start_of old.machine.system opening)) longer ∙ went.holds.moment ∙ sym moment in
      let here : IsControlServed state new opening first after steps' = record {
        moment = stands;
        legal =
            subst (λ (s : System). AreSteps s (start_of s opening) after) (sym went.keeps.system)
            (subst (AreSteps old.machine.system (start_of old.machine.system opening)) (sym longer) went.holds.legal);
        count = counted served;
        more = omega (arith, ap (λ (l : LoggedState D). l.forced) goes, went.holds.more);
        pends =
            subst (λ (es : List Entry). Pends state (states_pending new.machine.system opening new.forced es) new) (sym longer)
            (subst (λ (l : LoggedState D). Pends state (states_pending l.machine.system opening l.forced before) l) (sym goes) went.holds.pends);
        ascend = subst (AscendAbove first) (sym longer) went.holds.ascend;
        reached =
            subst (λ (es : List Entry). last_checked first es ≤ new.journal.restart.checkpoint) (sym longer)
            (omega (arith, went.holds.reached, went.keeps.numbers served));
      } in (
        record {
          adds = record {
            adds = record { system = went.keeps.system; opening = refl; history = longer };
            up = served;
            no_fault = ap (λ (l : LoggedState D). (state l.disk).faults) goes;
          };
          crash = since crash;
          lasts = lasts_up served here;
          stays = stay;
          undone = ap (λ (l : LoggedState D). seen l opening first after room' began) goes ∙ ap (λ (h : List Entry). seen old opening first h room' began) longer;
          nothing = tt;
        },
        kept_up served here,
      )
  by (Some (Spent counter)) f goes crash longer = absurd goes

  pub called : MachineGoesBy state (fault_in entry) old new entry → CrashesIntoPending state old new → after ≡ noted (is_noted (fault_in entry)) before entry
      → Is state (fault_in entry) was is entry × HoldsControl state new opening first after steps'
  called goes crash longer = by (fault_in entry) refl goes crash longer

-- ---- how many steps it forced

-- all that were done
pub front_too : {D : Type 0} (state : D → DiskState) (old new : LoggedState D) (opening : LastingState) (first : ℕ) (before : List Entry) (room began steps : ℕ)
    → IsControlServed state old opening first before steps → new.forced ≡ old.machine.moment.lasting.steps → new.forced - opening.steps ≡ front_of (seen old opening first before room began).control
front_too state old new opening first before room began steps h all =
    ap (λ n. n - opening.steps) all ∙ ap (λ (m : Moment). m.lasting.steps - opening.steps) (sym h.moment)

pub forces_by : {D : Type 0} (state : D → DiskState) (old new : LoggedState D) (opening : LastingState) (first : ℕ) (before after : List Entry) (entry : Entry) (room room' began steps : ℕ)
    → IsControlServed state old opening first before steps → (fault : Option ControlFault) → MachineGoesBy state fault old new entry → PendsBy state fault (call_of entry) old new
    → ForcesBy fault (call_of entry) (seen old opening first before room began) (seen new opening first after room' began)
forces_by {D} state old new opening first before after entry room room' began steps h = by
  where
    was : ControlOnDisk D
    was = seen old opening first before room began

    due : NoCheckpointIsDue old.journal.log (own_bytes (parts_now was) old.units (call_of entry)) → NoCheckpointIsDue old.journal.log (own_bytes old.machine old.units (call_of entry))
    due = subst (λ (p : PartsState). NoCheckpointIsDue old.journal.log (own_bytes p old.units (call_of entry))) (parts_are state old opening first before room began steps h)

    due_back : NoCheckpointIsDue old.journal.log (own_bytes old.machine old.units (call_of entry)) → NoCheckpointIsDue old.journal.log (own_bytes (parts_now was) old.units (call_of entry))
    due_back = subst (λ (p : PartsState). NoCheckpointIsDue old.journal.log (own_bytes p old.units (call_of entry))) (sym (parts_are state old opening first before room began steps h))

    by : (fault : Option ControlFault) → MachineGoesBy state fault old new entry → PendsBy state fault (call_of entry) old new → ForcesBy fault (call_of entry) was (seen new opening first after room' began)
    by None goes pends = record {
      spares = λ none. ap (λ n. n - opening.steps) (pends.spares (due none)).forced;
      due = λ is. front_too state old new opening first before room began steps h (pends.due (λ none. is (due_back none))).forced;
    }
    by (Some Disk) goes pends = ap (λ n. n - opening.steps) goes.forced
    by (Some Memory) goes pends = ap (λ (l : LoggedState D). l.forced - opening.steps) goes
    by (Some (Spent counter)) goes pends = absurd goes

-- ---- what always holds

pub lasts_now : {D : Type 0} (state : D → DiskState) (machine : LoggedState D) (opening : LastingState) (first : ℕ) (history : List Entry) (room began steps : ℕ)
    → HoldsControl state machine opening first history steps → LastsNow state machine → Lasts state (seen machine opening first history room began)
lasts_now {D} state machine opening first history room began steps holds lasts = by machine.served refl holds
  where
    by : (b : Bool) → machine.served ≡ b → HoldsBy b state machine opening first history steps → LastsBy b (seen machine opening first history room began).control (machine.forced - opening.steps) first machine.text (state machine.disk)
    by true served h = up_lasts state machine opening first history room began steps served h lasts
    by false served h = record {
      before = h.before;
      entry = h.entry;
      all = h.all;
      legal = h.legal;
      call = h.call;
      fault = h.fault;
      most = omega (arith, h.most, h.more, h.count);
      images = h.images;
      texts = h.texts;
      numbered = h.numbered;
    }

-- while it is served, by the machine alone, where what pended does still
pub served_holds : {D : Type 0} (state : D → DiskState) (old new : LoggedState D) (opening : LastingState) (first : ℕ) (history : List Entry) (steps : ℕ)
    → old.served ≡ true → new.served ≡ true → new.machine ≡ old.machine → new.journal ≡ old.journal → PendsStill state false old new
    → HoldsControl state old opening first history steps → HoldsControl state new opening first history steps
served_holds state old new opening first history steps was is machine journal still holds =
    subst (λ (b : Bool). HoldsBy b state new opening first history steps) (sym is)
    (let h : IsControlServed state old opening first history steps = subst (λ (b : Bool). HoldsBy b state old opening first history steps) was holds in
    record {
      moment = ap (λ (p : PartsState). moment_after p.system (start_of p.system opening) history) machine ∙ h.moment ∙ ap (λ (p : PartsState). p.moment) (sym machine);
      legal = subst (λ (p : PartsState). AreSteps p.system (start_of p.system opening) history) (sym machine) h.legal;
      count = h.count ∙ ap (λ (p : PartsState). p.moment.lasting.steps) (sym machine);
      more = omega (arith, h.more, still.forced);
      pends =
          subst (λ (p : PartsState). Pends state (states_pending p.system opening new.forced history) new) (sym machine)
          (subst (λ n. Pends state (states_pending old.machine.system opening n history) new) (sym still.forced)
          (still.pends (states_pending old.machine.system opening old.forced history) h.pends));
      ascend = h.ascend;
      reached = subst (λ (j : JournalState). last_checked first history ≤ j.restart.checkpoint) (sym journal) h.reached;
    })

-- and so it is served
pub is_served : {D : Type 0} (state : D → DiskState) (machine : LoggedState D) (opening : LastingState) (first : ℕ) (history : List Entry) (steps : ℕ)
    → machine.served ≡ true → HoldsControl state machine opening first history steps → IsControlServed state machine opening first history steps
is_served state machine opening first history steps served holds = subst (λ (b : Bool). HoldsBy b state machine opening first history steps) served holds

-- where nothing happened what a crash may leave is as before
pub still : {D : Type 0} (state : D → DiskState) (machine : LoggedState D) (opening : LastingState) (first : ℕ) (history : List Entry) (room room' began steps : ℕ)
    → machine.served ≡ true → HoldsControl state machine opening first history steps → LastsNow state machine → IsDisk (state machine.disk)
    → ControlCrashes state (seen machine opening first history room began) (seen machine opening first history room' began)
still state machine opening first history room room' began steps served holds lasts disk image left =
    recovers_since machine.machine.system opening machine.forced history image
    ((lasts served).recover (states_pending machine.machine.system opening machine.forced history) (is_served state machine opening first history steps served holds).pends image (disk.now_alone image left))

-- nor does it count further
pub still_counts : {D : Type 0} (state : D → DiskState) (machine : LoggedState D) (opening : LastingState) (first : ℕ) (history : List Entry) (room room' began : ℕ)
    → machine.served ≡ true → LastsNow state machine → IsDisk (state machine.disk)
    → ControlCountsSince state (2 * machine.machine.system.logs) (seen machine opening first history room began) (seen machine opening first history room' began)
still_counts state machine opening first history room room' began served lasts disk high stands image left =
    up_to_more machine.machine.system (high + machine.machine.system.logs) (high + 2 * machine.machine.system.logs) image (omega arith) ((lasts served).counts high stands image (disk.now_alone image left))

-- the machine stands where it stood, and was asked what no step lasts of
pub shown_holds : {D : Type 0} (state : D → DiskState) (machine : LoggedState D) (opening : LastingState) (first : ℕ) (before after : List Entry) (entry : Entry) (steps : ℕ)
    → machine.served ≡ true → HoldsControl state machine opening first before steps → after ≡ before ++ entry ∷ [] → IsAnswered machine.machine machine.machine entry
    → lasts_at machine.machine.system machine.machine.moment entry ≡ false
    → Numbers entry machine.journal.restart.checkpoint machine.journal.restart.checkpoint
    → HoldsControl state machine opening first after steps
shown_holds state machine opening first before after entry steps served holds longer answered none numbers =
    let h : IsControlServed state machine opening first before steps = is_served state machine opening first before steps served holds in
    let same : PendsStill state (lasts_at machine.machine.system machine.machine.moment entry) machine machine =
    subst (λ (b : Bool). PendsStill state b machine machine) (sym none) (record { forced = refl; pends = λ states pends. pends }) in
    subst (λ (b : Bool). HoldsBy b state machine opening first after steps) (sym served)
    (served_next state machine machine opening first before after entry steps steps h longer answered (pends_still state machine machine opening first before steps h entry answered same) h.count
    (next_number entry (last_checked first before) machine.journal.restart.checkpoint machine.journal.restart.checkpoint h.reached (omega arith) numbers))

-- all but its history is as it was
pub stays_still : {D : Type 0} (state : D → DiskState) (machine : LoggedState D) (opening : LastingState) (first : ℕ) (before after : List Entry) (room room' began : ℕ)
    → StaysSo state (seen machine opening first before room began) (seen machine opening first after room' began)
stays_still state machine opening first before after room room' began =
    record { system = refl; opening = refl; checkpoint = refl; text = refl; began = refl; disk = stays_same (state machine.disk); later = omega arith }

-- and so its entry shows
pub shows_now : {D : Type 0} (state : D → DiskState) (machine : LoggedState D) (opening : LastingState) (first : ℕ) (before after : List Entry) (entry : Entry) (room room' began steps : ℕ)
    → machine.served ≡ true → HoldsControl state machine opening first before steps → after ≡ before ++ entry ∷ [] → IsAnswered machine.machine machine.machine entry → room ≡ room' + 1
    → Shows state (seen machine opening first before room began) (seen machine opening first after room' began) entry
shows_now state machine opening first before after entry room room' began steps served holds longer answered one =
    let h : IsControlServed state machine opening first before steps = is_served state machine opening first before steps served holds in
    let log : KeepsLog (seen machine opening first before room began) (seen machine opening first after room' began) =
    record { databases = refl; journal = refl; forced = refl; units = refl; next_unit = refl } in
    record {
      adds = record { system = refl; opening = refl; history = longer; may = subst (λ (m : Moment). May machine.machine.system m entry) (sym h.moment) answered.may };
      room = one;
      up = served;
      disk = refl;
      log = log;
      stays = stays_still state machine opening first before after room room' began;
    }

-- ---- a checkpoint that was not taken

pub untaken : {D : Type 0} (old new : LoggedState D) (opening : LastingState) (first : ℕ) (before after : List Entry) (room room' began : ℕ) (freeze : Bool) (answer : Result ℕ CheckpointRefused)
    → IfErr answer (λ refusal. StaysUntaken refusal old new) → after ≡ noted (is_noted (fault_in (Checked freeze answer))) before (Checked freeze answer)
    → StaysUndone (fault_in (Checked freeze answer)) (seen old opening first before room began) (seen new opening first after room' began)
    → IfErr answer (λ refusal. Untaken refusal (seen old opening first before room began) (seen new opening first after room' began) (Checked freeze answer))
untaken old new opening first before after room room' began freeze (Ok number) same longer undone = tt
untaken old new opening first before after room room' began freeze (Err (BusyRegion region id)) same longer undone =
    ap (λ (l : LoggedState _). seen l opening first after room' began) same ∙ ap (λ (h : List Entry). seen old opening first h room' began) longer
untaken old new opening first before after room room' began freeze (Err (Fault fault)) same longer undone = undone

-- what pends behind one that was answered, taken or not
pub pends_checked : {D : Type 0} (state : D → DiskState) (old new : LoggedState D) (opening : LastingState) (first : ℕ) (before : List Entry) (steps : ℕ) → IsControlServed state old opening first before steps
    → (freeze : Bool) (answer : Result ℕ CheckpointRefused) → OnOk answer (PendsAnew state false old new) → IfErr answer (λ refusal. StaysUntaken refusal old new)
    → fault_in (Checked freeze answer) ≡ None → IsAnswered old.machine new.machine (Checked freeze answer) → PendsOn state old new opening (before ++ Checked freeze answer ∷ [])
pends_checked state old new opening first before steps h freeze (Ok number) anew same none answered = pends_anew state old new opening first before steps h (Checked freeze (Ok number)) answered anew
pends_checked state old new opening first before steps h freeze (Err (BusyRegion region id)) anew same none answered =
    pends_still state old new opening first before steps h (Checked freeze (Err (BusyRegion region id))) answered
    (record { forced = ap (λ (l : LoggedState _). l.forced) same; pends = λ states pends. subst (λ (l : LoggedState _). Pends state states l) (sym same) pends })
pends_checked state old new opening first before steps h freeze (Err (Fault fault)) anew same none answered = absurd cc

-- where it was taken, all steps are forced
pub all_forced : {D : Type 0} (state : D → DiskState) (old new : LoggedState D) (opening : LastingState) (first : ℕ) (before : List Entry) (room began steps : ℕ)
    → IsControlServed state old opening first before steps → (answer : Result ℕ CheckpointRefused) → OnOk answer (PendsAnew state false old new)
    → OnOk answer (new.forced - opening.steps ≡ front_of (seen old opening first before room began).control)
all_forced state old new opening first before room began steps h (Ok number) anew = front_too state old new opening first before room began steps h anew.forced
all_forced state old new opening first before room began steps h (Err refused) anew = tt

-- where a region's work forbade it, as many steps are forced as before; so it is where there was no memory, or the disk failed
pub forced_checked : {D : Type 0} (state : D → DiskState) (old new : LoggedState D) (opening : LastingState) (freeze : Bool) (answer : Result ℕ CheckpointRefused)
    → MachineGoesBy state (fault_in (Checked freeze answer)) old new (Checked freeze answer) → IfErr answer (λ refusal. StaysUntaken refusal old new)
    → OnErr answer (new.forced - opening.steps ≡ old.forced - opening.steps)
forced_checked state old new opening freeze (Ok number) goes same = tt
forced_checked state old new opening freeze (Err (BusyRegion region id)) goes same = ap (λ (l : LoggedState _). l.forced - opening.steps) same
forced_checked state old new opening freeze (Err (Fault Memory)) goes same = ap (λ (l : LoggedState _). l.forced - opening.steps) same
forced_checked state old new opening freeze (Err (Fault Disk)) goes same = ap (λ n. n - opening.steps) goes.forced
forced_checked state old new opening freeze (Err (Fault (Spent counter))) goes same = absurd goes

-- ---- a force

-- It was done: all that lasts is forced.
pub forced_holds : {D : Type 0} (state : D → DiskState) (old new : LoggedState D) (opening : LastingState) (first : ℕ) (history : List Entry) (steps steps' : ℕ)
    → IsControlServed state old opening first history steps → HasForced state old new → steps' ≡ new.machine.moment.lasting.steps → IsControlServed state new opening first history steps'
forced_holds state old new opening first history steps steps' h has count =
    let last : lasting_after_entries old.machine.system opening history ≡ old.machine.moment.lasting = ap (λ (m : Moment). m.lasting) h.moment in
    record {
      moment = ap (λ (p : PartsState). moment_after p.system (start_of p.system opening) history) has.machine ∙ h.moment ∙ ap (λ (p : PartsState). p.moment) (sym has.machine);
      legal = subst (λ (p : PartsState). AreSteps p.system (start_of p.system opening) history) (sym has.machine) h.legal;
      count = count;
      more = omega (arith, h.more, has.forced, forced_within state old opening first history steps h);
      pends =
          subst (λ (p : PartsState). Pends state (states_pending p.system opening new.forced history) new) (sym has.machine)
          (subst (λ (states : List LastingState). Pends state states new)
          (sym (pending_last old.machine.system opening history new.forced (has.forced ∙ ap (λ (s : LastingState). s.steps) (sym last)) ∙ ap (λ (s : LastingState). s ∷ []) last)) has.pends);
      ascend = h.ascend;
      reached = omega (arith, h.reached, ap (λ (r : RestartSector). r.checkpoint) has.restart);
    }

-- so it is for the control region
pub forces_log : {D : Type 0} (state : D → DiskState) (old new : LoggedState D) (opening : LastingState) (first : ℕ) (history : List Entry) (room began steps : ℕ)
    → IsControlServed state old opening first history steps → HasForced state old new
    → ForcesLog state (seen old opening first history room began) (seen new opening first history room began)
forces_log state old new opening first history room began steps h has = record {
  adds = record { system = ap (λ (p : PartsState). p.system) has.machine; opening = refl; history = refl };
  room = refl;
  up = has.served;
  all = front_too state old new opening first history room began steps h has.forced;
  databases = ap (λ (p : PartsState). p.databases) has.machine;
  units = has.units;
  next_unit = has.next_unit;
  log = has.log;
  restart = has.restart;
  no_fault = has.no_fault;
}

-- It raises none of what is counted on.
pub force_stands : {D : Type 0} (state : D → DiskState) (old new : LoggedState D) → HasForced state old new → (high : ℕ) → StandsUpTo high old.journal old.next_unit → StandsUpTo high new.journal new.next_unit
force_stands state old new has high stands = record {
  epoch = omega (arith, ap (λ (r : RestartSector). r.epoch) has.restart, stands.epoch);
  sequence = subst (λ (w : Writer). w.sequence + w.place + log_sectors_of (length w.appended) ≤ high) (sym has.log) (omega (arith, stands.sequence));
  checkpoint = omega (arith, ap (λ (r : RestartSector). r.checkpoint) has.restart, stands.checkpoint);
  unit = omega (arith, has.next_unit, stands.unit);
}

-- what a crash may leave, whether it was done or not
pub force_crash : {D : Type 0} (state : D → DiskState) (old new : LoggedState D) (opening : LastingState) (first : ℕ) (before after : List Entry) (room room' began steps : ℕ)
    → IsControlServed state old opening first before steps → CrashesIntoPending state old new → ControlCrashes state (seen old opening first before room began) (seen new opening first after room' began)
force_crash state old new opening first before after room room' began steps h crash image left =
    recovers_since old.machine.system opening old.forced before image (crash (states_pending old.machine.system opening old.forced before) h.pends image left)

-- and what stays
pub force_stays : {D : Type 0} (state : D → DiskState) (old new : LoggedState D) (opening : LastingState) (first : ℕ) (before after : List Entry) (room room' began : ℕ)
    → KeepsMachine state old new → StaysSo state (seen old opening first before room began) (seen new opening first after room' began)
force_stays state old new opening first before after room room' began keeps =
    record { system = keeps.system; opening = refl; checkpoint = refl; text = keeps.text; began = refl; disk = keeps.disk; later = keeps.later }

-- The disk failed in it: an entry tells of a checkpoint with that fault.
abbrev pub failed_entry : Entry
failed_entry = Checked false (Err (Fault Disk))

pub force_failed : {D : Type 0} (state : D → DiskState) (old new : LoggedState D) (opening : LastingState) (first : ℕ) (before after : List Entry) (room room' began steps : ℕ)
    → old.served ≡ true → IsControlServed state old opening first before steps → KeepsMachine state old new → LastsNow state new → IsDisk (state new.disk) → Failed state old new → CrashesIntoPending state old new
    → after ≡ before ++ failed_entry ∷ []
    → Is state (Some Disk) (seen old opening first before room began) (seen new opening first after room' began) failed_entry × HoldsControl state new opening first after steps
force_failed state old new opening first before after room room' began steps served h keeps lasts disk failed crash longer =
    called state old new opening first before after failed_entry room room' began steps steps
    (record { served = served; holds = h; call = tt; keeps = keeps; lasts = lasts; disk = disk; numbers = λ up. tt; pends = λ none answered. absurd (none_some Disk (sym none)) })
    (sym (ap (λ (b : Bool). if b then new.machine.moment.lasting.steps else steps) failed.served)) failed crash longer
