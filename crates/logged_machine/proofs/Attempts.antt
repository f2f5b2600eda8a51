-- An attempt of a call, by what it told.
use Rattle.std.proofs.Common.{◌≡◌, ◌≤◌, ◌<◌, ◌+◌, ℕ, Bool, true, false, List, ◌∷◌, length, refl, sym, ◌∙◌, ap, subst, arith, inl, lt-ltb}
use Rattle.std.specs.Prelude.{IfSome, Option, Some, None, Result, Ok, Err, ◌++◌}
use Rattle.std.specs.List.{flat_map, AllByRecursion}
use Rattle.std.specs.Option.{is_some}
use Rattle.tm_disk.specs.Disk.{DiskState}
use Rattle.tm_disk.proofs.Words.{stays_same}
use Rattle.model_machine.specs.Machine.{LastingState}
use Rattle.model_machine.specs.declared.answer.Answer.{Answer}
use Rattle.model_machine.specs.declared.command.Command.{Command}
use Rattle.model_machine.specs.CommandAnswers.{lasting_command}
use Rattle.model_machine.specs.LastingSteps.{LastingStep}
use Rattle.model_machine.specs.MachineCalls.{lasting_step}
use Rattle.model_machine.specs.History.{call_of}
use Rattle.model_machine.specs.declared.entry.Acked.{Acked}
use Rattle.model_machine.specs.declared.entry.AckRefused.{AckRefused}
use Rattle.model_machine.specs.declared.entry.CommandRefused.{CommandRefused}
use Rattle.model_machine.specs.declared.entry.ControlCall.{ControlCall}
use Rattle.model_machine.specs.declared.entry.ControlCall.TheVariants.{Input, Acknowledge, Command as CommandCall}
use Rattle.model_machine.specs.declared.entry.Entry.{Entry}
use Rattle.model_machine.specs.declared.entry.Entry.TheVariants.{Accept, Show, Acked as AckedEntry, Commanded, Checked, Quiet, Turn as TurnEntry}
use Rattle.model_machine.specs.declared.entry.InputRefused.{InputRefused}
use Rattle.model_machine.specs.declared.entry.Taken.{Taken}
use Rattle.model_machine.specs.declared.entry.Turned.{Turned}
use Rattle.model_machine.specs.declared.entry.Turned.TheVariants.{Scheduled, Called, Next, QC, Done, Abended, Idle, Held, Waits, Backed}
use Rattle.tm_types.specs.Commands.{IsSpellable}
use Rattle.log_records.specs.declared.record.Record.{Record}
use Rattle.log_records.specs.RecordSpelling.{record_spelling, IsLogRecord}
use Rattle.log_records.proofs.Takes.{IsBytes}
use Rattle.log_writer.specs.Writer.{Writer}
use Rattle.log_writer.specs.ForcedLog.{log_sectors_of}
use Rattle.disk_law.specs.Life.{LifeOnDisk}
use Rattle.disk_law.specs.PendingMoves.{PendsBehind}
use Rattle.disk_law.specs.SlotChanges.{with_bytes_behind}
use Rattle.disk_law.specs.JournalState.{JournalState}
use Rattle.disk_law.specs.UnitCounts.{TellUnits}
use Rattle.disk_law.proofs.OnDisk.{pending_some}
use Rattle.tm_machine.specs.Answers.{IsAnswered}
use Rattle.tm_machine.specs.SlotChanges.{HasSlots, TellByCall, TurnsSo, changes_told, slots_now, turn_records}
use Rattle.tm_machine.specs.Parts.{PartsState}
use Rattle.tm_machine.specs.ToldByCall.{told_records_of}
use Rattle.journal.specs.UnitNumbers.{next_after, unit_of_region, units_after}
use Rattle.journal.specs.UnspentCounts.{AreUnspent}
use Rattle.journal.proofs.Inputs.{HasRoom}
use Rattle.journal.proofs.Numbers.{units_stay}
use Rattle.journal.proofs.Turns.{GoesBy}
use Rattle.model_image.specs.Counters.{greatest_unit}
use Rattle.openings.specs.Faults.{fault_in}
use Rattle.logged_machine.specs.RecordsBehindLog.{Appends}
use Rattle.logged_machine.specs.LoggedParts.{IsLogged, PendSome, steps_forced}
use Rattle.logged_machine.specs.ToldCalls.{DoesCall, DoesTo, IsCallWithin, NumbersBy, may_last, own_records}
use Rattle.logged_machine.specs.LoggedState.{LoggedState}
use Rattle.logged_machine.specs.CallOutcome.{with_step}
use Rattle.logged_machine.specs.Attempts.{Tried}
use Rattle.logged_machine.specs.CheckpointDue.{has_lasting_step}
use Rattle.logged_machine.proofs.Answering.{ack_of_parts, command_of_parts, input_of_parts}
use Rattle.logged_machine.proofs.Turning.{turn_of_parts}
use Rattle.logged_machine.proofs.Counts.{quiet_tells}
use Rattle.logged_machine.proofs.OwnUnits.{records_most, turn_most, unit_below}
use Rattle.logged_machine.proofs.Frugality.{area_is}
use Rattle.logged_machine.proofs.Logging.{continued, stepped}

apart : false ≡ true → ⊥
apart e = cc

-- ---- states that pend

-- one more behind them leaves the first
same_first : (states : List LastingState) (first : LastingState) (rest : List LastingState) → states ≡ first ∷ rest → (step : Bool) (lasting : LastingState) → steps_forced (with_step states step lasting) ≡ steps_forced states
same_first states first rest are false lasting = refl
same_first states first rest are true lasting =
    subst (λ (some : List LastingState). steps_forced (with_step some true lasting) ≡ steps_forced some) (sym are) refl

pub first_stays : (states : List LastingState) (life : LifeOnDisk) (disk : DiskState) → PendsBehind states life disk → (step : Bool) (lasting : LastingState) → steps_forced (with_step states step lasting) ≡ steps_forced states
first_stays states life disk pends step lasting =
    let some = pending_some states life disk pends in
    same_first states some.0 some.1 some.2 step lasting

-- ---- an attempt

-- Records that a journal's writer has room for have it in its life's log.
room_in_log : (records : List Record) (log : Writer) (life : LifeOnDisk) → life.log ≡ log → AllByRecursion IsLogRecord records → IsBytes (flat_map record_spelling records)
    → log.place + log_sectors_of (length (log.appended ++ flat_map record_spelling records)) ≤ log.count → HasRoom records life
room_in_log records log life same valid bytes fits =
    record { valid = valid; fits = subst (λ (w : Writer). w.place + log_sectors_of (length (w.appended ++ flat_map record_spelling records)) ≤ w.count) (sym same) fits; bytes = bytes }

-- A call was answered by this entry where these states pend, and what it told was appended.
pub record Attempt {D : Type 0} (state : D → DiskState) (parts parts' : PartsState) (text : List ℕ) (journal mid : JournalState) (units units' : List ℕ) (next next' : ℕ) (disk : D) (entry : Entry) (states : List LastingState) : Type 0 where
  pub logged : IsLogged parts units next journal text states (state disk)
  pub as_many : length units' ≡ length units
  pub answered : IsAnswered parts parts' entry
  pub no_fault : fault_in entry ≡ None
  pub numbers : NumbersBy entry units units' next next'
  pub does : DoesTo units entry parts parts'
  pub records : List Record
  pub told : Appends records journal mid
  pub goes : GoesBy (lasting_step parts.system parts.moment (call_of entry)) (flat_map record_spelling records) parts.system parts'.moment (slots_now parts') units' next' logged.life
  pub own : records ≡ own_records parts units (call_of entry)
  pub unit_up : next' ≤ next + 1
  pub later : next ≤ next'
  pub fresh : greatest_unit records < next'

module _ {D : Type 0} (state : D → DiskState) {parts parts' : PartsState} {text : List ℕ} {journal mid : JournalState} {units units' : List ℕ} {next next' : ℕ} {disk : D} {entry : Entry} where
  -- what pends then
  module _ {states : List LastingState} (a : Attempt state parts parts' text journal mid units units' next next' disk entry states) where
    tells : TellUnits parts.system mid next' (state disk)
    tells = quiet_tells parts units next journal text states (state disk) a.logged a.records mid a.told.log a.told.restart a.told.valid next' a.later a.fresh

    pub logged_on : IsLogged parts' units' next' mid text (with_step states (has_lasting_step parts (call_of entry)) parts'.moment.lasting) (state disk)
    logged_on = by (lasting_step parts.system parts.moment (call_of entry)) a.goes
      where
        by : (step : Option LastingStep) → GoesBy step (flat_map record_spelling a.records) parts.system parts'.moment (slots_now parts') units' next' a.logged.life
            → IsLogged parts' units' next' mid text (with_step states (is_some step) parts'.moment.lasting) (state disk)
        by None goes = continued parts units next journal text states (state disk) a.logged parts' units' next' a.answered.system a.as_many (flat_map record_spelling a.records) mid a.told.log a.told.restart tells goes
        by (Some step) goes = stepped parts units next journal text states (state disk) a.logged parts' units' next' a.answered.system a.as_many (flat_map record_spelling a.records) mid a.told.log a.told.restart tells goes

    pub steps_on : steps_forced (with_step states (has_lasting_step parts (call_of entry)) parts'.moment.lasting) ≡ steps_forced states
    steps_on = first_stays states a.logged.life (state disk) a.logged.pends (has_lasting_step parts (call_of entry)) parts'.moment.lasting

  module _ (attempts : (states : List LastingState) → IsLogged parts units next journal text states (state disk) → Attempt state parts parts' text journal mid units units' next next' disk entry states) {forced : ℕ}
      (p : PendSome parts units next journal text forced (state disk)) where
    abbrev one : Attempt state parts parts' text journal mid units units' next next' disk entry p.states
    one = attempts p.states p.logged

    pub pend_on : PendSome parts' units' next' mid text forced (state disk)
    pend_on = record {
      states = with_step p.states (has_lasting_step parts (call_of entry)) parts'.moment.lasting;
      logged = logged_on one;
      steps = p.steps ∙ sym (steps_on one);
    }

    abbrev was_at : Bool → LoggedState D
    was_at up = record { machine = parts; text = text; served = up; forced = forced; journal = journal; units = units; next_unit = next; disk = disk }

    abbrev is_at : Bool → LoggedState D
    is_at up = record { machine = parts'; text = text; served = up; forced = forced; journal = mid; units = units'; next_unit = next'; disk = disk }

    sequence_on : (was to_come : ℕ) → was ≡ log_sectors_of (length journal.log.appended) → to_come ≡ mid.log.sequence + mid.log.place + log_sectors_of (length mid.log.appended)
        → to_come ≤ journal.log.sequence + journal.log.place + was + parts.system.logs
    sequence_on was to_come was_is is =
        within journal.log.sequence journal.log.place (log_sectors_of (length (journal.log.appended ++ flat_map record_spelling one.records))) was journal.log.count parts.system.logs to_come
        (is ∙ ap (λ (w : Writer). w.sequence + w.place + log_sectors_of (length w.appended)) one.told.log) one.told.fits (area_is parts units next journal text p.states (state disk) p.logged)
      where
        within : (s p n x c l t : ℕ) → t ≡ s + p + n → p + n ≤ c → c ≡ l → t ≤ s + p + x + l
        within s p n x c l t a b d = omega (arith, a, b, d)

    -- The call was answered, and nothing was written.
    pub tried : {up : Bool} → up ≡ true → Tried state (was_at up) (is_at up) entry
    tried {up = up} served = record {
      no_fault = one.no_fault;
      went = record { answered = one.answered; numbers = one.numbers; acts = inl one.does; served = served; no_fault = refl };
      keeps = record {
        system = one.answered.system;
        text = refl;
        disk = stays_same (state disk);
        later = omega arith;
        numbers = λ now. subst (λ (n : ℕ). journal.restart.checkpoint ≤ n) (ap (λ r. r.checkpoint) (sym one.told.restart)) (omega arith);
      };
      appends = record {
        log = one.told.log ∙ ap (λ (rs : List Record). with_bytes_behind (flat_map record_spelling rs) journal.log) one.own;
        restart = one.told.restart;
        disk_is = refl;
      };
      on = record {
        restart = one.told.restart;
        sequence = sequence_on (log_sectors_of (length journal.log.appended)) (mid.log.sequence + mid.log.place + log_sectors_of (length mid.log.appended)) refl refl;
        unit = one.unit_up;
      };
      pends = record {
        forced = refl;
        pends = λ states q. let a = attempts states q.logged in record { logged = logged_on a; forced = q.forced ∙ sym (steps_on a) };
      };
    }

-- ---- the calls

-- a turn gives no number back
next_later : (turned : Turned) (next : ℕ) → next ≤ next_after turned next
next_later (Scheduled code id) next = omega arith
next_later (Called function pcb status) next = omega arith
next_later (Next code id further) next = omega arith
next_later (QC code id) next = omega arith
next_later (Done code id) next = omega arith
next_later (Abended code id abend) next = omega arith
next_later Idle next = omega arith
next_later (Held need limit) next = omega arith
next_later (Waits resource by) next = omega arith
next_later (Backed victims) next = omega arith

-- a turn takes one number at most
next_up : (turned : Turned) (next : ℕ) → next_after turned next ≤ next + 1
next_up (Scheduled code id) next = omega arith
next_up (Called function pcb status) next = omega arith
next_up (Next code id further) next = omega arith
next_up (QC code id) next = omega arith
next_up (Done code id) next = omega arith
next_up (Abended code id abend) next = omega arith
next_up Idle next = omega arith
next_up (Held need limit) next = omega arith
next_up (Waits resource by) next = omega arith
next_up (Backed victims) next = omega arith

module _ {D : Type 0} (state : D → DiskState) {parts parts' : PartsState} {text : List ℕ} {journal mid : JournalState} {units : List ℕ} {next : ℕ} {disk : D}
    {states : List LastingState} (h : IsLogged parts units next journal text states (state disk)) (unspent : AreUnspent parts.moment.lasting) (had : HasSlots parts) (has : HasSlots parts') where
  input_attempt : (terminal : List ℕ) (number : ℕ) (segments : List (List ℕ)) (answer : Result Taken InputRefused) → IsAnswered parts parts' (Accept terminal number segments answer)
      → fault_in (Accept terminal number segments answer) ≡ None → Appends (told_records_of parts.system parts.moment 0 (Input terminal number segments)) journal mid → parts'.databases ≡ parts.databases → number < 2000000000000000000
      → Attempt state parts parts' text journal mid units units next next disk (Accept terminal number segments answer) states
  input_attempt terminal number segments answer answered none told databases small = record {
    logged = h;
    as_many = refl;
    answered = answered;
    no_fault = none;
    numbers = (refl, refl);
    does = databases;
    records = told_records_of parts.system parts.moment 0 (Input terminal number segments);
    told = told;
    own = refl;
    unit_up = omega arith;
    later = omega arith;
    fresh = omega (arith, records_most parts.system parts.moment 0 (Input terminal number segments), h.carried.is.numbers.some);
    goes =
        input_of_parts parts parts' units next h.life h.carried unspent had has databases terminal number segments answer answered (lt-ltb number 2000000000000000000 small)
        (room_in_log (told_records_of parts.system parts.moment 0 (Input terminal number segments)) journal.log h.life h.writer told.valid told.bytes told.fits);
  }

  ack_attempt : (terminal : List ℕ) (number : ℕ) (answer : Result Acked AckRefused) → IsAnswered parts parts' (AckedEntry terminal number answer) → fault_in (AckedEntry terminal number answer) ≡ None
      → Appends (told_records_of parts.system parts.moment 0 (Acknowledge terminal number)) journal mid → parts'.databases ≡ parts.databases
      → Attempt state parts parts' text journal mid units units next next disk (AckedEntry terminal number answer) states
  ack_attempt terminal number answer answered none told databases = record {
    logged = h;
    as_many = refl;
    answered = answered;
    no_fault = none;
    numbers = (refl, refl);
    does = databases;
    records = told_records_of parts.system parts.moment 0 (Acknowledge terminal number);
    told = told;
    own = refl;
    unit_up = omega arith;
    later = omega arith;
    fresh = omega (arith, records_most parts.system parts.moment 0 (Acknowledge terminal number), h.carried.is.numbers.some);
    goes =
        ack_of_parts parts parts' units next h.life h.carried unspent had has databases terminal number answer answered
        (room_in_log (told_records_of parts.system parts.moment 0 (Acknowledge terminal number)) journal.log h.life h.writer told.valid told.bytes told.fits);
  }

  command_attempt : (command : Command) (answer : Result Answer CommandRefused) → IsAnswered parts parts' (Commanded command answer) → fault_in (Commanded command answer) ≡ None → IfSome (lasting_command command) IsSpellable
      → Appends (told_records_of parts.system parts.moment 0 (CommandCall command)) journal mid → parts'.databases ≡ parts.databases
      → Attempt state parts parts' text journal mid units units next next disk (Commanded command answer) states
  command_attempt command answer answered none named told databases = record {
    logged = h;
    as_many = refl;
    answered = answered;
    no_fault = none;
    numbers = (refl, refl);
    does = databases;
    records = told_records_of parts.system parts.moment 0 (CommandCall command);
    told = told;
    own = refl;
    unit_up = omega arith;
    later = omega arith;
    fresh = omega (arith, records_most parts.system parts.moment 0 (CommandCall command), h.carried.is.numbers.some);
    goes =
        command_of_parts parts parts' units next h.life h.carried unspent had has databases command answer answered named
        (room_in_log (told_records_of parts.system parts.moment 0 (CommandCall command)) journal.log h.life h.writer told.valid told.bytes told.fits);
  }

  turn_attempt : (region : ℕ) (turned : Turned) → IsAnswered parts parts' (TurnEntry region (Ok turned)) → Appends (turn_records parts (unit_of_region units region) region) journal mid
      → TurnsSo parts parts' (unit_of_region units region) region turned → TellByCall (changes_told parts (unit_of_region units region) region) turned
      → Attempt state parts parts' text journal mid units (units_after turned region next units) next (next_after turned next) disk (TurnEntry region (Ok turned)) states
  turn_attempt region turned answered told turns quiet = record {
    logged = h;
    as_many = units_stay turned region next units;
    answered = answered;
    no_fault = refl;
    numbers = (refl, refl);
    does = turns;
    records = turn_records parts (unit_of_region units region) region;
    told = told;
    own = refl;
    unit_up = next_up turned next;
    later = next_later turned next;
    fresh = omega (arith, turn_most parts parts' (unit_of_region units region) region turned turns quiet, unit_below parts.moment.slots units next region h.carried.is.numbers, next_later turned next);
    goes =
        turn_of_parts parts parts' units next h.life h.carried unspent had has region turned answered turns quiet
        (room_in_log (turn_records parts (unit_of_region units region) region) journal.log h.life h.writer told.valid told.bytes told.fits);
  }

  -- with the numbers of the units and the next one as they then are
  numbered : (entry : Entry) {us units' : List ℕ} {n next' : ℕ} → units' ≡ us → next' ≡ n → Attempt state parts parts' text journal mid units us next n disk entry states
      → Attempt state parts parts' text journal mid units units' next next' disk entry states
  numbered entry {us = us} {units' = units'} {n = n} {next' = next'} units_are next_is a =
      subst (λ (u : List ℕ). Attempt state parts parts' text journal mid units u next next' disk entry states) (sym units_are)
      (subst (λ (m : ℕ). Attempt state parts parts' text journal mid units us next m disk entry states) (sym next_is) a)

  by_entry : (entry : Entry) (units' : List ℕ) (next' : ℕ) → may_last (call_of entry) ≡ true → IsCallWithin (call_of entry) → DoesCall units entry parts parts' → NumbersBy entry units units' next next'
      → Appends (own_records parts units (call_of entry)) journal mid → Attempt state parts parts' text journal mid units units' next next' disk entry states
  by_entry (Accept terminal number segments answer) units' next' last within d numbers told =
      numbered (Accept terminal number segments answer) numbers.0 numbers.1 (input_attempt terminal number segments answer d.answered d.no_fault told d.does within)
  by_entry (AckedEntry terminal number answer) units' next' last within d numbers told =
      numbered (AckedEntry terminal number answer) numbers.0 numbers.1 (ack_attempt terminal number answer d.answered d.no_fault told d.does)
  by_entry (Commanded command answer) units' next' last within d numbers told =
      numbered (Commanded command answer) numbers.0 numbers.1 (command_attempt command answer d.answered d.no_fault d.spellable told d.does)
  by_entry (TurnEntry region (Ok turned)) units' next' last within d numbers told =
      numbered (TurnEntry region (Ok turned)) numbers.0 numbers.1 (turn_attempt region turned d.answered told d.does d.changes)
  by_entry (TurnEntry region (Err fault)) units' next' last within d numbers told = let clash : Some fault ≡ None = d.no_fault in absurd (cc)
  by_entry (Show terminal answer) units' next' last within d numbers told = absurd (apart last)
  by_entry (Checked freeze answer) units' next' last within d numbers told = absurd (apart last)
  by_entry (Quiet quiet) units' next' last within d numbers told = absurd (apart last)

  -- The attempt of a call, by what it told with the numbers of the units as they were given.
  pub attempt : {given : List ℕ} {call : ControlCall} (entry : Entry) (units' : List ℕ) (next' : ℕ) → given ≡ units → call_of entry ≡ call → may_last call ≡ true → IsCallWithin call → DoesCall given entry parts parts'
      → NumbersBy entry units units' next next' → Appends (own_records parts given call) journal mid → Attempt state parts parts' text journal mid units units' next next' disk entry states
  attempt {given = given} entry units' next' same of_call last within d numbers told =
      by_entry entry units' next' (ap may_last of_call ∙ last) (subst IsCallWithin (sym of_call) within) (subst (λ (us : List ℕ). DoesCall us entry parts parts') same d) numbers
      (subst (λ (us : List ℕ). Appends (own_records parts us (call_of entry)) journal mid) same (subst (λ (c : ControlCall). Appends (own_records parts given c) journal mid) (sym of_call) told))
