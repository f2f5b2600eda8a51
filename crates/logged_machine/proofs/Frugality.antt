-- What a call writes, what pends behind it, and how far it raises what is counted on.
use Rattle.std.proofs.Common.{◌≡◌, ◌≤◌, ◌<◌, ◌+◌, ◌*◌, ℕ, Bool, true, false, List, [], ◌∷◌, length, refl, sym, ◌∙◌, ap, subst, arith, ⊎_elim, inl, inr}
use Rattle.std.specs.Prelude.{Option, Some, None}
use Rattle.tm_disk.specs.Disk.{DiskState, ComesFrom, Within, WritesAtMost, ChangesOnly}
use Rattle.model_system.specs.System.{System}
use Rattle.model_machine.specs.Machine.{LastingState}
use Rattle.model_machine.specs.History.{call_of}
use Rattle.model_machine.specs.declared.entry.Entry.{Entry}
use Rattle.model_machine.specs.declared.entry.ControlCall.{ControlCall}
use Rattle.model_machine.specs.declared.entry.ControlFault.{ControlFault}
use Rattle.model_machine.specs.declared.entry.ControlFault.TheVariants.{Memory, Disk, Spent}
use Rattle.log_records.specs.declared.untold.Untold.{Untold}
use Rattle.log_records.specs.declared.untold.Untold.TheVariants.{Full}
use Rattle.log_writer.specs.Writer.{Writer}
use Rattle.log_writer.specs.ForcedLog.{AddsFront, log_sectors_of}
use Rattle.disk_law.specs.JournalState.{JournalState}
use Rattle.lasting_state.specs.UntoldSteps.{WhereFull}
use Rattle.tm_machine.specs.Parts.{PartsState}
use Rattle.checkpointing.specs.Counts.{CountsUpTo}
use Rattle.checkpointing.proofs.Counted.{up_to_more}
use Rattle.openings.specs.Faults.{fault_in}
use Rattle.logged_machine.specs.LoggedParts.{IsLogged}
use Rattle.logged_machine.specs.LeftImages.{CrashesLeave}
use Rattle.logged_machine.specs.UntakenCheckpoint.{settled_parts}
use Rattle.logged_machine.specs.ToldCalls.{own_bytes}
use Rattle.logged_machine.specs.RecordsBehindLog.{IsAllBut, StayFree}
use Rattle.logged_machine.specs.LoggedState.{LoggedState}
use Rattle.logged_machine.specs.Attempts.{Done, DoneFrugally, GoesOnIn, WritesAsDue, LeavesCounts, PendsAsDue, Refreshed, Tried, Unrefreshed}
use Rattle.logged_machine.specs.CallOutcome.{PendsAnew, PendsBy}
use Rattle.logged_machine.specs.CheckpointDue.{AppendsAlone, AppendsBy, DoesNothing, NoCheckpointIsDue, Raises, WritesLog, has_lasting_step}
use Rattle.logged_machine.proofs.Checkpointed.{nothing, unrefreshed}
use Rattle.logged_machine.proofs.Doing.{did_behind, tried_did}
use Rattle.logged_machine.proofs.Settled.{same_bytes}
use Rattle.logged_machine.proofs.Leaving.{leaves_same, leaves_same_then}

-- ---- what a force writes

-- where the log gained a front, no other sectors have changed
only_there : (log : Writer) (old new : DiskState) → Within (AddsFront log) old new → Within (ChangesOnly (log.first + log.place) (log_sectors_of (length log.appended))) old new
only_there log old new within = record {
  later = within.later;
  from = λ time image early left.
      ⊎_elim (λ was. inl was)
      (λ (c : ComesFrom (AddsFront log) old image). inr (record { before = c.before; left = c.left; by = c.by.changes }))
      (within.from time image early left);
  keeps = within.keeps;
}

pub writes_log : (log : Writer) (old new : DiskState) → Within (AddsFront log) old new → WritesAtMost (log_sectors_of (length log.appended)) old new → WritesLog log old new
writes_log log old new within most = record { most = most; only = only_there log old new within }

-- ---- the log's area

-- the log's area is one of the system
pub area_is : (parts : PartsState) (units : List ℕ) (next : ℕ) (journal : JournalState) (text : List ℕ) (states : List LastingState) (disk : DiskState) → IsLogged parts units next journal text states disk → journal.log.count ≡ parts.system.logs
area_is parts units next journal text states disk h =
    sym (ap (λ (w : Writer). w.count) h.writer) ∙ h.carried.is.is_life.writer.count ∙ ap (λ (s : System). s.logs) h.carried.is.of_system

-- what is told of want of room
pub longer : (P : Type 0) (untold : Untold) → untold ≡ Full → WhereFull P untold → P
longer P untold is told = subst (λ (u : Untold). WhereFull P u) is told

-- ---- whether a checkpoint is due

-- None is, where the bytes are no more than the room.
none_due : (log : Writer) (own : List ℕ) (room : ℕ) → StayFree room log → length own ≤ room → NoCheckpointIsDue log own
none_due log [] room kept fits = inl refl
none_due log (byte ∷ own) room kept fits = inr (kept (length (byte ∷ own)) (omega arith) fits)

-- One is, where they are more.
one_due : (log : Writer) (own : List ℕ) (room : ℕ) → IsAllBut room log → room < length own → NoCheckpointIsDue log own → ⊥
one_due log own room all longer none =
    ⊎_elim (λ (empty : own ≡ []). over (length own) longer (let e : length own ≡ 0 = ap length empty in omega (arith, e))) (λ free. over (length own) longer (all (length own) free)) none
  where
    over : (n : ℕ) → room < n → n ≤ room → ⊥
    over n less more = omega (arith, less, more)

-- ---- one attempt, and a call

module _ {D : Type 0} (state : D → DiskState) where
  nothing_raised : (l : LoggedState D) → Raises (2 * l.machine.system.logs) l.journal l.journal l.next_unit l.next_unit
  nothing_raised l = record { epoch = refl; sequence = omega arith; checkpoint = omega arith; unit = omega arith }

  nothing_written : (l : LoggedState D) (own : List ℕ) → AppendsBy (Some Memory) own l.journal l.journal l.disk l.disk
  nothing_written l own = let d : DoesNothing l.journal l.journal l.disk l.disk = record { journal = refl; disk_is = refl } in d

  pub nothing_counted : (l : LoggedState D) (more : ℕ) → LeavesCounts state more l l
  nothing_counted l more high stands = leaves_same (CountsUpTo l.machine.system (high + more)) (state l.disk)

  counted_further : (old new : LoggedState D) (less more : ℕ) → less ≤ more → LeavesCounts state less old new → LeavesCounts state more old new
  counted_further old new less more le counts high stands =
      leaves_same_then (CountsUpTo old.machine.system (high + less)) (CountsUpTo old.machine.system (high + more)) (state old.disk) (state new.disk)
      (λ image c. up_to_more old.machine.system (high + less) (high + more) image (omega (arith, le)) c) (counts high stands)

  -- on the same disk
  counted_there : (old mid new : LoggedState D) (more : ℕ) → new.disk ≡ mid.disk → LeavesCounts state more old mid → LeavesCounts state more old new
  counted_there old mid new more same counts high stands = subst (λ (d : D). CrashesLeave (CountsUpTo old.machine.system (high + more)) (state old.disk) (state d)) (sym same) (counts high stands)

  nothing_due : (old new : LoggedState D) (entry : Entry) → new ≡ old → WritesAsDue state (Some Memory) old new entry
  nothing_due old new entry same = subst (λ (l : LoggedState D). DoesNothing old.journal l.journal old.disk l.disk) (sym same) (record { journal = refl; disk_is = refl })

  -- A call that left all as it was.
  pub done_nothing : (old new : LoggedState D) (entry : Entry) → new ≡ old → old.served ≡ true → DoneFrugally state (Some Memory) old new entry
  done_nothing old new entry same served =
      subst (λ (l : LoggedState D). DoneFrugally state (Some Memory) old l entry) (sym same)
      (record {
        did = nothing state old entry served;
        raises = λ up. nothing_raised old;
        frugal = record {
          spares = λ none. nothing_written old (own_bytes old.machine old.units (call_of entry));
          due = λ due. nothing_due old old entry refl;
        };
        pends = tt;
        counts = nothing_counted old (2 * old.machine.system.logs);
      })

  on_raises : (old new : LoggedState D) → GoesOnIn old new → Raises (2 * old.machine.system.logs) old.journal new.journal old.next_unit new.next_unit
  on_raises old new on = record {
    epoch = ap (λ r. r.epoch) on.restart;
    sequence = omega (arith, on.sequence);
    checkpoint = let same : new.journal.restart.checkpoint ≡ old.journal.restart.checkpoint = ap (λ r. r.checkpoint) on.restart in omega (arith, same);
    unit = on.unit;
  }

  once : (old new : LoggedState D) (entry : Entry) (room : ℕ) → StayFree room old.journal.log → length (own_bytes old.machine old.units (call_of entry)) ≤ room → Tried state old new entry → DoneFrugally state None old new entry
  once old new entry room kept fits t =
      let none = none_due old.journal.log (own_bytes old.machine old.units (call_of entry)) room kept fits in
      record {
        did = tried_did state old new entry t;
        raises = λ up. on_raises old new t.on;
        frugal = record { spares = λ none. t.appends; due = λ due. absurd (due none) };
        pends = record { spares = λ none. t.pends; due = λ due. absurd (due none) };
        counts = counted_there old old new (2 * old.machine.system.logs) t.appends.disk_is (nothing_counted old (2 * old.machine.system.logs));
      }

  -- An attempt whose records leave 32 sectors free, if there are any.
  pub done_once : (old new : LoggedState D) (entry : Entry) (room : ℕ) → StayFree room old.journal.log → length (own_bytes old.machine old.units (call_of entry)) ≤ room
      → Tried state old new entry → DoneFrugally state (fault_in entry) old new entry
  done_once old new entry room kept fits t = subst (λ (f : Option ControlFault). DoneFrugally state f old new entry) (sym t.no_fault) (once old new entry room kept fits t)

  pends_due : (fault : Option ControlFault) (old new : LoggedState D) (entry : Entry) → (NoCheckpointIsDue old.journal.log (own_bytes old.machine old.units (call_of entry)) → ⊥) → PendsAsDue state fault old new entry → PendsBy state fault (call_of entry) old new
  pends_due None old new entry due pends = record { spares = λ none. absurd (due none); due = λ due. pends }
  pends_due (Some fault) old new entry due pends = tt

  -- One whose records leave fewer went on behind a checkpoint.
  pub done_due : (fault : Option ControlFault) (old mid new : LoggedState D) (entry : Entry) (room : ℕ) → mid ≡ old → IsAllBut room old.journal.log → room < length (own_bytes old.machine old.units (call_of entry))
      → Done state fault mid new entry → DoneFrugally state fault old new entry
  done_due fault old mid new entry room same all longer done =
      let d : Done state fault old new entry = subst (λ (l : LoggedState D). Done state fault l new entry) same done in
      let due = one_due old.journal.log (own_bytes old.machine old.units (call_of entry)) room all longer in
      record {
        did = d.did;
        raises = d.raises;
        frugal = record { spares = λ none. absurd (due none); due = λ due. d.due };
        pends = pends_due fault old new entry due d.pends;
        counts = d.counts;
      }

  -- ---- behind a checkpoint

  -- What it appends behind the checkpoint goes by the machine before that.
  own_appends : (old mid new : LoggedState D) (entry : Entry) → Refreshed state old mid → AppendsAlone (own_bytes mid.machine mid.units (call_of entry)) mid.journal new.journal mid.disk new.disk
      → AppendsAlone (own_bytes old.machine old.units (call_of entry)) mid.journal new.journal mid.disk new.disk
  own_appends old mid new entry fresh appends =
      subst (λ (own : List ℕ). AppendsAlone own mid.journal new.journal mid.disk new.disk) (same_bytes old.machine old.units (call_of entry))
      (subst (λ (us : List ℕ). AppendsAlone (own_bytes (settled_parts old.machine) us (call_of entry)) mid.journal new.journal mid.disk new.disk) fresh.units
      (subst (λ (p : PartsState). AppendsAlone (own_bytes p mid.units (call_of entry)) mid.journal new.journal mid.disk new.disk) fresh.machine appends))

  -- the step is the same from there
  same_step : (old mid : LoggedState D) (call : ControlCall) → Refreshed state old mid → has_lasting_step mid.machine call ≡ has_lasting_step old.machine call
  same_step old mid call fresh = ap (λ (p : PartsState). has_lasting_step p call) fresh.machine

  pends_anew : (old mid new : LoggedState D) (entry : Entry) → Refreshed state old mid → Tried state mid new entry → PendsAnew state (has_lasting_step old.machine (call_of entry)) old new
  pends_anew old mid new entry fresh t =
      subst (λ (b : Bool). PendsAnew state b old new) (same_step old mid (call_of entry) fresh)
      (record { forced = t.pends.forced ∙ fresh.forced; pends = t.pends.pends (old.machine.moment.lasting ∷ []) fresh.pends })

  behind : (old mid new : LoggedState D) (entry : Entry) → Refreshed state old mid → Tried state mid new entry → Done state None old new entry
  behind old mid new entry fresh t = record {
    did = did_behind state old mid new entry fresh t;
    raises = λ up.
        let on : GoesOnIn mid new = t.on in
        let logs : mid.machine.system.logs ≡ old.machine.system.logs = ap (λ (s : System). s.logs) fresh.keeps.system in
        let number : new.journal.restart.checkpoint ≡ mid.journal.restart.checkpoint = ap (λ r. r.checkpoint) on.restart in
        record {
          epoch = ap (λ r. r.epoch) on.restart ∙ fresh.epoch;
          sequence = omega (arith, on.sequence, fresh.sequence, logs);
          checkpoint = omega (arith, number, fresh.number);
          unit = omega (arith, on.unit, fresh.unit);
        };
    due = record { middle = mid.journal; mid = mid.disk; takes = fresh.takes; most = fresh.most; appends = own_appends old mid new entry fresh t.appends };
    pends = pends_anew old mid new entry fresh t;
    counts = counted_there old mid new (2 * old.machine.system.logs) t.appends.disk_is (counted_further old mid old.machine.system.logs (2 * old.machine.system.logs) (omega arith) fresh.counts);
  }

  pub done_behind : (old mid new : LoggedState D) (entry : Entry) → Refreshed state old mid → Tried state mid new entry → Done state (fault_in entry) old new entry
  done_behind old mid new entry fresh t = subst (λ (f : Option ControlFault). Done state f old new entry) (sym t.no_fault) (behind old mid new entry fresh t)

  -- None was taken.
  pub done_untaken : (old new : LoggedState D) (entry : Entry) (fault : ControlFault) → old.served ≡ true → Unrefreshed state old new fault → Done state (Some fault) old new entry
  done_untaken old new entry Memory served same =
      let d : DoneFrugally state (Some Memory) old new entry = done_nothing old new entry same served in
      record { did = d.did; raises = d.raises; due = nothing_due old new entry same; pends = tt; counts = d.counts }
  done_untaken old new entry Disk served h = record {
    did = unrefreshed state old new entry Disk served h;
    raises = λ up. absurd (down up);
    due = h.most;
    pends = tt;
    counts = counted_further old new old.machine.system.logs (2 * old.machine.system.logs) (omega arith) h.counts;
  } where
    down : new.served ≡ true → ⊥
    down up = apart (sym h.broke.served ∙ up)
      where
        apart : false ≡ true → ⊥
        apart e = cc
  done_untaken old new entry (Spent counter) served h = absurd h

  -- ---- checkpoints as calls

  pub checked_pends : (old new : LoggedState D) → Refreshed state old new → PendsAnew state false old new
  checked_pends old new fresh = record { forced = fresh.forced; pends = fresh.pends }

  pub checked_raises : (old new : LoggedState D) → Refreshed state old new → Raises old.machine.system.logs old.journal new.journal old.next_unit new.next_unit
  checked_raises old new fresh = record {
    epoch = fresh.epoch;
    sequence = omega (arith, fresh.sequence);
    checkpoint = omega (arith, fresh.number);
    unit = omega (arith, fresh.unit);
  }

  pub unchecked_raises : (old new : LoggedState D) (fault : ControlFault) → Unrefreshed state old new fault → new.served ≡ true → Raises old.machine.system.logs old.journal new.journal old.next_unit new.next_unit
  unchecked_raises old new Memory same up = subst (λ (l : LoggedState D). Raises old.machine.system.logs old.journal l.journal old.next_unit l.next_unit) (sym same) (record { epoch = refl; sequence = omega arith; checkpoint = omega arith; unit = omega arith })
  unchecked_raises old new Disk h up = absurd (apart (sym h.broke.served ∙ up))
    where
      apart : false ≡ true → ⊥
      apart e = cc
  unchecked_raises old new (Spent counter) h up = absurd h

  pub checked_counts : (old new : LoggedState D) → Refreshed state old new → LeavesCounts state (2 * old.machine.system.logs) old new
  checked_counts old new fresh = counted_further old new old.machine.system.logs (2 * old.machine.system.logs) (omega arith) fresh.counts

  pub unchecked_counts : (old new : LoggedState D) (fault : ControlFault) → Unrefreshed state old new fault → LeavesCounts state (2 * old.machine.system.logs) old new
  unchecked_counts old new Memory same = subst (λ (l : LoggedState D). LeavesCounts state (2 * old.machine.system.logs) old l) (sym same) (nothing_counted old (2 * old.machine.system.logs))
  unchecked_counts old new Disk h = counted_further old new old.machine.system.logs (2 * old.machine.system.logs) (omega arith) h.counts
  unchecked_counts old new (Spent counter) h = absurd h
