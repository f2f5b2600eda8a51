-- A checkpoint of a machine with its log.
use Rattle.std.proofs.Common.{◌≡◌, ◌+◌, ℕ, Bool, true, false, List, [], ◌∷◌, length, inl, inr, ⊎_elim, refl, sym, ◌∙◌, ap, subst, arith}
use Rattle.std.specs.Prelude.{None, Some}
use Rattle.tm_machine.specs.Answers.{IsAnswered}
use Rattle.tm_disk.specs.Disk.{DiskState, Stays, Within, WritesAtMost, ComesFrom, FailedSince, Only}
use Rattle.tm_disk.proofs.Words.{stays_same}
use Rattle.model_machine.specs.declared.entry.Entry.{Entry}
use Rattle.model_machine.specs.declared.entry.ControlFault.{ControlFault}
use Rattle.model_machine.specs.declared.entry.ControlFault.TheVariants.{Memory, Disk, Spent}
use Rattle.checkpointing.specs.DefinitionText.{KeepsText}
use Rattle.checkpointing.specs.Counts.{CountsUpTo}
use Rattle.disk_law.specs.PendingMoves.{KeepsBehindForce}
use Rattle.disk_law.specs.UnitCounts.{StandsUpTo}
use Rattle.restart_data.specs.declared.restart.RestartSector.{RestartSector}
use Rattle.log_writer.specs.Writer.{Writer}
use Rattle.log_writer.specs.ForcedLog.{log_sectors_of}
use Rattle.disk_law.specs.JournalState.{JournalState}
use Rattle.tm_machine.specs.Parts.{PartsState}
use Rattle.journal.specs.CountRanges.{AreCountsInRange}
use Rattle.logged_machine.specs.LoggedParts.{IsLogged, PendSome}
use Rattle.logged_machine.specs.UntakenCheckpoint.{SameAll, TakesNext, Untaken, checkpoint_sectors, settled_parts}
use Rattle.logged_machine.specs.LoggedState.{LoggedState}
use Rattle.logged_machine.specs.ToldCalls.{NumbersBy}
use Rattle.logged_machine.specs.CallOutcome.{ActsOn}
use Rattle.logged_machine.specs.LeftImages.{Brings}
use Rattle.logged_machine.specs.Attempts.{AttemptLeaves, Did, FailsIn, LeavesCounts, Refreshed, Unrefreshed, is_memory}
use Rattle.logged_machine.proofs.Leaving.{leaves_same, leaves_within}
use Rattle.logged_machine.proofs.Logging.{recovers_behind, have_text, numbered}

module _ {D : Type 0} (state : D → DiskState) (parts parts' : PartsState) (text : List ℕ) (journal journal' : JournalState) (units : List ℕ) (next : ℕ) (disk disk' : D) (up : Bool) (forced : ℕ)
    (system : parts'.system ≡ parts.system) (moment : parts'.moment ≡ parts.moment) (stays : Stays (state disk) (state disk'))
    (any : Within (KeepsBehindForce parts.system journal.log) (state disk) (state disk')) (texts : Within (KeepsText parts.system) (state disk) (state disk'))
    (counts : (high : ℕ) → StandsUpTo high journal next → Within (λ before after. CountsUpTo parts.system (high + parts.system.logs) after) (state disk) (state disk'))
    (most : WritesAtMost (checkpoint_sectors parts.system parts.databases.stores parts.databases.changed journal) (state disk) (state disk')) where
  abbrev pub was : LoggedState D
  was = record { machine = parts; text = text; served = up; forced = forced; journal = journal; units = units; next_unit = next; disk = disk }

  abbrev pub is : Bool → ℕ → LoggedState D
  is served steps = record { machine = parts'; text = text; served = served; forced = steps; journal = journal'; units = units; next_unit = next; disk = disk' }

  leaves : (served : Bool) (steps : ℕ) → AttemptLeaves state was (is served steps)
  leaves served steps states p = record {
    later = any.later;
    from = λ time image early left.
        ⊎_elim (λ was_left. inl was_left)
        (λ (c : ComesFrom (KeepsBehindForce parts.system journal.log) (state disk) image).
        ⊎_elim (λ was_left. inl was_left)
        (λ (d : ComesFrom (KeepsText parts.system) (state disk) image).
        inr (record {
          recovers = recovers_behind parts units next journal text states (state disk) p.logged c.before image c.left c.by;
          has_text = d.by.text text (have_text parts units next journal text states (state disk) p.logged d.before d.left);
          numbered = d.by.number journal.restart.checkpoint (numbered parts units next journal text states (state disk) p.logged d.before d.left);
        }))
        (texts.from time image early left))
        (any.from time image early left);
  }

  counted_by : (served : Bool) (steps : ℕ) → LeavesCounts state parts.system.logs was (is served steps)
  counted_by served steps high stands =
      leaves_within (λ before after. CountsUpTo parts.system (high + parts.system.logs) after) (CountsUpTo parts.system (high + parts.system.logs)) (state disk) (state disk') (λ before after left c. c) (counts high stands)

  pub refreshed : (steps : ℕ) → up ≡ true → parts' ≡ settled_parts parts → TakesNext parts.system journal journal' → Only (state disk').shown (state disk') → (state disk').faults ≡ (state disk).faults
      → steps ≡ parts.moment.lasting.steps → IsLogged parts' units next journal' text (parts.moment.lasting ∷ []) (state disk') → Refreshed state was (is up steps)
  refreshed steps served settled takes synced no_fault all logged =
      let number : journal'.restart.checkpoint ≡ journal.restart.checkpoint + 1 = ap (λ (r : RestartSector). r.checkpoint) takes.restart in
      record {
        stood = record { moment = moment; served = served; no_fault = no_fault };
        machine = settled;
        units = refl;
        takes = takes;
        most = most;
        leaves = leaves up steps;
        keeps = record { system = system; text = refl; disk = stays; later = any.later; numbers = λ now. omega (arith, number) };
        number = number;
        synced = synced;
        place = ap (λ (w : Writer). w.place) takes.log;
        epoch = ap (λ (r : RestartSector). r.epoch) takes.restart;
        sequence = omega (arith, ap (λ (w : Writer). w.sequence + w.place + log_sectors_of (length w.appended)) takes.log);
        unit = refl;
        forced = all;
        pends = record { logged = logged; forced = all };
        counts = counted_by up steps;
      }

  pub broke : FailedSince (state disk) (state disk') → FailsIn state was (is false forced)
  broke cause = record {
    broke = record { served = refl; failed = cause; forced = refl };
    leaves = leaves false forced;
    keeps = record { system = system; text = refl; disk = stays; later = any.later; numbers = λ now. absurd (apart now) };
    counts = counted_by false forced;
    most = most;
  } where
    apart : false ≡ true → ⊥
    apart e = cc

-- nothing was done
pub nothing : {D : Type 0} (state : D → DiskState) (l : LoggedState D) (entry : Entry) → l.served ≡ true → Did state (Some Memory) l l entry
nothing state l entry served = record {
  did = refl;
  keeps = record {
    system = refl;
    text = refl;
    disk = stays_same (state l.disk);
    later = omega arith;
    numbers = λ now. omega arith;
  };
}

-- a call was answered by an entry that leaves the machine as it was
pub answered_still : {D : Type 0} (state : D → DiskState) (l : LoggedState D) (entry : Entry) → NumbersBy entry l.units l.units l.next_unit l.next_unit → ActsOn l.units entry l.machine l.machine → IsAnswered l.machine l.machine entry → l.served ≡ true
    → Did state None l l entry
answered_still state l entry numbers acts answered served = record {
  did = (
    record { answered = answered; numbers = numbers; acts = acts; served = served; no_fault = refl },
    λ states p. leaves_same (Brings l.machine.system l.text l.journal.restart.checkpoint states) (state l.disk),
  );
  keeps = (nothing state l entry served).keeps;
}

-- what left all as it was did nothing
pub nothing_done : {D : Type 0} (state : D → DiskState) (old new : LoggedState D) (entry : Entry) → new ≡ old → old.served ≡ true → Did state (Some Memory) old new entry
nothing_done state old new entry same served = subst (λ (l : LoggedState _). Did state (Some Memory) old l entry) (sym same) (nothing state old entry served)

pub served_same : {D : Type 0} (old mid : LoggedState D) → mid ≡ old → old.served ≡ true → mid.served ≡ true
served_same old mid same served = ap (λ (l : LoggedState _). l.served) same ∙ served

pub counted_same : {D : Type 0} (more : ℕ) (old mid : LoggedState D) → mid ≡ old → AreCountsInRange more old.machine.moment.lasting old.next_unit old.journal → AreCountsInRange more mid.machine.moment.lasting mid.next_unit mid.journal
counted_same more old mid same counted = subst (λ (l : LoggedState _). AreCountsInRange more l.machine.moment.lasting l.next_unit l.journal) (sym same) counted

-- no checkpoint was taken
pub unrefreshed : {D : Type 0} (state : D → DiskState) (old new : LoggedState D) (entry : Entry) (fault : ControlFault) → old.served ≡ true → Unrefreshed state old new fault → Did state (Some fault) old new entry
unrefreshed state old new entry Memory served same = nothing_done state old new entry same served
unrefreshed state old new entry Disk served h = record { did = (h.broke, h.leaves); keeps = h.keeps }
unrefreshed state old new entry (Spent counter) served h = absurd h

-- ---- where there was no memory for one

module _ {D : Type 0} (state : D → DiskState) (parts parts' : PartsState) (text : List ℕ) (journal journal' : JournalState) (units : List ℕ) (next : ℕ) (disk disk' : D) (forced : ℕ) (same : SameAll parts parts' journal journal' disk disk') where
  pub same_pending : PendSome parts units next journal text forced (state disk) → PendSome parts' units next journal' text forced (state disk')
  same_pending p =
      subst (λ (q : PartsState). PendSome q units next journal' text forced (state disk')) (sym same.parts_are)
      (subst (λ (j : JournalState). PendSome parts units next j text forced (state disk')) (sym same.journal_is)
      (subst (λ (d : D). PendSome parts units next journal text forced (state d)) (sym same.disk_is) p))

  abbrev pub logged_of : Bool → PartsState → JournalState → D → LoggedState D
  logged_of up p j d = record { machine = p; text = text; served = up; forced = forced; journal = j; units = units; next_unit = next; disk = d }

  pub same_all : (up : Bool) → logged_of up parts' journal' disk' ≡ logged_of up parts journal disk
  same_all up =
      ap (λ (p : PartsState). logged_of up p journal' disk') same.parts_are
      ∙ ap (λ (j : JournalState). logged_of up parts j disk') same.journal_is
      ∙ ap (λ (d : D). logged_of up parts journal d) same.disk_is

-- ---- what a refusal leaves

module _ {D : Type 0} (state : D → DiskState) (parts parts' : PartsState) (text : List ℕ) (journal journal' : JournalState) (units : List ℕ) (next : ℕ) (disk disk' : D) (up : Bool) (forced : ℕ)
    (system : parts'.system ≡ parts.system) (stays : Stays (state disk) (state disk'))
    (any : Within (KeepsBehindForce parts.system journal.log) (state disk) (state disk')) (texts : Within (KeepsText parts.system) (state disk) (state disk'))
    (counts : (high : ℕ) → StandsUpTo high journal next → Within (λ before after. CountsUpTo parts.system (high + parts.system.logs) after) (state disk) (state disk'))
    (most : WritesAtMost (checkpoint_sectors parts.system parts.databases.stores parts.databases.changed journal) (state disk) (state disk')) where
  abbrev pub before : LoggedState D
  before = record { machine = parts; text = text; served = up; forced = forced; journal = journal; units = units; next_unit = next; disk = disk }

  abbrev pub behind : Bool → LoggedState D
  behind b = record { machine = parts'; text = text; served = b; forced = forced; journal = journal'; units = units; next_unit = next; disk = disk' }

  pub unrefreshed_by : (fault : ControlFault) → Untaken state parts parts' journal journal' disk disk' fault → up ≡ true → Unrefreshed state before (behind (is_memory fault)) fault
  unrefreshed_by Memory same served =
      same_all state parts parts' text journal journal' units next disk disk' forced same true ∙ ap (λ (b : Bool). record before { served = b }) (sym served)
  unrefreshed_by Disk cause served =
      let b = broke state parts parts text journal journal' units next disk disk' up forced refl refl stays any texts counts most cause in
      record {
        broke = record { served = refl; failed = cause; forced = refl };
        leaves = b.leaves;
        keeps = record { system = system; text = refl; disk = stays; later = any.later; numbers = λ now. absurd (apart now) };
        counts = b.counts;
        most = most;
      }
    where
      apart : false ≡ true → ⊥
      apart e = cc
  unrefreshed_by (Spent counter) none served = absurd none

  pub pending_by : (fault : ControlFault) → Untaken state parts parts' journal journal' disk disk' fault → is_memory fault ≡ true → PendSome parts units next journal text forced (state disk) → PendSome parts' units next journal' text forced (state disk')
  pending_by Memory same e p = same_pending state parts parts' text journal journal' units next disk disk' forced same p
  pending_by Disk cause e p = absurd (apart e)
    where
      apart : false ≡ true → ⊥
      apart e = cc
  pending_by (Spent counter) none e p = absurd none
