-- What a machine with its log has while it is served.
use Rattle.std.proofs.Common.{◌≡◌, ◌≤◌, ◌<◌, ◌+◌, ◌^◌, ℕ, Bool, false, true, List, [], ◌∷◌, refl, sym, ap, subst, arith}
use Rattle.std.specs.Prelude.{length}
use Rattle.log_writer.specs.Writer.{Writer}
use Rattle.log_writer.specs.ForcedLog.{AddsAll, AddsFront, IsWriterReady}
use Rattle.restart_data.specs.declared.restart.RestartSector.{RestartSector}
use Rattle.restart_data.specs.Restart.{IsCounter}
use Rattle.tm_disk.specs.Disk.{DiskState, FailedSince, Follows, IsToldToStop, Stays, Within}
use Rattle.model_machine.specs.Machine.{LastingState}
use Rattle.checkpointing.specs.CheckpointParts.{forced_writer}
use Rattle.disk_law.specs.JournalState.{JournalState}
use Rattle.disk_law.specs.Life.{LifeOnDisk}
use Rattle.disk_law.specs.LifeSteps.{forced_life}
use Rattle.disk_law.specs.PendingMoves.{PendsBehind}
use Rattle.model_system.specs.Areas.{data_first}
use Rattle.tm_machine.specs.Parts.{PartsState}
use Rattle.logged_machine.specs.LoggedParts.{IsLogged, PendSome}
use Rattle.logged_machine.specs.LoggedState.{LoggedState, AreLasting}
use Rattle.logged_machine.specs.Attempts.{AttemptLeaves, Broke, LeavesCounts}
use Rattle.logged_machine.specs.CallOutcome.{HasForced, KeepsMachine, PendsStill}
use Rattle.logged_machine.proofs.Counts.{force_counts, forced_tell, standing_up_to}
use Rattle.logged_machine.proofs.Logging.{recover, have_text, numbered, force_leaves, forced}

-- what lasts is on each image
pub are_lasting : {D : Type 0} (state : D → DiskState) (l : LoggedState D) → PendSome l.machine l.units l.next_unit l.journal l.text l.forced (state l.disk) → AreLasting state l
are_lasting state l p = record {
  some = (p.states, record { logged = p.logged; forced = p.steps });
  recover = λ states q. recover l.machine l.units l.next_unit l.journal l.text states (state l.disk) q.logged;
  have_text = have_text l.machine l.units l.next_unit l.journal l.text p.states (state l.disk) p.logged;
  numbered = numbered l.machine l.units l.next_unit l.journal l.text p.states (state l.disk) p.logged;
  counts = standing_up_to l.machine l.units l.next_unit l.journal l.text p.states (state l.disk) p.logged;
}

-- a disk that was told when to stop is as before
pub kept_logged : (parts : PartsState) (units : List ℕ) (next : ℕ) (journal : JournalState) (text : List ℕ) (states : List LastingState) (old new : DiskState) → IsToldToStop old new → IsLogged parts units next journal text states old
    → IsLogged parts units next journal text states new
kept_logged parts units next journal text states old new told h = record {
  life = h.life;
  carried = h.carried;
  pends = record {
    forced = h.pends.forced;
    is_life = h.pends.is_life;
    nothing = h.pends.nothing;
    kept = λ image left. h.pends.kept image (told.no_more image left);
    since = h.pends.since;
    goes = h.pends.goes;
    are = h.pends.are;
  };
  writer = h.writer;
  now = h.now;
  text_is = h.text_is;
  areas = subst (λ (n : ℕ). data_first parts.system (length parts.system.databases) ≤ n) (sym told.same.size) h.areas;
  ready = λ image left. h.ready image (told.no_more image left);
  counted = h.counted;
  told = λ image left. h.told image (told.no_more image left);
}

pub kept_pending : (parts : PartsState) (units : List ℕ) (next : ℕ) (journal : JournalState) (text : List ℕ) (steps : ℕ) (old new : DiskState) → IsToldToStop old new → PendSome parts units next journal text steps old
    → PendSome parts units next journal text steps new
kept_pending parts units next journal text steps old new told p = record { states = p.states; logged = kept_logged parts units next journal text p.states old new told p.logged; steps = p.steps }

pub kept_still : {D : Type 0} (state : D → DiskState) (l : LoggedState D) (disk' : D) → IsToldToStop (state l.disk) (state disk') → PendsStill state false l (record l { disk = disk' })
kept_still state l disk' told = record {
  forced = refl;
  pends = λ states p. record { logged = kept_logged l.machine l.units l.next_unit l.journal l.text states (state l.disk) (state disk') told p.logged; forced = p.forced };
}

-- no sequence of the log passes its range
pub sequences : (parts : PartsState) (units : List ℕ) (next : ℕ) (journal : JournalState) (text : List ℕ) (states : List LastingState) (disk : DiskState) → IsLogged parts units next journal text states disk
    → journal.log.sequence + journal.log.count < 2 ^ 64
sequences parts units next journal text states disk h =
    let life = h.carried.is.is_life in
    subst (λ (w : Writer). w.sequence + w.count < 2 ^ 64) h.writer
    (below h.life.log.sequence h.life.log.count h.life.now.sequence h.life.system.logs life.writer.sequence life.writer.count life.in_range.sequence life.few)
  where
    below : (s c n l : ℕ) → s ≡ n → c ≡ l → IsCounter n → l < 2 ^ 32 → s + c < 2 ^ 64
    below s c n l a b low few = omega (arith, a, b, low.1, few)

-- ---- all that was appended is forced

module _ {D : Type 0} (state : D → DiskState) (parts : PartsState) (text : List ℕ) (journal journal' : JournalState) (units : List ℕ) (next steps : ℕ) (disk disk' : D) (up : Bool)
    (p : PendSome parts units next journal text steps (state disk)) (stays : Stays (state disk) (state disk')) (within : Within (AddsFront journal.log) (state disk) (state disk')) where
  abbrev was : LoggedState D
  was = record { machine = parts; text = text; served = up; forced = steps; journal = journal; units = units; next_unit = next; disk = disk }

  abbrev is : Bool → ℕ → LoggedState D
  is served now = record { machine = parts; text = text; served = served; forced = now; journal = journal'; units = units; next_unit = next; disk = disk' }

  -- whenever a crash comes in that
  pub forcing_leaves : (served : Bool) (now : ℕ) → AttemptLeaves state was (is served now)
  forcing_leaves served now states q = force_leaves parts units next journal text states (state disk) q.logged (state disk') within

  pub forcing_counts : (served : Bool) (now : ℕ) → LeavesCounts state parts.system.logs was (is served now)
  forcing_counts served now high stands = force_counts parts units next journal text p.states (state disk) p.logged high stands (state disk') within

  pub forcing_keeps : (served : Bool) (now : ℕ) → journal'.restart ≡ journal.restart → KeepsMachine state was (is served now)
  forcing_keeps served now restart = record {
    system = refl;
    text = refl;
    disk = stays;
    later = within.later;
    numbers = λ on. subst (λ (n : ℕ). journal.restart.checkpoint ≤ n) (ap (λ (r : RestartSector). r.checkpoint) (sym restart)) (omega arith);
  }

  -- the disk failed in that
  pub forcing_broke : FailedSince (state disk) (state disk') → Broke state was (is false steps)
  forcing_broke cause = record { served = refl; failed = cause; forced = refl }

  -- it is done
  module _ (kept : (states : List LastingState) (life : LifeOnDisk) → life.log ≡ journal.log → PendsBehind states life (state disk) → PendsBehind (life.lasting ∷ []) (forced_life life) (state disk'))
      (log : journal'.log ≡ forced_writer journal.log) (restart : journal'.restart ≡ journal.restart) (ready : IsWriterReady journal'.log (state disk')) (follows : Follows (AddsAll journal.log) (state disk) (state disk'))
      (now : ℕ) (all : now ≡ parts.moment.lasting.steps) where
    all_logged : IsLogged parts units next journal' text (parts.moment.lasting ∷ []) (state disk')
    all_logged =
        forced parts units next journal text p.states (state disk) p.logged journal' (state disk') (kept p.states p.logged.life p.logged.writer p.logged.pends) log restart ready stays.size
        (forced_tell parts units next journal text p.states (state disk) p.logged journal' log restart (state disk') follows)

    pub all_pending : PendSome parts units next journal' text now (state disk')
    all_pending = record { states = parts.moment.lasting ∷ []; logged = all_logged; steps = all }

    pub has_forced : up ≡ true → (state disk').faults ≡ (state disk).faults → HasForced state was (is up now)
    has_forced served no_fault = record {
      machine = refl;
      units = refl;
      next_unit = refl;
      served = served;
      log = log;
      restart = restart;
      forced = all;
      pends = record { logged = all_logged; forced = all };
      no_fault = no_fault;
    }
