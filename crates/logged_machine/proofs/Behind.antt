-- A checkpoint with the records of a call behind it, by what was written.
use Rattle.std.proofs.Common.{◌≡◌, ℕ, ◌+◌, ◌≤◌, List, ◌++◌, length, refl, sym, ◌∙◌, ap, subst, arith}
use Rattle.std.specs.List.{flat_map}
use Rattle.tm_disk.specs.Disk.{DiskState, Within, WritesAtMost}
use Rattle.model_system.specs.System.{System}
use Rattle.log_records.specs.declared.record.Record.{Record}
use Rattle.log_records.specs.RecordSpelling.{record_spelling}
use Rattle.log_writer.specs.Writer.{Writer}
use Rattle.log_writer.specs.ForcedLog.{log_sectors_of}
use Rattle.seg_store.specs.ChangedSlots.{AllStores}
use Rattle.checkpointing.specs.CheckpointParts.{next_restart, next_writer}
use Rattle.disk_law.specs.JournalState.{JournalState}
use Rattle.journal.specs.CheckpointFor.{CanCheckpoint, TakesBehindForce, parts_for}
use Rattle.journal.specs.JournalDisk.{holding}
use Rattle.program_rows.specs.SlotsState.{slots_stores}
use Rattle.program_rows.specs.DatabasesState.{with_all_settled}
use Rattle.tm_machine.specs.Answers.{IsAnswered}
use Rattle.tm_machine.specs.SlotChanges.{HasSlots, slots_now}
use Rattle.tm_machine.specs.Parts.{PartsState}
use Rattle.journal.specs.CountRanges.{AreCountsInRange}
use Rattle.model_machine.specs.declared.entry.Entry.{Entry}
use Rattle.logged_machine.specs.LoggedParts.{HasLogged}
use Rattle.logged_machine.proofs.Storing.{have_written}
use Rattle.logged_machine.specs.UntakenCheckpoint.{IsSnapshot, checkpoint_sectors, settled_parts}
use Rattle.logged_machine.proofs.Taken.{can, goes_on, raised, within_up_to}
use Rattle.logged_machine.specs.RecordsBehindLog.{Appends}
use Rattle.logged_machine.specs.ToldCheckpoint.{HasBehindDue, Checkpointed, CountsWithin, IsEmptyLog, WroteTold}

-- ---- parts where no slot counts as changed

pub has_settled : (parts : PartsState) → HasSlots parts → HasSlots (settled_parts parts)
has_settled parts has = record {
  have = have_written parts.system.databases (length parts.system.regions) (slots_now parts) has.have;
  held = has.held;
  compatible = has.compatible;
  table_is = has.table_is;
  rows_are = has.rows_are;
  defined = has.defined;
  pads = has.pads;
}

-- the call was answered so, whichever slots counted as changed
pub answered_settled : (parts made parts' : PartsState) (entry : Entry) → parts' ≡ settled_parts made → IsAnswered parts made entry → IsAnswered (settled_parts parts) parts' entry
answered_settled parts made parts' entry is a =
    subst (λ (p : PartsState). IsAnswered (settled_parts parts) p entry) (sym is) (record { may = a.may; after = a.after; system = a.system })

pub databases_settled : (parts made parts' : PartsState) → parts' ≡ settled_parts made → made.databases ≡ parts.databases → parts'.databases ≡ with_all_settled parts.databases
databases_settled parts made parts' is same = ap (λ (p : PartsState). p.databases) is ∙ ap with_all_settled same

-- ---- the records that were told in a log of its own

module _ (begun told : JournalState) (records : List Record) (count : ℕ) (empty : IsEmptyLog count begun.log) (a : Appends records begun told) where
  pub told_place : told.log.place ≡ 0
  told_place = ap (λ (w : Writer). w.place) a.log ∙ empty.place_is

  pub told_bytes : told.log.appended ≡ flat_map record_spelling records
  told_bytes = ap (λ (w : Writer). w.appended) a.log ∙ ap (λ (l : List ℕ). l ++ flat_map record_spelling records) empty.appended_is

  pub told_room : 0 + log_sectors_of (length (flat_map record_spelling records)) ≤ count
  told_room =
      subst (λ (n : ℕ). 0 + log_sectors_of (length (flat_map record_spelling records)) ≤ n) empty.count_is
      (subst (λ (l : List ℕ). 0 + log_sectors_of (length (l ++ flat_map record_spelling records)) ≤ begun.log.count) empty.appended_is
      (subst (λ (n : ℕ). n + log_sectors_of (length (begun.log.appended ++ flat_map record_spelling records)) ≤ begun.log.count) empty.place_is a.fits))

  pub told_fits : log_sectors_of (length told.log.appended) ≤ count
  told_fits = subst (λ (l : List ℕ). log_sectors_of (length l) ≤ count) (sym told_bytes) (omega (arith, told_room))

-- ---- the checkpoint

-- so much is written with the system and the stores that the parts had
pub written : (parts : PartsState) (journal : JournalState) (old new : DiskState) {system : System} → system ≡ parts.system → {stores : AllStores} → stores ≡ slots_stores (slots_now parts)
    → WritesAtMost (checkpoint_sectors system stores.stores stores.changed journal) old new → WritesAtMost (checkpoint_sectors parts.system parts.databases.stores parts.databases.changed journal) old new
written parts journal old new {system = system} same {stores = stores} are writes =
    subst (λ (a : AllStores). WritesAtMost (checkpoint_sectors parts.system a.stores a.changed journal) old new) are
    (subst (λ (y : System). WritesAtMost (checkpoint_sectors y stores.stores stores.changed journal) old new) same writes)

-- With the system and the stores that the parts had, and the bytes of their snapshot.
module _ {D : Type 0} (state : D → DiskState) {parts : PartsState} {units : List ℕ} {next : ℕ} {journal : JournalState} {disk : D} (logged : HasLogged parts units next journal (state disk))
    (has : HasSlots parts) (counted : AreCountsInRange 0 parts.moment.lasting next journal) {bytes : List ℕ} (s : IsSnapshot parts units next (journal.restart.checkpoint + 1) bytes)
    {lent : List ℕ} (lent_is : lent ≡ bytes) {system : System} (same : system ≡ parts.system) {stores : AllStores} (are : stores ≡ slots_stores (slots_now parts)) where
  -- it may be taken
  pub may : CanCheckpoint system journal stores lent (state disk)
  may =
      subst (λ (b : List ℕ). CanCheckpoint system journal stores b (state disk)) (sym lent_is)
      (subst (λ (a : AllStores). CanCheckpoint system journal a bytes (state disk)) (sym are)
      (subst (λ (y : System). CanCheckpoint y journal (slots_stores (slots_now parts)) bytes (state disk)) (sym same)
      (can parts units next journal logged.text logged.states (state disk) logged.is has counted bytes s)))

  some_logs : 1 ≤ parts.system.logs
  some_logs = omega (arith, has.defined.least_logs)

  -- whenever a crash comes in it, the image counts up to this
  pub counts : {disk' : D} → Within (TakesBehindForce (parts_for system journal.restart lent) journal.log stores) (state disk) (state disk') → CountsWithin parts.system journal next (state disk) (state disk')
  counts {disk' = disk'} within =
      within_up_to parts units next journal logged.text logged.states (state disk) logged.is has counted bytes s some_logs (state disk')
      (subst (λ (a : AllStores). Within (TakesBehindForce (parts_for parts.system journal.restart bytes) journal.log a) (state disk) (state disk')) are
      (subst (λ (y : System). Within (TakesBehindForce (parts_for y journal.restart bytes) journal.log stores) (state disk) (state disk')) same
      (subst (λ (b : List ℕ). Within (TakesBehindForce (parts_for system journal.restart b) journal.log stores) (state disk) (state disk')) lent_is within)))

  -- the journal behind it
  abbrev middle : JournalState
  middle = record {
    log = next_writer (parts_for parts.system journal.restart bytes) journal.log;
    restart = next_restart (parts_for parts.system journal.restart bytes) journal.log;
  }

  module _ {journal' : JournalState} {disk' : D} (size : (state disk').size ≡ (state disk).size) where
    checkpointed : (told : List ℕ) → WroteTold parts.system (slots_stores (slots_now parts)) bytes told journal journal' (state disk) (state disk') → Checkpointed state parts units next journal middle disk disk'
    checkpointed told w = record {
      takes = record { bytes = bytes; restart = refl; log = refl };
      raised = raised parts units next journal logged.text logged.states (state disk) logged.is has counted bytes s some_logs middle refl refl;
      logged = λ text states h.
          goes_on parts units next journal text states (state disk) h has counted bytes s parts.system refl (slots_stores (slots_now parts)) refl (settled_parts parts) refl middle refl refl (state disk') w.kept
          w.ready size w.follows;
      synced = w.synced;
      no_fault = w.no_fault;
    }

    own : {begun told : JournalState} {records : List Record} → IsEmptyLog parts.system.logs begun.log → Appends records begun told
        → WroteTold parts.system (slots_stores (slots_now parts)) bytes told.log.appended journal journal' (state disk) (state disk') → HasBehindDue state parts units next records journal journal' disk disk'
    own {begun = begun} {told = told} {records = records} empty a w = record {
      middle = middle;
      checkpointed = checkpointed told.log.appended w;
      appends = record {
        log = w.log ∙ ap (λ (l : List ℕ). holding l middle.log) (told_bytes begun told records parts.system.logs empty a);
        restart = w.restart;
        valid = a.valid;
        bytes = a.bytes;
        fits = told_room begun told records parts.system.logs empty a;
      };
    }

    -- and these records are appended behind it
    pub behind : {begun told : JournalState} {records : List Record} → IsEmptyLog parts.system.logs begun.log → Appends records begun told
        → WroteTold system stores lent told.log.appended journal journal' (state disk) (state disk') → HasBehindDue state parts units next records journal journal' disk disk'
    behind {told = told} empty a w =
        own empty a
        (subst (λ (l : AllStores). WroteTold parts.system l bytes told.log.appended journal journal' (state disk) (state disk')) are
        (subst (λ (y : System). WroteTold y stores bytes told.log.appended journal journal' (state disk) (state disk')) same
        (subst (λ (b : List ℕ). WroteTold system stores b told.log.appended journal journal' (state disk) (state disk')) lent_is w)))
