-- A checkpoint of a machine with its log: it may be taken, and the machine goes on with the life behind it.
use Rattle.std.proofs.Common.{◌≡◌, ℕ, ◌+◌, ◌-◌, ◌<◌, ◌≤◌, Bool, nat_lt, not, ◌&&◌, List, [], ◌∷◌, length, inl, inr, refl, sym, ◌∙◌, ap, subst, arith, lt-ltb}
use Rattle.std.proofs.lemmas.Bool.{ne_eqb}
use Rattle.tm_disk.specs.Disk.{Image, DiskState, Follows, Within, WritesAtMost}
use Rattle.tm_disk.proofs.Words.{within_where}
use Rattle.model_system.specs.Areas.{data_first, snapshot_area}
use Rattle.model_system.specs.System.{System}
use Rattle.model_machine.specs.Machine.{LastingState}
use Rattle.log_records.specs.declared.record.Record.{Record}
use Rattle.log_writer.specs.ForcedLog.{AddsAll, IsWriterReady, log_sectors_of}
use Rattle.log_writer.specs.Writer.{Writer}
use Rattle.restart_data.specs.declared.restart.RestartSector.{RestartSector}
use Rattle.restart_data.specs.Snapshot as snapshot
use Rattle.seg_store.specs.ChangedSlots.{AllStores}
use Rattle.seg_store.specs.WrittenSlots.{changed_sectors}
use Rattle.disk_law.specs.CommittedBytes.{Touches}
use Rattle.checkpointing.specs.CheckpointParts.{CheckpointParts, forced_writer, next_restart, next_writer}
use Rattle.checkpointing.specs.Checkpoint.{IsCheckpointed}
use Rattle.checkpointing.specs.Counts.{CountsUpTo}
use Rattle.checkpointing.specs.CheckpointSteps.{Takes}
use Rattle.checkpointing.specs.SnapshotRecords.{snapshot_records}
use Rattle.checkpointing.specs.SpelledRecords.{AddsSpelled}
use Rattle.checkpointing.specs.Touches.{changes_of_units}
use Rattle.checkpointing.proofs.Judged.{AreCounts}
use Rattle.disk_law.specs.KeptImages.{IsImageKept}
use Rattle.disk_law.specs.Life.{LifeOnDisk}
use Rattle.disk_law.specs.LifeCheckpoint.{after_checkpoint, parts_with}
use Rattle.disk_law.specs.LifeSteps.{forced_life}
use Rattle.disk_law.specs.PendingMoves.{PendsBehind}
use Rattle.disk_law.specs.UnitCounts.{StandsUpTo, TellsUnits, TellUnits}
use Rattle.disk_law.proofs.Counting.{checkpoint_tells, forced_tells, takes_up_to}
use Rattle.disk_law.proofs.OnDisk.{pending_all}
use Rattle.journal.specs.CheckpointFor.{CanCheckpoint, AreCheckpointPartsOf, IsCheckpointedBehindForce, TakesBehindForce, TakesForced, parts_for}
use Rattle.disk_law.specs.JournalState.{JournalState}
use Rattle.program_rows.specs.SlotsState.{slots_stores}
use Rattle.program_rows.specs.DatabasesState.{with_all_settled}
use Rattle.tm_machine.specs.SlotChanges.{HasSlots, slots_now}
use Rattle.tm_machine.specs.Parts.{PartsState}
use Rattle.journal.proofs.Checkpoints as checkpoints
use Rattle.logged_machine.proofs.Counts.{force_up_to, of_life, own_epoch, own_sequence}
use Rattle.logged_machine.proofs.Holding.{hold_touched}
use Rattle.logged_machine.proofs.Storing as storing
use Rattle.journal.specs.CountRanges.{AreCountsInRange}
use Rattle.logged_machine.specs.LoggedParts.{IsLogged}
use Rattle.logged_machine.specs.UntakenCheckpoint.{IsSnapshot, checkpoint_sectors}

module _ (parts : PartsState) (units : List ℕ) (next : ℕ) (journal : JournalState) (text : List ℕ) (states : List LastingState) (disk : DiskState) (h : IsLogged parts units next journal text states disk) (has : HasSlots parts)
    (c : AreCountsInRange 0 parts.moment.lasting next journal) (bytes : List ℕ) (s : IsSnapshot parts units next (journal.restart.checkpoint + 1) bytes) where
  same_checkpoint : h.life.now.checkpoint ≡ journal.restart.checkpoint
  same_checkpoint = ap (λ (r : RestartSector). r.checkpoint) h.now

  same_sequence : h.life.log.sequence + h.life.log.place ≡ journal.log.sequence + journal.log.place
  same_sequence = ap (λ (w : Writer). w.sequence + w.place) h.writer

  counts : AreCounts (h.life.now.checkpoint + 1) next
  counts = record {
    checkpoint_small = lt-ltb (h.life.now.checkpoint + 1) 2000000000000000000 (omega (arith, same_checkpoint, c.checkpoint));
    unit_next =
        ap (λ (b : Bool). not b && nat_lt next 2000000000000000000) (ne_eqb next 0 (λ e. omega (arith, e, h.carried.is.numbers.some)))
        ∙ lt-ltb next 2000000000000000000 (omega (arith, c.unit));
  }

  sequence : h.life.log.sequence + h.life.log.place + log_sectors_of (length h.life.log.appended) < 2000000000000000000
  sequence = omega (arith, same_sequence, c.sequence, h.carried.is.is_life.appended.fits, h.carried.is.is_life.writer.count, h.carried.is.is_life.few)

  adds : AddsSpelled (snapshot_records (h.life.now.checkpoint + 1) next parts.moment.lasting (changes_of_units (slots_now parts).stores s.opens)) [] bytes
  adds =
      subst (λ (n : ℕ). AddsSpelled (snapshot_records (n + 1) next parts.moment.lasting (changes_of_units (slots_now parts).stores s.opens)) [] bytes) (sym same_checkpoint) s.adds

  -- what the units keep
  abbrev touches : Touches
  touches =
      checkpoints.kept_now parts.system has.defined (length parts.system.regions) parts.moment (slots_now parts) units next h.life h.carried has.have (hold_touched parts has) s.opens s.are

  abbrev told : List Record
  told = snapshot_records (h.life.now.checkpoint + 1) next parts.moment.lasting (changes_of_units (slots_now parts).stores s.opens)

  its : AreCheckpointPartsOf parts.system journal (slots_stores (slots_now parts)) bytes touches told states disk h.life
  its = record {
    of_system = h.carried.is.of_system;
    writer = h.writer;
    now = h.now;
    is_life = h.carried.is.is_life;
    may = storing.may_store parts units next h.life h.carried has s.opens s.are s.few counts bytes adds sequence;
    pends = h.pends;
  }

  -- It may be taken.
  pub can : CanCheckpoint parts.system journal (slots_stores (slots_now parts)) bytes disk
  can = record {
    life = h.life;
    touches = touches;
    told = told;
    states = states;
    is = its;
    areas = h.areas;
    ready = h.ready;
    some = omega (arith, its.may.next.sectors);
  }

  own_writer : next_writer (parts_with bytes h.life) h.life.log ≡ next_writer (parts_for parts.system journal.restart bytes) journal.log
  own_writer =
      ap (λ (w : Writer). next_writer (parts_with bytes h.life) w) h.writer
      ∙ ap (λ (y : System). next_writer (parts_for y h.life.now bytes) journal.log) h.carried.is.of_system
      ∙ ap (λ (r : RestartSector). next_writer (parts_for parts.system r bytes) journal.log) h.now

  own_restart : next_restart (parts_with bytes h.life) h.life.log ≡ next_restart (parts_for parts.system journal.restart bytes) journal.log
  own_restart =
      ap (λ (w : Writer). next_restart (parts_with bytes h.life) w) h.writer
      ∙ ap (λ (y : System). next_restart (parts_for y h.life.now bytes) journal.log) h.carried.is.of_system
      ∙ ap (λ (r : RestartSector). next_restart (parts_for parts.system r bytes) journal.log) h.now

  own_parts : parts_with bytes h.life ≡ parts_for parts.system journal.restart bytes
  own_parts = ap (λ (y : System). parts_for y h.life.now bytes) h.carried.is.of_system ∙ ap (λ (r : RestartSector). parts_for parts.system r bytes) h.now

  -- Once all is forced, the image is one of the life behind that, and tells the same units.
  all_own : (before middle : Image) → AddsAll journal.log before middle → AddsAll h.life.log before middle
  all_own before middle all = subst (λ (w : Writer). AddsAll w before middle) (sym h.writer) all

  forced_kept : (before middle : Image) → disk.may_leave before → AddsAll journal.log before middle → IsImageKept (forced_life h.life) middle
  forced_kept before middle left all = pending_all states h.life disk h.pends before left middle (all_own before middle all)

  -- Whenever a crash comes in it, the image counts up to this.
  forced_up_to : 1 ≤ parts.system.logs → (high : ℕ) → StandsUpTo high journal next → (before after : Image) → disk.may_leave before → TakesForced (parts_for parts.system journal.restart bytes) journal.log (slots_stores (slots_now parts)) before after
      → CountsUpTo parts.system (high + parts.system.logs) after
  forced_up_to some high stands before after left t =
      let same_logs : h.life.system.logs ≡ parts.system.logs = ap (λ (y : System). y.logs) h.carried.is.of_system in
      let same : h.life.now.sequence ≡ journal.log.sequence = own_sequence parts units next journal text states disk h in
      subst (λ (y : System). CountsUpTo y (high + y.logs) after) h.carried.is.of_system
      (takes_up_to bytes (slots_stores (slots_now parts)) touches told h.life h.carried.is.is_life its.may t.middle (forced_kept before t.middle left t.all) next refl
      (forced_tells states h.life disk h.pends before left next (of_life parts units next journal text states disk h before left) t.middle (all_own before t.middle t.all)) (high + h.life.system.logs)
      (omega (arith, own_epoch parts units next journal text states disk h, stands.epoch)) (omega (arith, same, stands.sequence)) (omega (arith, same_checkpoint, stands.checkpoint, some, same_logs)) (omega (arith, stands.unit)) (omega (arith, some, same_logs))
      after
      (subst (λ (p : CheckpointParts). Takes p (forced_writer h.life.log) (slots_stores (slots_now parts)) t.middle after) (sym own_parts)
      (subst (λ (w : Writer). Takes (parts_for parts.system journal.restart bytes) (forced_writer w) (slots_stores (slots_now parts)) t.middle after) (sym h.writer) t.takes)))

  pub counts_up_to : 1 ≤ parts.system.logs → (high : ℕ) → StandsUpTo high journal next → (before after : Image) → disk.may_leave before → TakesBehindForce (parts_for parts.system journal.restart bytes) journal.log (slots_stores (slots_now parts)) before after
      → CountsUpTo parts.system (high + parts.system.logs) after
  counts_up_to some high stands before after left (inl front) = force_up_to parts units next journal text states disk h high stands before after left front
  counts_up_to some high stands before after left (inr takes) = forced_up_to some high stands before after left takes

  pub within_up_to : 1 ≤ parts.system.logs → (disk' : DiskState) → Within (TakesBehindForce (parts_for parts.system journal.restart bytes) journal.log (slots_stores (slots_now parts))) disk disk'
      → (high : ℕ) → StandsUpTo high journal next → Within (λ before after. CountsUpTo parts.system (high + parts.system.logs) after) disk disk'
  within_up_to some disk' within high stands =
      within_where (TakesBehindForce (parts_for parts.system journal.restart bytes) journal.log (slots_stores (slots_now parts))) (λ before after. CountsUpTo parts.system (high + parts.system.logs) after) disk disk'
      (λ before after left takes. counts_up_to some high stands before after left takes) within

  -- The machine's own counters rise so far.
  pub raised : 1 ≤ parts.system.logs → (journal' : JournalState) → journal'.log ≡ next_writer (parts_for parts.system journal.restart bytes) journal.log → journal'.restart ≡ next_restart (parts_for parts.system journal.restart bytes) journal.log
      → (high : ℕ) → StandsUpTo high journal next → StandsUpTo (high + parts.system.logs) journal' next
  raised some journal' log restart high stands =
      let number : journal'.restart.checkpoint ≡ journal.restart.checkpoint + 1 = ap (λ (r : RestartSector). r.checkpoint) restart in
      record {
        epoch = omega (arith, ap (λ (r : RestartSector). r.epoch) restart, stands.epoch);
        sequence = omega (arith, ap (λ (w : Writer). w.sequence + w.place + log_sectors_of (length w.appended)) log, stands.sequence);
        checkpoint = omega (arith, number, some, stands.checkpoint);
        unit = omega (arith, stands.unit);
      }

  tells_behind : (disk' : DiskState) → Follows (IsCheckpointedBehindForce (parts_for parts.system journal.restart bytes) journal.log (slots_stores (slots_now parts))) disk disk'
      → TellUnits parts.system (record { log = next_writer (parts_for parts.system journal.restart bytes) journal.log; restart = next_restart (parts_for parts.system journal.restart bytes) journal.log }) next disk'
  tells_behind disk' follows image left =
      let from = follows.from image left in
      let done : IsCheckpointed (parts_with bytes h.life) (forced_writer h.life.log) (slots_stores (slots_now parts)) from.by.middle image =
      subst (λ (p : CheckpointParts). IsCheckpointed p (forced_writer h.life.log) (slots_stores (slots_now parts)) from.by.middle image) (sym own_parts)
      (subst (λ (w : Writer). IsCheckpointed (parts_for parts.system journal.restart bytes) (forced_writer w) (slots_stores (slots_now parts)) from.by.middle image) (sym h.writer) from.by.is) in
      subst (λ (y : System). TellsUnits y (record { log = next_writer (parts_for parts.system journal.restart bytes) journal.log; restart = next_restart (parts_for parts.system journal.restart bytes) journal.log }) next image) h.carried.is.of_system
      (subst (λ (r : RestartSector). TellsUnits h.life.system (record { log = next_writer (parts_for parts.system journal.restart bytes) journal.log; restart = r }) next image) own_restart
      (subst (λ (w : Writer). TellsUnits h.life.system (record { log = w; restart = next_restart (parts_with bytes h.life) h.life.log }) next image) own_writer
      (checkpoint_tells bytes (slots_stores (slots_now parts)) touches told h.life h.carried.is.is_life its.may from.by.middle (forced_kept from.before from.by.middle from.left from.by.all) next refl image done h.carried.is.numbers.some)))

  -- Once it is taken, the machine whose slots count as written goes on with its log.
  pub behind : (parts' : PartsState) → parts' ≡ record parts { databases = with_all_settled parts.databases } → (journal' : JournalState) → journal'.log ≡ next_writer (parts_for parts.system journal.restart bytes) journal.log
      → journal'.restart ≡ next_restart (parts_for parts.system journal.restart bytes) journal.log → (disk' : DiskState)
      → ((life : LifeOnDisk) → (some : Touches) → (records : List Record) → (those : List LastingState) → AreCheckpointPartsOf parts.system journal (slots_stores (slots_now parts)) bytes some records those disk life
      → PendsBehind (life.lasting ∷ []) (after_checkpoint bytes some life) disk')
      → IsWriterReady journal'.log disk' → disk'.size ≡ disk.size → Follows (IsCheckpointedBehindForce (parts_for parts.system journal.restart bytes) journal.log (slots_stores (slots_now parts))) disk disk'
      → IsLogged parts' units next journal' text (parts.moment.lasting ∷ []) disk'
  behind parts' is journal' log restart disk' kept ready size follows =
      subst (λ (p : PartsState). IsLogged p units next journal' text (parts.moment.lasting ∷ []) disk') (sym is)
      (record {
        life = after_checkpoint bytes touches h.life;
        carried = storing.stored parts units next h.life h.carried has s.opens s.are s.few counts bytes adds sequence;
        pends = subst (λ (l : LastingState). PendsBehind (l ∷ []) (after_checkpoint bytes touches h.life) disk') h.carried.is.lasts (kept h.life touches told states its);
        writer = own_writer ∙ sym log;
        now = own_restart ∙ sym restart;
        text_is = h.text_is;
        areas = subst (λ (n : ℕ). data_first parts.system (length parts.system.databases) ≤ n) (sym size) h.areas;
        ready = ready;
        counted = h.counted;
        told = λ image left.
            subst (λ (r : RestartSector). TellsUnits parts.system (record { log = journal'.log; restart = r }) next image) (sym restart)
            (subst (λ (w : Writer). TellsUnits parts.system (record { log = w; restart = next_restart (parts_for parts.system journal.restart bytes) journal.log }) next image) (sym log) (tells_behind disk' follows image left));
      })

-- ---- as the journal is called

-- It goes on so with the system and the stores that the journal was given.
pub goes_on : (parts : PartsState) (units : List ℕ) (next : ℕ) (journal : JournalState) (text : List ℕ) (states : List LastingState) (disk : DiskState) → IsLogged parts units next journal text states disk → HasSlots parts
    → AreCountsInRange 0 parts.moment.lasting next journal → (bytes : List ℕ) → IsSnapshot parts units next (journal.restart.checkpoint + 1) bytes
    → (system : System) → system ≡ parts.system → (stores : AllStores) → stores ≡ slots_stores (slots_now parts)
    → (parts' : PartsState) → parts' ≡ record parts { databases = with_all_settled parts.databases } → (journal' : JournalState) → journal'.log ≡ next_writer (parts_for system journal.restart bytes) journal.log
    → journal'.restart ≡ next_restart (parts_for system journal.restart bytes) journal.log → (disk' : DiskState)
    → ((life : LifeOnDisk) → (touches : Touches) → (told : List Record) → (those : List LastingState) → AreCheckpointPartsOf system journal stores bytes touches told those disk life → PendsBehind (life.lasting ∷ []) (after_checkpoint bytes touches life) disk')
    → IsWriterReady journal'.log disk' → disk'.size ≡ disk.size → Follows (IsCheckpointedBehindForce (parts_for system journal.restart bytes) journal.log stores) disk disk' → IsLogged parts' units next journal' text (parts.moment.lasting ∷ []) disk'
goes_on parts units next journal text states disk h has c bytes s system same stores are parts' is journal' log restart disk' kept ready size follows =
    behind parts units next journal text states disk h has c bytes s parts' is journal'
    (log ∙ ap (λ (y : System). next_writer (parts_for y journal.restart bytes) journal.log) same)
    (restart ∙ ap (λ (y : System). next_restart (parts_for y journal.restart bytes) journal.log) same)
    disk'
    (λ life touches told those of_life.
    kept life touches told those
    (subst (λ (a : AllStores). AreCheckpointPartsOf system journal a bytes touches told those disk life) (sym are)
    (subst (λ (y : System). AreCheckpointPartsOf y journal (slots_stores (slots_now parts)) bytes touches told those disk life) (sym same) of_life)))
    ready size
    (subst (λ (a : AllStores). Follows (IsCheckpointedBehindForce (parts_for parts.system journal.restart bytes) journal.log a) disk disk') are
    (subst (λ (y : System). Follows (IsCheckpointedBehindForce (parts_for y journal.restart bytes) journal.log stores) disk disk') same follows))

-- ---- how much is written

-- A snapshot takes no more sectors than its area has.
pub most : (system : System) (journal : JournalState) (stores : AllStores) (bytes : List ℕ) (old new : DiskState) → CanCheckpoint system journal stores bytes old
    → WritesAtMost (log_sectors_of (length journal.log.appended) + changed_sectors stores.stores stores.changed + snapshot.snapshot_sectors_of (length bytes) + 1) old new
    → WritesAtMost (checkpoint_sectors system stores.stores stores.changed journal) old new
most system journal stores bytes old new can writes =
    within new.writes old.writes (log_sectors_of (length journal.log.appended)) (changed_sectors stores.stores stores.changed) (snapshot.snapshot_sectors_of (length bytes)) (snapshot_area system) writes
    (subst (λ (y : System). snapshot.snapshot_sectors_of (length bytes) ≤ snapshot_area y) can.is.of_system can.is.may.fits)
  where
    within : (w o a c s t : ℕ) → w ≤ o + (a + c + s + 1) → s ≤ t → w ≤ o + (a + c + t + 1)
    within w o a c s t h k = omega (arith, h, k)
