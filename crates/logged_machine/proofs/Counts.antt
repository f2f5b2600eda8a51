-- What images count on while a machine with its log appends records and forces them.
use Rattle.std.proofs.Common.{◌≡◌, ℕ, ◌+◌, ◌<◌, ◌≤◌, List, refl, sym, ◌∙◌, ap, subst, inl, arith, append-nil}
use Rattle.std.specs.List.{flat_map, AllByRecursion}
use Rattle.tm_disk.specs.Disk.{Image, DiskState, Follows, Within}
use Rattle.model_system.specs.System.{System}
use Rattle.model_machine.specs.Machine.{LastingState}
use Rattle.log_records.specs.declared.record.Record.{Record}
use Rattle.log_records.specs.RecordSpelling.{record_spelling, IsLogRecord}
use Rattle.log_writer.specs.Writer.{Writer}
use Rattle.log_writer.specs.ForcedLog.{log_of_writer, AddsFront, AddsAll}
use Rattle.restart_data.specs.declared.restart.RestartSector.{RestartSector}
use Rattle.model_image.specs.Counters.{greatest_unit}
use Rattle.checkpointing.specs.CheckpointParts.{forced_writer}
use Rattle.checkpointing.specs.Counts.{CountsUpTo}
use Rattle.disk_law.specs.SlotChanges.{with_bytes_behind}
use Rattle.disk_law.specs.JournalState.{JournalState}
use Rattle.disk_law.specs.UnitCounts.{TellsUnits, TellUnits, StandsUpTo}
use Rattle.disk_law.proofs.Counting.{appended_tells, forced_tells, front_up_to}
use Rattle.tm_machine.specs.Parts.{PartsState}
use Rattle.logged_machine.specs.LoggedParts.{IsLogged}
use Rattle.logged_machine.specs.LeftImages.{CrashesLeave}
use Rattle.logged_machine.proofs.Leaving.{leaves_within}

module _ (parts : PartsState) (units : List ℕ) (next : ℕ) (journal : JournalState) (text : List ℕ) (states : List LastingState) (disk : DiskState) (h : IsLogged parts units next journal text states disk) where
  journal_is : record { log = h.life.log; restart = h.life.now } ≡ journal
  journal_is = ap (λ (w : Writer). record { log = w; restart = h.life.now }) h.writer ∙ ap (λ (r : RestartSector). record { log = journal.log; restart = r }) h.now

  pub of_life : (image : Image) → disk.may_leave image → TellsUnits h.life.system (record { log = h.life.log; restart = h.life.now }) next image
  of_life image left =
      subst (λ (y : System). TellsUnits y (record { log = h.life.log; restart = h.life.now }) next image) (sym h.carried.is.of_system)
      (subst (λ (j : JournalState). TellsUnits parts.system j next image) (sym journal_is) (h.told image left))

  pub own_sequence : h.life.now.sequence ≡ journal.log.sequence
  own_sequence = sym h.carried.is.is_life.writer.sequence ∙ ap (λ (w : Writer). w.sequence) h.writer

  pub own_epoch : h.life.now.epoch ≡ journal.restart.epoch
  own_epoch = ap (λ (r : RestartSector). r.epoch) h.now

  pub own_checkpoint : h.life.now.checkpoint ≡ journal.restart.checkpoint
  own_checkpoint = ap (λ (r : RestartSector). r.checkpoint) h.now

  -- Records that are appended tell of no unit to come.
  pub quiet_tells : (records : List Record) (mid : JournalState) → mid.log ≡ with_bytes_behind (flat_map record_spelling records) journal.log → mid.restart ≡ journal.restart → AllByRecursion IsLogRecord records
      → (more : ℕ) → next ≤ more → greatest_unit records < more → TellUnits parts.system mid more disk
  quiet_tells records mid log restart valid more later fresh image left =
      subst (λ (y : System). TellsUnits y mid more image) h.carried.is.of_system
      (subst (λ (r : RestartSector). TellsUnits h.life.system (record { log = mid.log; restart = r }) more image) (h.now ∙ sym restart)
      (subst (λ (w : Writer). TellsUnits h.life.system (record { log = w; restart = h.life.now }) more image) (ap (with_bytes_behind (flat_map record_spelling records)) h.writer ∙ sym log)
      (appended_tells states h.life disk h.pends image left next (of_life image left) records valid more later fresh)))

  -- Nor does the log once all is forced.
  pub forced_tell : (journal' : JournalState) → journal'.log ≡ forced_writer journal.log → journal'.restart ≡ journal.restart → (new : DiskState) → Follows (AddsAll journal.log) disk new → TellUnits parts.system journal' next new
  forced_tell journal' log restart new follows image left =
      let from = follows.from image left in
      subst (λ (y : System). TellsUnits y journal' next image) h.carried.is.of_system
      (subst (λ (r : RestartSector). TellsUnits h.life.system (record { log = journal'.log; restart = r }) next image) (h.now ∙ sym restart)
      (subst (λ (w : Writer). TellsUnits h.life.system (record { log = w; restart = h.life.now }) next image) (ap forced_writer h.writer ∙ sym log)
      (forced_tells states h.life disk h.pends from.before from.left next (of_life from.before from.left) image (subst (λ (w : Writer). AddsAll w from.before image) (sym h.writer) from.by))))

  -- Whatever a crash leaves while all is forced, the image counts up to this.
  pub force_up_to : (high : ℕ) → StandsUpTo high journal next → (before after : Image) → disk.may_leave before → AddsFront journal.log before after → CountsUpTo parts.system (high + parts.system.logs) after
  force_up_to high stands before after left front =
      let same_logs : h.life.system.logs ≡ parts.system.logs = ap (λ (y : System). y.logs) h.carried.is.of_system in
      subst (λ (y : System). CountsUpTo y (high + y.logs) after) h.carried.is.of_system
      (front_up_to states h.life disk h.pends before left next (of_life before left) after
      (subst (λ (w : Writer). AddsFront w before after) (sym h.writer) front) (high + h.life.system.logs)
      (omega (arith, own_epoch, stands.epoch)) (omega (arith, own_sequence, stands.sequence)) (omega (arith, own_checkpoint, stands.checkpoint)) (omega (arith, stands.unit)))

  pub force_counts : (high : ℕ) → StandsUpTo high journal next → (new : DiskState) → Within (AddsFront journal.log) disk new → CrashesLeave (CountsUpTo parts.system (high + parts.system.logs)) disk new
  force_counts high stands new within = leaves_within (AddsFront journal.log) (CountsUpTo parts.system (high + parts.system.logs)) disk new (force_up_to high stands) within

  -- ---- what stands

  no_front : (image : Image) → AddsFront journal.log image image
  no_front image = record {
    changes = record { size = refl; below = λ k low. refl; above = λ k high. refl };
    each = λ x. inl refl;
    front = 0;
    log = sym (append-nil (log_of_writer journal.log image));
  }

  -- Each image that a crash may leave counts up to this.
  pub standing_up_to : (high : ℕ) → StandsUpTo high journal next → (image : Image) → disk.may_leave image → CountsUpTo parts.system (high + parts.system.logs) image
  standing_up_to high stands image left = force_up_to high stands image image left (no_front image)
