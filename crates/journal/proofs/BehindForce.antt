-- A checkpoint behind a force of all that was appended, by what the two leave on the disk.
use Rattle.std.proofs.Common.{◌≡◌, ⊎_elim, inl, inr, ℕ, ◌+◌, ◌≤◌, ◌<◌, ◌^◌, List, [], ◌∷◌, length, Some, Ok, sym, ◌∙◌, ap, subst, arith}
use Rattle.tm_disk.specs.Disk.{Image, DiskState, IsDisk, ComesFrom, Follows, Within}
use Rattle.tm_disk.proofs.Words.{within_more, within_where, follows_where, within_within, follows_on}
use Rattle.model_system.specs.System.{System}
use Rattle.model_system.specs.Areas.{snapshot_area, is_single, data_first}
use Rattle.model_machine.specs.Machine.{LastingState}
use Rattle.model_image.specs.Text.{text_in}
use Rattle.model_image.proofs.Places.{log_below, slot_above}
use Rattle.log_records.specs.declared.record.Record.{Record}
use Rattle.log_writer.specs.Writer.{Writer}
use Rattle.log_writer.specs.ForcedLog.{IsWriterReady, AddsFront, AddsAll}
use Rattle.restart_data.specs.declared.restart.RestartSector.{RestartSector}
use Rattle.restart_data.specs.Restart.{restart_in}
use Rattle.seg_store.specs.ChangedSlots.{AllStores}
use Rattle.checkpointing.specs.CheckpointParts.{CheckpointParts, forced_writer}
use Rattle.checkpointing.specs.Checkpoint.{KeepsRecovery, IsCheckpointed}
use Rattle.checkpointing.specs.CheckpointSteps.{Takes}
use Rattle.checkpointing.specs.DefinitionText.{KeepsText}
use Rattle.checkpointing.proofs.Calls.{within_then}
use Rattle.checkpointing.proofs.Counted.{one_restart}
use Rattle.disk_law.specs.CommittedBytes.{Touches}
use Rattle.disk_law.specs.Life.{LifeOnDisk}
use Rattle.disk_law.specs.KeptImages.{AreImagesKept}
use Rattle.disk_law.specs.LifeCheckpoint.{after_checkpoint}
use Rattle.disk_law.specs.LifeSteps.{forced_life}
use Rattle.disk_law.specs.PendingMoves.{PendsBehind, KeepsBehindForce}
use Rattle.disk_law.specs.JournalState.{JournalState}
use Rattle.disk_law.proofs.CheckpointOnDisk.{checkpoint_done}
use Rattle.disk_law.proofs.OnDisk.{behind_force, force_done, front_restart, front_text, pending_all, pending_recover, pending_restart, pending_text}
use Rattle.journal.specs.CheckpointFor.{parts_for, AreCheckpointPartsOf, CanCheckpoint, CanTake, TakesBehindForce, IsCheckpointedBehindForce}
use Rattle.journal.specs.JournalDisk.{RecoverOne}

-- an image with the restart sector and the text of a life keeps the text of one that has them, too
pub keeps_text : (system : System) (now : RestartSector) (text : List ℕ) (before after : Image)
    → restart_in (snapshot_area system) (is_single system) before ≡ Ok (Some now) → text_in before now.text ≡ text
    → restart_in (snapshot_area system) (is_single system) after ≡ Ok (Some now) → text_in after now.text ≡ text → KeepsText system before after
keeps_text system now text before after was had is has = record {
  text = λ of before_has r found.
      let same : r ≡ now = one_restart (restart_in (snapshot_area system) (is_single system) after) r now found is in
      ap (λ (x : RestartSector). text_in after x.text) same ∙ has ∙ sym had ∙ before_has now was;
  number = λ low numbered.
      let same : numbered.restart ≡ now = one_restart (restart_in (snapshot_area system) (is_single system) before) numbered.restart now numbered.found was in
      record { restart = now; found = is; least = subst (λ (x : RestartSector). low ≤ x.checkpoint) same numbered.least };
}

keeps_on : (system : System) (a b c : Image) → KeepsText system a b → KeepsText system b c → KeepsText system a c
keeps_on system a b c first second = record { text = λ text has. second.text text (first.text text has); number = λ low is. second.number low (first.number low is) }

-- ---- of a life that the checkpoint is of

module _ (system : System) (journal : JournalState) (stores : AllStores) (bytes : List ℕ) (old : DiskState)
    (life : LifeOnDisk) (touches : Touches) (told : List Record) (states : List LastingState) (is : AreCheckpointPartsOf system journal stores bytes touches told states old life) where
  recovers_one : (disk : IsDisk old) (new : DiskState) → Within (KeepsBehindForce life.system life.log) old new → RecoverOne life.system states old new
  recovers_one disk new within image left =
      ⊎_elim
      (λ was. pending_recover states life old is.pends image (disk.now_alone image was))
      (λ (c : ComesFrom (KeepsBehindForce life.system life.log) old image). behind_force states life old is.pends c.before image c.left c.by)
      (within.from old.clock image (omega arith) left)

  -- Whenever a crash comes, the image recovers to one of the states that pend.
  pub recovers : IsDisk old → (new : DiskState) → Within (KeepsBehindForce system journal.log) old new → RecoverOne system states old new
  recovers disk new within =
      subst (λ (s : System). RecoverOne s states old new) is.of_system
      (recovers_one disk new
      (subst (λ (w : Writer). Within (KeepsBehindForce life.system w) old new) (sym is.writer)
      (subst (λ (s : System). Within (KeepsBehindForce s journal.log) old new) (sym is.of_system) within)))

  -- once all is forced, each image has all of the life
  pub all_kept : (mid : DiskState) → Follows (AddsAll journal.log) old mid → AreImagesKept (forced_life life) mid
  all_kept mid follows = force_done states life old mid is.pends (subst (λ (w : Writer). Follows (AddsAll w) old mid) (sym is.writer) follows)

  -- Once the checkpoint is done, each has all of the life behind it.
  pub checkpoint_kept : (mid new : DiskState) → Follows (AddsAll journal.log) old mid → Follows (IsCheckpointed (parts_for system journal.restart bytes) (forced_writer journal.log) stores) mid new
      → PendsBehind (life.lasting ∷ []) (after_checkpoint bytes touches life) new
  checkpoint_kept mid new forced follows =
      checkpoint_done bytes stores touches told life is.is_life is.may mid (all_kept mid forced) new
      (subst (λ (s : System). Follows (IsCheckpointed (parts_for s life.now bytes) (forced_writer life.log) stores) mid new) (sym is.of_system)
      (subst (λ (r : RestartSector). Follows (IsCheckpointed (parts_for system r bytes) (forced_writer life.log) stores) mid new) (sym is.now)
      (subst (λ (w : Writer). Follows (IsCheckpointed (parts_for system journal.restart bytes) (forced_writer w) stores) mid new) (sym is.writer) follows)))

  -- what the force leaves of the text
  life_front : (a c : Image) → old.may_leave a → AddsFront life.log a c → KeepsText life.system a c
  life_front a c left front =
      keeps_text life.system life.now life.text a c (pending_restart states life old is.pends a left) (pending_text states life old is.pends a left)
      (front_restart states life old is.pends a left c front) (front_text states life old is.pends a left c front)

  life_all : (a c : Image) → old.may_leave a → AddsAll life.log a c → KeepsText life.system a c
  life_all a c left all =
      let kept = pending_all states life old is.pends a left c all in
      keeps_text life.system life.now life.text a c (pending_restart states life old is.pends a left) (pending_text states life old is.pends a left) kept.restart kept.has_text

  pub front_keeps : (a c : Image) → old.may_leave a → AddsFront journal.log a c → KeepsText system a c
  front_keeps a c left front =
      subst (λ (s : System). KeepsText s a c) is.of_system (life_front a c left (subst (λ (w : Writer). AddsFront w a c) (sym is.writer) front))

  pub all_keeps : (a c : Image) → old.may_leave a → AddsAll journal.log a c → KeepsText system a c
  all_keeps a c left all =
      subst (λ (s : System). KeepsText s a c) is.of_system (life_all a c left (subst (λ (w : Writer). AddsAll w a c) (sym is.writer) all))

-- ---- where one can be taken

module _ (system : System) (journal : JournalState) (stores : AllStores) (bytes : List ℕ) (old : DiskState) (can : CanCheckpoint system journal stores bytes old) where
  areas : data_first can.life.system (length can.life.system.databases) ≤ old.size
  areas = subst (λ (s : System). data_first s (length s.databases) ≤ old.size) (sym can.is.of_system) can.areas

  -- the log's area is on the disk, and its sequences are in their range
  life_area : can.life.log.first + can.life.log.count ≤ old.size
  life_area =
      let w = can.is.is_life.writer in
      omega (arith, w.first, w.count, areas, log_below can.life.system can.life.now.log can.is.is_life.in_range.log, slot_above can.life.system (length can.life.system.databases) 0 0)

  pub log_area : journal.log.first + journal.log.count ≤ old.size
  log_area = subst (λ (w : Writer). w.first + w.count ≤ old.size) can.is.writer life_area

  life_sequences : can.life.log.sequence + can.life.log.count < 2 ^ 64
  life_sequences =
      let w = can.is.is_life.writer in omega (arith, w.sequence, w.count, can.is.is_life.in_range.sequence.1, can.is.is_life.few)

  pub log_sequences : journal.log.sequence + journal.log.count < 2 ^ 64
  log_sequences = subst (λ (w : Writer). w.sequence + w.count < 2 ^ 64) can.is.writer life_sequences

  -- behind the force the checkpoint can be taken
  pub can_take : (mid : DiskState) (then : JournalState) → Follows (AddsAll journal.log) old mid → mid.size ≡ old.size → then.log ≡ forced_writer journal.log → then.restart ≡ journal.restart → IsWriterReady then.log mid
      → CanTake system then stores bytes mid
  can_take mid then forced size log restart ready = record {
    life = can.life;
    touches = can.touches;
    told = can.told;
    of_system = can.is.of_system;
    writer = ap (λ (w : Writer). forced_writer w) can.is.writer ∙ sym log;
    now = can.is.now ∙ sym restart;
    is_life = can.is.is_life;
    may = can.is.may;
    kept = all_kept system journal stores bytes old can.life can.touches can.told can.states can.is mid forced;
    areas = subst (λ n. data_first system (length system.databases) ≤ n) (sym size) can.areas;
    ready = ready;
    some = can.some;
  }

  abbrev parts : CheckpointParts
  parts = parts_for system journal.restart bytes

  -- ---- where the force fails

  pub front_moment : (new : DiskState) → Within (AddsFront journal.log) old new → Within (KeepsBehindForce system journal.log) old new
  front_moment new within = within_more (AddsFront journal.log) (KeepsBehindForce system journal.log) old new (λ a c front. inl front) within

  pub front_texts : (new : DiskState) → Within (AddsFront journal.log) old new → Within (KeepsText system) old new
  front_texts new within =
      within_where (AddsFront journal.log) (KeepsText system) old new (front_keeps system journal stores bytes old can.life can.touches can.told can.states can.is) within

  pub front_steps : (new : DiskState) → Within (AddsFront journal.log) old new → Within (TakesBehindForce parts journal.log stores) old new
  front_steps new within = within_more (AddsFront journal.log) (TakesBehindForce parts journal.log stores) old new (λ a c front. inl front) within

  -- ---- behind it

  module _ (mid new : DiskState) (within : Within (AddsFront journal.log) old mid) (forced : Follows (AddsAll journal.log) old mid) where
    pub all_moment : Within (KeepsRecovery system) mid new → Within (KeepsBehindForce system journal.log) old new
    all_moment then =
        within_then (AddsFront journal.log) (AddsAll journal.log) (KeepsRecovery system) (KeepsBehindForce system journal.log) old mid new
        (λ a c front. inl front) (λ a b c left all keeps. inr (record { middle = b; all = all; keeps = keeps })) within forced then

    pub all_texts : Within (KeepsText system) mid new → Within (KeepsText system) old new
    all_texts then =
        within_within (KeepsText system) (KeepsText system) (KeepsText system) old mid new (λ a c keeps. keeps) (keeps_on system) (front_texts mid within)
        (follows_where (AddsAll journal.log) (KeepsText system) old mid (all_keeps system journal stores bytes old can.life can.touches can.told can.states can.is) forced) then

    pub all_steps : Within (Takes parts (forced_writer journal.log) stores) mid new → Within (TakesBehindForce parts journal.log stores) old new
    all_steps then =
        within_then (AddsFront journal.log) (AddsAll journal.log) (Takes parts (forced_writer journal.log) stores) (TakesBehindForce parts journal.log stores) old mid new
        (λ a c front. inl front) (λ a b c left all takes. inr (record { middle = b; all = all; takes = takes })) within forced then

    pub all_done : Follows (IsCheckpointed parts (forced_writer journal.log) stores) mid new → Follows (IsCheckpointedBehindForce parts journal.log stores) old new
    all_done then =
        follows_on (AddsAll journal.log) (IsCheckpointed parts (forced_writer journal.log) stores) (IsCheckpointedBehindForce parts journal.log stores) old mid new
        (λ a b c all done. record { middle = b; all = all; is = done }) forced then
