-- The life of a machine with its log, as calls go on.
use Rattle.std.proofs.Common.{◌≡◌, ◌≤◌, ◌+◌, ℕ, List, [], ◌∷◌, ◌++◌, sym, ◌∙◌, ap, subst, arith, length, inl}
use Rattle.std.specs.Prelude.{Option, Some, Result, Ok}
use Rattle.tm_disk.specs.Disk.{Image, DiskState, Within}
use Rattle.model_system.specs.System.{System}
use Rattle.model_machine.specs.Machine.{LastingState}
use Rattle.log_writer.specs.Writer.{Writer}
use Rattle.log_writer.specs.ForcedLog.{IsWriterReady, AddsFront}
use Rattle.restart_data.specs.declared.restart.RestartSector.{RestartSector}
use Rattle.model_system.specs.Areas.{is_single, data_first, snapshot_area}
use Rattle.model_image.specs.Text.{text_in}
use Rattle.model_image.proofs.Places.{log_below, slot_above}
use Rattle.restart_data.specs.Restart.{restart_in}
use Rattle.checkpointing.specs.CheckpointParts.{forced_writer}
use Rattle.disk_law.specs.Life.{LifeOnDisk}
use Rattle.disk_law.specs.SlotChanges.{with_bytes_behind}
use Rattle.disk_law.specs.KeptImages.{RecoversOne}
use Rattle.disk_law.specs.LifeSteps.{after_step, forced_life}
use Rattle.disk_law.specs.PendingMoves.{KeepsBehindForce, PendsBehind}
use Rattle.disk_law.proofs.OnDisk as on_disk
use Rattle.disk_law.specs.JournalState.{JournalState}
use Rattle.tm_machine.specs.SlotChanges.{slots_now}
use Rattle.tm_machine.specs.Parts.{PartsState}
use Rattle.journal.specs.CarriedLife.{IsCarriedBy}
use Rattle.journal.specs.LifeByCall.{LifeGoesOn, LifeStepsOn}
use Rattle.checkpointing.specs.DefinitionText.{HasText, IsNumberedFrom}
use Rattle.disk_law.specs.UnitCounts.{TellUnits}
use Rattle.logged_machine.specs.CarriedParts.{IsCarried}
use Rattle.logged_machine.specs.LoggedParts.{IsLogged}
use Rattle.logged_machine.specs.LeftImages.{CrashesLeave, Brings}
use Rattle.logged_machine.proofs.Leaving.{leaves_within}

-- ---- what each image has

same_restart : {E : Type 0} (x : Result (Option RestartSector) E) (r s : RestartSector) → x ≡ Ok (Some r) → x ≡ Ok (Some s) → r ≡ s
same_restart x r s one other = cc

-- a writer with more bytes appended is where its log ends, too
more_ready : (bytes : List ℕ) (log : Writer) (disk : DiskState) → IsWriterReady log disk → IsWriterReady (with_bytes_behind bytes log) disk
more_ready bytes log disk ready image left = let end = ready image left in record { written = end.written; free = end.free }

-- A life that goes with parts does so once all is forced.
forced_carried : (parts : PartsState) (units : List ℕ) (next : ℕ) (life : LifeOnDisk) → IsCarried parts units next life → IsCarried parts units next (forced_life life)
forced_carried parts units next life c = record {
  is = record {
    of_system = c.is.of_system;
    lasts = c.is.lasts;
    names = c.is.names;
    counted = c.is.counted;
    is_life = on_disk.forced_is_life life c.is.is_life;
    stores = record { are_of = c.is.stores.are_of; valid = c.is.stores.valid; present = c.is.stores.present; changed = c.is.stores.changed };
    committed = c.is.committed;
    numbers = c.is.numbers;
    touched = c.is.touched;
    syncs = c.is.syncs;
  };
  sound = c.sound;
}

module _ (parts : PartsState) (units : List ℕ) (next_unit : ℕ) (journal : JournalState) (text : List ℕ) (states : List LastingState) (disk : DiskState) (h : IsLogged parts units next_unit journal text states disk) where
  abbrev system : System
  system = parts.system

  pub recover : (image : Image) → disk.may_leave image → RecoversOne system states image
  recover image left = subst (λ (s : System). RecoversOne s states image) h.carried.is.of_system (on_disk.pending_recover states h.life disk h.pends image left)

  -- an image with the life's restart sector and text
  text_of : (image : Image) → restart_in (snapshot_area h.life.system) (is_single h.life.system) image ≡ Ok (Some h.life.now) → text_in image h.life.now.text ≡ h.life.text → HasText system text image
  text_of image there has r found =
      let same : r ≡ h.life.now =
      same_restart (restart_in (snapshot_area h.life.system) (is_single h.life.system) image) r h.life.now
      (subst (λ (s : System). restart_in (snapshot_area s) (is_single s) image ≡ Ok (Some r)) (sym h.carried.is.of_system) found) there in
      ap (λ (x : RestartSector). text_in image x.text) same ∙ has ∙ h.text_is

  -- its checkpoint is the one that holds
  number_of : (image : Image) → restart_in (snapshot_area h.life.system) (is_single h.life.system) image ≡ Ok (Some h.life.now) → IsNumberedFrom system journal.restart.checkpoint image
  number_of image found =
      subst (λ (s : System). IsNumberedFrom s journal.restart.checkpoint image) h.carried.is.of_system
      (record { restart = h.life.now; found = found; least = omega (arith, ap (λ (r : RestartSector). r.checkpoint) h.now) })

  pub have_text : (image : Image) → disk.may_leave image → HasText system text image
  have_text image left = text_of image (on_disk.pending_restart states h.life disk h.pends image left) (on_disk.pending_text states h.life disk h.pends image left)

  pub numbered : (image : Image) → disk.may_leave image → IsNumberedFrom system journal.restart.checkpoint image
  numbered image left = number_of image (on_disk.pending_restart states h.life disk h.pends image left)

  life_area : h.life.log.first + h.life.log.count ≤ disk.size
  life_area =
      let w = h.carried.is.is_life.writer in
      let areas : data_first h.life.system (length h.life.system.databases) ≤ disk.size =
      subst (λ (s : System). data_first s (length s.databases) ≤ disk.size) (sym h.carried.is.of_system) h.areas in
      omega (arith, w.first, w.count, areas, log_below h.life.system h.life.now.log h.carried.is.is_life.in_range.log, slot_above h.life.system (length h.life.system.databases) 0 0)

  -- the log's area is on the disk
  pub area : journal.log.first + journal.log.count ≤ disk.size
  area = subst (λ (w : Writer). w.first + w.count ≤ disk.size) h.writer life_area

  -- ---- all is forced

  -- An image that got a front of what was appended, or recovers as with all of it, recovers to one of the states.
  pub recovers_behind : (before after : Image) → disk.may_leave before → KeepsBehindForce system journal.log before after → RecoversOne system states after
  recovers_behind before after left keeps =
      subst (λ (s : System). RecoversOne s states after) h.carried.is.of_system
      (on_disk.behind_force states h.life disk h.pends before after left
      (subst (λ (s : System). KeepsBehindForce s h.life.log before after) (sym h.carried.is.of_system)
      (subst (λ (w : Writer). KeepsBehindForce system w before after) (sym h.writer) keeps)))

  front_brings : (before after : Image) → disk.may_leave before → AddsFront journal.log before after → Brings system text journal.restart.checkpoint states after
  front_brings before after left front =
      let own : AddsFront h.life.log before after = subst (λ (w : Writer). AddsFront w before after) (sym h.writer) front in
      let there = on_disk.front_restart states h.life disk h.pends before left after own in
      record {
        recovers = recovers_behind before after left (inl front);
        has_text = text_of after there (on_disk.front_text states h.life disk h.pends before left after own);
        numbered = number_of after there;
      }

  pub force_leaves : (new : DiskState) → Within (AddsFront journal.log) disk new → CrashesLeave (Brings system text journal.restart.checkpoint states) disk new
  force_leaves new within = leaves_within (AddsFront journal.log) (Brings system text journal.restart.checkpoint states) disk new front_brings within

  -- Once it is, what lasts is on each image.
  pub forced : (journal' : JournalState) (new : DiskState) → PendsBehind (h.life.lasting ∷ []) (forced_life h.life) new → journal'.log ≡ forced_writer journal.log → journal'.restart ≡ journal.restart → IsWriterReady journal'.log new
      → new.size ≡ disk.size → TellUnits parts.system journal' next_unit new → IsLogged parts units next_unit journal' text (parts.moment.lasting ∷ []) new
  forced journal' new pends log restart ready size tell = record {
    life = forced_life h.life;
    carried = forced_carried parts units next_unit h.life h.carried;
    pends = subst (λ (l : LastingState). PendsBehind (l ∷ []) (forced_life h.life) new) h.carried.is.lasts pends;
    writer = ap forced_writer h.writer ∙ sym log;
    now = h.now ∙ sym restart;
    text_is = h.text_is;
    areas = subst (λ (n : ℕ). data_first parts.system (length parts.system.databases) ≤ n) (sym size) h.areas;
    ready = ready;
    counted = h.counted;
    told = tell;
  }

  -- ---- a call's records are appended

  module _ (parts' : PartsState) (units' : List ℕ) (next' : ℕ) (same_system : parts'.system ≡ parts.system) (as_many : length units' ≡ length units) (bytes : List ℕ) (journal' : JournalState) (told : journal'.log ≡ with_bytes_behind bytes journal.log)
      (restart : journal'.restart ≡ journal.restart) (tell : TellUnits parts.system journal' next' disk) where
    all_numbered : length units' ≡ length parts'.system.regions
    all_numbered = as_many ∙ h.counted ∙ ap (λ (y : System). length y.regions) (sym same_system)

    all_areas : data_first parts'.system (length parts'.system.databases) ≤ disk.size
    all_areas = subst (λ (y : System). data_first y (length y.databases) ≤ disk.size) (sym same_system) h.areas

    still_ready : IsWriterReady journal'.log disk
    still_ready = subst (λ (w : Writer). IsWriterReady w disk) (sym told) (more_ready bytes journal.log disk h.ready)

    all_told : TellUnits parts'.system journal' next' disk
    all_told = subst (λ (y : System). TellUnits y journal' next' disk) (sym same_system) tell

    -- with a step: what lasts then pends, too
    pub stepped : LifeStepsOn bytes parts.system parts'.moment (slots_now parts') units' next' h.life → IsLogged parts' units' next' journal' text (states ++ parts'.moment.lasting ∷ []) disk
    stepped s = record {
      life = after_step s.step h.life;
      carried = subst (λ (y : System). IsCarriedBy y parts'.moment (slots_now parts') units' next' (after_step s.step h.life)) (sym same_system) s.is;
      pends =
          subst (λ (l : LastingState). PendsBehind (states ++ l ∷ []) (after_step s.step h.life) disk) s.lasts
          (on_disk.pends_on states h.life disk h.pends (s.step.lasting ∷ []) (after_step s.step h.life) (on_disk.goes_by_step s.step h.life s.is_step));
      writer = ap (λ (b : List ℕ). with_bytes_behind b h.life.log) (sym s.spelled) ∙ ap (with_bytes_behind bytes) h.writer ∙ sym told;
      now = h.now ∙ sym restart;
      text_is = h.text_is;
      areas = all_areas;
      ready = still_ready;
      counted = all_numbered;
      told = all_told;
    }

    -- with none: the same pends
    pub continued : LifeGoesOn bytes parts.system parts'.moment (slots_now parts') units' next' h.life → IsLogged parts' units' next' journal' text states disk
    continued g = record {
      life = g.behind;
      carried = subst (λ (y : System). IsCarriedBy y parts'.moment (slots_now parts') units' next' g.behind) (sym same_system) g.is;
      pends = on_disk.pends_still states h.life disk h.pends g.behind g.goes;
      writer = g.log ∙ ap (with_bytes_behind bytes) h.writer ∙ sym told;
      now = g.now ∙ h.now ∙ sym restart;
      text_is = g.text ∙ h.text_is;
      areas = all_areas;
      ready = still_ready;
      counted = all_numbered;
      told = all_told;
    }
