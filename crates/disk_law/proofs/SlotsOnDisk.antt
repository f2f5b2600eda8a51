-- Pieces of slots that count as changed are written behind a force, on a disk.
use Rattle.std.proofs.Common.{◌≡◌, ◌⊎◌, ℕ, ◌+◌, ◌≤◌, Bool, List, [], ◌∷◌, ◌++◌, length, refl, sym, ◌∙◌, ap, subst, inl, inr, ⊎_elim, arith, Some, None, Ok}
use Rattle.std.specs.Prelude.{Option}
use Rattle.std.specs.Option.{unwrap_or}
use Rattle.std.proofs.lemmas.List.{take_all}
use Rattle.tm_disk.specs.Disk.{Image, DiskState, IsDisk, ComesFrom, Follows, Within, sector_at}
use Rattle.model_system.specs.Areas.{is_single, snapshot_area}
use Rattle.model_machine.specs.Machine.{LastingState}
use Rattle.log_writer.specs.ForcedLog.{log_of_writer, AddsFront, AddsAll}
use Rattle.restart_data.specs.Restart.{restart_in}
use Rattle.seg_store.specs.DataSectors.{IsGivenAt, given_at, MayPut, HasPut}
use Rattle.model_image.specs.Text.{text_in}
use Rattle.model_image.proofs.Alike.{ImagesAlike, recovers_alike}
use Rattle.checkpointing.specs.CheckpointParts.{forced_writer}
use Rattle.checkpointing.specs.CheckpointSteps.{Then}
use Rattle.checkpointing.specs.Counts.{CountsUpTo}
use Rattle.checkpointing.proofs.Counted.{alike_up_to}
use Rattle.checkpointing.proofs.Slots.{given_is}
use Rattle.disk_law.specs.Life.{LifeOnDisk, IsLifeOnDisk}
use Rattle.disk_law.specs.KeptImages.{IsImageKept, RecoversOne}
use Rattle.disk_law.specs.LifeSteps.{forced_life}
use Rattle.disk_law.specs.PendingMoves.{PendsBehind, KeepsBehindForce}
use Rattle.disk_law.specs.SlotWrites.{MayWriteSlots, ArePiecesOfSlots, with_changed_slots, PutsBehindForce, HasPutBehindForce}
use Rattle.disk_law.specs.UnitCounts.{TellsUnits}
use Rattle.disk_law.proofs.Counting.{log_kept, forced_tells, front_up_to}
use Rattle.disk_law.proofs.OnDisk.{behind_force, forced_is_life, front_restart, front_text, pending_all, pending_life, pending_recover, settled}
use Rattle.disk_law.proofs.SlotWriting.{changed_is_life, image_with_changed, writes_kept, written_alike, written_tells}

-- what is put was written
put_cases : (first : ℕ) (pieces : List (ℕ × List ℕ)) (before : Image) (k : ℕ) (o : Option (List ℕ)) → given_at first pieces k ≡ o
    → (unwrap_or o (sector_at before k) ≡ sector_at before k) ⊎ IsGivenAt first pieces k (unwrap_or o (sector_at before k))
put_cases first pieces before k None is = inl refl
put_cases first pieces before k (Some s) is = inr (given_is first pieces k s is)

pub put_may : (first : ℕ) (pieces : List (ℕ × List ℕ)) (before after : Image) → HasPut first pieces before after → MayPut first pieces before after
put_may first pieces before after has = record { size = has.size; each = each } where
  each : (k : ℕ) → (sector_at after k ≡ sector_at before k) ⊎ IsGivenAt first pieces k (sector_at after k)
  each k =
      subst (λ (s : List ℕ). (s ≡ sector_at before k) ⊎ IsGivenAt first pieces k s) (sym (has.each k)) (put_cases first pieces before k (given_at first pieces k) refl)

-- all is a front
all_front : (life : LifeOnDisk) (before after : Image) → AddsAll life.log before after → AddsFront life.log before after
all_front life before after all = record {
  changes = all.changes;
  each = all.each;
  front = length life.log.appended;
  log = all.log ∙ ap (λ (l : List ℕ). log_of_writer life.log before ++ l) (sym (take_all (length life.log.appended) life.log.appended (omega arith)));
}

module _ (states : List LastingState) (life : LifeOnDisk) (disk : DiskState) (p : PendsBehind states life disk)
    (changed : ℕ → ℕ → Bool) (first : ℕ) (pieces : List (ℕ × List ℕ)) (of_ : ArePiecesOfSlots life.system life.present life.changed changed first pieces) where
  abbrev forced : LifeOnDisk
  forced = forced_life life

  its_life : IsLifeOnDisk forced
  its_life = forced_is_life life (pending_life states life disk p)

  module _ (image : Image) (left : disk.may_leave image) (after : Image) where
    -- ---- at any moment behind the force
    module _ (puts : Then (AddsAll life.log) (MayPut first pieces) image after) where
      middle_kept : IsImageKept forced puts.middle
      middle_kept = pending_all states life disk p image left puts.middle puts.one

      writes : MayWriteSlots forced.system forced.changed puts.middle after
      writes = of_.only puts.middle after puts.two

      -- An image keeps all of the life,
      pub torn_kept : IsImageKept (forced_life life) after
      torn_kept = writes_kept forced its_life puts.middle middle_kept after writes

      -- and recovers to the same.
      pub torn_alike : ImagesAlike life.system puts.middle after
      torn_alike = written_alike forced its_life puts.middle middle_kept after writes

      torn_tells : (next : ℕ) → TellsUnits life.system (log_kept life life.log) next image → TellsUnits life.system (log_kept life (forced_writer life.log)) next after
      torn_tells next tells =
          written_tells forced its_life puts.middle middle_kept after writes next (forced_tells states life disk p image left next tells puts.middle puts.one)

    pub put_keeps : PutsBehindForce life.log first pieces image after → KeepsBehindForce life.system life.log image after
    put_keeps (inl front) = inl front
    put_keeps (inr puts) = inr (record {
      middle = puts.middle;
      all = puts.one;
      keeps = λ state recovered. recovers_alike life.system puts.middle after (torn_alike puts) (Ok state) recovered;
    })

    pub put_restart : PutsBehindForce life.log first pieces image after → restart_in (snapshot_area life.system) (is_single life.system) after ≡ Ok (Some life.now)
    put_restart (inl front) = front_restart states life disk p image left after front
    put_restart (inr puts) = let kept = torn_kept puts in kept.restart

    pub put_text : PutsBehindForce life.log first pieces image after → text_in after life.now.text ≡ life.text
    put_text (inl front) = front_text states life disk p image left after front
    put_text (inr puts) = let kept = torn_kept puts in kept.has_text

    -- It counts up to this.
    pub put_up_to : PutsBehindForce life.log first pieces image after → (next : ℕ) → TellsUnits life.system (log_kept life life.log) next image
        → (high : ℕ) → life.now.epoch ≤ high → life.now.sequence + life.system.logs ≤ high → life.now.checkpoint ≤ high → next ≤ high → CountsUpTo life.system high after
    put_up_to (inl front) next tells high epoch sequence checkpoint unit = front_up_to states life disk p image left next tells after front high epoch sequence checkpoint unit
    put_up_to (inr puts) next tells high epoch sequence checkpoint unit =
        alike_up_to life.system high puts.middle after (torn_alike puts)
        (front_up_to states life disk p image left next tells puts.middle (all_front life image puts.middle puts.one) high epoch sequence checkpoint unit)

    -- ---- once they are put

    abbrev as_may : HasPutBehindForce life.log first pieces image after → Then (AddsAll life.log) (MayPut first pieces) image after
    as_may done = record { middle = done.middle; one = done.one; two = put_may first pieces done.middle after done.two }

    -- An image has all of the life of which these slots count as changed,
    pub put_kept : HasPutBehindForce life.log first pieces image after → IsImageKept (with_changed_slots changed (forced_life life)) after
    put_kept done =
        image_with_changed forced its_life done.middle (middle_kept (as_may done)) after (writes (as_may done)) changed of_.fewer
        (λ place number dbd found below was now. of_.stand place number dbd found below was now done.middle after done.two)

    -- and tells the same next unit.
    pub put_tells : HasPutBehindForce life.log first pieces image after → (next : ℕ) → TellsUnits life.system (log_kept life life.log) next image → TellsUnits life.system (log_kept life (forced_writer life.log)) next after
    put_tells done next tells = torn_tells (as_may done) next tells

  -- Whenever a crash came since this began, the image recovers to one of the states.
  pub put_at_any_moment : (new : DiskState) → IsDisk disk → Within (PutsBehindForce life.log first pieces) disk new → (image : Image) → new.left_since disk.clock image → RecoversOne life.system states image
  put_at_any_moment new is within image left =
      ⊎_elim
      (λ was. pending_recover states life disk p image (is.now_alone image was))
      (λ (c : ComesFrom (PutsBehindForce life.log first pieces) disk image). behind_force states life disk p c.before image c.left (put_keeps c.before c.left image c.by))
      (within.from disk.clock image (omega arith) left)

  -- Once it is done, each image has all of the life behind it, and nothing pends but what lasts.
  pub put_pends : (new : DiskState) → Follows (HasPutBehindForce life.log first pieces) disk new → PendsBehind (life.lasting ∷ []) (with_changed_slots changed (forced_life life)) new
  put_pends new follows =
      settled (with_changed_slots changed forced) new (changed_is_life changed forced its_life) refl
      (λ image left. let c = follows.from image left in put_kept c.before c.left image c.by)
