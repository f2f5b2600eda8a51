-- A lasting step: the life that it leaves, its records, and a front of these.
use Rattle.std.proofs.Common.{◌≡◌, ℕ, ◌+◌, ◌<◌, false, true, List, [], ◌∷◌, ◌++◌, length, take, refl, sym, ◌∙◌, ap, subst, ⊎_elim, Some, None, IsSome}
use Rattle.std.specs.Prelude.{Option}
use Rattle.std.specs.List.{flat_map}
use Rattle.std.specs.Option.{option_and_then}
use Rattle.std.proofs.lemmas.Grind.{flat_map-append}
use Rattle.tm_disk.specs.Disk.{Image}
use Rattle.model_system.specs.System.{System}
use Rattle.log_records.specs.declared.record.Record.{Record}
use Rattle.log_records.specs.RecordSpelling.{record_spelling, IsLogRecord}
use Rattle.model_image.specs.Slots.{named_by}
use Rattle.model_image.specs.States.{breaks_a_rule}
use Rattle.model_image.specs.Replay.{Replay, replay_one, replay_all}
use Rattle.image_law.proofs.Replayed.{leaves_sound, replay_more}
use Rattle.disk_law.specs.Life.{LifeOnDisk, IsLifeOnDisk, EachSlot, but_rows}
use Rattle.disk_law.specs.KeptImages.{AreRecordsOf, StandsAt, beginning}
use Rattle.disk_law.specs.LifeSteps.{StepOnDisk, after_step, done_to, IsTouchedByUnits, IsStep}
use Rattle.disk_law.proofs.Naming.{unnamed_before, named_stays, all_quiet_keep}
use Rattle.disk_law.proofs.Front.{ReadsAs, all_both, spelled_both}
use Rattle.disk_law.proofs.Changing.{touched_named}

-- where records are done again on a state that breaks no rule, what they leave breaks none
pub replay_sound : (system : System) (records : List Record) (before after : Replay) → breaks_a_rule system before.lasting ≡ false → replay_all system records before ≡ Some after → breaks_a_rule system after.lasting ≡ false
replay_sound system [] before after sound is = let same : before ≡ after = cc in ap (λ (x : Replay). breaks_a_rule system x.lasting) (sym same) ∙ sound
replay_sound system (r ∷ records) before after sound is = from (replay_one system r before) refl is (λ next. replay_sound system records next after) where
  from : (o : Option Replay) → replay_one system r before ≡ o → option_and_then (replay_all system records) o ≡ Some after →
      ((next : Replay) → breaks_a_rule system next.lasting ≡ false → replay_all system records next ≡ Some after → breaks_a_rule system after.lasting ≡ false) → breaks_a_rule system after.lasting ≡ false
  from None one rest later = cc
  from (Some next) one rest later = later next (leaves_sound system r before next one) rest

module _ (life : LifeOnDisk) (l : IsLifeOnDisk life) (step : StepOnDisk) (s : IsStep life step) where
  -- The parts of the life behind it agree.
  pub step_life : IsLifeOnDisk (after_step step life)
  step_life = record {
    in_range = l.in_range;
    few = l.few;
    writer = record { first = l.writer.first; count = l.writer.count; sequence = l.writer.sequence; epoch = l.writer.epoch };
    appended = record {
      fits = s.room.fits;
      spelled = ap (λ (b : List ℕ). b ++ flat_map record_spelling step.records) l.appended.spelled ∙ sym (flat_map-append record_spelling life.appended step.records);
      records = all_both IsLogRecord life.appended step.records l.appended.records s.room.valid;
      bytes = spelled_both life.appended step.records l.appended.bytes s.room.bytes;
    };
    sound = replay_sound life.system step.records (done_to life.system life.lasting) (done_to life.system step.lasting) l.sound s.leads;
    rows = s.rows;
    slots = s.slots;
  }

  module _ (snapshot log : List Record) (a : Image) (k : AreRecordsOf life snapshot log a) where
    -- records of the step lead on from what lasted
    leads_to : (records : List Record) (after : Replay) → replay_all life.system records (done_to life.system life.lasting) ≡ Some after → replay_all life.system (log ++ records) (beginning life.system snapshot) ≡ Some after
    leads_to records after is = replay_more life.system log records (beginning life.system snapshot) ∙ ap (option_and_then (replay_all life.system records)) k.lasts ∙ is

    named_after : EachSlot life.system (λ place number. step.changed (place + 1) number ≡ true → IsSome (named_by snapshot (log ++ step.records) (place + 1) number))
    named_after place number dbd found below is =
        named_stays snapshot log step.records (place + 1) number
        (⊎_elim
        (λ (was : life.changed (place + 1) number ≡ true). k.named place number dbd found below was)
        (λ (touched : IsTouchedByUnits life.touches (place + 1) number). touched_named snapshot log life.may_sync life.touches life.committed k.slots touched.unit (place + 1) number touched.touch touched.is)
        (s.only place number dbd found below is))

    -- With all of its records these are those of the life behind it.
    pub step_records : AreRecordsOf (after_step step life) snapshot (log ++ step.records) a
    step_records = record {
      lasts = leads_to step.records (done_to life.system step.lasting) s.leads;
      slots = s.carries snapshot log k.slots;
      unnamed = λ place number dbd found below none.
          subst (λ (v : List ℕ). StandsAt life.system a place number v) (sym (s.others snapshot log k.slots (place + 1) number none))
          (k.unnamed place number dbd found below (unnamed_before snapshot log step.records (place + 1) number none));
      written = λ place number dbd found below is.
          let still = s.same place number dbd found below is in
          subst (λ (v : List ℕ). StandsAt life.system a place number v) (sym still.1) (k.written place number dbd found below still.0);
      named = named_after;
    }

    -- With a front of them what lasts is as before the step.
    pub step_front : (n : ℕ) → n < length step.records → ReadsAs life.system snapshot (log ++ take n step.records) a life.lasting
    step_front n short =
        let waits = s.wait n short in
        record {
          committed = life.committed;
          waiting = waits.waiting;
          lasts = leads_to (take n step.records) (record { lasting = but_rows life.system life.lasting; waiting = waits.waiting }) waits.is;
          named = (all_quiet_keep snapshot life.may_sync life.touches life.committed log (take n step.records) (s.quiet n short) k.slots).named;
          unnamed = λ place number dbd found below none. k.unnamed place number dbd found below (unnamed_before snapshot log (take n step.records) (place + 1) number none);
          rows = l.rows;
        }
