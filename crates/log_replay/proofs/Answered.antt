-- What a log done again is answered.
use Rattle.std.proofs.Common.{◌≡◌, Bool, true, false, List, ℕ, ◌+◌, ◌-◌, sym, ◌∙◌, ap, subst, Some, None}
use Rattle.std.specs.Prelude.{Option, max, Err, Ok, Decides}
use Rattle.std.specs.List.{list_all}
use Rattle.model_system.specs.System.{System}
use Rattle.model_machine.specs.Machine.{LastingState}
use Rattle.log_records.specs.declared.record.Record.{Record}
use Rattle.model_image.specs.Counters.{told_unit, greatest_unit}
use Rattle.model_image.specs.CutRecords.{cut_of, IsRecordCutOff}
use Rattle.model_image.specs.Replay.{replay_of}
use Rattle.model_image.specs.Slots.{is_image_of}
use Rattle.model_image.specs.Snapshot.{snapshot_state}
use Rattle.image_records.specs.declared.fault.RecordsFault.TheVariants.{Bad}
use Rattle.image_records.specs.declared.slots.NamedSlot.{NamedSlot}
use Rattle.image_records.specs.KeptState.{KeptState}
use Rattle.image_records.specs.NamedSlots.{AreSlotsNamed}
use Rattle.image_records.specs.RecordAnswers.{SnapshotState, IsSnapshotStateOf, TellsLog, replayed_log, replayed_to}
use Rattle.log_replay.specs.ReplayRules.{lasting_in}
use Rattle.log_replay.specs.ReplayedLog.{ReplayEnds}
use Rattle.log_replay.proofs.Tables.{lasting_is}
use Rattle.log_replay.proofs.NamedBy.{are_named, are_slots}
use Rattle.log_replay.proofs.Done.{images_of, unit_is}

module _ (system : System) (records : List Record) (snapshot : SnapshotState) (bytes : List ℕ) (of : IsSnapshotStateOf system records snapshot) (b : Bool) (decides : Decides b (IsRecordCutOff (cut_of bytes).rest)) where
  pub not_cut_off : b ≡ false → TellsLog system records bytes (Err (Bad 18))
  not_cut_off is = record { is_cut_off = b; decides = decides; comes = ap (λ b. replayed_log system b bytes (snapshot_state system records)) is }

  module _ (is : b ≡ true) (cut : List Record) (cut_is : cut ≡ (cut_of bytes).records) where
    answer_is : (answer : Option LastingState) → replay_of system cut (lasting_in system snapshot.kept) ≡ answer → replayed_log system b bytes (snapshot_state system records) ≡ replayed_to answer
    answer_is answer done =
        ap (λ b. replayed_log system b bytes (snapshot_state system records)) is
        ∙ ap (λ (l : LastingState). replayed_to (replay_of system (cut_of bytes).records l)) (lasting_is system records snapshot.kept of.kept)
        ∙ ap (λ (rs : List Record). replayed_to (replay_of system rs (lasting_in system snapshot.kept))) (sym cut_is)
        ∙ ap replayed_to done

    pub breaks : replay_of system cut (lasting_in system snapshot.kept) ≡ None → TellsLog system records bytes (Err (Bad 19))
    breaks none = record { is_cut_off = b; decides = decides; comes = answer_is None none }

    pub comes_to : (kept : KeptState) (slots : List NamedSlot) (last : ℕ) → list_all (is_image_of system) records ≡ true → ReplayEnds system (replay_of system cut (lasting_in system snapshot.kept)) (Some kept) →
        AreSlotsNamed snapshot.changes cut slots → last ≡ max (snapshot.next_unit - 1) (greatest_unit cut) → TellsLog system records bytes (Ok (record { kept = kept; slots = slots; last_unit = last }))
    comes_to kept slots last images ended named unit =
        let all : AreSlotsNamed records cut slots = are_named records snapshot.changes cut slots of.changes named in
        record {
          is_cut_off = b;
          decides = decides;
          comes = (
            ended.0,
            answer_is (Some ended.0) ended.1,
            record {
              kept = ended.2;
              slots = subst (λ (rs : List Record). AreSlotsNamed records rs slots) cut_is all;
              images = are_slots system records cut slots images (images_of system cut (lasting_in system snapshot.kept) ended.0 ended.1) all;
              unit = unit_is last snapshot.next_unit (greatest_unit cut) unit ∙ ap (λ n. max n (greatest_unit cut + 1)) of.unit ∙ ap (λ (rs : List Record). max (told_unit records) (greatest_unit rs + 1)) cut_is;
            },
          );
        }
