-- The snapshot and the log of an image, by what reading them and doing the log again answer.
use Rattle.std.proofs.Common.{◌≡◌, ◌⊎◌, ℕ, Bool, true, false, List, refl, sym, subst, inl, inr, ⊎_elim, Some, None, Ok, Err}
use Rattle.std.specs.Prelude.{Option, Result, IfOk, Decides, if◌then◌else◌}
use Rattle.std.specs.List.{list_all, AllByRecursion}
use Rattle.tm_disk.specs.Disk.{Image}
use Rattle.model_system.specs.System.{System}
use Rattle.model_machine.specs.Machine.{LastingState}
use Rattle.log_records.specs.declared.record.Record.{Record}
use Rattle.log_records.specs.RecordReader.{◌>>=◌}
use Rattle.log_records.specs.RecordSpelling.{IsLogRecord}
use Rattle.log_records.proofs.Takes.{IsBytes}
use Rattle.restart_data.specs.declared.restart.RestartSector.{RestartSector}
use Rattle.restart_data.specs.Restart.{restart_in}
use Rattle.restart_data.specs.Rules.{first_broken, unless_rule_broken}
use Rattle.restart_data.specs.Snapshot.{snapshot_in}
use Rattle.model_system.specs.Areas.{is_single, snapshot_area, snapshot_first, log_first}
use Rattle.model_image.specs.Counters.{next_sequence}
use Rattle.model_image.specs.CutRecords.{cut_of, records_cut, IsRecordCutOff}
use Rattle.model_image.specs.Faults.{Fault, in_sector, unless_any, or_fault}
use Rattle.model_image.specs.Slots.{is_image_of}
use Rattle.model_image.specs.RecoveredState.{snapshot_from, log_in, first_later, Recovers}
use Rattle.model_image.specs.Replay.{replay_of}
use Rattle.model_image.specs.Snapshot.{snapshot_state, snapshot_rules}
use Rattle.image_law.proofs.Cut.{all_valid}
use Rattle.image_law.proofs.CountsReplayed.{log_counted}
use Rattle.image_law.proofs.Told.{snapshot_counted}
use Rattle.tm_restart.proofs.Replayed.{snapshot_named, log_named}
use Rattle.image_records.specs.RecordAnswers.{SnapshotState, ReplayedState, replayed_to, IsBehindLog, TellsLog}
use Rattle.image_records.specs.declared.fault.RecordsFault.{RecordsFault}
use Rattle.image_records.specs.declared.fault.RecordsFault.TheVariants.{Bad}
use Rattle.image_reading.specs.declared.fault.ReadFault.{ReadFault}
use Rattle.image_reading.specs.declared.fault.ReadFault.TheVariants as faults
use Rattle.image_reading.specs.ReadSnapshot.{TellsSnapshotOf, IsSnapshotRead}
use Rattle.image_reading.proofs.Told.{images_kept}
use Rattle.image_reading.specs.ReadLog.{log_bytes, IsCutInto, ComesFromBytes}
use Rattle.tm_restart.specs.declared.replaying.Reread.{Reread}
use Rattle.tm_restart.specs.ReplayedImage.{ComesBehind, IsReplayed, TellsReplay}
use Rattle.tm_restart.proofs.Judged.{bad_snapshot, bad_rest, bad_log}

good_by : (cut : Bool) (o : Option LastingState) (lasting : LastingState) → (if cut then replayed_to o else Err 18) ≡ Ok lasting → (cut ≡ true) × (o ≡ Some lasting)
good_by true (Some found) lasting e = (refl, cc)
good_by true None lasting e = cc
good_by false o lasting e = cc

-- which of the two rules is broken
pub record NoReplay (cut : Bool) (o : Option LastingState) (rule : ℕ) : Type 0 where
  pub which : ((cut ≡ false) × (rule ≡ 18)) ⊎ ((cut ≡ true) × (o ≡ None) × (rule ≡ 19))

bad_by : (cut : Bool) (o : Option LastingState) (rule : ℕ) → (if cut then replayed_to o else Err 18) ≡ Err rule → NoReplay cut o rule
bad_by true (Some found) rule e = absurd cc
bad_by true None rule e = let same : 19 ≡ rule = cc in record { which = inr (refl, refl, sym same) }
bad_by false o rule e = let same : 18 ≡ rule = cc in record { which = inl (refl, sym same) }

module _ (system : System) (image : Image) (r : RestartSector) where
  pub reread_good : (snapshot : List Record) → snapshot_from system image r ≡ Ok snapshot → (replayed : ReplayedState) (read : Reread) → read.replayed ≡ replayed → read.next_sequence ≡ next_sequence system image r → read.later ≡ first_later system.logs image (log_first system r.log) r.epoch → TellsLog system snapshot (log_bytes system image r) (Ok replayed) → IsReplayed system image r read
  reread_good snapshot has replayed read same sequence later told =
      let lasting = told.comes.0 in
      let both = good_by told.is_cut_off (replay_of system (log_in system image r).records (snapshot_state system snapshot)) lasting told.comes.1 in
      record {
        snapshot = snapshot;
        has = has;
        cut_off = told.decides.0 both.0;
        lasting = lasting;
        replays = both.1;
        behind = subst (λ (state : ReplayedState). IsBehindLog system snapshot (log_in system image r).records lasting state) (sym same) told.comes.2;
        sequence = sequence;
        later = later;
      }

  module _ (is : restart_in (snapshot_area system) (is_single system) image ≡ Ok (Some r)) where
    pub reread_bad : (snapshot : List Record) (rule : ℕ) → snapshot_from system image r ≡ Ok snapshot → TellsLog system snapshot (log_bytes system image r) (Err (Bad rule)) → Recovers system image (Err (rule, log_first system r.log))
    reread_bad snapshot rule has told =
        let cut = told.is_cut_off in
        let o = replay_of system (log_in system image r).records (snapshot_state system snapshot) in
        ⊎_elim
        (λ rest. subst (λ (n : ℕ). Recovers system image (Err (n, log_first system r.log))) (sym rest.1) (bad_rest system image r is cut told.decides snapshot has rest.0))
        (λ none. subst (λ (n : ℕ). Recovers system image (Err (n, log_first system r.log))) (sym none.2) (bad_log system image r is cut told.decides snapshot has none.0 none.1))
        (bad_by cut o rule told.comes).which

    pub told_fault : (cut : Bool) → Decides cut (IsRecordCutOff (log_in system image r).rest) → (fault : ReadFault) → TellsSnapshotOf system r image (Err fault) → TellsReplay system r image (Err fault)
    told_fault cut decides (faults.Bad rule sector) told = bad_snapshot system image r is cut decides (rule, sector) told
    told_fault cut decides faults.Disk told = tt
    told_fault cut decides faults.Memory told = tt

-- ---- the snapshot's changes are of slots

unbroken_of : (system : System) (first : ℕ) (o : Option ℕ) (one other : List Record) → in_sector first (unless_rule_broken o one) ≡ Ok other → (o ≡ None) × (one ≡ other)
unbroken_of system first None one other e = (refl, cc)
unbroken_of system first (Some rule) one other e = cc

kept_by : (system : System) (first : ℕ) (found : Option (List Record)) (records : List Record) → (or_fault (10, first) found >>= λ l. unless_any first (snapshot_rules system l) l) ≡ Ok records → first_broken (snapshot_rules system records) ≡ None
kept_by system first None records e = cc
kept_by system first (Some l) records e =
    let both = unbroken_of system first (first_broken (snapshot_rules system l)) l records e in
    subst (λ (x : List Record). first_broken (snapshot_rules system x) ≡ None) both.1 both.0

snapshot_kept : (system : System) (first : ℕ) (read : Result (List ℕ) Fault) (records : List Record) → (read >>= λ bytes. or_fault (10, first) (records_cut bytes) >>= λ l. unless_any first (snapshot_rules system l) l) ≡ Ok records → first_broken (snapshot_rules system records) ≡ None
snapshot_kept system first (Ok bytes) records e = kept_by system first (records_cut bytes) records e
snapshot_kept system first (Err fault) records e = cc

pub told_log : (system : System) (image : Image) (r : RestartSector) (snapshot : SnapshotState) (read : IsSnapshotRead system image r snapshot) → list_all (is_image_of system) read.records ≡ true
told_log system image r snapshot read =
    images_kept system read.records (snapshot_kept system (snapshot_first system r.snapshot) (snapshot_in r.sectors image (snapshot_first system r.snapshot) r.checkpoint) read.records read.has)

-- ---- what holds on every disk

comes_behind : (system : System) (bytes : List ℕ) (snapshot : List Record) (replayed : ReplayedState) → IsBytes bytes → AllByRecursion IsLogRecord snapshot → TellsLog system snapshot bytes (Ok replayed) → ComesBehind system replayed
comes_behind system bytes snapshot replayed are valid told =
    let lasting = told.comes.0 in
    let replays = (good_by told.is_cut_off (replay_of system (cut_of bytes).records (snapshot_state system snapshot)) lasting told.comes.1).1 in
    let named = log_named system (cut_of bytes).records (snapshot_state system snapshot) lasting (snapshot_named system snapshot) replays in
    record {
      snapshot = snapshot;
      log = (cut_of bytes).records;
      lasting = lasting;
      behind = told.comes.2;
      counted = log_counted system (cut_of bytes).records (snapshot_state system snapshot) lasting (all_valid bytes are) (snapshot_counted system snapshot valid) replays;
      named = record { terminals = named.terminals; outputs = named.outputs; conversations = named.conversations; codes = named.codes };
    }

pub behind_of : (system : System) (log : List Record) (is_cut_off : Bool) (snapshot : List Record) (result : Result ReplayedState RecordsFault) → (from : ComesFromBytes log is_cut_off) → AllByRecursion IsLogRecord snapshot → ((bytes : List ℕ) → IsCutInto bytes log is_cut_off → TellsLog system snapshot bytes result) → IfOk result (ComesBehind system)
behind_of system log is_cut_off snapshot (Ok replayed) from valid told = comes_behind system from.bytes snapshot replayed from.are valid (told from.bytes from.cut)
behind_of system log is_cut_off snapshot (Err fault) from valid told = tt
