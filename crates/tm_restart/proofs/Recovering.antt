-- Once the restart sector is written, the image recovers to the same state, with an empty log.
use Rattle.std.proofs.Common.{◌≡◌, ℕ, ◌+◌, ◌*◌, ◌≤◌, true, List, [], length, map, refl, sym, ◌∙◌, ap, subst, arith, Some, None, Ok}
use Rattle.std.specs.Prelude.{Option, Result}
use Rattle.std.specs.Option.{option_map}
use Rattle.tm_disk.specs.Disk.{Image, sector_at}
use Rattle.model_system.specs.System.{System}
use Rattle.model_machine.specs.Machine.{LastingState}
use Rattle.log_records.specs.declared.record.Record.{Record}
use Rattle.log_records.specs.RecordReader.{◌>>=◌}
use Rattle.log_sectors.specs.Chain.{joined_payloads}
use Rattle.restart_data.specs.declared.restart.RestartSector.{RestartSector}
use Rattle.restart_data.specs.Rules.{unless_rule_broken}
use Rattle.restart_data.specs.Restart.{IsRestart, restart_in}
use Rattle.restart_data.specs.Snapshot.{snapshot_sectors_of, snapshot_in}
use Rattle.model_image.specs.SectorsAhead.{NoneAhead}
use Rattle.model_system.specs.Areas.{is_single, snapshot_area, snapshot_first, log_first}
use Rattle.model_image.specs.CutRecords.{Cut, cut_of, records_cut, IsRecordCutOff}
use Rattle.model_image.specs.Faults.{Fault, in_sector, unless_any, or_fault, unless_fault}
use Rattle.model_image.specs.Snapshot.{snapshot_rules}
use Rattle.model_image.specs.Slots.{image_rows_from}
use Rattle.model_image.specs.RecoveredState.{is_later, first_later, snapshot_from, log_in, log_from, later_sector, state_with, state_by_restart, rest_by, log_rest, Recovers}
use Rattle.model_image.proofs.Ahead.{later_ahead, ahead_same, ahead_empty}
use Rattle.model_image.proofs.Answers.{nothing_cut_off}
use Rattle.model_image.proofs.Later.{none_later, each_not_later, not_later}
use Rattle.model_image.proofs.Places.{both_logs}
use Rattle.tm_restart.specs.GivenSlots.{GivenSlots}
use Rattle.tm_restart.specs.UnpreparedImage.{IsUnprepared}
use Rattle.tm_restart.specs.ToldSnapshot.{TellsState}
use Rattle.tm_restart.specs.LifeWrites.{IsRewritten}
use Rattle.tm_restart.proofs.Behind.{rows_found, later_more}
use Rattle.tm_restart.proofs.SlotsAnew.{logs_stay, rows_again}
use Rattle.checkpointing.proofs.Begun.{nothing_cut, bind_is, of_rows, of_state, of_log, of_snapshot}

-- The restart sector of the next life, for this snapshot.
pub record IsNextLife (system : System) (r now : RestartSector) (bytes : List ℕ) : Type 0 where
  pub is : IsRestart now
  pub epoch : now.epoch ≡ r.epoch + 1
  pub sectors : now.sectors ≡ snapshot_sectors_of (length bytes)
  pub fits : now.sectors ≤ snapshot_area system

module _ (system : System) (r : RestartSector) (snapshot : List Record) (given : GivenSlots) (bytes : List ℕ) (now : RestartSector) (a e : Image)
    (before : IsUnprepared system r snapshot given now a) (done : IsRewritten system given bytes now a e) (next : IsNextLife system r now bytes)
    (records : List Record) (state : LastingState) (tells : TellsState system bytes records state) (recovers : Recovers system a (Ok state)) where
  pub renewed_restart : restart_in (snapshot_area system) (is_single system) e ≡ Ok (Some now)
  renewed_restart = done.restart (snapshot_area system) (is_single system) next.fits

  pub renewed_snapshot : snapshot_from system e now ≡ Ok records
  renewed_snapshot =
      let first : ℕ = snapshot_first system now.snapshot in
      let read : snapshot_in now.sectors e first now.checkpoint ≡ Ok bytes = ap (λ n. snapshot_in n e first now.checkpoint) next.sectors ∙ done.snapshot in
      ap (λ (read : Result (List ℕ) Fault). read >>= λ bytes. or_fault (10, first) (records_cut bytes) >>= λ found. unless_any first (snapshot_rules system found) found) read
      ∙ ap (λ (found : Option (List Record)). or_fault (10, first) found >>= λ found. unless_any first (snapshot_rules system found) found) tells.reads
      ∙ ap (λ (broken : Option ℕ). in_sector first (unless_rule_broken broken records)) tells.keep_rules

  -- no sector of the logs was of a later life
  not_before : first_later (2 * system.logs) a (log_first system 0) r.epoch ≡ None
  not_before = not_later system a r state before.restart recovers

  pub renewed_ahead : NoneAhead system e now.epoch now.sequence
  renewed_ahead =
      ahead_same system a e now.epoch now.sequence (logs_stay system r snapshot given bytes now a e before done)
      (later_ahead system a r.epoch now.epoch now.sequence (omega (arith, next.epoch)) (omega (arith, next.is.epoch.1)) not_before)

  log_is : log_in system e now ≡ record { records = []; rest = [] }
  log_is =
      ap (λ (payloads : List (List ℕ)). cut_of (joined_payloads payloads)) (ahead_empty system e now.epoch now.sequence now.log renewed_ahead next.is.log (omega (arith, next.is.sequence.1)))
      ∙ nothing_cut

  none_is_later : later_sector system e now ≡ None
  none_is_later =
      ap (option_map (λ sector. (24, sector)))
      (none_later (2 * system.logs) e (log_first system 0) now.epoch (λ k low high.
      ap (is_later now.epoch) (logs_stay system r snapshot given bytes now a e before done k low (omega (arith, high, both_logs system)))
      ∙ later_more r.epoch now.epoch (sector_at a k) (omega (arith, next.epoch)) (each_not_later (2 * system.logs) a (log_first system 0) r.epoch not_before k low high)))

  rows_are : image_rows_from system e records [] ≡ Ok state.rows
  rows_are = rows_again system r snapshot given bytes now a e before done records tells.unnamed state.rows (rows_found system a r snapshot state before.restart before.has_snapshot recovers)

  state_is : state_with system e true now ≡ Ok state
  state_is =
      let bare : LastingState = record state { rows = map (λ dbd. []) system.databases } in
      bind_is (snapshot_from system e now) (of_snapshot system e now) records renewed_snapshot
      ∙ bind_is (log_from system e now true) (of_log system e now records) [] (ap (λ (cut : Cut). Ok cut.records) log_is)
      ∙ ap (of_state system e now records []) tells.told
      ∙ bind_is (image_rows_from system e records []) (of_rows system e now bare) state.rows rows_are
      ∙ ap (λ (fault : Option Fault). unless_fault fault state) none_is_later

  -- It recovers to the same state.
  pub renewed_recovers : Recovers system e (Ok state)
  renewed_recovers =
      let rest : log_rest system e ≡ [] = ap (rest_by system e) renewed_restart ∙ ap (λ (cut : Cut). cut.rest) log_is in
      record {
        is_cut_off = true;
        decides = (λ _. subst (λ (l : List ℕ). IsRecordCutOff l) (sym rest) nothing_cut_off, λ _. refl);
        is = ap (λ (read : Result (Option RestartSector) ℕ). in_sector 0 read >>= λ restart. state_by_restart system e true restart) renewed_restart ∙ state_is;
      }
