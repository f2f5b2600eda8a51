-- What an image recovers to, by what is read of it step by step.
use Rattle.std.proofs.Common.{◌≡◌, ℕ, Bool, true, false, List, refl, sym, ◌∙◌, ap, subst, Some, None, Ok, Err}
use Rattle.std.specs.Prelude.{Option, Result, Decides}
use Rattle.tm_disk.specs.Disk.{Image}
use Rattle.model_system.specs.System.{System}
use Rattle.model_data.specs.declared.row.Row.{Row}
use Rattle.model_machine.specs.Machine.{LastingState}
use Rattle.log_records.specs.declared.record.Record.{Record}
use Rattle.log_records.specs.RecordReader.{◌>>=◌}
use Rattle.restart_data.specs.declared.restart.RestartSector.{RestartSector}
use Rattle.restart_data.specs.Restart.{restart_in}
use Rattle.model_system.specs.Areas.{is_single, snapshot_area, log_first}
use Rattle.model_image.specs.CutRecords.{IsRecordCutOff}
use Rattle.model_image.specs.Faults.{Fault, in_sector, or_fault, unless_fault}
use Rattle.model_image.specs.Replay.{replay_of}
use Rattle.model_image.specs.Slots.{image_rows_from}
use Rattle.model_image.specs.Snapshot.{snapshot_state}
use Rattle.model_image.specs.RecoveredState.{snapshot_from, log_in, log_from, state_from, later_sector, state_with, state_by_restart, rest_by, log_rest, Recovers}
use Rattle.model_image.proofs.Answers.{nothing_cut_off}

-- the restart sector breaks a rule
pub bad_restart : (system : System) (image : Image) (rule : ℕ) → restart_in (snapshot_area system) (is_single system) image ≡ Err rule → Recovers system image (Err (rule, 0))
bad_restart system image rule is = record {
  is_cut_off = true;
  decides = (λ _. subst (λ (l : List ℕ). IsRecordCutOff l) (sym (ap (rest_by system image) is)) nothing_cut_off, λ _. refl);
  is = ap (λ (read : Result (Option RestartSector) ℕ). in_sector 0 read >>= λ restart. state_by_restart system image true restart) is;
}

bind_err : {A B : Type 0} (a : Result A Fault) (f : A → Result B Fault) (fault : Fault) → a ≡ Err fault → (a >>= f) ≡ Err fault
bind_err a f fault is = ap (λ r. r >>= f) is

bind_ok : {A B : Type 0} (a : Result A Fault) (f : A → Result B Fault) (x : A) → a ≡ Ok x → (a >>= f) ≡ f x
bind_ok a f x is = ap (λ r. r >>= f) is

abbrev of_rows : System → Image → RestartSector → LastingState → List (List Row) → Result LastingState Fault
of_rows system image r lasting rows = unless_fault (later_sector system image r) (record lasting { rows = rows })

abbrev of_state : System → Image → RestartSector → List Record → List Record → LastingState → Result LastingState Fault
of_state system image r snapshot log lasting = image_rows_from system image snapshot log >>= λ rows. of_rows system image r lasting rows

abbrev of_log : System → Image → RestartSector → List Record → List Record → Result LastingState Fault
of_log system image r snapshot log = state_from system r snapshot log >>= λ lasting. of_state system image r snapshot log lasting

abbrev of_snapshot : System → Image → RestartSector → Bool → List Record → Result LastingState Fault
of_snapshot system image r cut_off snapshot = log_from system image r cut_off >>= λ log. of_log system image r snapshot log

module _ (system : System) (image : Image) (r : RestartSector) (is : restart_in (snapshot_area system) (is_single system) image ≡ Ok (Some r)) (cut_off : Bool) (decides : Decides cut_off (IsRecordCutOff (log_in system image r).rest)) where
  rest_is : log_rest system image ≡ (log_in system image r).rest
  rest_is = ap (rest_by system image) is

  by_steps : (answer : Result LastingState Fault) → state_with system image cut_off r ≡ answer → Recovers system image answer
  by_steps answer whole = record {
    is_cut_off = cut_off;
    decides = subst (λ (l : List ℕ). Decides cut_off (IsRecordCutOff l)) (sym rest_is) decides;
    is = ap (λ (read : Result (Option RestartSector) ℕ). in_sector 0 read >>= λ restart. state_by_restart system image cut_off restart) is ∙ whole;
  }

  -- its snapshot breaks a rule
  pub bad_snapshot : (fault : Fault) → snapshot_from system image r ≡ Err fault → Recovers system image (Err fault)
  bad_snapshot fault bad = by_steps (Err fault) (bind_err (snapshot_from system image r) (of_snapshot system image r cut_off) fault bad)

  module _ (snapshot : List Record) (read : snapshot_from system image r ≡ Ok snapshot) where
    from_snapshot : state_with system image cut_off r ≡ of_snapshot system image r cut_off snapshot
    from_snapshot = bind_ok (snapshot_from system image r) (of_snapshot system image r cut_off) snapshot read

    -- what is left of its log is no record that was cut off
    pub bad_rest : cut_off ≡ false → Recovers system image (Err (18, log_first system r.log))
    bad_rest not =
        by_steps (Err (18, log_first system r.log)) (from_snapshot ∙ bind_err (log_from system image r cut_off) (of_log system image r snapshot) (18, log_first system r.log) (ap (λ b. log_from system image r b) not))

    module _ (whole : cut_off ≡ true) where
      from_log : state_with system image cut_off r ≡ of_log system image r snapshot (log_in system image r).records
      from_log = from_snapshot ∙ bind_ok (log_from system image r cut_off) (of_log system image r snapshot) (log_in system image r).records (ap (λ b. log_from system image r b) whole)

      -- a record of its log breaks a rule
      pub bad_log : replay_of system (log_in system image r).records (snapshot_state system snapshot) ≡ None → Recovers system image (Err (19, log_first system r.log))
      bad_log none =
          by_steps (Err (19, log_first system r.log))
          (from_log ∙ bind_err (state_from system r snapshot (log_in system image r).records) (of_state system image r snapshot (log_in system image r).records) (19, log_first system r.log) (ap (or_fault (19, log_first system r.log)) none))

      module _ (lasting : LastingState) (replayed : replay_of system (log_in system image r).records (snapshot_state system snapshot) ≡ Some lasting) where
        from_state : state_with system image cut_off r ≡ of_state system image r snapshot (log_in system image r).records lasting
        from_state =
            from_log ∙ bind_ok (state_from system r snapshot (log_in system image r).records) (of_state system image r snapshot (log_in system image r).records) lasting (ap (or_fault (19, log_first system r.log)) replayed)

        -- a slot breaks a rule
        pub bad_slot : (fault : Fault) → image_rows_from system image snapshot (log_in system image r).records ≡ Err fault → Recovers system image (Err fault)
        bad_slot fault bad = by_steps (Err fault) (from_state ∙ bind_err (image_rows_from system image snapshot (log_in system image r).records) (of_rows system image r lasting) fault bad)

        module _ (rows : List (List Row)) (slots : image_rows_from system image snapshot (log_in system image r).records ≡ Ok rows) where
          from_rows : state_with system image cut_off r ≡ of_rows system image r lasting rows
          from_rows = from_state ∙ bind_ok (image_rows_from system image snapshot (log_in system image r).records) (of_rows system image r lasting) rows slots

          -- a log sector is of a later epoch
          pub bad_later : (fault : Fault) → later_sector system image r ≡ Some fault → Recovers system image (Err fault)
          bad_later fault later = by_steps (Err fault) (from_rows ∙ ap (λ (o : Option Fault). unless_fault o (record lasting { rows = rows })) later)

          -- It recovers to what its snapshot and its log come to, with the rows of its slots.
          pub good_image : later_sector system image r ≡ None → Recovers system image (Ok (record lasting { rows = rows }))
          good_image later = by_steps (Ok (record lasting { rows = rows })) (from_rows ∙ ap (λ (o : Option Fault). unless_fault o (record lasting { rows = rows })) later)
