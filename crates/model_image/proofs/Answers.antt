-- An image recovers to one answer.
use Rattle.std.proofs.Common.{◌≡◌, ℕ, ◌<◌, List, [], length, ◌^◌, refl, sym, ◌∙◌, ap, subst, arith, true, None, Ok}
use Rattle.std.specs.Prelude.{Option, Result}
use Rattle.std.specs.Bool.{one_answer}
use Rattle.tm_disk.specs.Disk.{Image}
use Rattle.model_system.specs.System.{System}
use Rattle.model_machine.specs.Machine.{LastingState, empty_state}
use Rattle.log_records.specs.declared.record.Record.TheVariants.{Command}
use Rattle.log_records.specs.RecordReader.{◌>>=◌}
use Rattle.log_records.specs.RecordSpelling.{record_spelling, number2, record_length}
use Rattle.restart_data.specs.declared.restart.RestartSector.{RestartSector}
use Rattle.restart_data.specs.Restart.{restart_in}
use Rattle.model_system.specs.Areas.{is_single, snapshot_area}
use Rattle.model_image.specs.CutRecords.{IsRecordCutOff}
use Rattle.model_image.specs.Faults.{Fault, in_sector}
use Rattle.model_image.specs.RecoveredState.{recovered, rest_by, state_by_restart, Recovers}

pub one_answer_of : (system : System) (image : Image) (a b : Result LastingState Fault) → Recovers system image a → Recovers system image b → a ≡ b
one_answer_of system image a b one other =
    sym one.is ∙ ap (recovered system image) (one_answer one.is_cut_off other.is_cut_off one.decides other.decides) ∙ other.is

short : record_length (Command []) < 2 ^ 16
unfolding number2
short = omega arith

some : 0 < length (record_spelling (Command []))
unfolding number2
some = omega arith

-- nothing is cut off: it is the front of any record
pub nothing_cut_off : IsRecordCutOff []
nothing_cut_off = record {
  whole = Command [];
  is_record = record { fields = omega arith; short = short };
  missing = record_spelling (Command []);
  some = some;
  begins = refl;
}

-- An image whose sector 0 is all zeros recovers to the empty state.
pub zeros_are_empty : (system : System) (image : Image) → restart_in (snapshot_area system) (is_single system) image ≡ Ok None → Recovers system image (Ok (empty_state system))
zeros_are_empty system image is = record {
  is_cut_off = true;
  decides = (λ _. subst (λ (l : List ℕ). IsRecordCutOff l) (sym (ap (rest_by system image) is)) nothing_cut_off, λ _. refl);
  is = ap (λ (read : Result (Option RestartSector) ℕ). in_sector 0 read >>= λ restart. state_by_restart system image true restart) is;
}
