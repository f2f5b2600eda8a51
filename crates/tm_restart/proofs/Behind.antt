-- What the recovery of an image has found on its way.
use Rattle.std.proofs.Common.{◌≡◌, ℕ, ◌≤◌, Bool, true, false, ◌&&◌, List, refl, sym, ◌∙◌, ap, subst, arith, Some, None, Ok, nat_lt}
use Rattle.std.specs.Prelude.{Option, Result}
use Rattle.std.specs.Str.{bytes_eq}
use Rattle.std.specs.Prelude.{codes}
use Rattle.std.proofs.lemmas.Bool.{ltb-false, le-ltb}
use Rattle.tm_disk.specs.Disk.{Image}
use Rattle.model_system.specs.System.{System}
use Rattle.model_data.specs.declared.row.Row.{Row}
use Rattle.model_machine.specs.Machine.{LastingState}
use Rattle.log_records.specs.declared.record.Record.{Record}
use Rattle.log_records.specs.RecordReader.{◌>>=◌}
use Rattle.restart_data.specs.declared.restart.RestartSector.{RestartSector}
use Rattle.restart_data.specs.Fields.{bytes_at, number8_at}
use Rattle.restart_data.specs.Restart.{restart_in}
use Rattle.model_system.specs.Areas.{is_single, snapshot_area}
use Rattle.model_image.specs.Faults.{Fault, in_sector, unless_fault}
use Rattle.model_image.specs.Slots.{image_rows_from}
use Rattle.model_image.specs.RecoveredState.{snapshot_from, log_in, log_from, state_from, is_later, later_sector, state_with, state_by_restart, Recovers}
use Rattle.model_image.proofs.Later.{bound}

by_value : (o : Option Fault) (value end : LastingState) → unless_fault o value ≡ Ok end → value ≡ end
by_value None value end e = cc
by_value (Some f) value end e = cc

log_is : (system : System) (image : Image) (r : RestartSector) (cut_off : Bool) (log : List Record) → log_from system image r cut_off ≡ Ok log → log ≡ (log_in system image r).records
log_is system image r true log e = cc
log_is system image r false log e = cc

same_rows : (lasting end : LastingState) (rows : List (List Row)) → record lasting { rows = rows } ≡ end → rows ≡ end.rows
same_rows lasting end rows e = ap (λ (s : LastingState). s.rows) e

-- The rows are those of the slots, by the snapshot and the records of the log.
pub rows_found : (system : System) (image : Image) (r : RestartSector) (snapshot : List Record) (state : LastingState) → restart_in (snapshot_area system) (is_single system) image ≡ Ok (Some r) → snapshot_from system image r ≡ Ok snapshot → Recovers system image (Ok state)
    → image_rows_from system image snapshot (log_in system image r).records ≡ Ok state.rows
rows_found system image r snapshot state is has recovers =
    let whole : state_with system image recovers.is_cut_off r ≡ Ok state =
    sym (ap (λ (read : Result (Option RestartSector) ℕ). in_sector 0 read >>= λ restart. state_by_restart system image recovers.is_cut_off restart) is) ∙ recovers.is in
    let one = bound (snapshot_from system image r) _ state whole in
    let two = bound (log_from system image r recovers.is_cut_off) _ state one.gives in
    let three = bound (state_from system r one.value two.value) _ state two.gives in
    let four = bound (image_rows_from system image one.value two.value) _ state three.gives in
    let both : Ok one.value ≡ Ok snapshot = sym one.is ∙ has in
    let first : one.value ≡ snapshot = cc in
    let second : two.value ≡ (log_in system image r).records = log_is system image r recovers.is_cut_off two.value two.is in
    let rows : four.value ≡ state.rows = same_rows three.value state four.value (by_value (later_sector system image r) (record three.value { rows = four.value }) state four.gives) in
    subst (λ (l : List Record). image_rows_from system image snapshot l ≡ Ok state.rows) second
    (subst (λ (l : List Record). image_rows_from system image l two.value ≡ Ok state.rows) first (four.is ∙ ap (λ (x : List (List Row)). Ok x) rows))

-- A sector that isn't later than an epoch isn't later than a greater one.
later_by : (old new n : ℕ) (b : Bool) → old ≤ new → b && nat_lt old n ≡ false → b && nat_lt new n ≡ false
later_by old new n false le e = refl
later_by old new n true le e = le-ltb new n (omega (arith, le, ltb-false old n e))

pub later_more : (old new : ℕ) (sector : List ℕ) → old ≤ new → is_later old sector ≡ false → is_later new sector ≡ false
later_more old new sector le e = later_by old new (number8_at 8 sector) (bytes_eq (bytes_at 0 4 sector) (codes "IMSL")) le e
