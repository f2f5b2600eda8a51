-- A snapshot's records, from its bytes.
use Rattle.std.proofs.Common.{◌≡◌, ℕ, Bool, true, false, not, List, [], ◌∷◌, refl, subst, None, Some, Ok, Err}
use Rattle.std.specs.Prelude.{Option, Result, IfOk}
use Rattle.std.specs.List.{list_all, AllByRecursion}
use Rattle.model_system.specs.System.{System}
use Rattle.log_records.specs.declared.record.Record.{Record}
use Rattle.log_records.specs.RecordSpelling.{IsLogRecord}
use Rattle.log_records.proofs.Takes.{IsBytes}
use Rattle.restart_data.specs.Rules.{first_broken, unless_rule_broken}
use Rattle.model_image.specs.CutRecords.{records_cut}
use Rattle.model_image.specs.Slots.{is_image_of}
use Rattle.model_image.specs.Snapshot.{snapshot_rules}
use Rattle.image_law.proofs.Cut.{whole_valid}
use Rattle.image_records.specs.declared.fault.RecordsFault.{RecordsFault}
use Rattle.image_records.specs.RecordAnswers.{judged_records, snapshot_of, SnapshotState, IsSnapshotStateOf, TellsRecords}
use Rattle.image_reading.specs.ReadSnapshot.{ComesFromRecords}

-- ---- what holds on every disk

unbroken_is : (o : Option ℕ) (one other : List Record) → unless_rule_broken o one ≡ Ok other → (o ≡ None) × (one ≡ other)
unbroken_is None one other e = (refl, cc)
unbroken_is (Some rule) one other e = cc

last_kept : (a b c d e f g : Bool) → first_broken ((11, a) ∷ (12, b) ∷ (13, c) ∷ (14, d) ∷ (15, e) ∷ (16, f) ∷ (17, not g) ∷ []) ≡ None → g ≡ true
last_kept true b c d e f g none = cc
last_kept false true c d e f g none = cc
last_kept false false true d e f g none = cc
last_kept false false false true e f g none = cc
last_kept false false false false true f g none = cc
last_kept false false false false false true g none = cc
last_kept false false false false false false true none = refl
last_kept false false false false false false false none = cc

pub images_kept : (system : System) (records : List Record) → first_broken (snapshot_rules system records) ≡ None → list_all (is_image_of system) records ≡ true
images_kept system records none = last_kept _ _ _ _ _ _ (list_all (is_image_of system) records) none

by_cut : (system : System) (cut : Option (List Record)) (records : List Record) (snapshot : SnapshotState) → ((found : List Record) → cut ≡ Some found → AllByRecursion IsLogRecord found) → judged_records system cut ≡ Ok records → IsSnapshotStateOf system records snapshot → ComesFromRecords system snapshot
by_cut system None records snapshot valid e of = absurd cc
by_cut system (Some found) records snapshot valid e of =
    let both = unbroken_is (first_broken (snapshot_rules system found)) found records e in
    let none : first_broken (snapshot_rules system records) ≡ None = subst (λ l. first_broken (snapshot_rules system l) ≡ None) both.1 both.0 in
    record { records = records; is_of = of; unbroken = none; images = images_kept system records none; valid = subst (λ (l : List Record). AllByRecursion IsLogRecord l) both.1 (valid found refl) }

comes_from : (system : System) (bytes : List ℕ) (records : List Record) (snapshot : SnapshotState) → IsBytes bytes → snapshot_of system bytes ≡ Ok records → IsSnapshotStateOf system records snapshot → ComesFromRecords system snapshot
comes_from system bytes records snapshot are e of = by_cut system (records_cut bytes) records snapshot (λ found is. whole_valid bytes found are is) e of

pub told_of : (system : System) (bytes : List ℕ) (result : Result SnapshotState RecordsFault) → IsBytes bytes → TellsRecords system bytes result → IfOk result (ComesFromRecords system)
told_of system bytes (Ok snapshot) are told = comes_from system bytes told.0 snapshot are told.1 told.2
told_of system bytes (Err fault) are told = tt
