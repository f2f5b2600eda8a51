-- An image that recovers has no log sector of a later epoch.
use Rattle.std.proofs.Common.{◌≡◌, ℕ, zero, suc, ◌+◌, ◌*◌, ◌<◌, ◌≤◌, Bool, true, false, refl, sym, ◌∙◌, ap, subst, ⊎_elim, arith, Some, None, Ok, Err}
use Rattle.std.specs.Prelude.{Option, Result, if◌then◌else◌, option_map}
use Rattle.std.proofs.lemmas.Bool.{cases_lt}
use Rattle.tm_disk.specs.Disk.{Image, sector_at}
use Rattle.model_system.specs.System.{System}
use Rattle.model_machine.specs.Machine.{LastingState}
use Rattle.log_records.specs.RecordReader.{◌>>=◌}
use Rattle.restart_data.specs.declared.restart.RestartSector.{RestartSector}
use Rattle.restart_data.specs.Restart.{restart_in}
use Rattle.model_system.specs.Areas.{is_single, snapshot_area, log_first}
use Rattle.model_image.specs.Faults.{Fault, in_sector, unless_fault}
use Rattle.model_image.specs.Slots.{image_rows_from}
use Rattle.model_image.specs.RecoveredState.{snapshot_from, log_from, state_from, is_later, first_later, later_sector, state_with, state_by_restart, Recovers}

-- ---- sector by sector

pub none_later : (n : ℕ) (image : Image) (at epoch : ℕ) → ((k : ℕ) → at ≤ k → k < at + n → is_later epoch (sector_at image k) ≡ false) → first_later n image at epoch ≡ None
none_later zero image at epoch each = refl
none_later (suc n) image at epoch each =
    ap (λ (b : Bool). if b then Some at else first_later n image (at + 1) epoch) (each at (omega arith) (omega arith))
    ∙ none_later n image (at + 1) epoch (λ k low high. each k (omega (arith, low)) (omega (arith, high)))

neither : (b : Bool) (at : ℕ) (rest : Option ℕ) → (if b then Some at else rest) ≡ None → (b ≡ false) × (rest ≡ None)
neither true at rest none = cc
neither false at rest none = (refl, none)

pub each_not_later : (n : ℕ) (image : Image) (at epoch : ℕ) → first_later n image at epoch ≡ None → (k : ℕ) → at ≤ k → k < at + n → is_later epoch (sector_at image k) ≡ false
each_not_later zero image at epoch none k low high = absurd (omega (arith, low, high))
each_not_later (suc n) image at epoch none k low high =
    let both = neither (is_later epoch (sector_at image at)) at (first_later n image (at + 1) epoch) none in
    ⊎_elim
    (λ (behind : at < k). each_not_later n image (at + 1) epoch both.1 k (omega (arith, behind)) (omega (arith, high)))
    (λ (here : k ≤ at).
    let same : at ≡ k = omega (arith, low, here) in
    subst (λ i. is_later epoch (sector_at image i) ≡ false) same both.0)
    (cases_lt at k)

-- ---- of an image that recovers

-- a step that comes to a value, and the next
pub record Bound {A B : Type 0} (one : Result A Fault) (next : A → Result B Fault) (end : B) : Type 0 where
  pub value : A
  pub is : one ≡ Ok value
  pub gives : next value ≡ Ok end

pub bound : {A B : Type 0} (one : Result A Fault) (next : A → Result B Fault) (end : B) → (one >>= next) ≡ Ok end → Bound one next end
bound (Ok x) next end is = record { value = x; is = refl; gives = is }
bound (Err e) next end is = cc

no_fault : {A : Type 0} (fault : Option Fault) (value end : A) → unless_fault fault value ≡ Ok end → fault ≡ None
no_fault None value end is = refl
no_fault (Some e) value end is = cc

no_sector : (found : Option ℕ) → option_map {U = Fault} (λ sector. (24, sector)) found ≡ None → found ≡ None
no_sector None is = refl
no_sector (Some k) is = cc

state_not_later : (system : System) (image : Image) (r : RestartSector) (cut_off : Bool) (state : LastingState) → state_with system image cut_off r ≡ Ok state → later_sector system image r ≡ None
state_not_later system image r cut_off state is =
    let one = bound (snapshot_from system image r) _ state is in
    let two = bound (log_from system image r cut_off) _ state one.gives in
    let three = bound (state_from system r one.value two.value) _ state two.gives in
    let four = bound (image_rows_from system image one.value two.value) _ state three.gives in
    no_fault (later_sector system image r) (record three.value { rows = four.value }) state four.gives

-- No sector of its logs has a later epoch than its restart sector.
pub not_later : (system : System) (image : Image) (r : RestartSector) (state : LastingState) → restart_in (snapshot_area system) (is_single system) image ≡ Ok (Some r) → Recovers system image (Ok state) → first_later (2 * system.logs) image (log_first system 0) r.epoch ≡ None
not_later system image r state is recovers =
    let whole : state_with system image recovers.is_cut_off r ≡ Ok state =
    sym (ap (λ (read : Result (Option RestartSector) ℕ). in_sector 0 read >>= λ restart. state_by_restart system image recovers.is_cut_off restart) is) ∙ recovers.is in
    no_sector (first_later (2 * system.logs) image (log_first system 0) r.epoch) (state_not_later system image r recovers.is_cut_off state whole)
