-- Images of which the same is read recover to the same.
use Rattle.std.proofs.Common.{◌≡◌, ◌⊎◌, ℕ, zero, suc, ◌+◌, ◌*◌, ◌<◌, ◌≤◌, Bool, true, false, List, [], ◌∷◌, refl, sym, ◌∙◌, ap, subst, ⊎_elim, arith, Some, None, Ok, Err, IsSome}
use Rattle.std.specs.Prelude.{Option, Result, if◌then◌else◌, Decides, option_map, slice_get}
use Rattle.std.specs.Option.{option_map_or}
use Rattle.tm_types.specs.declared.dbd.Dbd.{Dbd}
use Rattle.tm_disk.specs.Disk.{Image, sector_at}
use Rattle.model_system.specs.System.{System}
use Rattle.model_machine.specs.Machine.{LastingState}
use Rattle.log_records.specs.declared.record.Record.{Record}
use Rattle.log_records.specs.RecordReader.{◌>>=◌}
use Rattle.log_sectors.specs.SealedSector.{opened_payload}
use Rattle.log_sectors.specs.Chain.{before, chain, joined_payloads}
use Rattle.restart_data.specs.declared.restart.RestartSector.{RestartSector}
use Rattle.restart_data.specs.Restart.{restart_of, restart_in}
use Rattle.restart_data.proofs.ImageLaws.{parts_same}
use Rattle.model_system.specs.Areas.{is_single, snapshot_area, snapshot_first, log_first, data_first}
use Rattle.model_image.specs.CutRecords.{Cut, cut_of, records_cut, IsRecordCutOff}
use Rattle.model_image.specs.Faults.{Fault, in_sector, unless_any, or_fault, unless_fault}
use Rattle.model_image.specs.Snapshot.{snapshot_rules}
use Rattle.model_image.specs.Slots.{SlotOnImage, source_of, sectors_from, slot_at, slots_by, image_slot_in, named_by, all_slots, slot_fault, rows_of_databases, image_rows_from}
use Rattle.model_image.specs.RecoveredState.{snapshot_from, log_in, log_from, state_from, is_later, first_later, later_sector, state_with, state_by_restart, recovered, rest_by, log_rest, Recovers}

-- a slot of the database at a place
pub record IsSlotOf (system : System) (place number : ℕ) : Type 0 where
  pub dbd : Dbd
  pub found : slice_get system.databases place ≡ Some dbd
  pub below : number < dbd.roots

-- Two images agree on what a restart sector names: the snapshot, the log, which sectors of the log areas have a later
-- epoch, and the sectors of those slots that no record names.
pub record AreasAlike (system : System) (r : RestartSector) (old new : Image) : Type 0 where
  pub snapshot : (k : ℕ) → snapshot_first system r.snapshot ≤ k → k < snapshot_first system r.snapshot + r.sectors → sector_at new k ≡ sector_at old k
  pub log : (k : ℕ) → log_first system r.log ≤ k → k < log_first system r.log + system.logs → sector_at new k ≡ sector_at old k
  pub later : (k : ℕ) → log_first system 0 ≤ k → k < log_first system 0 + 2 * system.logs → is_later r.epoch (sector_at new k) ≡ is_later r.epoch (sector_at old k)
  pub slots : (snapshot : List Record) → snapshot_from system old r ≡ Ok snapshot → (place number : ℕ) → IsSlotOf system place number →
      IsSome (named_by snapshot (log_in system old r).records (place + 1) number) ⊎ (slot_at system new place number ≡ slot_at system old place number)

-- Two images agree on the restart sector, and on what it names.
pub record ImagesAlike (system : System) (old new : Image) : Type 0 where
  pub restart : sector_at new 0 ≡ sector_at old 0
  pub areas : (r : RestartSector) → restart_in (snapshot_area system) (is_single system) old ≡ Ok (Some r) → AreasAlike system r old new

-- ---- parts

chain_same : (count : ℕ) (old new : Image) (at sequence epoch : ℕ) → ((k : ℕ) → at ≤ k → k < at + count → sector_at new k ≡ sector_at old k) → chain count new at sequence epoch ≡ chain count old at sequence epoch
chain_same zero old new at sequence epoch same = refl
chain_same (suc n) old new at sequence epoch same =
    ap (λ (s : List ℕ). before (opened_payload epoch sequence s) (chain n new (at + 1) (sequence + 1) epoch)) (same at (omega arith) (omega arith))
    ∙ ap (λ (rest : List (List ℕ)). before (opened_payload epoch sequence (sector_at old at)) rest)
    (chain_same n old new (at + 1) (sequence + 1) epoch (λ k low high. same k (omega (arith, low)) (omega (arith, high))))

later_same : (count : ℕ) (old new : Image) (at epoch : ℕ) → ((k : ℕ) → at ≤ k → k < at + count → is_later epoch (sector_at new k) ≡ is_later epoch (sector_at old k)) → first_later count new at epoch ≡ first_later count old at epoch
later_same zero old new at epoch same = refl
later_same (suc n) old new at epoch same =
    ap (λ (b : Bool). if b then Some at else first_later n new (at + 1) epoch) (same at (omega arith) (omega arith))
    ∙ ap (λ (rest : Option ℕ). if is_later epoch (sector_at old at) then Some at else rest)
    (later_same n old new (at + 1) epoch (λ k low high. same k (omega (arith, low)) (omega (arith, high))))

slots_same : (n number : ℕ) (f g : ℕ → SlotOnImage) → ((k : ℕ) → k < number + n → f k ≡ g k) → slots_by f n number ≡ slots_by g n number
slots_same zero number f g same = refl
slots_same (suc n) number f g same =
    ap (λ (s : SlotOnImage). s ∷ slots_by f n (number + 1)) (same number (omega arith))
    ∙ ap (λ (rest : List SlotOnImage). g number ∷ rest) (slots_same n (number + 1) f g (λ k below. same k (omega (arith, below))))

-- the sectors of a slot, by those of its database
slot_of : (system : System) (place number : ℕ) (dbd : Dbd) (image : Image) → slice_get system.databases place ≡ Some dbd → slot_at system image place number ≡ sectors_from image (data_first system place + number * dbd.sectors) dbd.sectors
slot_of system place number dbd image found =
    ap (λ d. sectors_from image (data_first system place + number * option_map_or (λ (dbd : Dbd). dbd.sectors) d 1) (option_map_or (λ (dbd : Dbd). dbd.sectors) d 1)) found

source_same : (named : Option (List ℕ)) (old new : List (List ℕ)) → IsSome named ⊎ (new ≡ old) → source_of named new ≡ source_of named old
source_same (Some bytes) old new agree = refl
source_same None old new agree = ⊎_elim (λ some. absurd cc) (λ same. ap (source_of None) same) agree

module _ (system : System) (old new : Image) (snapshot log : List Record) (agree : (place number : ℕ) → IsSlotOf system place number → IsSome (named_by snapshot log (place + 1) number) ⊎ (slot_at system new place number ≡ slot_at system old place number)) where
  slot_same : (dbd : Dbd) (place number : ℕ) → slice_get system.databases place ≡ Some dbd → number < dbd.roots → image_slot_in new snapshot log dbd (data_first system place) (place + 1) number ≡ image_slot_in old snapshot log dbd (data_first system place) (place + 1) number
  slot_same dbd place number found below =
      let was = slot_of system place number dbd old found in
      let stands = slot_of system place number dbd new found in
      ap (λ source. record { dbd = dbd; place = data_first system place + number * dbd.sectors; source = source })
      (ap (source_of (named_by snapshot log (place + 1) number)) (sym stands)
      ∙ source_same (named_by snapshot log (place + 1) number) (slot_at system old place number) (slot_at system new place number) (agree place number (record { dbd = dbd; found = found; below = below }))
      ∙ ap (source_of (named_by snapshot log (place + 1) number)) was)

  -- the databases from a place on are these
  all_slots_same : (place : ℕ) (dbds : List Dbd) → ((i : ℕ) (d : Dbd) → slice_get dbds i ≡ Some d → slice_get system.databases (place + i) ≡ Some d) → all_slots system new snapshot log place dbds ≡ all_slots system old snapshot log place dbds
  unfolding all_slots
  all_slots_same place [] are = refl
  all_slots_same place (dbd ∷ dbds) are =
      let first : slice_get system.databases place ≡ Some dbd = subst (λ k. slice_get system.databases k ≡ Some dbd) (omega arith) (are 0 dbd refl) in
      ap (λ (s : List SlotOnImage). s ∷ all_slots system new snapshot log (place + 1) dbds)
      (slots_same dbd.roots 0 (image_slot_in new snapshot log dbd (data_first system place) (place + 1)) (image_slot_in old snapshot log dbd (data_first system place) (place + 1)) (λ k below. slot_same dbd place k first (omega (arith, below))))
      ∙ ap (λ (rest : List (List SlotOnImage)). slots_by (image_slot_in old snapshot log dbd (data_first system place) (place + 1)) dbd.roots 0 ∷ rest)
      (all_slots_same (place + 1) dbds (λ i d found. subst (λ k. slice_get system.databases k ≡ Some d) (omega arith) (are (suc i) d found)))

  rows_same : image_rows_from system new snapshot log ≡ image_rows_from system old snapshot log
  rows_same = ap (λ (databases : List (List SlotOnImage)). unless_fault (slot_fault databases) (rows_of_databases databases)) (all_slots_same 0 system.databases (λ i d found. subst (λ k. slice_get system.databases k ≡ Some d) (omega arith) found))

-- ---- the whole

bind_same : {A B : Type 0} (a b : Result A Fault) (f g : A → Result B Fault) → a ≡ b → ((x : A) → b ≡ Ok x → f x ≡ g x) → (a >>= f) ≡ (b >>= g)
bind_same a (Ok x) f g is same = ap (λ r. r >>= f) is ∙ same x refl
bind_same a (Err e) f g is same = ap (λ r. r >>= f) is

log_records : (system : System) (image : Image) (r : RestartSector) (cut_off : Bool) (log : List Record) → log_from system image r cut_off ≡ Ok log → (log_in system image r).records ≡ log
log_records system image r true log is = cc
log_records system image r false log is = cc

-- the records of a snapshot are read of its sectors alone
pub snapshot_same : (system : System) (r : RestartSector) (old new : Image) → ((k : ℕ) → snapshot_first system r.snapshot ≤ k → k < snapshot_first system r.snapshot + r.sectors → sector_at new k ≡ sector_at old k) → snapshot_from system new r ≡ snapshot_from system old r
snapshot_same system r old new same =
    ap (λ (read : Result (List ℕ) Fault). read >>= λ bytes. or_fault (10, snapshot_first system r.snapshot) (records_cut bytes) >>= λ records. unless_any (snapshot_first system r.snapshot) (snapshot_rules system records) records)
    (parts_same r.sectors old new (snapshot_first system r.snapshot) r.checkpoint 0 same)

module _ (system : System) (r : RestartSector) (old new : Image) (alike : AreasAlike system r old new) where
  snapshot_alike : snapshot_from system new r ≡ snapshot_from system old r
  snapshot_alike = snapshot_same system r old new alike.snapshot

  pub log_alike : log_in system new r ≡ log_in system old r
  log_alike =
      ap (λ (payloads : List (List ℕ)). cut_of (joined_payloads payloads)) (chain_same system.logs old new (log_first system r.log) r.sequence r.epoch alike.log)

  later_alike : later_sector system new r ≡ later_sector system old r
  later_alike = ap (λ (found : Option ℕ). option_map (λ sector. (24, sector)) found) (later_same (2 * system.logs) old new (log_first system 0) r.epoch alike.later)

  log_from_alike : (cut_off : Bool) → log_from system new r cut_off ≡ log_from system old r cut_off
  log_from_alike cut_off =
      ap (λ (cut : Cut). if cut_off then Ok cut.records else Err (18, log_first system r.log)) log_alike

  pub state_alike : (cut_off : Bool) → state_with system new cut_off r ≡ state_with system old cut_off r
  state_alike cut_off =
      bind_same (snapshot_from system new r) (snapshot_from system old r) _ _ snapshot_alike (λ snapshot is_snapshot.
      bind_same (log_from system new r cut_off) (log_from system old r cut_off) _ _ (log_from_alike cut_off) (λ log is_log.
      bind_same (state_from system r snapshot log) (state_from system r snapshot log) _ _ refl (λ lasting _.
      bind_same (image_rows_from system new snapshot log) (image_rows_from system old snapshot log) _ _
      (rows_same system old new snapshot log (λ place number is.
      subst (λ (l : List Record). IsSome (named_by snapshot l (place + 1) number) ⊎ (slot_at system new place number ≡ slot_at system old place number)) (log_records system old r cut_off log is_log) (alike.slots snapshot is_snapshot place number is)))
      (λ rows _. ap (λ (fault : Option Fault). unless_fault fault (record lasting { rows = rows })) later_alike))))

in_0 : {A : Type 0} (read : Result A ℕ) (x : A) → in_sector 0 read ≡ Ok x → read ≡ Ok x
in_0 {A} (Ok y) x is = let e : y ≡ x = cc in ap (λ (z : A). Ok z) e
in_0 (Err e) x is = cc

module _ (system : System) (old new : Image) (alike : ImagesAlike system old new) where
  restart_alike : restart_in (snapshot_area system) (is_single system) new ≡ restart_in (snapshot_area system) (is_single system) old
  restart_alike = ap (restart_of (snapshot_area system) (is_single system)) alike.restart

  by_restart : (cut_off : Bool) (restart : Option RestartSector) → restart_in (snapshot_area system) (is_single system) old ≡ Ok restart → state_by_restart system new cut_off restart ≡ state_by_restart system old cut_off restart
  by_restart cut_off None is = refl
  by_restart cut_off (Some r) is = state_alike system r old new (alike.areas r is) cut_off

  pub recovered_alike : (cut_off : Bool) → recovered system new cut_off ≡ recovered system old cut_off
  recovered_alike cut_off =
      bind_same (in_sector 0 (restart_in (snapshot_area system) (is_single system) new)) (in_sector 0 (restart_in (snapshot_area system) (is_single system) old)) _ _
      (ap (in_sector 0) restart_alike)
      (λ restart is. by_restart cut_off restart (in_0 (restart_in (snapshot_area system) (is_single system) old) restart is))

  rest_where : (read : Result (Option RestartSector) ℕ) → restart_in (snapshot_area system) (is_single system) old ≡ read → rest_by system new read ≡ rest_by system old read
  rest_where (Ok (Some r)) is = ap (λ (cut : Cut). cut.rest) (log_alike system r old new (alike.areas r is))
  rest_where (Ok None) is = refl
  rest_where (Err rule) is = refl

  rest_alike : log_rest system new ≡ log_rest system old
  rest_alike = ap (rest_by system new) restart_alike ∙ rest_where (restart_in (snapshot_area system) (is_single system) old) refl

  -- What one image recovers to, the other does.
  pub recovers_alike : (answer : Result LastingState Fault) → Recovers system old answer → Recovers system new answer
  recovers_alike answer recovers = record {
    is_cut_off = recovers.is_cut_off;
    decides = subst (λ (rest : List ℕ). Decides recovers.is_cut_off (IsRecordCutOff rest)) (sym rest_alike) recovers.decides;
    is = recovered_alike recovers.is_cut_off ∙ recovers.is;
  }
