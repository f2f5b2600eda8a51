-- Where the areas stand: none reaches into another.
use Rattle.std.proofs.Common.{◌≡◌, ◌⊎◌, ℕ, zero, suc, ◌+◌, ◌-◌, ◌*◌, ◌<◌, ◌≤◌, List, [], ◌∷◌, length, take, drop, refl, sym, ◌∙◌, ap, subst, inl, inr, ⊎_elim, arith, max, Some}
use Rattle.std.specs.Prelude.{slice_get, sum_by}
use Rattle.std.specs.List.{AllByRecursion}
use Rattle.std.specs.Option.{option_map_or}
use Rattle.std.proofs.lemmas.Bool.{cases_lt}
use Rattle.std.proofs.lemmas.List.{drop-drop}
use Rattle.std.proofs.lemmas.Nat.{mul-add-lt, same_from_place}
use Rattle.std.proofs.lemmas.Option.{slice_get_within}
use Rattle.std.proofs.lemmas.List.Sums.{sum_by-cons}
use Rattle.tm_types.specs.declared.dbd.Dbd.{Dbd}
use Rattle.tm_disk.specs.Disk.{Image, sector_at}
use Rattle.model_system.specs.System.{System}
use Rattle.model_system.specs.Areas.{most_sectors_from, most_sectors, snapshot_area, snapshot_first, log_first, data_first, slot_size, slot_first}
use Rattle.seg_store.specs.DataSectors.{data_sector, slot_spelling}
use Rattle.model_image.specs.Slots.{sectors_from}
use Rattle.model_image.proofs.Alike.{IsSlotOf}

-- ---- the most sectors that a slot has

pub most_above : (most : ℕ) (dbds : List Dbd) → most ≤ most_sectors_from most dbds
most_above most [] = omega arith
most_above most (dbd ∷ dbds) = omega (arith, most_above (max most dbd.sectors) dbds)

most_of_each : (most : ℕ) (dbds : List Dbd) (bound : ℕ) → most_sectors_from most dbds ≤ bound → AllByRecursion (λ dbd. dbd.sectors ≤ bound) dbds
most_of_each most [] bound within = tt
most_of_each most (dbd ∷ dbds) bound within =
    (omega (arith, within, most_above (max most dbd.sectors) dbds), most_of_each (max most dbd.sectors) dbds bound within)

pub most_has : (system : System) → AllByRecursion (λ dbd. dbd.sectors ≤ most_sectors system) system.databases
most_has system = most_of_each 1 system.databases (most_sectors system) (omega arith)

pub most_one : (system : System) → 1 ≤ most_sectors system
most_one system = most_above 1 system.databases

-- where each database has at most so many, a slot of the system has
pub most_within : (most : ℕ) (dbds : List Dbd) (bound : ℕ) → most ≤ bound → AllByRecursion (λ dbd. dbd.sectors ≤ bound) dbds → most_sectors_from most dbds ≤ bound
most_within most [] bound within all = within
most_within most (dbd ∷ dbds) bound within all =
    most_within (max most dbd.sectors) dbds bound (omega (arith, within, all.0)) all.1

-- ---- the areas of snapshots and logs, with the numbers 0 and 1

by_area : (P : ℕ → Type 0) (area : ℕ) → area ≤ 1 → P 0 → P 1 → P area
by_area P zero le first second = first
by_area P (suc zero) le first second = second
by_area P (suc (suc n)) le first second = absurd (omega (arith, le))

pub snapshot_above : (system : System) (area : ℕ) → 65 ≤ snapshot_first system area
snapshot_above system area = omega arith

pub snapshot_below : (system : System) (area : ℕ) → area ≤ 1 → snapshot_first system area + snapshot_area system ≤ log_first system 0
snapshot_below system area le = by_area (λ a. snapshot_first system a + snapshot_area system ≤ log_first system 0) area le (omega arith) (omega arith)

pub snapshots_apart : (system : System) (area : ℕ) → area ≤ 1 → (snapshot_first system area + snapshot_area system ≤ snapshot_first system (1 - area)) ⊎ (snapshot_first system (1 - area) + snapshot_area system ≤ snapshot_first system area)
snapshots_apart system area le =
    by_area (λ a. (snapshot_first system a + snapshot_area system ≤ snapshot_first system (1 - a)) ⊎ (snapshot_first system (1 - a) + snapshot_area system ≤ snapshot_first system a)) area le
    (inl (omega arith)) (inr (omega arith))

pub log_above : (system : System) (area : ℕ) → log_first system 0 ≤ log_first system area
log_above system area = omega arith

pub log_below : (system : System) (area : ℕ) → area ≤ 1 → log_first system area + system.logs ≤ log_first system 2
log_below system area le = by_area (λ a. log_first system a + system.logs ≤ log_first system 2) area le (omega arith) (omega arith)

pub logs_apart : (system : System) (area : ℕ) → area ≤ 1 → (log_first system area + system.logs ≤ log_first system (1 - area)) ⊎ (log_first system (1 - area) + system.logs ≤ log_first system area)
logs_apart system area le =
    by_area (λ a. (log_first system a + system.logs ≤ log_first system (1 - a)) ⊎ (log_first system (1 - a) + system.logs ≤ log_first system a)) area le
    (inl (omega arith)) (inr (omega arith))

pub both_logs : (system : System) → log_first system 2 ≡ log_first system 0 + 2 * system.logs
both_logs system = omega arith

-- ---- the sectors of slots

sums_before : (f : Dbd → ℕ) (dbds : List Dbd) (i j : ℕ) (dbd : Dbd) → slice_get dbds i ≡ Some dbd → i < j → sum_by f (take i dbds) + f dbd ≤ sum_by f (take j dbds)
sums_before f [] i j dbd found before = absurd (omega (arith, slice_get_within [] i dbd found))
sums_before f (x ∷ dbds) i zero dbd found before = absurd (omega (arith, before))
sums_before f (x ∷ dbds) zero (suc j) dbd found before =
    let same : x ≡ dbd = cc in
    let all : sum_by f (take (suc j) (x ∷ dbds)) ≡ f x + sum_by f (take j dbds) = sum_by-cons f x (take j dbds) in
    let none : sum_by f (take zero (x ∷ dbds)) ≡ 0 = refl in
    omega (arith, ap f same, all, none)
sums_before f (x ∷ dbds) (suc i) (suc j) dbd found before =
    let all : sum_by f (take (suc j) (x ∷ dbds)) ≡ f x + sum_by f (take j dbds) = sum_by-cons f x (take j dbds) in
    let some : sum_by f (take (suc i) (x ∷ dbds)) ≡ f x + sum_by f (take i dbds) = sum_by-cons f x (take i dbds) in
    omega (arith, sums_before f dbds i j dbd found (omega (arith, before)), all, some)

pub size_of : (system : System) (place : ℕ) (dbd : Dbd) → slice_get system.databases place ≡ Some dbd → slot_size system place ≡ dbd.sectors
size_of system place dbd found = ap (λ d. option_map_or (λ (dbd : Dbd). dbd.sectors) d 1) found

-- the slots of a database stand before those of a later one
pub slots_before : (system : System) (i j : ℕ) (dbd : Dbd) → slice_get system.databases i ≡ Some dbd → i < j → data_first system i + dbd.roots * dbd.sectors ≤ data_first system j
slots_before system i j dbd found before = omega (arith, sums_before (λ d. d.roots * d.sectors) system.databases i j dbd found before)

pub slot_above : (system : System) (place number index : ℕ) → log_first system 2 ≤ slot_first system place number + index
slot_above system place number index = omega arith

-- the sectors of a slot stand among those of all slots
pub in_slot : (roots size number index : ℕ) → number < roots → index < size → number * size + index < roots * size
in_slot roots size number index below within = omega (arith, mul-add-lt number size index roots below within)

-- and so before those of a later database
ends_before : (system : System) (p n i q : ℕ) (slot : IsSlotOf system p n) → i < slot_size system p → p < q → slot_first system p n + i < data_first system q
ends_before system p n i q slot within before =
    let all : slot.dbd.roots * slot_size system p ≡ slot.dbd.roots * slot.dbd.sectors = ap (λ s. slot.dbd.roots * s) (size_of system p slot.dbd slot.found) in
    omega (arith, in_slot slot.dbd.roots (slot_size system p) n i slot.below within, all, slots_before system p q slot.dbd slot.found before)

pub slot_below : (system : System) (place number index : ℕ) → IsSlotOf system place number → index < slot_size system place → slot_first system place number + index < data_first system (length system.databases)
slot_below system place number index slot within =
    ends_before system place number index (length system.databases) slot within (slice_get_within system.databases place slot.dbd slot.found)

-- two slots with one sector are one
pub record IsSame (p n i q m j : ℕ) : Type 0 where
  pub place : p ≡ q
  pub number : n ≡ m
  pub index : i ≡ j

in_one : (system : System) (p n i m j : ℕ) → i < slot_size system p → j < slot_size system p → slot_first system p n + i ≡ slot_first system p m + j → IsSame p n i p m j
in_one system p n i m j within also same =
    let both = same_from_place n i m j (slot_size system p) within also (omega (arith, same)) in
    record { place = refl; number = both.0; index = both.1 }

pub one_slot : (system : System) (p n i q m j : ℕ) → IsSlotOf system p n → IsSlotOf system q m → i < slot_size system p → j < slot_size system q → slot_first system p n + i ≡ slot_first system q m + j → IsSame p n i q m j
one_slot system p n i q m j one other within also same =
    ⊎_elim
    (λ (before : p < q). absurd (omega (arith, same, ends_before system p n i q one within before)))
    (λ (behind : q ≤ p).
    ⊎_elim
    (λ (before : q < p). absurd (omega (arith, same, ends_before system q m j p other also before)))
    (λ (other_way : p ≤ q).
    let place : q ≡ p = omega (arith, behind, other_way) in
    subst (λ x. IsSame p n i x m j) (sym place)
    (in_one system p n i m j within (subst (λ x. j < slot_size system x) place also) (same ∙ ap (λ x. slot_first system x m + j) place)))
    (cases_lt q p))
    (cases_lt p q)

-- ---- the sectors of one slot

-- a law of so many places, from the next one on
shifted : (P : ℕ → Type 0) (at n : ℕ) → ((k : ℕ) → k < suc n → P (at + k)) → (k : ℕ) → k < n → P (at + 1 + k)
shifted P at n all k below = subst P (omega arith) (all (suc k) (omega (arith, below)))

pub slot_same : (n : ℕ) (old new : Image) (at : ℕ) → ((k : ℕ) → k < n → sector_at new (at + k) ≡ sector_at old (at + k)) → sectors_from new at n ≡ sectors_from old at n
slot_same zero old new at same = refl
slot_same (suc n) old new at same =
    ap (λ (s : List ℕ). s ∷ sectors_from new (at + 1) n) (subst (λ p. sector_at new p ≡ sector_at old p) (omega arith) (same 0 (omega arith)))
    ∙ ap (λ (l : List (List ℕ)). sector_at old at ∷ l) (slot_same n old new (at + 1) (shifted (λ p. sector_at new p ≡ sector_at old p) at n same))

piece_behind : (k : ℕ) (bytes : List ℕ) → drop (4000 * k) (drop 4000 bytes) ≡ drop (4000 * suc k) bytes
piece_behind k bytes = drop-drop (4000 * k) 4000 bytes ∙ ap (λ n. drop n bytes) (omega arith)

pub slot_is : (n : ℕ) (image : Image) (at : ℕ) (bytes : List ℕ) → ((k : ℕ) → k < n → sector_at image (at + k) ≡ data_sector (take 4000 (drop (4000 * k) bytes))) → sectors_from image at n ≡ slot_spelling n bytes
slot_is zero image at bytes are = refl
slot_is (suc n) image at bytes are =
    ap (λ (s : List ℕ). s ∷ sectors_from image (at + 1) n) (subst (λ p. sector_at image p ≡ data_sector (take 4000 bytes)) (omega arith) (are 0 (omega arith)))
    ∙ ap (λ (l : List (List ℕ)). data_sector (take 4000 bytes) ∷ l)
    (slot_is n image (at + 1) (drop 4000 bytes) (λ k below.
    subst (λ p. sector_at image p ≡ data_sector (take 4000 (drop (4000 * k) (drop 4000 bytes)))) (omega arith)
    (are (suc k) (omega (arith, below)) ∙ ap (λ (l : List ℕ). data_sector (take 4000 l)) (sym (piece_behind k bytes)))))
