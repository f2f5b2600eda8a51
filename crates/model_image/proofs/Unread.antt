-- Where only sectors are others that a restart sector leads nobody to, an image recovers to the same.
use Rattle.std.proofs.Common.{◌≡◌, ◌⊎◌, ℕ, zero, suc, ◌+◌, ◌-◌, ◌*◌, ◌<◌, ◌≤◌, List, ◌∷◌, refl, sym, ◌∙◌, ap, subst, inl, inr, ⊎_elim, arith, Some, Ok, IsSome}
use Rattle.tm_disk.specs.Disk.{Image, sector_at}
use Rattle.model_system.specs.System.{System}
use Rattle.log_records.specs.declared.record.Record.{Record}
use Rattle.restart_data.specs.declared.restart.RestartSector.{RestartSector}
use Rattle.restart_data.specs.Restart.{restart_in}
use Rattle.model_system.specs.Areas.{is_single, snapshot_area, snapshot_first, log_first, slot_size, slot_first}
use Rattle.model_image.specs.Slots.{named_by, sectors_from, slot_at}
use Rattle.model_image.specs.RecoveredState.{snapshot_from, log_in, is_later}
use Rattle.model_image.proofs.Alike.{IsSlotOf, AreasAlike, ImagesAlike}
use Rattle.model_image.proofs.Places.{snapshot_above, snapshot_below, snapshots_apart, log_above, log_below, logs_apart, both_logs, slot_above, one_slot}
use Rattle.model_image.proofs.Readings.{IsKept, restart_kept}

-- a sector of the snapshot area that the restart sector doesn't name
pub record InFreeSnapshot (system : System) (r : RestartSector) (k : ℕ) : Type 0 where
  pub low : snapshot_first system (1 - r.snapshot) ≤ k
  pub high : k < snapshot_first system (1 - r.snapshot) + snapshot_area system

-- a sector of the log area that it doesn't name; and it is of a later epoch in both images, or in none
pub record InOtherLog (system : System) (r : RestartSector) (old new : Image) (k : ℕ) : Type 0 where
  pub low : log_first system (1 - r.log) ≤ k
  pub high : k < log_first system (1 - r.log) + system.logs
  pub later : is_later r.epoch (sector_at new k) ≡ is_later r.epoch (sector_at old k)

-- a sector of a slot that a change in the snapshot or the log is of
pub record OfNamedSlot (system : System) (r : RestartSector) (image : Image) (k : ℕ) : Type 0 where
  pub place : ℕ
  pub number : ℕ
  pub slot : IsSlotOf system place number
  pub index : ℕ
  pub within : index < slot_size system place
  pub sector : k ≡ slot_first system place number + index
  pub named : (snapshot : List Record) → snapshot_from system image r ≡ Ok snapshot → IsSome (named_by snapshot (log_in system image r).records (place + 1) number)

-- it is so, or all of these sectors stay
named_or_all : (P : Type 0) (n : ℕ) (old new : Image) (at : ℕ) → ((k : ℕ) → k < n → P ⊎ (sector_at new (at + k) ≡ sector_at old (at + k))) → P ⊎ (sectors_from new at n ≡ sectors_from old at n)
named_or_all P zero old new at each = inr refl
named_or_all P (suc n) old new at each =
    ⊎_elim (λ (is : P). inl is)
    (λ (first : sector_at new (at + 0) ≡ sector_at old (at + 0)).
    ⊎_elim (λ (is : P). inl is)
    (λ (rest : sectors_from new (at + 1) n ≡ sectors_from old (at + 1) n).
    inr (ap (λ (s : List ℕ). s ∷ sectors_from new (at + 1) n) (subst (λ p. sector_at new p ≡ sector_at old p) (omega arith) first)
    ∙ ap (λ (l : List (List ℕ)). sector_at old at ∷ l) rest))
    (named_or_all P n old new (at + 1) (λ k below. subst (λ p. P ⊎ (sector_at new p ≡ sector_at old p)) (omega arith) (each (suc k) (omega (arith, below))))))
    (each 0 (omega arith))

abbrev pub IsUnread : System → RestartSector → Image → Image → ℕ → Type 0
IsUnread system r old new k =
    InFreeSnapshot system r k ⊎ (InOtherLog system r old new k ⊎ OfNamedSlot system r old k)

module _ (system : System) (r : RestartSector) (old new : Image) (kept : IsKept (snapshot_area system) r) (each : (k : ℕ) → (sector_at new k ≡ sector_at old k) ⊎ IsUnread system r old new k) where
  -- a sector that is in none of the three
  stays : (k : ℕ) → (InFreeSnapshot system r k → ⊥) → (InOtherLog system r old new k → ⊥) → (OfNamedSlot system r old k → ⊥) → sector_at new k ≡ sector_at old k
  stays k not_snapshot not_log not_slot =
      ⊎_elim (λ same. same)
      (λ unread. ⊎_elim (λ s. absurd (not_snapshot s)) (λ rest. ⊎_elim (λ l. absurd (not_log l)) (λ d. absurd (not_slot d)) rest) unread)
      (each k)

  -- below the logs no slot stands, and below the snapshots nothing
  slot_far : (k : ℕ) → k < log_first system 2 → OfNamedSlot system r old k → ⊥
  slot_far k below named = omega (arith, below, named.sector, slot_above system named.place named.number named.index)

  log_far : (k : ℕ) → k < log_first system 0 → InOtherLog system r old new k → ⊥
  log_far k below other = omega (arith, below, other.low, log_above system (1 - r.log))

  snapshot_far : (k : ℕ) → log_first system 0 ≤ k → InFreeSnapshot system r k → ⊥
  snapshot_far k above free = omega (arith, above, free.high, snapshot_below system (1 - r.snapshot) (omega arith))

  restart_stays : sector_at new 0 ≡ sector_at old 0
  restart_stays =
      stays 0
      (λ free. omega (arith, free.low, snapshot_above system (1 - r.snapshot)))
      (log_far 0 (omega arith))
      (slot_far 0 (omega arith))

  snapshot_stays : (k : ℕ) → snapshot_first system r.snapshot ≤ k → k < snapshot_first system r.snapshot + r.sectors → sector_at new k ≡ sector_at old k
  snapshot_stays k low high =
      let below : k < log_first system 0 = omega (arith, high, kept.sectors, snapshot_below system r.snapshot kept.snapshot) in
      stays k
      (λ free.
      ⊎_elim
      (λ (before : snapshot_first system r.snapshot + snapshot_area system ≤ snapshot_first system (1 - r.snapshot)). omega (arith, before, high, kept.sectors, free.low))
      (λ (behind : snapshot_first system (1 - r.snapshot) + snapshot_area system ≤ snapshot_first system r.snapshot). omega (arith, behind, low, free.high))
      (snapshots_apart system r.snapshot kept.snapshot))
      (log_far k below)
      (slot_far k (omega (arith, below, log_above system 2)))

  log_stays : (k : ℕ) → log_first system r.log ≤ k → k < log_first system r.log + system.logs → sector_at new k ≡ sector_at old k
  log_stays k low high =
      stays k
      (snapshot_far k (omega (arith, low, log_above system r.log)))
      (λ other.
      ⊎_elim
      (λ (before : log_first system r.log + system.logs ≤ log_first system (1 - r.log)). omega (arith, before, high, other.low))
      (λ (behind : log_first system (1 - r.log) + system.logs ≤ log_first system r.log). omega (arith, behind, low, other.high))
      (logs_apart system r.log kept.log))
      (slot_far k (omega (arith, high, log_below system r.log kept.log)))

  later_stays : (k : ℕ) → log_first system 0 ≤ k → k < log_first system 0 + 2 * system.logs → is_later r.epoch (sector_at new k) ≡ is_later r.epoch (sector_at old k)
  later_stays k low high =
      ⊎_elim (λ same. ap (is_later r.epoch) same)
      (λ unread.
      ⊎_elim (λ free. absurd (snapshot_far k low free))
      (λ rest. ⊎_elim (λ (other : InOtherLog system r old new k). other.later) (λ named. absurd (slot_far k (omega (arith, high, both_logs system)) named)) rest)
      unread)
      (each k)

  -- a change is of the slot, or the sector stays
  sector_stays : (snapshot : List Record) → snapshot_from system old r ≡ Ok snapshot → (place number index : ℕ) → IsSlotOf system place number → index < slot_size system place
      → IsSome (named_by snapshot (log_in system old r).records (place + 1) number) ⊎ (sector_at new (slot_first system place number + index) ≡ sector_at old (slot_first system place number + index))
  sector_stays snapshot is place number index slot within =
      let k = slot_first system place number + index in
      let above : log_first system 2 ≤ k = slot_above system place number index in
      ⊎_elim (λ same. inr same)
      (λ unread.
      ⊎_elim (λ free. absurd (snapshot_far k (omega (arith, above, log_above system 2)) free))
      (λ rest.
      ⊎_elim (λ (other : InOtherLog system r old new k). absurd (omega (arith, above, other.high, log_below system (1 - r.log) (omega arith))))
      (λ (named : OfNamedSlot system r old k).
      let one = one_slot system named.place named.number named.index place number index named.slot slot named.within within (sym named.sector) in
      inl (subst (λ p. IsSome (named_by snapshot (log_in system old r).records (p + 1) number)) one.place
      (subst (λ n. IsSome (named_by snapshot (log_in system old r).records (named.place + 1) n)) one.number (named.named snapshot is))))
      rest)
      unread)
      (each k)

  slot_stays : (snapshot : List Record) → snapshot_from system old r ≡ Ok snapshot → (place number : ℕ) → IsSlotOf system place number → IsSome (named_by snapshot (log_in system old r).records (place + 1) number) ⊎ (slot_at system new place number ≡ slot_at system old place number)
  slot_stays snapshot is place number slot =
      named_or_all (IsSome (named_by snapshot (log_in system old r).records (place + 1) number)) (slot_size system place) old new (slot_first system place number)
      (λ index within. sector_stays snapshot is place number index slot within)

  areas_alike : AreasAlike system r old new
  areas_alike = record { snapshot = snapshot_stays; log = log_stays; later = later_stays; slots = slot_stays }

-- The free snapshot area, the other log area and the slots that changes are of may be others.
pub unread_alike : (system : System) (r : RestartSector) (old new : Image) → restart_in (snapshot_area system) (is_single system) old ≡ Ok (Some r) → ((k : ℕ) → (sector_at new k ≡ sector_at old k) ⊎ IsUnread system r old new k) → ImagesAlike system old new
unread_alike system r old new is each =
    let kept = restart_kept (snapshot_area system) (is_single system) (sector_at old 0) r is in
    record {
      restart = restart_stays system r old new kept each;
      areas = λ other found. let both : Ok (Some r) ≡ Ok (Some other) = sym is ∙ found in let same : r ≡ other = cc in subst (λ (s : RestartSector). AreasAlike system s old new) same (areas_alike system r old new kept each);
    }
