-- Which log sectors a life has still to write.
use Rattle.std.proofs.Common.{◌≡◌, ◌⊎◌, ℕ, zero, suc, ◌+◌, ◌-◌, ◌*◌, ◌<◌, ◌≤◌, ◌^◌, true, false, List, [], refl, sym, ◌∙◌, ap, subst, ⊎_elim, arith, Some, None, IsSome, nat_lt}
use Rattle.std.specs.Prelude.{Option, codes}
use Rattle.std.specs.Str.{bytes_eq}
use Rattle.std.proofs.lemmas.Bool.{lt-ltb, and_from}
use Rattle.std.proofs.lemmas.Nat.{from_be_bytes-to_be_bytes_8}
use Rattle.std.proofs.lemmas.Slice.Eq.{bytes_eq-Decides}
use Rattle.tm_disk.specs.Disk.{Image, sector_at}
use Rattle.model_system.specs.System.{System}
use Rattle.log_sectors.specs.SealedSector.{header, sealed, log_payload_of, opened_payload, HoldsPayload}
use Rattle.log_sectors.specs.Chain.{before, chain}
use Rattle.log_sectors.proofs.Sealing.{opened_cases}
use Rattle.restart_data.specs.Fields.{bytes_at, number8_at}
use Rattle.model_system.specs.Areas.{log_first}
use Rattle.model_image.specs.SectorsAhead.{NoneAhead}
use Rattle.model_image.specs.RecoveredState.{is_later, first_later}
use Rattle.model_image.proofs.Later.{each_not_later}
use Rattle.model_image.proofs.Places.{log_above, log_below, both_logs}

-- ---- what a sealed sector says

letters_in : (epoch sequence : ℕ) (payload : List ℕ) → bytes_at 0 4 (sealed epoch sequence payload) ≡ codes "IMSL"
unfolding sealed header
letters_in epoch sequence payload = refl

epoch_in : (epoch sequence : ℕ) (payload : List ℕ) → epoch < 2 ^ 64 → number8_at 8 (sealed epoch sequence payload) ≡ epoch
unfolding sealed header number8_at
epoch_in epoch sequence payload lt = from_be_bytes-to_be_bytes_8 epoch lt

sequence_in : (epoch sequence : ℕ) (payload : List ℕ) → sequence < 2 ^ 64 → number8_at 16 (sealed epoch sequence payload) ≡ sequence
unfolding sealed header number8_at
sequence_in epoch sequence payload lt = from_be_bytes-to_be_bytes_8 sequence lt

none_some : (o : Option (List ℕ)) → o ≡ None → IsSome o → ⊥
none_some None none some = cc
none_some (Some x) none some = cc

-- A log sector of one sequence is none of another.
pub opened_one : (epoch one other : ℕ) (sector : List ℕ) → one < 2 ^ 64 → other < 2 ^ 64 → IsSome (opened_payload epoch one sector) → (one ≡ other → ⊥) → opened_payload epoch other sector ≡ None
opened_one epoch one other sector lt other_lt some apart =
    ⊎_elim (λ none. none)
    (λ (o : HoldsPayload epoch other (log_payload_of sector) sector).
    ⊎_elim
    (λ (none : opened_payload epoch one sector ≡ None). absurd (none_some (opened_payload epoch one sector) none some))
    (λ (h : HoldsPayload epoch one (log_payload_of sector) sector).
    absurd (apart (sym (sequence_in epoch one (log_payload_of sector) lt) ∙ ap (number8_at 16) (sym h.spelled ∙ o.spelled) ∙ sequence_in epoch other (log_payload_of sector) other_lt)))
    (opened_cases epoch one sector))
    (opened_cases epoch other sector)

-- A log sector of an epoch is later than one before.
pub opened_later : (old epoch sequence : ℕ) (sector : List ℕ) → old < epoch → epoch < 2 ^ 64 → is_later old sector ≡ false → opened_payload epoch sequence sector ≡ None
opened_later old epoch sequence sector lt small not =
    ⊎_elim (λ none. none)
    (λ (h : HoldsPayload epoch sequence (log_payload_of sector) sector).
    let letters : bytes_eq (bytes_at 0 4 sector) (codes "IMSL") ≡ true =
    (bytes_eq-Decides (bytes_at 0 4 sector) (codes "IMSL")).1 (ap (bytes_at 0 4) h.spelled ∙ letters_in epoch sequence (log_payload_of sector)) in
    let behind : nat_lt old (number8_at 8 sector) ≡ true =
    lt-ltb old (number8_at 8 sector) (subst (λ n. old < n) (sym (ap (number8_at 8) h.spelled ∙ epoch_in epoch sequence (log_payload_of sector) small)) lt) in
    let is : is_later old sector ≡ true = and_from (bytes_eq (bytes_at 0 4 sector) (codes "IMSL")) (nat_lt old (number8_at 8 sector)) letters behind in
    let clash : true ≡ false = sym is ∙ not in
    absurd (cc))
    (opened_cases epoch sequence sector)

-- ---- both log areas

-- Where no sector is of a later epoch, none is ahead of a later epoch.
pub later_ahead : (system : System) (image : Image) (old epoch sequence : ℕ) → old < epoch → epoch < 2 ^ 64 → first_later (2 * system.logs) image (log_first system 0) old ≡ None → NoneAhead system image epoch sequence
later_ahead system image old epoch sequence lt small none = record {
  none = λ x n below from fits.
      opened_later old epoch n (sector_at image (log_first system 0 + x)) lt small
      (each_not_later (2 * system.logs) image (log_first system 0) old none (log_first system 0 + x) (omega arith) (omega (arith, below)));
}

pub ahead_more : (system : System) (image : Image) (epoch sequence more : ℕ) → sequence ≤ more → NoneAhead system image epoch sequence → NoneAhead system image epoch more
ahead_more system image epoch sequence more le ahead = record { none = λ x n below from fits. ahead.none x n below (omega (arith, le, from)) fits }

-- Images with the same logs have the same ahead.
pub ahead_same : (system : System) (old new : Image) (epoch sequence : ℕ) → ((k : ℕ) → log_first system 0 ≤ k → k < log_first system 2 → sector_at new k ≡ sector_at old k) → NoneAhead system old epoch sequence → NoneAhead system new epoch sequence
ahead_same system old new epoch sequence same ahead = record {
  none = λ x n below from fits.
      ap (λ (s : List ℕ). opened_payload epoch n s) (same (log_first system 0 + x) (omega arith) (omega (arith, below, both_logs system))) ∙ ahead.none x n below from fits;
}

-- A sector of a log area is none that belongs to its place.
pub ahead_free : (system : System) (image : Image) (epoch sequence area x : ℕ) → NoneAhead system image epoch sequence → area ≤ 1 → x < system.logs → sequence + x < 2 ^ 64 → opened_payload epoch (sequence + x) (sector_at image (log_first system area + x)) ≡ None
ahead_free system image epoch sequence area x ahead le lt small =
    let y : ℕ = (log_first system area + x) - log_first system 0 in
    let low = log_above system area in
    let high = log_below system area le in
    let is : log_first system 0 + y ≡ log_first system area + x = omega (arith, low) in
    subst (λ k. opened_payload epoch (sequence + x) (sector_at image k) ≡ None) is
    (ahead.none y (sequence + x) (omega (arith, is, high, lt, both_logs system)) (omega arith) small)

-- and the chain of either area is empty
pub ahead_empty : (system : System) (image : Image) (epoch sequence area : ℕ) → NoneAhead system image epoch sequence → area ≤ 1 → sequence < 2 ^ 64 → chain system.logs image (log_first system area) sequence epoch ≡ []
ahead_empty system image epoch sequence area ahead le small = by system.logs refl where
  by : (n : ℕ) → system.logs ≡ n → chain n image (log_first system area) sequence epoch ≡ []
  by zero is = refl
  by (suc n) is =
      let none : opened_payload epoch sequence (sector_at image (log_first system area)) ≡ None =
      ap (λ k. opened_payload epoch k (sector_at image (log_first system area))) (omega arith)
      ∙ ap (λ k. opened_payload epoch (sequence + 0) (sector_at image k)) (omega arith)
      ∙ ahead_free system image epoch sequence area 0 ahead le (omega (arith, is)) (omega (arith, small)) in
      ap (λ (o : Option (List ℕ)). before o (chain n image (log_first system area + 1) (sequence + 1) epoch)) none
