-- What is known of sectors that were read: a restart sector's areas, and a log sector's epoch.
use Rattle.std.proofs.Common.{◌≡◌, ℕ, ◌<◌, ◌≤◌, ◌^◌, Bool, true, false, ◌&&◌, ◌||◌, List, [], ◌∷◌, refl, ◌∙◌, ap, subst, ⊎_elim, arith, Some, None, Ok, IsSome}
use Rattle.std.specs.Prelude.{Option, Result, if◌then◌else◌, ◌==◌, nat_lt, codes}
use Rattle.std.specs.Str.{bytes_eq}
use Rattle.std.proofs.lemmas.Bool.{ltb-false, le-ltb}
use Rattle.std.proofs.lemmas.Nat.{from_be_bytes-to_be_bytes_8}
use Rattle.log_sectors.specs.SealedSector.{header, sealed, opened_payload, log_payload_of, HoldsPayload}
use Rattle.log_sectors.proofs.Sealing.{opened_cases}
use Rattle.restart_data.specs.declared.restart.RestartSector.{RestartSector}
use Rattle.restart_data.specs.Fields.{bytes_at, number8_at, are_zeros}
use Rattle.restart_data.specs.Rules.{first_broken, unless_rule_broken}
use Rattle.restart_data.specs.Restart.{fields_of, other_letters, other_version, has_other_area, wrong_size, wrong_counters, stray_bytes, long_text, restart_rules, restart_of}
use Rattle.model_image.specs.RecoveredState.{is_later}

-- ---- a restart sector

-- its areas are 0 or 1, and its snapshot isn't longer than an area
pub record IsKept (most : ℕ) (r : RestartSector) : Type 0 where
  pub snapshot : r.snapshot ≤ 1
  pub log : r.log ≤ 1
  pub sectors : r.sectors ≤ most

third_and_fourth : (a b c d e f : Bool) → first_broken ((1, a) ∷ (2, b) ∷ (3, c) ∷ (4, d) ∷ (5, e) ∷ (6, f) ∷ []) ≡ None → (c ≡ false) × (d ≡ false)
third_and_fourth true b c d e f none = cc
third_and_fourth false true c d e f none = cc
third_and_fourth false false true d e f none = cc
third_and_fourth false false false true e f none = cc
third_and_fourth false false false false e f none = (refl, refl)

neither_is : (a b : Bool) → a || b ≡ false → (a ≡ false) × (b ≡ false)
neither_is true b e = cc
neither_is false b e = (refl, e)

kept_fields : (most : ℕ) (r : RestartSector) → has_other_area r ≡ false → wrong_size most r ≡ false → IsKept most r
kept_fields most r area size =
    let areas = neither_is (nat_lt 1 r.snapshot) (nat_lt 1 r.log) area in
    let sizes = neither_is (r.sectors == 0) (nat_lt most r.sectors) size in
    record { snapshot = ltb-false 1 r.snapshot areas.0; log = ltb-false 1 r.log areas.1; sectors = ltb-false most r.sectors sizes.1 }

by_rules : (most : ℕ) (r f : RestartSector) (first : Option ℕ) → unless_rule_broken first (Some f) ≡ Ok (Some r) → (first ≡ None → IsKept most f) → IsKept most r
by_rules most r f None is kept = let same : f ≡ r = cc in subst (IsKept most) same (kept refl)
by_rules most r f (Some rule) is kept = cc

by_zeros : (most : ℕ) (r : RestartSector) (b : Bool) (read : Result (Option RestartSector) ℕ) → (if b then Ok None else read) ≡ Ok (Some r) → (read ≡ Ok (Some r) → IsKept most r) → IsKept most r
by_zeros most r true read is kept = cc
by_zeros most r false read is kept = kept is

pub restart_kept : (most : ℕ) (single : Bool) (sector : List ℕ) (r : RestartSector) → restart_of most single sector ≡ Ok (Some r) → IsKept most r
unfolding restart_of
restart_kept most single sector r is =
    let f = fields_of sector in
    by_zeros most r (are_zeros sector) (unless_rule_broken (first_broken (restart_rules most single sector)) (Some f)) is
    (λ read. by_rules most r f (first_broken (restart_rules most single sector)) read
    (λ none.
    let two = third_and_fourth (other_letters sector) (other_version single sector) (has_other_area f) (wrong_size most f) (wrong_counters f) (stray_bytes sector || long_text f) none in
    kept_fields most f two.0 two.1))

-- ---- a log sector

epoch_at : (epoch sequence : ℕ) (payload : List ℕ) → epoch < 2 ^ 64 → number8_at 8 (sealed epoch sequence payload) ≡ epoch
unfolding sealed header number8_at
epoch_at epoch sequence payload small = from_be_bytes-to_be_bytes_8 epoch small

pub not_both : (o : Option (List ℕ)) → o ≡ None → IsSome o → ⊥
not_both None e some = cc
not_both (Some x) e some = cc

and_false : (a b : Bool) → b ≡ false → a && b ≡ false
and_false true b is = is
and_false false b is = refl

-- it is of its epoch, and so of no later one
pub opened_not_later : (epoch sequence : ℕ) (sector : List ℕ) → epoch < 2 ^ 64 → IsSome (opened_payload epoch sequence sector) → is_later epoch sector ≡ false
opened_not_later epoch sequence sector small some =
    ⊎_elim
    (λ (none : opened_payload epoch sequence sector ≡ None). absurd (not_both (opened_payload epoch sequence sector) none some))
    (λ (holds : HoldsPayload epoch sequence (log_payload_of sector) sector).
    and_false (bytes_eq (bytes_at 0 4 sector) (codes "IMSL")) (nat_lt epoch (number8_at 8 sector))
    (ap (λ (s : List ℕ). nat_lt epoch (number8_at 8 s)) holds.spelled
    ∙ ap (nat_lt epoch) (epoch_at epoch sequence (log_payload_of sector) small)
    ∙ le-ltb epoch epoch (omega arith)))
    (opened_cases epoch sequence sector)
