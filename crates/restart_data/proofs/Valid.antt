-- What is read as a restart sector keeps its rules.
use Rattle.std.proofs.Common.{◌≡◌, ℕ, ◌<◌, Bool, true, false, ◌||◌, List, [], ◌∷◌, refl, subst, arith, Some, None, Ok, zero, suc}
use Rattle.std.specs.Prelude.{Option, IfSome, ◌==◌, nat_lt, nat_le, if◌then◌else◌}
use Rattle.std.proofs.lemmas.Bool.{ltb-false, leb-false}
use Rattle.restart_data.specs.declared.restart.RestartSector.{RestartSector}
use Rattle.restart_data.specs.Fields.{are_zeros}
use Rattle.restart_data.specs.Rules.{first_broken, unless_rule_broken}
use Rattle.restart_data.specs.Restart.{IsCounter, fields_of, other_letters, other_version, has_other_area, wrong_size, wrong_counter, wrong_counters, stray_bytes, long_text, restart_rules, restart_of}
use Rattle.restart_data.specs.WrittenSectors.{IsValid}

kept_left : (a b : Bool) → a || b ≡ false → a ≡ false
kept_left false b e = refl
kept_left true b e = cc

kept_right : (a b : Bool) → a || b ≡ false → b ≡ false
kept_right false b e = e
kept_right true b e = cc

-- the rules from the third on are kept
record AreKept (c d e f : Bool) : Type 0 where
  pub area : c ≡ false
  pub size : d ≡ false
  pub counters : e ≡ false
  pub rest : f ≡ false

all_kept : (a b c d e f : Bool) → first_broken ((1, a) ∷ (2, b) ∷ (3, c) ∷ (4, d) ∷ (5, e) ∷ (6, f) ∷ []) ≡ None → AreKept c d e f
all_kept true b c d e f none = cc
all_kept false true c d e f none = cc
all_kept false false true d e f none = cc
all_kept false false false true e f none = cc
all_kept false false false false true f none = cc
all_kept false false false false false true none = cc
all_kept false false false false false false none = record { area = refl; size = refl; counters = refl; rest = refl }

positive : (n : ℕ) → n == 0 ≡ false → 0 < n
positive zero e = cc
positive (suc n) e = omega arith

counter : (n : ℕ) → wrong_counter n ≡ false → IsCounter n
counter n e =
    (positive n (kept_left (n == 0) (nat_le 2000000000000000000 n) e), leb-false 2000000000000000000 n (kept_right (n == 0) (nat_le 2000000000000000000 n) e))

rules_keep : (most : ℕ) (single : Bool) (sector : List ℕ) → first_broken (restart_rules most single sector) ≡ None → IsValid most (fields_of sector)
rules_keep most single sector e =
    let r = fields_of sector in
    let kept = all_kept (other_letters sector) (other_version single sector) (has_other_area r) (wrong_size most r) (wrong_counters r) (stray_bytes sector || long_text r) e in
    let area = kept.area in
    let size = kept.size in
    let counters = kept.counters in
    let two_counters = kept_left (wrong_counter r.epoch || wrong_counter r.sequence) (wrong_counter r.checkpoint) counters in
    let text = kept_right (stray_bytes sector) (long_text r) kept.rest in
    record {
      is = record {
        epoch = counter r.epoch (kept_left (wrong_counter r.epoch) (wrong_counter r.sequence) two_counters);
        sequence = counter r.sequence (kept_right (wrong_counter r.epoch) (wrong_counter r.sequence) two_counters);
        checkpoint = counter r.checkpoint (kept_right (wrong_counter r.epoch || wrong_counter r.sequence) (wrong_counter r.checkpoint) counters);
        snapshot = ltb-false 1 r.snapshot (kept_left (nat_lt 1 r.snapshot) (nat_lt 1 r.log) area);
        log = ltb-false 1 r.log (kept_right (nat_lt 1 r.snapshot) (nat_lt 1 r.log) area);
        sectors = positive r.sectors (kept_left (r.sectors == 0) (nat_lt most r.sectors) size);
        text = ltb-false 262144 r.text text;
      };
      fits = ltb-false most r.sectors (kept_right (r.sectors == 0) (nat_lt most r.sectors) size);
    }

judged : (most : ℕ) (single : Bool) (sector : List ℕ) (r : RestartSector) (first : Option ℕ) → first_broken (restart_rules most single sector) ≡ first → unless_rule_broken first (Some (fields_of sector)) ≡ Ok (Some r) → IsValid most r
judged most single sector r None is e =
    let same : fields_of sector ≡ r = cc in subst (IsValid most) same (rules_keep most single sector is)
judged most single sector r (Some rule) is e = absurd (cc)

pub valid_read : (most : ℕ) (single : Bool) (sector : List ℕ) (r : RestartSector) → restart_of most single sector ≡ Ok (Some r) → IsValid most r
unfolding restart_of
valid_read most single sector r e = by (are_zeros sector) refl e where
  by : (b : Bool) → are_zeros sector ≡ b → (if b then Ok None else unless_rule_broken (first_broken (restart_rules most single sector)) (Some (fields_of sector))) ≡ Ok (Some r) → IsValid most r
  by true is f = absurd (cc)
  by false is f = judged most single sector r (first_broken (restart_rules most single sector)) refl f

pub found_valid : (most : ℕ) (single : Bool) (sector : List ℕ) (found : Option RestartSector) → restart_of most single sector ≡ Ok found → IfSome found (IsValid most)
found_valid most single sector (Some r) e = valid_read most single sector r e
found_valid most single sector None e = tt
