-- A restart sector that was written is read.
use Rattle.std.proofs.Common.{◌≡◌, ℕ, ◌<◌, ◌≤◌, ◌^◌, Bool, true, false, not, ◌&&◌, ◌||◌, [], ◌∷◌, drop, refl, ◌∙◌, ap, arith, Some, None, Ok}
use Rattle.std.specs.Prelude.{codes, ◌==◌, nat_lt, nat_le, if◌then◌else◌}
use Rattle.std.proofs.lemmas.Bool.{le-ltb, lt-leb, ne_eqb}
use Rattle.std.proofs.lemmas.Nat.{from_be_bytes-to_be_bytes_4, from_be_bytes-to_be_bytes_8}
use Rattle.restart_data.specs.declared.restart.RestartSector.{RestartSector}
use Rattle.restart_data.specs.Fields.{bytes_at, byte_at, number4_at, number8_at, are_zeros}
use Rattle.restart_data.specs.Rules.{first_broken, unless_rule_broken}
use Rattle.restart_data.specs.Restart.{restart_front, restart_back, restart_sector, IsCounter, IsRestart, fields_of, other_letters, other_version, has_other_area, wrong_size, wrong_counter, wrong_counters, stray_bytes, long_text, restart_rules, restart_of}
use Rattle.restart_data.proofs.Zeros.{are_zeros-zeros}
use Rattle.restart_data.proofs.Judging.{not_broken, neither, same_bytes, unbroken}

-- ---- what stands in a sealed sector

letters_at : (r : RestartSector) → bytes_at 0 4 (restart_sector r) ≡ codes "IMSR"
unfolding restart_sector restart_front restart_back
letters_at r = refl

version_at : (r : RestartSector) → number4_at 4 (restart_sector r) ≡ 2
unfolding restart_sector restart_front restart_back number4_at
version_at r = refl

epoch_at : (r : RestartSector) → r.epoch < 2 ^ 64 → number8_at 8 (restart_sector r) ≡ r.epoch
unfolding restart_sector restart_front restart_back number8_at
epoch_at r lt = from_be_bytes-to_be_bytes_8 r.epoch lt

snapshot_at : (r : RestartSector) → byte_at 16 (restart_sector r) ≡ r.snapshot
unfolding restart_sector restart_front restart_back
snapshot_at r = refl

log_at : (r : RestartSector) → byte_at 17 (restart_sector r) ≡ r.log
unfolding restart_sector restart_front restart_back
log_at r = refl

sectors_at : (r : RestartSector) → r.sectors < 2 ^ 32 → number4_at 20 (restart_sector r) ≡ r.sectors
unfolding restart_sector restart_front restart_back number4_at
sectors_at r lt = from_be_bytes-to_be_bytes_4 r.sectors lt

sequence_at : (r : RestartSector) → r.sequence < 2 ^ 64 → number8_at 24 (restart_sector r) ≡ r.sequence
unfolding restart_sector restart_front restart_back number8_at
sequence_at r lt = from_be_bytes-to_be_bytes_8 r.sequence lt

checkpoint_at : (r : RestartSector) → r.checkpoint < 2 ^ 64 → number8_at 32 (restart_sector r) ≡ r.checkpoint
unfolding restart_sector restart_front restart_back number8_at
checkpoint_at r lt = from_be_bytes-to_be_bytes_8 r.checkpoint lt

text_at : (r : RestartSector) → r.text < 2 ^ 32 → number4_at 40 (restart_sector r) ≡ r.text
unfolding restart_sector restart_front restart_back number4_at
text_at r lt = from_be_bytes-to_be_bytes_4 r.text lt

two_zeros : (r : RestartSector) → are_zeros (bytes_at 18 2 (restart_sector r)) ≡ true
unfolding restart_sector restart_front restart_back are_zeros
two_zeros r = refl

zeros_behind : (r : RestartSector) → are_zeros (drop 44 (restart_sector r)) ≡ true
unfolding restart_sector restart_front restart_back
zeros_behind r = are_zeros-zeros 4052

not_all_zero : (r : RestartSector) → are_zeros (restart_sector r) ≡ false
unfolding restart_sector restart_front restart_back are_zeros
not_all_zero r = refl

same_fields : (r : RestartSector) (epoch snapshot log sectors sequence checkpoint text : ℕ) → epoch ≡ r.epoch → snapshot ≡ r.snapshot → log ≡ r.log → sectors ≡ r.sectors → sequence ≡ r.sequence → checkpoint ≡ r.checkpoint → text ≡ r.text → record { epoch = epoch; snapshot = snapshot; log = log; sectors = sectors; sequence = sequence; checkpoint = checkpoint; text = text } ≡ r
same_fields r epoch snapshot log sectors sequence checkpoint text a b c d e f g = rw (a, b, c, d, e, f, g) refl

pub fields_back : (r : RestartSector) → IsRestart r → r.sectors < 2 ^ 32 → fields_of (restart_sector r) ≡ r
fields_back r is fits =
    let s = restart_sector r in
    same_fields r (number8_at 8 s) (byte_at 16 s) (byte_at 17 s) (number4_at 20 s) (number8_at 24 s) (number8_at 32 s) (number4_at 40 s)
    (epoch_at r (omega (arith, is.epoch.1))) (snapshot_at r) (log_at r) (sectors_at r fits) (sequence_at r (omega (arith, is.sequence.1)))
    (checkpoint_at r (omega (arith, is.checkpoint.1))) (text_at r (omega (arith, is.text)))

-- ---- each rule is kept

counter_kept : (n : ℕ) → IsCounter n → wrong_counter n ≡ false
counter_kept n is = neither (n == 0) (nat_le 2000000000000000000 n) (ne_eqb n 0 (λ e. omega (arith, is.0, e))) (lt-leb 2000000000000000000 n is.1)

six_kept : (a b c d e f : Bool) → a ≡ false → b ≡ false → c ≡ false → d ≡ false → e ≡ false → f ≡ false → first_broken ((1, a) ∷ (2, b) ∷ (3, c) ∷ (4, d) ∷ (5, e) ∷ (6, f) ∷ []) ≡ None
six_kept a b c d e f is_a is_b is_c is_d is_e is_f = rw (is_a, is_b, is_c, is_d, is_e, is_f) refl

module _ (r : RestartSector) (is : IsRestart r) where
  area_kept : has_other_area r ≡ false
  area_kept = neither (nat_lt 1 r.snapshot) (nat_lt 1 r.log) (le-ltb 1 r.snapshot is.snapshot) (le-ltb 1 r.log is.log)

  size_kept : (most : ℕ) → r.sectors ≤ most → wrong_size most r ≡ false
  size_kept most le = neither (r.sectors == 0) (nat_lt most r.sectors) (ne_eqb r.sectors 0 (λ e. omega (arith, is.sectors, e))) (le-ltb most r.sectors le)

  counters_kept : wrong_counters r ≡ false
  counters_kept =
      neither (wrong_counter r.epoch || wrong_counter r.sequence) (wrong_counter r.checkpoint)
      (neither (wrong_counter r.epoch) (wrong_counter r.sequence) (counter_kept r.epoch is.epoch) (counter_kept r.sequence is.sequence))
      (counter_kept r.checkpoint is.checkpoint)

  text_kept : long_text r ≡ false
  text_kept = le-ltb 262144 r.text is.text

  rules_kept : (most : ℕ) (single : Bool) → r.sectors ≤ most → r.sectors < 2 ^ 32 → first_broken (restart_rules most single (restart_sector r)) ≡ None
  rules_kept most single le fits =
      let s = restart_sector r in
      let back = fields_back r is fits in
      six_kept (other_letters s) (other_version single s) (has_other_area (fields_of s)) (wrong_size most (fields_of s)) (wrong_counters (fields_of s)) (stray_bytes s || long_text (fields_of s))
      (same_bytes (bytes_at 0 4 s) (codes "IMSR") (letters_at r))
      (ap (λ k. not (k == 2) && not (single && (k == 1))) (version_at r))
      (ap has_other_area back ∙ area_kept)
      (ap (wrong_size most) back ∙ size_kept most le)
      (ap wrong_counters back ∙ counters_kept)
      (neither (stray_bytes s) (long_text (fields_of s))
      (neither (not (are_zeros (bytes_at 18 2 s))) (not (are_zeros (drop 44 s))) (not_broken (are_zeros (bytes_at 18 2 s)) (two_zeros r)) (not_broken (are_zeros (drop 44 s)) (zeros_behind r)))
      (ap long_text back ∙ text_kept))

chosen_where : {A : Type 0} (b : Bool) (x y : A) → b ≡ false → (if b then x else y) ≡ y
chosen_where false x y e = refl
chosen_where true x y e = cc

pub restart_back_is_read : (r : RestartSector) → IsRestart r → r.sectors < 2 ^ 32 → (most : ℕ) (single : Bool) → r.sectors ≤ most → restart_of most single (restart_sector r) ≡ Ok (Some r)
unfolding restart_of
restart_back_is_read r is fits most single le =
    let s = restart_sector r in
    chosen_where (are_zeros s) (Ok None) (unless_rule_broken (first_broken (restart_rules most single s)) (Some (fields_of s))) (not_all_zero r)
    ∙ unbroken (first_broken (restart_rules most single s)) (Some (fields_of s)) (rules_kept r is most single le fits)
    ∙ ap (λ (x : RestartSector). Ok (Some x)) (fields_back r is fits)
