-- Bytes are cut behind their first record as they are cut there alone.
use Rattle.std.proofs.Common.{◌≡◌, ℕ, zero, suc, ◌+◌, ◌-◌, ◌≤◌, List, [], ◌∷◌, ◌++◌, length, take, drop, refl, sym, ◌∙◌, ap, subst, arith, Ok, Err, Some, None, append_assoc}
use Rattle.std.specs.Prelude.{Result}
use Rattle.std.proofs.lemmas.List.{length-take, length-drop, take-append-drop, append-nil, drop-drop}
use Rattle.std.proofs.Math.ListN.{drop_of_length-le}
use Rattle.log_records.specs.declared.record.Record.{Record}
use Rattle.log_records.specs.RecordSpelling.{SpellsLogRecord, record_length}
use Rattle.log_records.specs.RecordReader.{record_at, read_number}
use Rattle.log_records.proofs.Takes.{IsBytes, IsBytes-drop}
use Rattle.log_records.proofs.Laws.{record_takes, record_again}
use Rattle.model_image.specs.CutRecords.{Cut, none_of, and_others, from_first, cut_by, cut_of}
use Rattle.image_records.specs.CutRecords.{BeginsWithRecord}
use Rattle.model_image.proofs.Cutting.{length_spelling}

-- how long a record is
sizes : (bytes : List ℕ) (r : Record) (n : ℕ) → n ≤ length bytes → SpellsLogRecord (take n bytes) r → n ≡ record_length r
sizes bytes r n within spells =
    omega (arith, within, length-take n bytes, ap (length {A = ℕ}) spells.same, length_spelling r)

nothing : record_at [] ≡ Err (1, 0)
unfolding record_at read_number
nothing = refl

empty : (n : ℕ) → cut_by n [] ≡ none_of []
empty zero = refl
empty (suc n) = ap (from_first (cut_by n) []) nothing

-- more fuel than bytes changes nothing
same_fuel : (f g : ℕ) (bytes : List ℕ) → IsBytes bytes → length bytes ≤ f → length bytes ≤ g → cut_by f bytes ≡ cut_by g bytes
same_fuel zero zero bytes are few more = refl
same_fuel zero (suc g) [] are few more = sym (empty (suc g))
same_fuel zero (suc g) (b ∷ bytes) are few more = absurd (omega (arith, few))
same_fuel (suc f) zero [] are few more = empty (suc f)
same_fuel (suc f) zero (b ∷ bytes) are few more = absurd (omega (arith, more))
same_fuel (suc f) (suc g) bytes are few more =
    by_read (record_at bytes) refl (λ rest are_rest short shorter. same_fuel f g rest are_rest short shorter) where
      by_read : (read : Result (Record × ℕ) (ℕ × ℕ)) → record_at bytes ≡ read →
          ((rest : List ℕ) → IsBytes rest → length rest ≤ f → length rest ≤ g → cut_by f rest ≡ cut_by g rest) → from_first (cut_by f) bytes read ≡ from_first (cut_by g) bytes read
      by_read (Err e) is later = refl
      by_read (Ok x) is later =
          let takes = record_takes bytes x are is in
          let size = sizes bytes x.0 x.1 takes.0 takes.1 in
          ap (and_others x.0)
          (later (drop x.1 bytes) (IsBytes-drop x.1 bytes are)
          (omega (arith, few, takes.0, size, length-drop x.1 bytes)) (omega (arith, more, takes.0, size, length-drop x.1 bytes)))

-- what is read is cut off first
pub begins : (bytes : List ℕ) (x : Record × ℕ) → IsBytes bytes → (x.1 ≤ length bytes) × SpellsLogRecord (take x.1 bytes) x.0 → BeginsWithRecord bytes (Some x)
unfolding cut_of
begins bytes x are takes =
    let size = sizes bytes x.0 x.1 takes.0 takes.1 in
    let rest = drop x.1 bytes in
    let n = length bytes - 1 in
    let one : suc n ≡ length bytes = omega (arith, takes.0, size) in
    let read : record_at bytes ≡ Ok (x.0, record_length x.0) =
    ap record_at (sym (take-append-drop x.1 bytes)) ∙ ap (λ (front : List ℕ). record_at (front ++ rest)) takes.1.same ∙ record_again x.0 rest takes.1.is_record in
    let first : cut_by (length bytes) bytes ≡ and_others x.0 (cut_by n (drop (record_length x.0) bytes)) =
    ap (λ k. cut_by k bytes) (sym one) ∙ ap (from_first (cut_by n) bytes) read in (
      omega (arith, size),
      takes.0,
      first
          ∙ ap (λ k. and_others x.0 (cut_by n (drop k bytes))) (sym size)
          ∙ ap (and_others x.0) (same_fuel n (length rest) rest (IsBytes-drop x.1 bytes are) (omega (arith, takes.0, size, length-drop x.1 bytes)) (omega arith)),
    )

pub begins_none : (bytes : List ℕ) (fault : ℕ × ℕ) → record_at bytes ≡ Err fault → BeginsWithRecord bytes None
unfolding cut_of
begins_none bytes fault is = stops (length bytes) where
  stops : (n : ℕ) → cut_by n bytes ≡ none_of bytes
  stops zero = refl
  stops (suc n) = ap (from_first (cut_by n) bytes) is

pub empty_cut : cut_of [] ≡ none_of []
unfolding cut_of
empty_cut = refl

-- ---- the loop: what is cut off so far, and what is still to be cut

pub record IsCut (bytes : List ℕ) (records : List Record) (at : ℕ) : Type 0 where
  pub within : at ≤ length bytes
  pub all : records ++ (cut_of (drop at bytes)).records ≡ (cut_of bytes).records
  pub rest : (cut_of (drop at bytes)).rest ≡ (cut_of bytes).rest

pub cut_none : (bytes : List ℕ) → IsCut bytes [] 0
cut_none bytes = record { within = omega arith; all = refl; rest = refl }

pub cut_more : (bytes : List ℕ) (records : List Record) (at : ℕ) (x : Record × ℕ) → IsCut bytes records at → BeginsWithRecord (drop at bytes) (Some x) → IsCut bytes (records ++ x.0 ∷ []) (at + x.1)
cut_more bytes records at x cut begins =
    let next : drop (at + x.1) bytes ≡ drop x.1 (drop at bytes) = sym (drop-drop x.1 at bytes) in
    record {
      within = omega (arith, cut.within, begins.1, length-drop at bytes);
      all =
          append_assoc records (x.0 ∷ []) (cut_of (drop (at + x.1) bytes)).records
          ∙ ap (λ (l : List ℕ). records ++ x.0 ∷ (cut_of l).records) next
          ∙ ap (λ (c : Cut). records ++ c.records) (sym begins.2)
          ∙ cut.all;
      rest = ap (λ (l : List ℕ). (cut_of l).rest) next ∙ ap (λ (c : Cut). c.rest) (sym begins.2) ∙ cut.rest;
    }

pub cut_stops : (bytes : List ℕ) (records : List Record) (at : ℕ) → IsCut bytes records at → BeginsWithRecord (drop at bytes) None → (records ≡ (cut_of bytes).records) × (drop at bytes ≡ (cut_of bytes).rest)
cut_stops bytes records at cut none =
    (sym (append-nil records) ∙ ap (λ (c : Cut). records ++ c.records) (sym none) ∙ cut.all, ap (λ (c : Cut). c.rest) (sym none) ∙ cut.rest)

pub cut_ends : (bytes : List ℕ) (records : List Record) (at : ℕ) → IsCut bytes records at → length bytes ≤ at → (records ≡ (cut_of bytes).records) × (drop at bytes ≡ (cut_of bytes).rest)
cut_ends bytes records at cut past =
    let none : drop at bytes ≡ [] = drop_of_length-le bytes past in
    cut_stops bytes records at cut (subst (λ (l : List ℕ). BeginsWithRecord l None) (sym none) empty_cut)
