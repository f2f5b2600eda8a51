-- Bytes are cut into records that are in their ranges.
use Rattle.std.proofs.Common.{◌≡◌, ℕ, zero, suc, List, [], ◌∷◌, length, drop, refl, Result, Ok, Err, Some, subst}
use Rattle.std.specs.List.{AllByRecursion}
use Rattle.log_records.specs.declared.record.Record.{Record}
use Rattle.log_records.specs.RecordSpelling.{IsLogRecord}
use Rattle.log_records.specs.RecordReader.{record_at}
use Rattle.log_records.proofs.Takes.{IsBytes, IsBytes-drop}
use Rattle.log_records.proofs.Laws.{record_takes}
use Rattle.model_image.specs.CutRecords.{cut_by, cut_of, from_first, records_cut, where_none_left}

cut_valid : (n : ℕ) (bytes : List ℕ) → IsBytes bytes → AllByRecursion IsLogRecord (cut_by n bytes).records
cut_valid zero bytes are = tt
cut_valid (suc n) bytes are = by (record_at bytes) refl (λ k. cut_valid n (drop k bytes) (IsBytes-drop k bytes are)) where
  by : (read : Result (Record × ℕ) (ℕ × ℕ)) → record_at bytes ≡ read → ((k : ℕ) → AllByRecursion IsLogRecord (cut_by n (drop k bytes)).records) → AllByRecursion IsLogRecord (from_first (cut_by n) bytes read).records
  by (Ok found) is others = ((record_takes bytes found are is).1.is_record, others found.1)
  by (Err fault) is others = tt

pub all_valid : (bytes : List ℕ) → IsBytes bytes → AllByRecursion IsLogRecord (cut_of bytes).records
unfolding cut_of
all_valid bytes are = cut_valid (length bytes) bytes are

none_left : (rest : List ℕ) (records found : List Record) → where_none_left rest records ≡ Some found → records ≡ found
none_left [] records found is = cc
none_left (b ∷ rest) records found is = absurd cc

pub whole_valid : (bytes : List ℕ) (records : List Record) → IsBytes bytes → records_cut bytes ≡ Some records → AllByRecursion IsLogRecord records
whole_valid bytes records are is =
    subst (λ (l : List Record). AllByRecursion IsLogRecord l) (none_left (cut_of bytes).rest (cut_of bytes).records records is) (all_valid bytes are)
