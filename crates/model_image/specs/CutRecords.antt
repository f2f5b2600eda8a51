-- Bytes, cut into records.
use Rattle.std.specs.Prelude.{◌≡◌, ℕ, zero, suc, ◌<◌, List, [], ◌∷◌, ◌++◌, length, drop, Option, Some, None, Result, Ok, Err}
use Rattle.log_records.specs.declared.record.Record.{Record}
use Rattle.log_records.specs.RecordSpelling.{IsLogRecord, record_spelling}
use Rattle.log_records.specs.RecordReader.{record_at}

-- the records that bytes begin with, one after another, and the rest, which begins with none
pub record Cut : Type 0 where
  pub records : List Record
  pub rest : List ℕ

abbrev pub none_of : List ℕ → Cut
none_of bytes = record { records = []; rest = bytes }

-- one record, and then the others
abbrev pub and_others : Record → Cut → Cut
and_others first others = record { records = first ∷ others.records; rest = others.rest }

-- a record that bytes begin with, and then the others; none where they begin with no record
abbrev pub from_first : (List ℕ → Cut) → List ℕ → Result (Record × ℕ) (ℕ × ℕ) → Cut
from_first others bytes (Ok found) = and_others found.0 (others (drop found.1 bytes))
from_first others bytes (Err fault) = none_of bytes

-- at most so many records
abbrev pub cut_by : ℕ → List ℕ → Cut
cut_by zero bytes = none_of bytes
cut_by (suc n) bytes = from_first (cut_by n) bytes (record_at bytes)

-- A record has a byte at least.
unfoldable pub cut_of : List ℕ → Cut
cut_of bytes = cut_by (length bytes) bytes

-- the records that bytes are, where nothing is left
abbrev pub where_none_left : List ℕ → List Record → Option (List Record)
where_none_left [] records = Some records
where_none_left (byte ∷ rest) records = None

abbrev pub records_cut : List ℕ → Option (List Record)
records_cut bytes = where_none_left (cut_of bytes).rest (cut_of bytes).records

-- A rest that is cut off: it is the front of a record, without its end.
pub record IsRecordCutOff (rest : List ℕ) : Type 0 where
  pub whole : Record
  pub is_record : IsLogRecord whole
  pub missing : List ℕ
  pub some : 0 < length missing
  pub begins : record_spelling whole ≡ rest ++ missing
