-- How bytes are cut on behind their first record.
use Rattle.std.specs.Prelude.{◌≡◌, ℕ, ◌<◌, ◌≤◌, List, length, drop, Option, Some, None}
use Rattle.log_records.specs.declared.record.Record.{Record}
use Rattle.model_image.specs.CutRecords.{cut_of, none_of, and_others}

-- They begin with this record, of this length, and are cut on behind it; or they begin with none.
abbrev pub BeginsWithRecord : List ℕ → Option (Record × ℕ) → Type 0
BeginsWithRecord bytes (Some first) =
    (0 < first.1) × (first.1 ≤ length bytes) × (cut_of bytes ≡ and_others first.0 (cut_of (drop first.1 bytes)))
BeginsWithRecord bytes None = cut_of bytes ≡ none_of bytes
