-- What a refusal to encode says.
use Rattle.std.specs.Prelude.{◌≡◌, ◌<◌, List, length}
use Rattle.tm_types.specs.declared.dbd.Dbd.{Dbd}
use Rattle.model_data.specs.declared.row.Row.{Row}
use Rattle.model_data.specs.Record.{rows_spelling, record_limit}
use Rattle.seg_rows.specs.declared.encode.EncodeRefused.{EncodeRefused}
use Rattle.seg_rows.specs.declared.encode.EncodeRefused.TheVariants.{TooLong, Memory}

-- the rows are too long for a record, and this is their length
abbrev pub RefusesRecord : Dbd → List Row → EncodeRefused → Type 0
RefusesRecord dbd rows (TooLong bytes) = (bytes ≡ length (rows_spelling rows)) × (record_limit dbd < length (rows_spelling rows))
RefusesRecord dbd rows Memory = Unit {0}
