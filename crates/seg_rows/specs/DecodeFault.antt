-- What a refusal to decode says.
use Rattle.std.specs.Prelude.{◌≡◌, ℕ, List, Result, Ok, Err}
use Rattle.tm_types.specs.declared.dbd.Dbd.{Dbd}
use Rattle.model_data.specs.declared.row.Row.{Row}
use Rattle.model_data.specs.Record.{SpellsRecord, IsLongestRecord}
use Rattle.seg_rows.specs.declared.decode.DecodeFault.{DecodeFault}
use Rattle.seg_rows.specs.declared.decode.DecodeFault.TheVariants.{Bad, Memory}

-- the bytes are no record, and the place is the length of the longest prefix that is one
abbrev pub RefusesBytes : Dbd → List ℕ → DecodeFault → Type 0
RefusesBytes dbd bytes (Bad rule place) = (rule ≡ 21) × (SpellsRecord dbd bytes → ⊥) × IsLongestRecord dbd bytes place
RefusesBytes dbd bytes Memory = Unit {0}

-- these rows are decoded, unless memory runs out
abbrev pub DecodesTo : Result (List Row) DecodeFault → List Row → Type 0
DecodesTo (Ok image) rows = image ≡ rows
DecodesTo (Err fault) rows = fault ≡ Memory
