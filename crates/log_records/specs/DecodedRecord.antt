-- What decoding answers.
use Rattle.std.specs.Prelude.{◌≡◌, ℕ, ◌-◌, List, length, Result, Ok, Err}
use Rattle.log_records.specs.declared.fault.DecodeFault.{DecodeFault}
use Rattle.log_records.specs.declared.fault.DecodeFault.TheVariants.{Bad, Memory}
use Rattle.log_records.specs.declared.record.Record.{Record}
use Rattle.log_records.specs.RecordReader.{record_at}

-- The record is found, with its length, unless memory ran out.
abbrev pub Finds : Result (Record × ℕ) DecodeFault → Record → ℕ → Type 0
Finds (Ok found) r n = (found.0 ≡ r) × (found.1 ≡ n)
Finds (Err (Bad rule place)) r n = ⊥
Finds (Err Memory) r n = Unit {0}

-- A fault is the first one that reading from left to right meets, at its place.
abbrev pub NamesFirstFault : Result (Record × ℕ) DecodeFault → List ℕ → Type 0
NamesFirstFault (Ok found) bytes = Unit {0}
NamesFirstFault (Err (Bad rule place)) bytes = (left : ℕ) × (record_at bytes ≡ Err (rule, left)) × (place ≡ length bytes - left)
NamesFirstFault (Err Memory) bytes = Unit {0}
