-- What was read of a snapshot so far.
use Rattle.std.specs.Prelude.{ℕ, List, Option, Some, None, Result, Ok, Err}
use Rattle.restart_data.specs.declared.gathered.Broken.{Broken}
use Rattle.restart_data.specs.declared.gathered.Gathered.{Gathered}
use Rattle.restart_data.specs.Snapshot.{SectorFault}

-- the bytes, unless a rule is broken
abbrev pub bytes_unless : List ℕ → Option Broken → Result (List ℕ) SectorFault
bytes_unless bytes None = Ok bytes
bytes_unless bytes (Some broken) = Err (broken.rule, broken.sector)

abbrev pub so_far : Gathered → Result (List ℕ) SectorFault
so_far gathered = bytes_unless gathered.bytes gathered.broken
