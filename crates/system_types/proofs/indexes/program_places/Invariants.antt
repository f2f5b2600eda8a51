-- the places so far
use Rattle.std.proofs.Common.{◌≡◌, ◌++◌, drop, map}
use Rattle.system_types.specs.Indexes.{program_place}
use Rattle.system_types.proofs.indexes.program_places.Given as goal

abbrev pub invariant-loop-code : goal.invariant-loop-code
invariant-loop-code l = l.places.items ++ map (program_place l.programs) (drop l.code-index l.codes) ≡ map (program_place l.programs) l.codes
