-- Where the areas of a system's disk stand: the restart sector, 64 sectors of the definition's text, two areas for
-- snapshots, two for logs, and the sectors of each slot of each database.
use Rattle.std.specs.Prelude.{ℕ, ◌+◌, ◌*◌, ◌/◌, max, Bool, nat_le, List, [], ◌∷◌, length, take, sum_by, slice_get}
use Rattle.std.specs.Option.{option_map_or}
use Rattle.tm_types.specs.declared.dbd.Dbd.{Dbd}
use Rattle.model_system.specs.System.{System}

-- the most sectors that a slot has, of these databases and this number before them
abbrev pub most_sectors_from : ℕ → List Dbd → ℕ
most_sectors_from most [] = most
most_sectors_from most (dbd ∷ dbds) = most_sectors_from (max most dbd.sectors) dbds

-- the most sectors that a slot of a system has, 1 where it has no database
abbrev pub most_sectors : System → ℕ
most_sectors system = most_sectors_from 1 system.databases

-- each slot has one sector
abbrev pub is_single : System → Bool
is_single system = nat_le (most_sectors system) 1

-- how many sectors each snapshot area has
abbrev pub snapshot_area : System → ℕ
snapshot_area system = (system.qbytes + 262144 * most_sectors system * length system.regions + 131072 + 4063) / 4064

-- where a snapshot area begins, and where a log area does: the first has the number 0
abbrev pub snapshot_first : System → ℕ → ℕ
snapshot_first system area = 65 + area * snapshot_area system

abbrev pub log_first : System → ℕ → ℕ
log_first system area = 65 + 2 * snapshot_area system + area * system.logs

-- where the slots of a database begin, the first database having the place 0
abbrev pub data_first : System → ℕ → ℕ
data_first system place = log_first system 2 + sum_by (λ dbd. dbd.roots * dbd.sectors) (take place system.databases)

-- how many sectors a disk of the system has
abbrev pub sectors_needed : System → ℕ
sectors_needed system = data_first system (length system.databases)

-- how many sectors each slot of the database at a place has
abbrev pub slot_size : System → ℕ → ℕ
slot_size system place = option_map_or (λ dbd. dbd.sectors) (slice_get system.databases place) 1

-- where a slot of it begins: its sectors stand one after the other
abbrev pub slot_first : System → ℕ → ℕ → ℕ
slot_first system place number = data_first system place + number * slot_size system place
