-- How many sectors the disk of these macros' system has to have, and each of its log areas.
use Rattle.std.specs.Prelude.{ℕ, ◌+◌, ◌*◌, ◌/◌, ◌==◌, max, nat_lt, Bool, false, ◌&&◌, List, [], ◌∷◌}
use Rattle.system_types.specs.declared.definition.Macro.{Macro}
use Rattle.system_types.specs.declared.definition.Macro.TheVariants.{Control, Database}
use Rattle.system_types.specs.declared.definition.MacroLine.{MacroLine}
use Rattle.sysdef_rules.specs.declared.lookups.MacroKind.TheVariants.{Databases, Regions}
use Rattle.sysdef_rules.specs.Lookups.{count}

abbrev pub control_of : Macro → ℕ × ℕ
control_of (Control qbytes logs) = (qbytes, logs)
control_of _ = (0, 0)

-- the operands of IMSCTRL, which is the first macro
abbrev pub control_in : List MacroLine → ℕ × ℕ
control_in [] = (0, 0)
control_in (line ∷ lines) = control_of line.content

abbrev pub larger_slot : ℕ → Macro → ℕ
larger_slot most (Database name roots sectors) = max most sectors
larger_slot most _ = most

-- the most sectors that a slot has, of these databases and this number before them
abbrev pub largest_slot : ℕ → List MacroLine → ℕ
largest_slot most [] = most
largest_slot most (line ∷ lines) = largest_slot (larger_slot most line.content) lines

abbrev pub slot_sectors : Macro → ℕ
slot_sectors (Database name roots sectors) = roots * sectors
slot_sectors _ = 0

-- the sectors of all slots of the databases
abbrev pub data_sectors : List MacroLine → ℕ
data_sectors [] = 0
data_sectors (line ∷ lines) = slot_sectors line.content + data_sectors lines

-- the sectors of a snapshot area, by the bytes of the queues, the sectors of the largest slot and the regions
abbrev pub area_sectors : ℕ → ℕ → ℕ → ℕ
area_sectors qbytes most regions = (qbytes + 262144 * most * regions + 131072 + 4063) / 4064

-- the restart sector, 64 sectors of text, two areas for snapshots, two for logs, and the slots
abbrev pub disk_sectors : List MacroLine → ℕ
disk_sectors lines =
    65 + 2 * area_sectors (control_in lines).0 (largest_slot 1 lines) (count Regions lines) + 2 * (control_in lines).1 + data_sectors lines

-- A disk has at most 65,536 sectors. The last database is named where it would have more: the areas alone have less.
unfoldable pub breaks_size : List MacroLine → Macro → List MacroLine → Bool
breaks_size all (Database name roots sectors) behind = (count Databases behind == 0) && nat_lt 65536 (disk_sectors all)
breaks_size all _ behind = false

-- a log area has 64 sectors for each of the largest slot
unfoldable pub breaks_logs : List MacroLine → Macro → Bool
breaks_logs all (Control qbytes logs) = nat_lt logs (64 * largest_slot 1 all)
breaks_logs all _ = false
