-- How a life goes on counting behind what an image recovers to.
use Rattle.std.specs.Prelude.{ℕ, ◌+◌, max, List, [], ◌∷◌, length}
use Rattle.tm_disk.specs.Disk.{Image}
use Rattle.model_system.specs.System.{System}
use Rattle.log_records.specs.declared.record.Record.{Record}
use Rattle.log_records.specs.declared.record.Record.TheVariants.{Input, Reply, Discarded, Completed, SyncPoint, Checkpoint, Change}
use Rattle.log_sectors.specs.Chain.{chain}
use Rattle.restart_data.specs.declared.restart.RestartSector.{RestartSector}
use Rattle.model_system.specs.Areas.{log_first}

-- the unit of a record; 0 is none
abbrev pub unit_of_record : Record → ℕ
unit_of_record (Input unit id origin code number conversation segments) = unit
unit_of_record (Reply unit terminal number segments) = unit
unit_of_record (Discarded unit id abend number) = unit
unit_of_record (Completed unit id) = unit
unit_of_record (SyncPoint unit pad) = unit
unit_of_record (Change unit database slot before after) = unit
unit_of_record _ = 0

-- the greatest unit of these records
abbrev pub greatest_unit : List Record → ℕ
greatest_unit [] = 0
greatest_unit (r ∷ records) = max (unit_of_record r) (greatest_unit records)

-- the next unit as a snapshot counts it
abbrev pub told_unit : List Record → ℕ
told_unit (Checkpoint checkpoint next_id next_unit steps ∷ records) = next_unit
told_unit _ = 1

-- the next unit: behind each unit of the log
abbrev pub next_unit : List Record → List Record → ℕ
next_unit snapshot log = max (told_unit snapshot) (greatest_unit log + 1)

-- the sequence behind the log's last sector
abbrev pub next_sequence : System → Image → RestartSector → ℕ
next_sequence system image restart =
    restart.sequence + length (chain system.logs image (log_first system restart.log) restart.sequence restart.epoch)
