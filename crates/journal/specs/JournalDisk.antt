-- What a control region keeps of its disk.
use Rattle.std.specs.Prelude.{ℕ, ◌+◌, ◌≤◌, ◌↔◌, List, length, Option, Some, None}
use Rattle.tm_disk.specs.Disk.{Image, DiskState}
use Rattle.model_system.specs.System.{System}
use Rattle.model_machine.specs.Machine.{LastingState}
use Rattle.disk_law.specs.KeptImages.{RecoversOne}
use Rattle.log_writer.specs.Writer.{Writer}
use Rattle.log_writer.specs.ForcedLog.{log_sectors_of}

-- the writer with these bytes appended, in place of others
abbrev pub holding : List ℕ → Writer → Writer
holding bytes log = record log { appended = bytes }

-- With so many bytes more, at least 32 sectors of the log area stay free.
abbrev pub LeavesSectors : Writer → ℕ → Type 0
LeavesSectors log own = log.place + log_sectors_of (length log.appended + own) + 32 ≤ log.count

-- how many bytes of a call's own may be appended before a checkpoint is due; none where one is due even for a call
-- without any
abbrev pub TellsRoom : Writer → Option ℕ → Type 0
TellsRoom log (Some room) = (own : ℕ) → (own ≤ room) ↔ LeavesSectors log own
TellsRoom log None = (own : ℕ) → LeavesSectors log own → ⊥

-- how many bytes of a call's own may be appended at all
abbrev pub TellsAllRoom : Writer → ℕ → Type 0
TellsAllRoom log room = (own : ℕ) → (own ≤ room) ↔ (log.place + log_sectors_of (length log.appended + own) ≤ log.count)

-- Whatever a crash might have left since the call began recovers to one of these states.
abbrev pub RecoverOne : System → List LastingState → DiskState → DiskState → Type 0
RecoverOne system states old new = (image : Image) → new.left_since old.clock image → RecoversOne system states image
