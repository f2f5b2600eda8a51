-- A line that could not be read.
use Rattle.std.specs.Prelude.{◌≡◌, ℕ, ◌≤◌, Option, IfSome, List}
use Rattle.tm_edge.specs.Fault.{HasRisen}
use Rattle.tm_edge.specs.Lines.{IsLineTooLong, line_size}
use Rattle.tm_session.specs.declared.outcome.Ended.{Ended}
use Rattle.tm_session.specs.declared.outcome.Ended.TheVariants.{Read, Memory, Limit}

-- No line was read, and the same bytes lie before the reader, some of which it holds: reading failed; or
-- the next line is too long; or memory was wanting, and nothing that is held is a line that is too long.
abbrev pub IsUnread : Ended → Option (List ℕ) → List ℕ → ℕ → ℕ → Type 0
IsUnread Read told held reads_old reads_new = HasRisen reads_old reads_new
IsUnread (Limit n) told held reads_old reads_new = (n ≡ 4097) × IfSome told IsLineTooLong × (reads_new ≡ reads_old)
IsUnread Memory told held reads_old reads_new = (line_size held ≤ 4096) × (reads_new ≡ reads_old)
IsUnread _ told held reads_old reads_new = ⊥
