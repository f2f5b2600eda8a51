use Rattle.std.proofs.Common.{◌≡◌, ◌≤◌, length, take}
use Rattle.tm_disk.specs.Record.{sector_of}
use Rattle.tm_disk.proofs.record.kept_len.Given as goal

abbrev pub invariant-loop-step : goal.invariant-loop-step
invariant-loop-step l =
    record {
      within : l.len ≤ length l.bytes;
      zeros : sector_of (take l.len l.bytes) ≡ l.bytes;
    }
