use Rattle.std.proofs.Common.{◌≡◌, ◌-◌}
use Rattle.log_records.specs.RecordReader.{read_segments}
use Rattle.log_records.proofs.Loop.{with_front}
use Rattle.log_records.proofs.fields.segments_of.Given as goal

abbrev pub invariant-loop : goal.invariant-loop
invariant-loop l = with_front l.segments (read_segments (l.count - l.counter) l.rest) ≡ read_segments l.count l.bytes
