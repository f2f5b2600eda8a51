use Rattle.std.proofs.Common.{◌≡◌, ◌++◌, [], take, drop}
use Rattle.std.specs.List.{flat_map, AllByRecursion}
use Rattle.log_records.specs.RecordSpelling.{record_spelling, IsLogRecord}
use Rattle.log_records.proofs.Kept.{Keeps}
use Rattle.lasting_state.specs.OutputRecords.{counted_records}
use Rattle.lasting_state.specs.RecordRanges.{HaveCounts}
use Rattle.lasting_state.proofs.outputs.put_outputs.Given as goal

-- the records so far, and those of the outputs to come, which are records if these are; and what stood there before
abbrev pub invariant-loop-place : goal.invariant-loop-place
invariant-loop-place l =
    (l.bytes.items ++ flat_map record_spelling (counted_records l.unit l.origin (take l.place l.outputs.items) (drop l.place l.outputs.items) l.terminals l.id)
    ≡ l.initial.bytes.items ++ flat_map record_spelling (counted_records l.unit l.origin [] l.outputs.items l.terminals l.next_id))
    × HaveCounts (drop l.place l.outputs.items)
    × (AllByRecursion IsLogRecord (counted_records l.unit l.origin (take l.place l.outputs.items) (drop l.place l.outputs.items) l.terminals l.id)
    → AllByRecursion IsLogRecord (counted_records l.unit l.origin [] l.outputs.items l.terminals l.next_id))
    × Keeps l.initial.bytes.items l.bytes.items
