use Rattle.std.proofs.Common.{◌≡◌, ℕ, drop}
use Rattle.std.specs.BTreeSet.{contains}
use Rattle.std.specs.Ordering.{nat_cmp}
use Rattle.log_replay.specs.SlotBytes.{said_at, with_records_said}
use Rattle.log_replay.proofs.naming.note_all.Given as goal

-- what is still to come, behind what was said, says what all says
abbrev pub invariant-loop-record : goal.invariant-loop-record
invariant-loop-record l =
    (database slot : ℕ) → with_records_said (contains nat_cmp l.units) database slot (drop l.record-index l.records) (said_at database slot l.said.entries)
    ≡ with_records_said (contains nat_cmp l.units) database slot l.records (said_at database slot l.initial.said.entries)
