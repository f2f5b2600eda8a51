-- Records that say nothing of slots: no changes, and no sync points.
use Rattle.std.specs.Prelude.{Bool, true, false}
use Rattle.log_records.specs.declared.record.Record.{Record}
use Rattle.log_records.specs.declared.record.Record.TheVariants.{SyncPoint, Change}

abbrev pub is_quiet_record : Record → Bool
is_quiet_record (Change unit database slot before after) = false
is_quiet_record (SyncPoint unit pad) = false
is_quiet_record _ = true
