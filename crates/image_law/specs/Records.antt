-- Records of a log among others.
use Rattle.std.specs.Prelude.{zero, suc, Bool, true, false, not, List, filter}
use Rattle.log_records.specs.declared.record.Record.{Record}
use Rattle.log_records.specs.declared.record.Record.TheVariants.{Input, Reply, Completed, Change}

abbrev pub is_change_record : Record → Bool
is_change_record (Change unit database slot before after) = true
is_change_record _ = false

-- all but the changes of slots
abbrev pub without_changes : List Record → List Record
without_changes records = filter (λ r. not (is_change_record r)) records

-- a record that has no effect before its unit's sync point
abbrev pub waits : Record → Bool
waits (Input zero id origin code number conversation segments) = false
waits (Input (suc unit) id origin code number conversation segments) = true
waits (Reply unit terminal number segments) = true
waits (Completed unit id) = true
waits _ = false
