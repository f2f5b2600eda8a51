-- nothing was found in the records that were passed, and the others stay as they are
use Rattle.std.proofs.Common.{◌≡◌, length}
use Rattle.std.specs.Option.{option_copied}
use Rattle.model_data.specs.Rows.{roots}
use Rattle.dli_calls.specs.NamedRecords.{keys_from}
use Rattle.dli_calls.proofs.Along.{IsAlong}
use Rattle.dli_calls.proofs.footprint.along.Given as goal

abbrev pub invariant-loop-next : goal.invariant-loop-next
invariant-loop-next g l =
    record {
      along : IsAlong l.asked.dbd l.asked.ssas (option_copied l.place) l.mode (option_copied l.after) l.initial.needs (g.R.Rows.rows l.initial.rows) (g.R.Rows.rows l.rows) l.next l.needs;
      database : g.R.Rows.database l.rows ≡ l.asked.dbd;
      read : g.R.Rows.reads l.initial.rows l.rows;
    }

abbrev pub decreases-loop-next : goal.decreases-loop-next
decreases-loop-next g l = length (keys_from l.next (roots (g.R.Rows.rows l.rows)))
