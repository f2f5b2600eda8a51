use Rattle.std.proofs.Common.{◌≡◌}
use Rattle.model_data.specs.Conditions.{IsPosition}
use Rattle.fault_tests.proofs.database_calls.run_steps.Given as goal

abbrev pub invariant-loop-place : goal.invariant-loop-place
invariant-loop-place g l =
    record {
      database : g.R.Rows.database l.rows ≡ g.R.Rows.database l.initial.rows;
      position : IsPosition l.dbd.types l.position;
    }
