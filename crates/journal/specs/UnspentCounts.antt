-- Counts that are far from the end of their range, so that a step may raise them.
use Rattle.std.specs.Prelude.{◌≡◌, ◌<◌, nat_lt, true}
use Rattle.std.specs.List.{list_all}
use Rattle.model_machine.specs.Machine.{LastingState}

-- The next id, the count of steps and each terminal's next reply are below 1,000,000,000,000,000,000.
pub record AreUnspent (lasting : LastingState) : Type 0 where
  pub id : lasting.next_id < 1000000000000000000
  pub steps : lasting.steps < 1000000000000000000
  pub outputs : list_all (λ terminal. nat_lt terminal.next 1000000000000000000) lasting.outputs ≡ true
