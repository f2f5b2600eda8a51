-- Counts that are far from the ends of their ranges.
use Rattle.std.specs.Prelude.{ℕ, ◌+◌, ◌<◌}
use Rattle.model_machine.specs.Machine.{LastingState}
use Rattle.disk_law.specs.JournalState.{JournalState}
use Rattle.journal.specs.UnspentCounts.{AreUnspent}

-- The counts are below 1,000,000,000,000,000,000; those of sectors and of checkpoints may be above by so much.
pub record AreCountsInRange (more : ℕ) (lasting : LastingState) (next_unit : ℕ) (journal : JournalState) : Type 0 where
  pub counts : AreUnspent lasting
  pub unit : next_unit < 1000000000000000000
  pub epoch : journal.restart.epoch < 1000000000000000000
  pub sequence : journal.log.sequence + journal.log.place < 1000000000000000000 + more
  pub checkpoint : journal.restart.checkpoint < 1000000000000000000 + more
