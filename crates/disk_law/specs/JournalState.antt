-- What a control region keeps of its log.
use Rattle.log_writer.specs.Writer.{Writer}
use Rattle.restart_data.specs.declared.restart.RestartSector.{RestartSector}

-- the writer of its log with what was appended, and the restart sector that holds
pub record JournalState : Type 0 where
  pub log : Writer
  pub restart : RestartSector
