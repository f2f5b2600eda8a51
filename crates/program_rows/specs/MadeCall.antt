-- What is so of a call that was made, or that waits.
use Rattle.std.specs.Prelude.{◌≡◌, ℕ, []}
use Rattle.tm_types.specs.declared.dbd.Dbd.{Dbd}
use Rattle.model_data.specs.declared.call.DbCall.{DbCall}
use Rattle.model_data.specs.declared.call.Position.{Position}
use Rattle.model_data.specs.Data.{data_abend}
use Rattle.model_data.specs.DatabaseCalls.{dli}
use Rattle.model_data.specs.EnqueueRequests.{first_blocked}
use Rattle.program_rows.specs.DatabasesState.{DatabasesState, dbds_of, data_of, rows_numbered}
use Rattle.program_rows.specs.Isolation.{requests_of_call}
use Rattle.program_rows.specs.CallAnswers.{blocked_of, told_blocked, GivesAnswer, LeadsToAbend, StandsInDatabase, regions_after, table_left, StaysUnlessMade}
use Rattle.program_rows.specs.PlannedChanges.{databases_opened, IsOpenedWhole}
use Rattle.program_rows.specs.declared.answer.DataAnswer.{DataAnswer}
use Rattle.program_rows.specs.declared.opened.Opened.{Opened}

-- it answers and leaves what its definition does, on the rows that its region sees
pub record Called (region number : ℕ) (dbd : Dbd) (call : DbCall) (at : Position) (old new : DatabasesState) (a : DataAnswer) : Type 0 where
  pub blocked : blocked_of a ≡ told_blocked (first_blocked (requests_of_call region number dbd call at old) old.table)
  pub abend : LeadsToAbend (data_abend number (data_of region old []) (dli dbd call at (rows_numbered region number old))) a
  pub gives : GivesAnswer (dli dbd call at (rows_numbered region number old)) a
  pub leaves : new.regions ≡ regions_after region number (dli dbd call at (rows_numbered region number old)) old a
  pub asks : new.table ≡ table_left region (requests_of_call region number dbd call at old) old.table a
  pub stays : StaysUnlessMade old new a
  pub committed : new.committed ≡ old.committed
  pub dbds : dbds_of new ≡ dbds_of old

-- and what is open stays so
pub record IsCallDone (region number : ℕ) (dbd : Dbd) (call : DbCall) (at : Position) (old new : Opened) (a : DataAnswer) : Type 0 where
  pub called : Called region number dbd call at (databases_opened old) (databases_opened new) a
  pub stands : StandsInDatabase dbd.types a
  pub units : IsOpenedWhole new
