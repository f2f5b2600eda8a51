-- What a step of the work on a message tells of the slots that it changes in the databases.
use Rattle.std.specs.Prelude.{◌≡◌, ⊤, ℕ, List, []}
use Rattle.tm_types.specs.declared.function.Function.{Function}
use Rattle.tm_types.specs.declared.function.Function.TheVariants.{ROLB}
use Rattle.model_system.specs.declared.need.CallText.{CallText}
use Rattle.model_system.specs.declared.need.Need.{Need}
use Rattle.model_system.specs.declared.need.Need.TheVariants.{Call, Ended, Abend}
use Rattle.model_system.specs.Jobs.{Job}
use Rattle.model_data.specs.Data.{Data, position_at}
use Rattle.model_machine.specs.Trial.{Given, Reached, Trial, pcb_reached, db_call, trial_need}
use Rattle.model_machine.specs.Trial.Reached.{Messages, Rows, Nothing}
use Rattle.log_records.specs.declared.record.Record.{Record}
use Rattle.log_records.specs.declared.untold.Untold.{Untold}
use Rattle.program_rows.specs.DatabasesState.{DatabasesState}
use Rattle.program_rows.specs.SlotsState.{slots_state_of, CallsSo}
use Rattle.log_records.specs.ToldRecords.{TellsInRoom, AreRecordsUntold}
use Rattle.program_rows.specs.ToldChanges.{back_told, call_told}
use Rattle.message_run.specs.declared.run.Advanced.{Advanced}
use Rattle.message_run.specs.declared.run.Advanced.TheVariants.{Called, Ended, Waits}
use Rattle.message_run.specs.RunState.{RunState}
use Rattle.message_run.specs.WorkAhead.{IsAhead}

-- of the calls on messages ROLB alone changes the databases
abbrev pub message_told : ℕ → ℕ → DatabasesState → Function → List Record
message_told unit region databases ROLB = back_told unit region databases
message_told unit region databases _ = []

-- what a call tells by what it reaches, where the PCBs stand as in these databases
abbrev pub reach_told : ℕ → ℕ → DatabasesState → Reached → Data → CallText → List Record
reach_told unit region databases Messages d call = message_told unit region databases call.function
reach_told unit region databases (Rows target) d call =
    call_told unit region target.number target.dbd (db_call target call) (position_at d call.pcb) databases
reach_told unit region databases Nothing d call = []

abbrev pub need_told : ℕ → ℕ → DatabasesState → Job → Trial → Need → List Record
need_told unit region databases job trial (Call call) = reach_told unit region databases (pcb_reached job.system.databases job.pcbs call.pcb) trial.databases call
need_told unit region databases job trial Ended = []
need_told unit region databases job trial (Abend code) = []

-- what the script's next call behind these calls tells
abbrev pub next_told : ℕ → ℕ → DatabasesState → Job → Trial → List Record
next_told unit region databases job trial = need_told unit region databases job trial (trial_need job trial)

-- A region's step told what it made of the slots, whatever the message on which the work has come so far.
pub record TellsNext (unit room region : ℕ) (before after : DatabasesState) (old new : List ℕ) (records : List Record) : Type 0 where
  pub tells : TellsInRoom records room old new
  pub slots : CallsSo unit region (slots_state_of before) (slots_state_of after) records

abbrev pub TellsOn : ℕ → ℕ → Job → ℕ → DatabasesState → DatabasesState → RunState → List ℕ → List ℕ → Type 0
TellsOn unit room job region before after run old new =
    (given : Given) (ahead : IsAhead job given region before run) → TellsNext unit room region before after old new (next_told unit region before job ahead.trial)

-- only a call that is made tells anything
abbrev pub IsQuietUnlessCalled : List ℕ → List ℕ → Advanced → Type 0
IsQuietUnlessCalled told now (Called function pcb status) = ⊤
IsQuietUnlessCalled told now (Ended ending) = now ≡ told
IsQuietUnlessCalled told now (Waits resource by) = now ≡ told

-- Its records are longer than the room for them, where that is the reason.
abbrev pub IsUntoldOn : ℕ → ℕ → Job → ℕ → DatabasesState → RunState → Untold → Type 0
IsUntoldOn unit room job region before run error =
    (given : Given) (ahead : IsAhead job given region before run) → AreRecordsUntold (next_told unit region before job ahead.trial) room error
