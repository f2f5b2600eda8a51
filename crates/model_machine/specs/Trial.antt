-- The work on one message: what a script's calls give for it, and how the work ends.
use Rattle.std.specs.Prelude.{ℕ, zero, suc, ◌-◌, ◌==◌, ◌&&◌, Bool, true, false, if◌then◌else◌, Option, Some, None, List, [], ◌∷◌, ◌++◌, length, slice_get}
use Rattle.std.specs.Option.{option_and_then, option_map_or}
use Rattle.tm_types.specs.declared.abend.AbendCode.{AbendCode}
use Rattle.tm_types.specs.declared.dbd.Dbd.{Dbd}
use Rattle.tm_types.specs.declared.function.Function.{Function}
use Rattle.tm_types.specs.declared.function.Function.TheVariants.{GU, ROLB}
use Rattle.tm_types.specs.declared.message.Message.{Message}
use Rattle.model_messages.specs.declared.conversation.Conversation.{Conversation}
use Rattle.model_messages.specs.declared.conversation.PadChange.{PadChange}
use Rattle.tm_types.specs.declared.status.Status.{Status}
use Rattle.tm_types.specs.declared.status.Status.TheVariants.{AM}
use Rattle.model_system.specs.declared.need.CallText.{CallText}
use Rattle.model_system.specs.declared.need.Need.{Need}
use Rattle.model_system.specs.declared.need.Need.TheVariants.{Call, Ended, Abend}
use Rattle.model_system.specs.Script.{Answer, next_need}
use Rattle.model_system.specs.declared.pcb.Pcb.{Pcb}
use Rattle.model_system.specs.declared.pcb.Pcb.TheVariants.{Database, Destination, Modifiable}
use Rattle.model_system.specs.Jobs.{Job}
use Rattle.model_system.specs.Pcbs.{pcb_at}
use Rattle.model_system.specs.System.{System}
use Rattle.model_data.specs.declared.row.Row.{Row}
use Rattle.model_data.specs.declared.call.DbCall.{DbCall}
use Rattle.model_data.specs.DatabaseCalls.{DliResult}
use Rattle.model_data.specs.Data.{Data, data_start, data_call, data_abend, data_after}
use Rattle.model_messages.specs.declared.ended_message.EndedMessage.{EndedMessage}
use Rattle.model_messages.specs.MessageWork.{MessageWork, message_start}
use Rattle.model_messages.specs.MessageCalls.{status_alone, message_answer, message_work, message_abend, pad_change, finish_work}

-- the database that a PCB reaches: its number, its definition, and the PCB's options
pub record DbPcb : Type 0 where
  pub number : ℕ
  pub dbd : Dbd
  pub options : ℕ

-- what a call reaches by its PCB: messages, a database, or nothing
pub data Reached : Type 0 where
  Messages : Reached
  Rows : DbPcb → Reached
  Nothing : Reached

abbrev pub reached_by : List Dbd → Option Pcb → Reached
reached_by databases (Some (Database number options)) =
    option_map_or (λ dbd. Rows (record { number = number; dbd = dbd; options = options })) (slice_get databases (number - 1)) Nothing
reached_by databases (Some (Destination name)) = Messages
reached_by databases (Some Modifiable) = Messages
reached_by databases None = Nothing

-- PCB 0 and the output PCBs reach messages. A PCB that isn't there, which no program of a system names,
-- reaches nothing.
abbrev pub pcb_reached : List Dbd → List Pcb → ℕ → Reached
pcb_reached databases pcbs pcb = if pcb == 0 then Messages else reached_by databases (pcb_at pcbs pcb)

-- What a call of a script comes to: its answer, and the message's work and the databases behind it; or
-- the abend to which it leads in place of these.
pub record Outcome : Type 0 where
  pub answer : Answer
  pub work : MessageWork
  pub databases : Data
  pub abend : Option AbendCode

-- ROLB takes back what was changed and where the PCBs stand: the databases are as at the start, on the
-- rows that are committed.
abbrev pub rolled_back : List (List Row) → Function → Data → Data
rolled_back rows ROLB d = data_start (length d.positions) rows
rolled_back rows _ d = d

-- a script's call as one on a database
abbrev pub db_call : DbPcb → CallText → DbCall
db_call target call = record { function = call.function; options = target.options; area = call.area; ssas = call.ssas }

-- what a call on a database gives, as the work on the message sees the databases
abbrev pub db_result : DbPcb → Data → CallText → DliResult
db_result target d call = data_call target.dbd target.number call.pcb (db_call target call) d

abbrev pub db_outcome : DbPcb → MessageWork → Data → CallText → DliResult → Outcome
db_outcome target work d call result = record {
  answer = record { status = result.status; area = result.area };
  work = work;
  databases = data_after target.number call.pcb d result;
  abend = data_abend target.number d result;
}

-- What a call comes to by what it reaches, on these committed rows. One that reaches nothing is answered
-- AM, and does nothing.
abbrev pub outcome_at : System → List (List Row) → Reached → MessageWork → Data → CallText → Outcome
outcome_at system rows Messages work d call = record {
  answer = message_answer system work call;
  work = message_work system work call;
  databases = rolled_back rows call.function d;
  abend = message_abend work call;
}
outcome_at system rows (Rows target) work d call = db_outcome target work d call (db_result target d call)
outcome_at system rows Nothing work d call = record { answer = status_alone AM; work = work; databases = d; abend = None }

-- some calls of a script, made from its start: their answers, and the message's work and the databases
-- behind them
pub record Trial : Type 0 where
  pub answers : List Answer
  pub work : MessageWork
  pub databases : Data

-- a call that was made, with its status
pub record CalledWith : Type 0 where
  pub function : Function
  pub pcb : ℕ
  pub status : Status

-- how the work on a message ends: with the script, at a further GU, or abnormally
pub data WorkEnd : Type 0 where
  Ends : WorkEnd
  Syncs : WorkEnd
  Abends : AbendCode → WorkEnd

-- what comes behind some calls: one more call, or the work's end
pub data Advance : Type 0 where
  Goes : Trial → CalledWith → Advance
  Stops : WorkEnd → Advance

-- a message as it is given to its program: with the conversation of its origin, where it belongs to one
pub record Given : Type 0 where
  pub message : Message
  pub conversation : Option Conversation

abbrev pub trial_start : Job → List (List Row) → Given → Trial
trial_start job rows given = record {
  answers = [];
  work = message_start job.transaction given.message given.conversation job.pcbs;
  databases = data_start (length job.pcbs) rows;
}

-- a GU on PCB 0 behind an earlier one, or behind a ROLB, ends the work on the message
abbrev pub is_get_unique : Function → Bool
is_get_unique GU = true
is_get_unique _ = false

abbrev pub is_sync : MessageWork → CallText → Bool
is_sync work call = work.begun && (call.pcb == 0) && is_get_unique call.function

-- A call was made. ROLB takes back work and databases; the answers stay, and with them the script's
-- variables.
abbrev pub trial_goes_on : Trial → CallText → Outcome → Advance
trial_goes_on trial call outcome =
    Goes (record { answers = trial.answers ++ outcome.answer ∷ []; work = outcome.work; databases = outcome.databases })
    (record { function = call.function; pcb = call.pcb; status = outcome.answer.status })

abbrev pub unless_abend : Option AbendCode → Advance → Advance
unless_abend None advance = advance
unless_abend (Some abend) advance = Stops (Abends abend)

abbrev pub called_in_trial : Trial → CallText → Outcome → Advance
called_in_trial trial call outcome = unless_abend outcome.abend (trial_goes_on trial call outcome)

abbrev pub call_outcome : Job → List (List Row) → Trial → CallText → Outcome
call_outcome job rows trial call =
    outcome_at job.system rows (pcb_reached job.system.databases job.pcbs call.pcb) trial.work trial.databases call

abbrev pub advance_by : Job → List (List Row) → Trial → Need → Advance
advance_by job rows trial (Call call) = if is_sync trial.work call then Stops Syncs else called_in_trial trial call (call_outcome job rows trial call)
advance_by job rows trial Ended = Stops Ends
advance_by job rows trial (Abend code) = Stops (Abends code)

-- what the script needs behind these calls
abbrev pub trial_need : Job → Trial → Need
trial_need job trial = next_need job.lines job.transaction.statement_limit trial.answers

-- what comes behind these calls, on the committed rows
abbrev pub advance : Job → List (List Row) → Trial → Advance
advance job rows trial = advance_by job rows trial (trial_need job trial)

abbrev pub gone : Advance → Option Trial
gone (Goes trial call) = Some trial
gone (Stops end) = None

-- What k calls of the script give for a message, on these rows of each database, when nothing else
-- happens: from the script's start, one call after another. There is no such trial where the work ends
-- before.
abbrev pub trial_of : Job → List (List Row) → Given → ℕ → Option Trial
trial_of job rows given zero = Some (trial_start job rows given)
trial_of job rows given (suc calls) = option_and_then (λ trial. gone (advance job rows trial)) (trial_of job rows given calls)

-- what the work sends: the messages that were ended, in that order, and then those under construction,
-- in the order of the PCBs
abbrev pub outputs_of : Trial → List EndedMessage
outputs_of trial = (finish_work trial.work).ended

-- what becomes of the pad of the message's conversation
abbrev pub pad_of : Trial → PadChange
pad_of trial = pad_change trial.work
