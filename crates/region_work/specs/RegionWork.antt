-- What a region's work does in a turn.
use Rattle.std.specs.Prelude.{◌≡◌, ◌<◌, ⊤, ℕ, length, Option, Some, None, IsSomeAnd, List, [], if◌then◌else◌, IfSome}
use Rattle.std.specs.List.{AllByRecursion}
use Rattle.std.specs.Option.{option_map_or}
use Rattle.tm_types.specs.declared.message.Message.{Message}
use Rattle.model_messages.specs.declared.conversation.PadChange.{PadChange}
use Rattle.model_messages.specs.declared.conversation.PadChange.TheVariants.{Stays}
use Rattle.model_messages.specs.declared.conversation.TerminalConversation.{TerminalConversation}
use Rattle.model_messages.specs.Terminals.{conversation_at, pad_at}
use Rattle.model_machine.specs.Trial.{Given, Trial, trial_of}
use Rattle.log_records.specs.declared.record.Record.{Record}
use Rattle.io_pcb.specs.Pads.{IsPadText, Suits}
use Rattle.model_messages.specs.Queue.{queued_message}
use Rattle.model_system.specs.System.{System}
use Rattle.model_messages.specs.declared.ended_message.EndedMessage.{EndedMessage}
use Rattle.model_messages.specs.MessageCalls.{finish_work, pad_change}
use Rattle.model_system.specs.Jobs.{Job, job_of}
use Rattle.program_rows.specs.DatabasesState.{DatabasesState, IsClean, committed_rows}
use Rattle.log_records.specs.ToldRecords.{spelled_records}
use Rattle.message_run.specs.declared.run.Advanced.{Advanced}
use Rattle.message_run.specs.WorkAhead.{IsAhead, Advances, given_with}
use Rattle.message_run.specs.MessageChanges.{next_told, TellsNext}
use Rattle.message_run.specs.RunState.{RunState}
use Rattle.lasting_state.specs.Tables.{TablesState}
use Rattle.region_work.specs.declared.region.Busy.{Busy}

-- a message with its conversation: that of its origin, where it belongs to one
abbrev pub given_in : List TerminalConversation → Message → Given
given_in conversations message = record {
  message = message;
  conversation = if message.conversation then conversation_at message.origin conversations else None;
}

-- the pad that is given to its program
abbrev pub pad_in : List TerminalConversation → Message → Option (List ℕ)
pad_in conversations message = if message.conversation then pad_at message.origin conversations else None

-- A message's program is given the pad of a conversation of the message's code, and the pad is a text that it may be
-- given.
pub record HasPad (conversations : List TerminalConversation) (message : Message) : Type 0 where
  pub given : given_with message (pad_in conversations message) ≡ given_in conversations message
  pub text : IfSome (pad_in conversations message) IsPadText

abbrev pub HavePads : List TerminalConversation → List Message → Type 0
HavePads conversations messages = AllByRecursion (HasPad conversations) messages

-- how many calls a script has made; one that wasn't started has made none
abbrev pub calls_made : Option RunState → ℕ
calls_made unit = option_map_or (λ u. u.calls) unit 0

-- The work in a region on a message is what as many calls of the code's script, made from the start on what is
-- committed, lead to. One that wasn't started begins where its region has changed nothing.
abbrev pub IsRegionUnit : Job → Given → ℕ → DatabasesState → Option RunState → Type 0
IsRegionUnit job given region databases None = IsClean region databases
IsRegionUnit job given region databases (Some unit) = IsAhead job given region databases unit

pub record IsWork (system : System) (databases : DatabasesState) (region : ℕ) (given : Given) (busy : Busy) : Type 0 where
  pub job : Job
  pub serves : job_of system busy.code ≡ Some job
  pub unit : IsRegionUnit job given region databases busy.unit

-- that message is the one of the work's id
abbrev pub IsQueuedWork : System → TablesState → ℕ → Busy → Type 0
IsQueuedWork system tables region busy =
    IsSomeAnd (queued_message busy.id tables.queues.queued) (λ message. IsWork system tables.databases region (given_in tables.conversations message) busy)

-- the work in a region, which was started at the latest now
pub record IsStartedOn (system : System) (databases : DatabasesState) (region : ℕ) (given : Given) (busy : Busy) (unit : RunState) : Type 0 where
  pub job : Job
  pub serves : job_of system busy.code ≡ Some job
  pub calls : unit.calls ≡ calls_made busy.unit
  pub ahead : IsAhead job given region databases unit

abbrev pub IsStartedIn : System → TablesState → ℕ → Busy → RunState → Type 0
IsStartedIn system tables region busy unit =
    IsSomeAnd (queued_message busy.id tables.queues.queued) (λ message. IsStartedOn system tables.databases region (given_in tables.conversations message) busy unit)

-- so it is in whichever region has the work
abbrev pub IsStarted : System → TablesState → Busy → RunState → Type 0
IsStarted system tables busy unit = (region : ℕ) → IsQueuedWork system tables region busy → IsStartedIn system tables region busy unit

-- the same message, code and count
pub record SameMessage (old new : Busy) : Type 0 where
  pub code : new.code ≡ old.code
  pub taken : new.taken ≡ old.taken
  pub id : new.id ≡ old.id

-- the work in a region on a message of a code made a step: behind the calls so far, on the code's job
pub record UnitSteps (system : System) (region : ℕ) (databases left : DatabasesState) (given : Given) (code : List ℕ) (before after : RunState) (advanced : Advanced) : Type 0 where
  pub job : Job
  pub serves : job_of system code ≡ Some job
  pub ahead : IsAhead job given region databases before
  pub advances : Advances job given region databases left ahead.trial before after advanced

-- the same, whatever the message on which the work has come so far
abbrev pub GoesSo : System → ℕ → List ℕ → DatabasesState → DatabasesState → RunState → RunState → Advanced → Type 0
GoesSo system region code databases left before after advanced =
    (given : Given) (job : Job) → job_of system code ≡ Some job → IsAhead job given region databases before
    → UnitSteps system region databases left given code before after advanced

-- The step told what it made of the slots, whatever the message on which the work has come so far.
abbrev pub TellsSo : System → ℕ → List ℕ → DatabasesState → DatabasesState → RunState → ℕ → ℕ → List ℕ → List ℕ → Type 0
TellsSo system region code databases left before unit room told now =
    (given : Given) (job : Job) → job_of system code ≡ Some job → (ahead : IsAhead job given region databases before)
    → TellsNext unit room region databases left told now (next_told unit region databases job ahead.trial)

-- what it tells is longer than the room
abbrev pub IsLongerSo : System → ℕ → List ℕ → DatabasesState → RunState → ℕ → ℕ → Type 0
IsLongerSo system region code databases before unit room =
    (given : Given) (job : Job) → job_of system code ≡ Some job → (ahead : IsAhead job given region databases before)
    → room < length (spelled_records (next_told unit region databases job ahead.trial))

-- This is so of what the next call of a work's script tells: of the trial that the calls so far lead to.
pub record HasNext (system : System) (region unit : ℕ) (databases : DatabasesState) (given : Given) (busy : Busy) (holds : List Record → Type 0) : Type 0 where
  pub job : Job
  pub serves : job_of system busy.code ≡ Some job
  pub trial : Trial
  pub made : trial_of job (committed_rows databases) given (calls_made busy.unit) ≡ Some trial
  pub is : holds (next_told unit region databases job trial)

-- A region that is empty tells nothing; of another one it is the work on its message.
abbrev pub NextTells : System → ℕ → ℕ → TablesState → (List Record → Type 0) → Option Busy → Type 0
NextTells system region unit tables holds None = holds []
NextTells system region unit tables holds (Some busy) =
    IsSomeAnd (queued_message busy.id tables.queues.queued) (λ message. HasNext system region unit tables.databases (given_in tables.conversations message) busy holds)

-- a step of a region's work on a message, which was started at the latest now
pub record WorkStepsOn (system : System) (region : ℕ) (databases left : DatabasesState) (given : Given) (old new : Busy) (advanced : Advanced) : Type 0 where
  pub same : SameMessage old new
  pub before : RunState
  pub calls : before.calls ≡ calls_made old.unit
  pub after : RunState
  pub is : new.unit ≡ Some after
  pub steps : UnitSteps system region databases left given old.code before after advanced

-- A region that is empty does nothing; another one takes a step in its work.
abbrev pub RegionSteps : System → ℕ → TablesState → DatabasesState → Option Busy → Option Busy → Option Advanced → Type 0
RegionSteps system region tables left None new None = (new ≡ None) × (left ≡ tables.databases)
RegionSteps system region tables left (Some old) (Some new) (Some advanced) =
    IsSomeAnd (queued_message old.id tables.queues.queued) (λ message. WorkStepsOn system region tables.databases left (given_in tables.conversations message) old new advanced)
RegionSteps system region tables left _ _ _ = ⊥

-- the work is as far as before
abbrev pub SameWork : System → ℕ → TablesState → Option Busy → Option Busy → Type 0
SameWork system region tables (Some old) (Some new) = SameMessage old new × (calls_made new.unit ≡ calls_made old.unit) × IsQueuedWork system tables region new
SameWork system region tables _ _ = ⊥

-- what a region's work sends at its end
abbrev pub outputs_by : Option RunState → List EndedMessage
outputs_by unit = option_map_or (λ u. (finish_work u.work).ended) unit []

-- what a region's work leaves of the pad at its end
abbrev pub pad_by : Option RunState → PadChange
pad_by unit = option_map_or (λ u. pad_change u.work) unit Stays

-- only the pad of a conversation changes
abbrev pub SuitsUnit : Option RunState → PadChange → Type 0
SuitsUnit (Some unit) pad = Suits unit.work.conversation pad
SuitsUnit None pad = ⊤
