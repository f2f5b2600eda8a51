-- The parts of a control region as its calls see them, and what holds among them.
use Rattle.std.specs.Prelude.{◌≡◌, ⊤, ℕ, ◌+◌, ◌≤◌, Bool, true, Option, Some, None, IfSome, IsSomeAnd, IsTrue, List, [], ◌∷◌, length, map, take, slice_get}
use Rattle.std.specs.Option.{is_some}
use Rattle.std.specs.List.{AllByRecursion, list_all}
use Rattle.tm_types.specs.Segment.{is_printable}
use Rattle.model_messages.specs.declared.conversation.Conversation.{Conversation}
use Rattle.model_messages.specs.declared.conversation.TerminalConversation.{TerminalConversation}
use Rattle.model_messages.specs.Pads.{code_field}
use Rattle.model_system.specs.Codes.{code_at}
use Rattle.tm_types.specs.declared.message.Message.{Message}
use Rattle.model_messages.specs.declared.queued.Queued.{Queued}
use Rattle.model_messages.specs.Queue.{queued_at, free_count, messages_of}
use Rattle.model_system.specs.declared.code_state.CodeState.{CodeState}
use Rattle.model_system.specs.System.{System}
use Rattle.model_machine.specs.declared.lasting.CodeSetting.{CodeSetting}
use Rattle.model_machine.specs.Machine.{Moment, Slot, is_held, setting_of, raised_now}
use Rattle.system_types.specs.ValidSystem.{IsSystem}
use Rattle.model_data.specs.Table.{wait_of}
use Rattle.program_rows.specs.DatabasesState.{DatabasesState, AreRowsOf, IsClean, committed_rows, dbds_of}
use Rattle.lasting_state.specs.Tables.{TablesState}
use Rattle.region_work.specs.declared.region.Busy.{Busy}
use Rattle.region_work.specs.RegionWork.{IsWork, calls_made, given_in}

-- the system, the moment that its machine has come to, and the databases, with what each region has changed
pub record PartsState : Type 0 where
  pub system : System
  pub moment : Moment
  pub databases : DatabasesState

-- the slot that a region's work stands for
abbrev pub work_slot : Option Busy → Option Slot
work_slot (Some busy) = Some (record { code = busy.code; taken = busy.taken; id = busy.id; calls = calls_made busy.unit })
work_slot None = None

abbrev pub work_slots : List (Option Busy) → List (Option Slot)
work_slots regions = map work_slot regions

-- what lasts of the codes, and their flags
abbrev pub settings_of : List CodeState → List CodeSetting
settings_of states = map setting_of states

abbrev pub flags_of : List CodeState → List Bool
flags_of states = map (λ state. state.raised) states

-- A region works on a message that the queues keep for it. Its work, made from the start on the rows
-- that are committed, leads to what it has, and to the rows that it sees, whatever other regions do.
pub record IsAtWork (system : System) (databases : DatabasesState) (conversations : List TerminalConversation) (queued : List Queued) (region : ℕ) (busy : Busy) : Type 0 where
  pub message : Message
  pub found : queued_at busy.id queued ≡ Some (record { message = message; holder = Some region })
  pub work : IsWork system databases region (given_in conversations message) busy

-- a message has a holder exactly where a slot has it
abbrev pub AreHoldersTold : List (Option Slot) → List Queued → Type 0
AreHoldersTold slots queued = AllByRecursion (λ q. is_held slots q.message.id ≡ is_some q.holder) queued

-- each region that has a message is at work on it; regions are numbered from 1
abbrev pub AreAtWork : System → DatabasesState → List TerminalConversation → List Queued → List (Option Busy) → Type 0
AreAtWork system databases conversations queued regions =
    (place : ℕ) (busy : Busy) → slice_get regions place ≡ Some (Some busy) → IsAtWork system databases conversations queued (place + 1) busy

-- A conversation is of a code that has them. Its pad has the length of the code's, less 6, begins with the code, and
-- has printable bytes alone.
pub record IsConversationOf (system : System) (c : Conversation) : Type 0 where
  pub size : IsSomeAnd (code_at system.codes c.code) (λ code. (1 ≤ code.transaction.scratch_pad) × (length c.pad + 6 ≡ code.transaction.scratch_pad))
  pub front : take 8 c.pad ≡ code_field c.code
  pub prints : IsTrue (list_all is_printable c.pad)

-- a message that belongs to a conversation goes to the code of its origin's
abbrev pub IsOfConversation : List TerminalConversation → Message → Type 0
IsOfConversation conversations message = message.conversation ≡ true → IsSomeAnd (given_in conversations message).conversation (λ c. c.code ≡ message.code)

-- two messages don't both belong to a conversation of one terminal
abbrev pub AreOfOtherConversations : Message → Message → Type 0
AreOfOtherConversations a b = a.conversation ≡ true → b.conversation ≡ true → b.origin ≡ a.origin → ⊥

-- at each terminal at most one message belongs to the conversation
abbrev pub AreAlone : List Message → Type 0
AreAlone [] = ⊤
AreAlone (message ∷ messages) = AllByRecursion (AreOfOtherConversations message) messages × AreAlone messages

-- The conversations of the system's terminals, with the messages that belong to them.
pub record AreConversations (system : System) (conversations : List TerminalConversation) (messages : List Message) : Type 0 where
  pub names : map (λ t. t.terminal) conversations ≡ system.terminals
  pub pads : AllByRecursion (λ t. IfSome t.conversation (IsConversationOf system)) conversations
  pub belong : AllByRecursion (IsOfConversation conversations) messages
  pub alone : AreAlone messages

-- These are the system's databases, with rows of them, and its regions work on them.
pub record AreDatabases (system : System) (databases : DatabasesState) : Type 0 where
  pub stores : dbds_of databases ≡ system.databases
  pub rows : AreRowsOf (dbds_of databases) (committed_rows databases)
  pub regions : length databases.regions ≡ length system.regions
  pub table : databases.table.regions ≡ length system.regions

-- a region without a message has changed nothing, and waits for nothing
pub record IsIdle (region : ℕ) (databases : DatabasesState) : Type 0 where
  pub clean : IsClean region databases
  pub waits : wait_of region databases.table ≡ None

abbrev pub AreIdle : DatabasesState → List (Option Busy) → Type 0
AreIdle databases regions = (place : ℕ) → slice_get regions place ≡ Some None → IsIdle (place + 1) databases

-- The system is valid, and its lists and those of the parts go together. Each flag is as it would follow
-- on itself now. What holds of the regions and their messages is above.
pub record AreParts (system : System) (tables : TablesState) (states : List CodeState) (regions : List (Option Busy)) : Type 0 where
  pub valid : IsSystem system
  pub limit : tables.queues.limit ≡ system.qbytes
  pub names : map (λ t. t.name) tables.terminals ≡ system.terminals
  pub regions_are : length regions ≡ length system.regions
  pub states_are : length states ≡ length system.codes
  pub settled : raised_now (λ name. free_count name tables.queues.queued) system.codes (flags_of states) ≡ flags_of states
  pub told : AreHoldersTold (work_slots regions) tables.queues.queued
  pub at_work : AreAtWork system tables.databases tables.conversations tables.queues.queued regions
  pub conversations : AreConversations system tables.conversations (messages_of tables.queues.queued)
  pub databases : AreDatabases system tables.databases
  pub idle : AreIdle tables.databases regions
