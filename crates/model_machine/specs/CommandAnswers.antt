-- What an operator's commands are answered at a moment, and which of them last.
use Rattle.std.specs.Prelude.{⊤, ◌≤◌, ℕ, suc, ◌-◌, Bool, if◌then◌else◌, Option, Some, None, Result, Ok, Err, List, [], ◌∷◌, length, take, slice_get}
use Rattle.std.specs.Option.{option_map, option_map_or, option_and_then, is_some}
use Rattle.tm_types.specs.declared.command.LastingCommand.{LastingCommand}
use Rattle.tm_types.specs.declared.command.LastingCommand.TheVariants as lasts
use Rattle.tm_types.specs.declared.dbd.Dbd.{Dbd}
use Rattle.tm_types.specs.declared.resource.Resource.{Resource}
use Rattle.model_machine.specs.declared.command.Command.{Command}
use Rattle.model_machine.specs.declared.command.Command.TheVariants.{StartTransaction, StopTransaction, StartTerminal, StopTerminal, DisplayTransaction, DisplayTerminal, DisplayActive, Checkpoint, Freeze, DequeueFirst, DequeueAll, Exit, AssignClass, AssignPriority, EmergencyRestart, NormalRestart, ColdStart}
use Rattle.model_machine.specs.declared.answer.Answer.{Answer}
use Rattle.model_machine.specs.declared.answer.Answer.TheVariants.{Started, Stopped, Transaction as CodeShown, Terminal as TerminalShown, Active, Dequeued, Exited, AssignedClass, AssignedPriority, Up}
use Rattle.model_machine.specs.declared.active.ActiveRegion.{ActiveRegion}
use Rattle.model_machine.specs.declared.active.RegionWork.{RegionWork}
use Rattle.model_machine.specs.declared.active.RegionWork.TheVariants.{Idle, Working, Waiting}
use Rattle.model_system.specs.declared.code_state.CodeState.{CodeState}
use Rattle.model_system.specs.declared.code.Code.{Code}
use Rattle.model_system.specs.Codes.{code_at, code_place}
use Rattle.model_system.specs.System.{System}
use Rattle.model_messages.specs.declared.conversation.Conversation.{Conversation}
use Rattle.model_messages.specs.ConversationInput.{busy_id}
use Rattle.model_messages.specs.Terminals.{conversation_at}
use Rattle.model_messages.specs.declared.replies.TerminalReplies.{TerminalReplies}
use Rattle.model_data.specs.Table.{EnqueueTable, wait_of, waits_by}
use Rattle.model_machine.specs.declared.entry.CommandRefused.{CommandRefused}
use Rattle.model_machine.specs.declared.entry.CommandRefused.TheVariants.{UnknownName, Busy, NoConversation}
use Rattle.model_machine.specs.declared.entry.CheckpointRefused.{CheckpointRefused}
use Rattle.model_machine.specs.declared.entry.CheckpointRefused.TheVariants.{BusyRegion}
use Rattle.model_machine.specs.declared.lasting.TerminalState.{TerminalState}
use Rattle.model_machine.specs.Machine.{LastingState, Moment, Slot, terminal_at, output_at, states_of, waiting_now}
use Rattle.model_machine.specs.LastingSteps.{LastingStep}
use Rattle.model_machine.specs.LastingSteps.LastingStep.{Commands}
use Rattle.model_machine.specs.Pick.{current_priority}

-- the state of a code now
abbrev pub state_now : System → Moment → List ℕ → Option CodeState
state_now system moment code = option_and_then (slice_get (states_of moment)) (code_place system.codes code)

-- ---- names

abbrev pub CommandAnswer : Type 0
CommandAnswer = Result Answer CommandRefused

-- an answer, where there is a code and a terminal of the name
abbrev pub of_code : System → List ℕ → CommandAnswer → CommandAnswer
of_code system code answer = if is_some (code_at system.codes code) then answer else Err (UnknownName code)

abbrev pub of_terminal : LastingState → List ℕ → CommandAnswer → CommandAnswer
of_terminal lasting terminal answer = if is_some (terminal_at lasting.terminals terminal) then answer else Err (UnknownName terminal)

-- ---- displays

-- A code: the priority that counts now, and so many messages that no region has.
abbrev pub shown_code : List ℕ → ℕ → Option Code → Option CodeState → CommandAnswer
shown_code name queued (Some code) (Some state) = Ok (CodeShown name state.class (current_priority code state) queued state.stopped)
shown_code name queued _ _ = Err (UnknownName name)

-- A terminal: the last input number, the last output number, and how many replies are kept.
abbrev pub shown_terminal : List ℕ → Option TerminalState → Option TerminalReplies → CommandAnswer
shown_terminal name (Some terminal) (Some output) = Ok (TerminalShown name terminal.last (output.next - 1) (length output.replies) terminal.stopped)
shown_terminal name _ _ = Err (UnknownName name)

-- A region waits where what it waits for is still blocked: for the record of a database with a root key, or for the sequence
-- of the database's roots.
abbrev pub waiting_work : List Dbd → Slot → Option Resource → Option ℕ → RegionWork
waiting_work databases slot (Some resource) (Some by) =
    option_map_or (λ dbd. Waiting slot.code slot.id dbd.name resource.root by) (slice_get databases (resource.db - 1)) (Working slot.code slot.id)
waiting_work databases slot _ _ = Working slot.code slot.id

abbrev pub work_of : List Dbd → EnqueueTable → ℕ → Option Slot → RegionWork
work_of databases table region None = Idle
work_of databases table region (Some slot) =
    waiting_work databases slot (option_map (λ request. request.resource) (wait_of region table)) (waits_by region table)

-- each region from this number on, with what it does
abbrev pub active_from : List Dbd → EnqueueTable → ℕ → List (Option Slot) → List ActiveRegion
active_from databases table region [] = []
active_from databases table region (slot ∷ slots) =
    record { region = region; work = work_of databases table region slot } ∷ active_from databases table (suc region) slots

-- ---- replies and conversations

-- so many replies go: the first, if there is one, or all
abbrev pub first_dequeued : List ℕ → Option TerminalReplies → CommandAnswer
first_dequeued name (Some output) = Ok (Dequeued (length (take 1 output.replies)))
first_dequeued name None = Err (UnknownName name)

abbrev pub all_dequeued : List ℕ → Option TerminalReplies → CommandAnswer
all_dequeued name (Some output) = Ok (Dequeued (length output.replies))
all_dequeued name None = Err (UnknownName name)

-- A conversation ends, unless a message of it is queued or worked on.
abbrev pub exited : List ℕ → Option Conversation → Option ℕ → CommandAnswer
exited name (Some c) None = Ok (Exited name)
exited name (Some c) (Some id) = Err (Busy id)
exited name None id = Err NoConversation

-- ---- all of them

-- The commands that a control region does. A checkpoint is a call of its own, and a restart opens another life. A class that is
-- assigned is 1 to 255, and a priority 0 to 14.
abbrev pub IsCommandServed : Command → Type 0
IsCommandServed Checkpoint = ⊥
IsCommandServed Freeze = ⊥
IsCommandServed EmergencyRestart = ⊥
IsCommandServed NormalRestart = ⊥
IsCommandServed ColdStart = ⊥
IsCommandServed (AssignClass code class) = (1 ≤ class) × (class ≤ 255)
IsCommandServed (AssignPriority code priority) = priority ≤ 14
IsCommandServed _ = ⊤

-- the answer to a command; a system that is up isn't opened again
abbrev pub command_answer : System → Moment → Command → CommandAnswer
command_answer system moment (StartTransaction code) = of_code system code (Ok (Started code))
command_answer system moment (StopTransaction code) = of_code system code (Ok (Stopped code))
command_answer system moment (StartTerminal terminal) = of_terminal moment.lasting terminal (Ok (Started terminal))
command_answer system moment (StopTerminal terminal) = of_terminal moment.lasting terminal (Ok (Stopped terminal))
command_answer system moment (DisplayTransaction code) =
    shown_code code (waiting_now moment.lasting moment.slots code) (code_at system.codes code) (state_now system moment code)
command_answer system moment (DisplayTerminal terminal) =
    shown_terminal terminal (terminal_at moment.lasting.terminals terminal) (output_at moment.lasting.outputs terminal)
command_answer system moment DisplayActive = Ok (Active (active_from system.databases moment.enqueues 1 moment.slots))
command_answer system moment (DequeueFirst terminal) = first_dequeued terminal (output_at moment.lasting.outputs terminal)
command_answer system moment (DequeueAll terminal) = all_dequeued terminal (output_at moment.lasting.outputs terminal)
command_answer system moment (Exit terminal) =
    of_terminal moment.lasting terminal
    (exited terminal (conversation_at terminal moment.lasting.conversations) (busy_id terminal moment.lasting.messages))
command_answer system moment (AssignClass code class) = of_code system code (Ok (AssignedClass code class))
command_answer system moment (AssignPriority code priority) = of_code system code (Ok (AssignedPriority code priority))
command_answer system moment Checkpoint = Ok Up
command_answer system moment Freeze = Ok Up
command_answer system moment EmergencyRestart = Ok Up
command_answer system moment NormalRestart = Ok Up
command_answer system moment ColdStart = Ok Up

-- the command that lasts of those that do
abbrev pub lasting_command : Command → Option LastingCommand
lasting_command (StartTransaction code) = Some (lasts.StartTransaction code)
lasting_command (StopTransaction code) = Some (lasts.StopTransaction code)
lasting_command (StartTerminal terminal) = Some (lasts.StartTerminal terminal)
lasting_command (StopTerminal terminal) = Some (lasts.StopTerminal terminal)
lasting_command (DequeueFirst terminal) = Some (lasts.DequeueFirst terminal)
lasting_command (DequeueAll terminal) = Some (lasts.DequeueAll terminal)
lasting_command (Exit terminal) = Some (lasts.Exit terminal)
lasting_command (AssignClass code class) = Some (lasts.AssignClass code class)
lasting_command (AssignPriority code priority) = Some (lasts.AssignPriority code priority)
lasting_command _ = None

-- what was answered otherwise than by a refusal lasts, also where it changes nothing
abbrev pub steps_by : Option LastingCommand → CommandAnswer → Option LastingStep
steps_by command (Ok answer) = option_map Commands command
steps_by command (Err refused) = None

abbrev pub command_step : System → Moment → Command → Option LastingStep
command_step system moment command = steps_by (lasting_command command) (command_answer system moment command)

-- ---- checkpoints

-- the lowest region from this number on that works on a message, with the message's id
abbrev pub first_busy : ℕ → List (Option Slot) → Option (ℕ × ℕ)
first_busy region [] = None
first_busy region (Some slot ∷ slots) = Some (region, slot.id)
first_busy region (None ∷ slots) = first_busy (suc region) slots

abbrev pub unless_busy : ℕ → Option (ℕ × ℕ) → Result ℕ CheckpointRefused
unless_busy number (Some busy) = Err (BusyRegion busy.0 busy.1)
unless_busy number None = Ok number

-- A checkpoint gets this number. One behind which the life ends is refused where a region is busy.
abbrev pub checkpoint_answer : Moment → Bool → ℕ → Result ℕ CheckpointRefused
checkpoint_answer moment freeze number = if freeze then unless_busy number (first_busy 1 moment.slots) else Ok number
