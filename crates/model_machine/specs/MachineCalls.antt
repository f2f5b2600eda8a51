-- The calls of the machine: what each is answered at a moment, and what it leaves.
use Rattle.std.specs.Prelude.{ℕ, suc, ◌+◌, ◌-◌, ◌*◌, ◌==◌, nat_lt, nat_le, Bool, true, false, not, ◌&&◌, ◌||◌, if◌then◌else◌, Option, Some, None, Result, Ok, Err, List, [], ◌∷◌, length, slice_get, slice_set}
use Rattle.std.specs.Option.{option_map_or, option_and_then, option_or, unwrap_or, is_some}
use Rattle.tm_types.specs.Segment.{counted_bytes}
use Rattle.tm_types.specs.declared.message.Message.{Message}
use Rattle.model_system.specs.declared.code_state.CodeState.{CodeState}
use Rattle.model_system.specs.declared.code.Code.{Code}
use Rattle.model_system.specs.declared.code.Transaction.{Transaction}
use Rattle.model_system.specs.declared.code.SegmentKind.{SegmentKind}
use Rattle.model_system.specs.declared.code.SegmentKind.TheVariants.{Multiple, Single}
use Rattle.model_system.specs.System.{System}
use Rattle.model_system.specs.Codes.{code_at}
use Rattle.model_system.specs.Jobs.{Job, job_of}
use Rattle.model_messages.specs.declared.conversation.Conversation.{Conversation}
use Rattle.model_messages.specs.ConversationInput.{busy_id}
use Rattle.model_messages.specs.Terminals.{conversation_at}
use Rattle.model_messages.specs.declared.replies.TerminalReplies.{TerminalReplies}
use Rattle.model_messages.specs.Outputs.{first_number}
use Rattle.model_messages.specs.Room.{input_needs, slot_needs, slot_room}
use Rattle.model_messages.specs.Waiting.{first_waiting, any_worked_on}
use Rattle.model_machine.specs.declared.entry.ControlCall.{ControlCall}
use Rattle.model_machine.specs.declared.entry.ControlCall.TheVariants.{Input, Receive, Acknowledge, Turn, Command, Checkpoint, AskQuiet}
use Rattle.model_machine.specs.declared.entry.Taken.{Taken}
use Rattle.model_machine.specs.declared.entry.Taken.TheVariants.{New, Already}
use Rattle.model_machine.specs.declared.entry.InputRefused.{InputRefused}
use Rattle.model_machine.specs.declared.entry.InputRefused.TheVariants.{Terminal as NoTerminal, StoppedTerminal, Expected, Conversation as Conversing, Code as NoCode, StoppedCode, SegmentsOver, QueueFull}
use Rattle.model_machine.specs.declared.entry.ShowAnswer.{ShowAnswer}
use Rattle.model_machine.specs.declared.entry.ShowAnswer.TheVariants.{Reply as Showed, Empty, Stopped as ShowStopped, Unknown as ShowUnknown}
use Rattle.model_machine.specs.declared.entry.Acked.{Acked}
use Rattle.model_machine.specs.declared.entry.Acked.TheVariants.{Removed, Already as AckAlready}
use Rattle.model_machine.specs.declared.entry.AckRefused.{AckRefused}
use Rattle.model_machine.specs.declared.entry.AckRefused.TheVariants.{Unknown as AckUnknown, Ahead}
use Rattle.model_machine.specs.declared.entry.Turned.{Turned}
use Rattle.model_machine.specs.declared.entry.Turned.TheVariants.{Scheduled, Called, Next, QC, Done, Abended, Idle, Held, Waits, Backed}
use Rattle.model_machine.specs.Trial.{Trial, WorkEnd, Advance, advance, outputs_of, pad_of}
use Rattle.model_machine.specs.Trial.WorkEnd.{Ends, Syncs, Abends}
use Rattle.model_machine.specs.Trial.Advance.{Goes, Stops}
use Rattle.model_machine.specs.declared.lasting.TerminalState.{TerminalState}
use Rattle.model_machine.specs.CommandAnswers.{state_now, command_step}
use Rattle.model_machine.specs.Machine.{LastingState, Moment, Slot, terminal_at, output_at, slot_at, is_held, busy_slots, content, states_of, moment_with}
use Rattle.model_machine.specs.LastingSteps.{KeptInput, LastingStep, kept_input, applied}
use Rattle.model_machine.specs.LastingSteps.LastingStep.{Accepts, Acknowledges, Completes, Discards}
use Rattle.model_machine.specs.Pick.{Candidate, offered_by, pick_of}
use Rattle.model_machine.specs.WorkSoFar.{slot_trial}
use Rattle.model_machine.specs.Requests.{blocked_now, asked_table, table_after, without_victims}
use Rattle.model_data.specs.declared.request.Request.{Request}
use Rattle.model_data.specs.declared.victim.Victim.{Victim}
use Rattle.model_data.specs.Table.{EnqueueTable}

-- ---- inputs

-- what answers an input in place of its being new, if it applies
abbrev pub Refusal : Type 0
Refusal = Option (Result Taken InputRefused)

-- no terminal has the name
abbrev pub unknown_terminal : LastingState → List ℕ → Refusal
unknown_terminal lasting terminal = if is_some (terminal_at lasting.terminals terminal) then None else Some (Err NoTerminal)

-- the terminal is stopped
abbrev pub stopped_terminal : LastingState → List ℕ → Refusal
stopped_terminal lasting terminal = if option_map_or (λ t. t.stopped) (terminal_at lasting.terminals terminal) false then Some (Err StoppedTerminal) else None

-- A number that is at most the last one was accepted before; only the next one is new.
abbrev pub by_number : ℕ → ℕ → Refusal
by_number last number =
    if nat_le number last then Some (Ok Already)
    else if nat_lt (last + 1) number then Some (Err (Expected (last + 1)))
    else None

abbrev pub wrong_number : LastingState → List ℕ → ℕ → Refusal
wrong_number lasting terminal number = option_and_then (λ t. by_number t.last number) (terminal_at lasting.terminals terminal)

-- a message of the terminal's conversation is queued or worked on
abbrev pub busy_by : Option Conversation → Option ℕ → Refusal
busy_by None id = None
busy_by (Some c) None = None
busy_by (Some c) (Some id) = Some (Err (Conversing id))

abbrev pub busy_conversation : LastingState → List ℕ → Refusal
busy_conversation lasting terminal = busy_by (conversation_at terminal lasting.conversations) (busy_id terminal lasting.messages)

-- no code is the one that the input goes to
abbrev pub unknown_code : List Code → List ℕ → Refusal
unknown_code codes word = if is_some (code_at codes word) then None else Some (Err NoCode)

-- the code that it goes to is stopped
abbrev pub stopped_by : List ℕ → Option CodeState → Refusal
stopped_by code state = if option_map_or (λ s. s.stopped) state false then Some (Err (StoppedCode code)) else None

abbrev pub stopped_code : System → Moment → List ℕ → Refusal
stopped_code system moment code = stopped_by code (state_now system moment code)

-- an input has at most 16 segments, or one where its code takes single segments
abbrev pub most_segments : SegmentKind → ℕ
most_segments Multiple = 16
most_segments Single = 1

abbrev pub by_count : ℕ → ℕ → Refusal
by_count most count = if nat_lt most count then Some (Err (SegmentsOver count most)) else None

abbrev pub many_segments : List Code → KeptInput → Refusal
many_segments codes kept =
    option_and_then (λ code. by_count (most_segments code.transaction.segment_kind) (length kept.segments)) (code_at codes kept.code)

-- the queues have no room for the input as it is kept
abbrev pub by_room : ℕ → ℕ → Refusal
by_room need limit = if nat_lt limit need then Some (Err (QueueFull need limit)) else None

abbrev pub no_room : System → Moment → List (List ℕ) → Refusal
no_room system moment segments = by_room (input_needs (content moment.lasting) (counted_bytes segments) (busy_slots moment.slots)) system.qbytes

-- the refusals of an input that would be kept so, in the order in which they are looked at
abbrev pub refusals : System → Moment → List ℕ → ℕ → KeptInput → List Refusal
refusals system moment terminal number kept =
    unknown_terminal moment.lasting terminal
    ∷ stopped_terminal moment.lasting terminal
    ∷ wrong_number moment.lasting terminal number
    ∷ busy_conversation moment.lasting terminal
    ∷ unknown_code system.codes kept.code
    ∷ stopped_code system moment kept.code
    ∷ many_segments system.codes kept
    ∷ no_room system moment kept.segments
    ∷ []

-- the first that applies
abbrev pub first_refusal : List Refusal → Refusal
first_refusal [] = None
first_refusal (refusal ∷ others) = option_or refusal (first_refusal others)

-- an input that none applies to is new, under the next id
abbrev pub input_answer : System → Moment → List ℕ → ℕ → List (List ℕ) → Result Taken InputRefused
input_answer system moment terminal number segments =
    unwrap_or (first_refusal (refusals system moment terminal number (kept_input system moment.lasting terminal segments))) (Ok (New moment.lasting.next_id))

-- ---- replies

-- the lowest reply that is kept, under its own number; a stopped terminal is shown nothing
abbrev pub show_by : Option TerminalReplies → ShowAnswer
show_by None = ShowUnknown
show_by (Some output) = option_map_or (λ reply. Showed reply.number) (slice_get output.replies 0) Empty

abbrev pub show_to : Option TerminalState → Option TerminalReplies → ShowAnswer
show_to None output = ShowUnknown
show_to (Some terminal) output = if terminal.stopped then ShowStopped else show_by output

abbrev pub show_answer : Moment → List ℕ → ShowAnswer
show_answer moment terminal = show_to (terminal_at moment.lasting.terminals terminal) (output_at moment.lasting.outputs terminal)

-- what is below the first number was acknowledged before; the first is removed where it is kept
abbrev pub ack_by : Option TerminalReplies → ℕ → Result Acked AckRefused
ack_by None number = Err AckUnknown
ack_by (Some output) number =
    if nat_lt number (first_number output) then Ok AckAlready
    else if (number == first_number output) && is_some (slice_get output.replies 0) then Ok Removed
    else Err (Ahead (first_number output))

abbrev pub ack_answer : Moment → List ℕ → ℕ → Result Acked AckRefused
ack_answer moment terminal number = ack_by (output_at moment.lasting.outputs terminal) number

-- ---- turns

abbrev pub offered_among : List (Option Slot) → List Message → Code → Option ℕ
offered_among slots messages code =
    offered_by code.transaction (any_worked_on (is_held slots) code.transaction.code messages)
    (first_waiting (is_held slots) code.transaction.code messages)

abbrev pub pick_now : System → Moment → ℕ → Option Candidate
pick_now system moment region = pick_of system region (states_of moment) (offered_among moment.slots moment.lasting.messages)

-- what one more region at work needs
abbrev pub need_now : Moment → ℕ
need_now moment = slot_needs (content moment.lasting) (busy_slots moment.slots)

-- an empty region takes the message that is picked, where the queues have the room; else it is held
abbrev pub schedule_answer : Option Candidate → ℕ → ℕ → Turned
schedule_answer None need limit = Idle
schedule_answer (Some pick) need limit = if nat_lt limit need then Held need limit else Scheduled pick.code pick.id

-- the same, and what comes behind them
pub record AtWork : Type 0 where
  pub trial : Trial
  pub advance : Advance

abbrev pub work_by : Job → LastingState → Trial → AtWork
work_by job lasting trial = record { trial = trial; advance = advance job lasting.rows trial }

abbrev pub slot_work : System → LastingState → Slot → Option AtWork
slot_work system lasting slot =
    option_and_then (λ job. option_and_then (λ trial. Some (work_by job lasting trial)) (slot_trial system lasting slot)) (job_of system slot.code)

-- the step with which the work on a slot's message ends
abbrev pub ending_step : Slot → Trial → WorkEnd → LastingStep
ending_step slot trial Ends = Completes slot.id trial.databases.rows (outputs_of trial) (pad_of trial)
ending_step slot trial Syncs = Completes slot.id trial.databases.rows (outputs_of trial) (pad_of trial)
ending_step slot trial (Abends abend) = Discards slot.id abend

-- A region goes on with a further message where it has taken fewer than its code's count, or that
-- is no limit, and where the code isn't stopped; then with the first that waits, if the queues have
-- the room. The state is the one behind the completion.
abbrev pub may_go_on : Transaction → CodeState → ℕ → Bool
may_go_on transaction state taken =
    not state.stopped && ((transaction.processing_count == 65535) || nat_lt taken transaction.processing_count)

abbrev pub next_among : System → Moment → LastingState → Slot → Option Code → Option CodeState → Option ℕ
next_among system moment behind slot (Some code) (Some state) =
    if may_go_on code.transaction state slot.taken && nat_le (content behind + slot_room * busy_slots moment.slots) system.qbytes
    then first_waiting (is_held moment.slots) slot.code behind.messages
    else None
next_among system moment behind slot _ _ = None

abbrev pub next_message : System → Moment → LastingState → Slot → Option ℕ
next_message system moment behind slot =
    next_among system moment behind slot (code_at system.codes slot.code) (state_now system moment slot.code)

abbrev pub sync_answer : Slot → Option ℕ → Turned
sync_answer slot (Some next) = Next slot.code slot.id next
sync_answer slot None = QC slot.code slot.id

-- The script, run from its start, makes its next call and is answered so; or the work, done from its
-- start, ends here.
abbrev pub work_answer : System → Moment → Slot → Trial → Advance → Turned
work_answer system moment slot trial (Goes after call) = Called call.function call.pcb call.status
work_answer system moment slot trial (Stops Ends) = Done slot.code slot.id
work_answer system moment slot trial (Stops Syncs) =
    sync_answer slot (next_message system moment (applied (ending_step slot trial Syncs) moment.lasting) slot)
work_answer system moment slot trial (Stops (Abends abend)) = Abended slot.code slot.id abend

abbrev pub slot_answer : System → Moment → Slot → Turned
slot_answer system moment slot = option_map_or (λ work. work_answer system moment slot work.trial work.advance) (slot_work system moment.lasting slot) Idle

-- A blocked region waits; where its wait closes rings, the victims give way.
abbrev pub blocked_answer : Request × ℕ → List Victim → Turned
blocked_answer blocked [] = Waits blocked.0.resource blocked.1
blocked_answer blocked (v ∷ victims) = Backed (v ∷ victims)

-- A turn by the region's slot. These are the victims, if its request is blocked.
abbrev pub turn_by : System → Moment → ℕ → List Victim → Option Slot → Turned
turn_by system moment region victims None = schedule_answer (pick_now system moment region) (need_now moment) system.qbytes
turn_by system moment region victims (Some slot) =
    option_map_or (λ blocked. blocked_answer blocked victims) (blocked_now system moment region slot) (slot_answer system moment slot)

abbrev pub turn_answer : System → Moment → ℕ → List Victim → Turned
turn_answer system moment region victims = turn_by system moment region victims (slot_at moment region)

-- ---- what a call leaves

-- The step that lasts of a call, if one does: a function of the moment and the call alone.
abbrev pub accepted_step : List ℕ → ℕ → KeptInput → Result Taken InputRefused → Option LastingStep
accepted_step terminal number kept (Ok (New id)) = Some (Accepts terminal number kept)
accepted_step terminal number kept _ = None

abbrev pub acknowledged_step : List ℕ → Result Acked AckRefused → Option LastingStep
acknowledged_step terminal (Ok Removed) = Some (Acknowledges terminal)
acknowledged_step terminal _ = None

abbrev pub ended_step : Slot → Trial → Advance → Option LastingStep
ended_step slot trial (Goes after call) = None
ended_step slot trial (Stops end) = Some (ending_step slot trial end)

abbrev pub turn_step : System → LastingState → Slot → Option LastingStep
turn_step system lasting slot = option_and_then (λ work. ended_step slot work.trial work.advance) (slot_work system lasting slot)

-- a region whose request is blocked does nothing that lasts
abbrev pub unless_blocked : Option (Request × ℕ) → Option LastingStep → Option LastingStep
unless_blocked (Some blocked) step = None
unless_blocked None step = step

abbrev pub step_in_turn : System → Moment → ℕ → Slot → Option LastingStep
step_in_turn system moment region slot = unless_blocked (blocked_now system moment region slot) (turn_step system moment.lasting slot)

abbrev pub lasting_step : System → Moment → ControlCall → Option LastingStep
lasting_step system moment (Input terminal number segments) =
    accepted_step terminal number (kept_input system moment.lasting terminal segments) (input_answer system moment terminal number segments)
lasting_step system moment (Receive terminal) = None
lasting_step system moment (Acknowledge terminal number) = acknowledged_step terminal (ack_answer moment terminal number)
lasting_step system moment (Turn region) =
    option_and_then (step_in_turn system moment region) (slot_at moment region)
lasting_step system moment (Command command) = command_step system moment command
lasting_step system moment (Checkpoint freeze) = None
lasting_step system moment AskQuiet = None

abbrev pub lasting_after : System → Moment → ControlCall → LastingState
lasting_after system moment call = option_map_or (λ step. applied step moment.lasting) (lasting_step system moment call) moment.lasting

-- a region's slot behind its turn, by the answer
abbrev pub slot_after : Turned → Option Slot → Option Slot
slot_after (Scheduled code id) slot = Some (record { code = code; taken = 1; id = id; calls = 0 })
slot_after (Called function pcb status) (Some slot) = Some (record slot { calls = slot.calls + 1 })
slot_after (Called function pcb status) None = None
slot_after (Next code id next) (Some slot) = Some (record slot { taken = slot.taken + 1; id = next; calls = 0 })
slot_after (Next code id next) None = None
slot_after (QC code id) slot = None
slot_after (Done code id) slot = None
slot_after (Abended code id abend) slot = None
slot_after Idle slot = slot
slot_after (Held need limit) slot = slot
slot_after (Waits resource by) slot = slot
slot_after (Backed victims) slot = slot

abbrev pub slots_after : System → Moment → ControlCall → List Victim → List (Option Slot)
slots_after system moment (Turn region) victims =
    without_victims victims (slice_set moment.slots (region - 1) (slot_after (turn_answer system moment region victims) (slot_at moment region)))
slots_after system moment _ victims = moment.slots

abbrev pub enqueues_after : System → Moment → ControlCall → List Victim → EnqueueTable
enqueues_after system moment (Turn region) victims = table_after (turn_answer system moment region victims) region (asked_table system moment region)
enqueues_after system moment _ victims = moment.enqueues

-- What a call leaves: its step is done, its region's slot and what it holds follow, victims have neither, and
-- then the flag of each code follows.
abbrev pub After : System → Moment → ControlCall → List Victim → Moment
After system moment call victims =
    moment_with system (lasting_after system moment call) (slots_after system moment call victims) (enqueues_after system moment call victims) moment.raised

-- ---- quiet

-- A region rests where it is empty, and there is nothing to pick or no room for it.
abbrev pub rests : System → Moment → ℕ → Bool
rests system moment region =
    not (is_some (slot_at moment region))
    && (not (is_some (pick_now system moment region)) || nat_lt system.qbytes (need_now moment))

abbrev pub all_rest : System → Moment → ℕ → List (Option Slot) → Bool
all_rest system moment region [] = true
all_rest system moment region (slot ∷ slots) = rests system moment region && all_rest system moment (suc region) slots

-- nothing is left to do: all regions rest
abbrev pub is_machine_quiet : System → Moment → Bool
is_machine_quiet system moment = all_rest system moment 1 moment.slots
