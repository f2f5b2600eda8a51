-- An entry with the machine's answer has no fault in its place.
use Rattle.std.proofs.Common.{◌≡◌, ℕ, ◌+◌, Bool, true, false, ◌&&◌, List, length, refl, ◌∙◌, ap}
use Rattle.std.specs.Prelude.{Option, Some, None, Result, Ok, Err, if◌then◌else◌, nat_le, nat_lt, ◌==◌, slice_get}
use Rattle.std.specs.Option.{is_some, option_map_or, option_and_then, option_or, unwrap_or}
use Rattle.model_machine.specs.declared.command.Command.{Command}
use Rattle.model_machine.specs.declared.command.Command.TheVariants.{StartTransaction, StopTransaction, StartTerminal, StopTerminal, DisplayTransaction, DisplayTerminal, DisplayActive, Checkpoint as TakeCheckpoint, Freeze, DequeueFirst, DequeueAll, Exit, AssignClass, AssignPriority, EmergencyRestart, NormalRestart, ColdStart}
use Rattle.model_system.specs.declared.code.Code.{Code}
use Rattle.model_system.specs.declared.code_state.CodeState.{CodeState}
use Rattle.model_system.specs.Codes.{code_at}
use Rattle.model_system.specs.System.{System}
use Rattle.model_messages.specs.declared.conversation.Conversation.{Conversation}
use Rattle.model_messages.specs.ConversationInput.{busy_id}
use Rattle.model_messages.specs.Terminals.{conversation_at}
use Rattle.model_messages.specs.declared.replies.TerminalReplies.{TerminalReplies}
use Rattle.model_messages.specs.Outputs.{first_number}
use Rattle.model_messages.specs.Room.{input_needs}
use Rattle.tm_types.specs.Segment.{counted_bytes}
use Rattle.model_machine.specs.declared.entry.AckRefused.{AckRefused}
use Rattle.model_machine.specs.declared.entry.Acked.{Acked}
use Rattle.model_machine.specs.declared.entry.CommandRefused.TheVariants.{UnknownName}
use Rattle.model_machine.specs.declared.entry.ControlCall.{ControlCall}
use Rattle.model_machine.specs.declared.entry.ControlCall.TheVariants.{Input, Receive, Acknowledge, Turn, Command as CommandCall, Checkpoint, AskQuiet}
use Rattle.model_machine.specs.declared.entry.Entry.{Entry}
use Rattle.model_machine.specs.declared.entry.Entry.TheVariants.{Accept, Acked as AckedEntry, Commanded, Checked}
use Rattle.model_machine.specs.declared.entry.InputRefused.TheVariants.{Terminal as NoTerminal, StoppedTerminal, Expected, Code as NoCode, StoppedCode, SegmentsOver, QueueFull}
use Rattle.model_machine.specs.declared.entry.Taken.TheVariants.{New, Already}
use Rattle.model_machine.specs.declared.lasting.TerminalState.{TerminalState}
use Rattle.model_data.specs.declared.victim.Victim.{Victim}
use Rattle.model_machine.specs.Machine.{Moment, terminal_at, output_at, content, busy_slots, waiting_now}
use Rattle.model_machine.specs.LastingSteps.{KeptInput, kept_input}
use Rattle.model_machine.specs.CommandAnswers.{CommandAnswer, shown_code, shown_terminal, first_dequeued, all_dequeued, exited, command_answer, unless_busy, first_busy, checkpoint_answer, state_now}
use Rattle.model_machine.specs.MachineCalls.{Refusal, refusals, first_refusal, by_number, busy_by, most_segments, by_count, input_answer, ack_by}
use Rattle.model_machine.specs.History.{May, call_of, entry_now, is_fault, checkpoint_number_in, victims_in}

-- ---- inputs

module _ (terminal : List ℕ) (number : ℕ) (segments : List (List ℕ)) where
  abbrev Fine : Refusal → Type 0
  Fine None = Unit {0}
  Fine (Some answer) = is_fault (Accept terminal number segments answer) ≡ false

  choose : (b : Bool) (first second : Refusal) → Fine first → Fine second → Fine (if b then first else second)
  choose true first second one two = one
  choose false first second one two = two

  next : (refusal others : Refusal) → Fine refusal → Fine others → Fine (option_or refusal others)
  next None others one two = two
  next (Some answer) others one two = one

  at_end : (refusal : Refusal) (id : ℕ) → Fine refusal → is_fault (Accept terminal number segments (unwrap_or refusal (Ok (New id)))) ≡ false
  at_end None id fine = refl
  at_end (Some answer) id fine = fine

  number_fine : (last : ℕ) → Fine (by_number last number)
  number_fine last =
      choose (nat_le number last) (Some (Ok Already)) (if nat_lt (last + 1) number then Some (Err (Expected (last + 1))) else None) refl
      (choose (nat_lt (last + 1) number) (Some (Err (Expected (last + 1)))) None refl tt)

  terminal_fine : (state : Option TerminalState) → Fine (option_and_then (λ t. by_number t.last number) state)
  terminal_fine None = tt
  terminal_fine (Some state) = number_fine state.last

  busy_fine : (conversation : Option Conversation) (id : Option ℕ) → Fine (busy_by conversation id)
  busy_fine None id = tt
  busy_fine (Some c) None = tt
  busy_fine (Some c) (Some id) = refl

  segments_fine : (count : ℕ) (code : Option Code) → Fine (option_and_then (λ code. by_count (most_segments code.transaction.segment_kind) count) code)
  segments_fine count None = tt
  segments_fine count (Some code) =
      choose (nat_lt (most_segments code.transaction.segment_kind) count) (Some (Err (SegmentsOver count (most_segments code.transaction.segment_kind)))) None refl tt

  input_fine : (system : System) (moment : Moment) → is_fault (Accept terminal number segments (input_answer system moment terminal number segments)) ≡ false
  input_fine system moment =
      let kept : KeptInput = kept_input system moment.lasting terminal segments in
      let need : ℕ = input_needs (content moment.lasting) (counted_bytes kept.segments) (busy_slots moment.slots) in
      at_end (first_refusal (refusals system moment terminal number kept)) moment.lasting.next_id
      (next _ _ (choose (is_some (terminal_at moment.lasting.terminals terminal)) None (Some (Err NoTerminal)) tt refl)
      (next _ _ (choose (option_map_or (λ t. t.stopped) (terminal_at moment.lasting.terminals terminal) false) (Some (Err StoppedTerminal)) None refl tt)
      (next _ _ (terminal_fine (terminal_at moment.lasting.terminals terminal))
      (next _ _ (busy_fine (conversation_at terminal moment.lasting.conversations) (busy_id terminal moment.lasting.messages))
      (next _ _ (choose (is_some (code_at system.codes kept.code)) None (Some (Err NoCode)) tt refl)
      (next _ _ (choose (option_map_or (λ s. s.stopped) (state_now system moment kept.code) false) (Some (Err (StoppedCode kept.code))) None refl tt)
      (next _ _ (segments_fine (length kept.segments) (code_at system.codes kept.code))
      (next _ _ (choose (nat_lt system.qbytes need) (Some (Err (QueueFull need system.qbytes))) None refl tt) tt))))))))

-- ---- replies

module _ (terminal : List ℕ) (number : ℕ) where
  ack_choose : (b : Bool) (first second : Result Acked AckRefused) → is_fault (AckedEntry terminal number first) ≡ false → is_fault (AckedEntry terminal number second) ≡ false
      → is_fault (AckedEntry terminal number (if b then first else second)) ≡ false
  ack_choose true first second one two = one
  ack_choose false first second one two = two

  ack_fine : (output : Option TerminalReplies) → is_fault (AckedEntry terminal number (ack_by output number)) ≡ false
  ack_fine None = refl
  ack_fine (Some output) =
      ack_choose (nat_lt number (first_number output)) _ _ refl
      (ack_choose ((number == first_number output) && is_some (slice_get output.replies 0)) _ _ refl refl)

-- ---- commands

module _ (command : Command) where
  abbrev IsFine : CommandAnswer → Type 0
  IsFine answer = is_fault (Commanded command answer) ≡ false

  named_fine : (known : Bool) (name : List ℕ) (answer : CommandAnswer) → IsFine answer → IsFine (if known then answer else Err (UnknownName name))
  named_fine true name answer fine = fine
  named_fine false name answer fine = refl

  code_fine : (name : List ℕ) (queued : ℕ) (code : Option Code) (state : Option CodeState) → IsFine (shown_code name queued code state)
  code_fine name queued (Some code) (Some state) = refl
  code_fine name queued (Some code) None = refl
  code_fine name queued None state = refl

  shown_fine : (name : List ℕ) (terminal : Option TerminalState) (output : Option TerminalReplies) → IsFine (shown_terminal name terminal output)
  shown_fine name (Some terminal) (Some output) = refl
  shown_fine name (Some terminal) None = refl
  shown_fine name None output = refl

  first_fine : (name : List ℕ) (output : Option TerminalReplies) → IsFine (first_dequeued name output)
  first_fine name (Some output) = refl
  first_fine name None = refl

  all_fine : (name : List ℕ) (output : Option TerminalReplies) → IsFine (all_dequeued name output)
  all_fine name (Some output) = refl
  all_fine name None = refl

  exit_fine : (name : List ℕ) (conversation : Option Conversation) (id : Option ℕ) → IsFine (exited name conversation id)
  exit_fine name (Some c) None = refl
  exit_fine name (Some c) (Some id) = refl
  exit_fine name None id = refl

command_fine : (system : System) (moment : Moment) (command : Command) → is_fault (Commanded command (command_answer system moment command)) ≡ false
command_fine system moment (StartTransaction code) = named_fine (StartTransaction code) (is_some (code_at system.codes code)) code _ refl
command_fine system moment (StopTransaction code) = named_fine (StopTransaction code) (is_some (code_at system.codes code)) code _ refl
command_fine system moment (StartTerminal terminal) = named_fine (StartTerminal terminal) (is_some (terminal_at moment.lasting.terminals terminal)) terminal _ refl
command_fine system moment (StopTerminal terminal) = named_fine (StopTerminal terminal) (is_some (terminal_at moment.lasting.terminals terminal)) terminal _ refl
command_fine system moment (DisplayTransaction code) =
    code_fine (DisplayTransaction code) code (waiting_now moment.lasting moment.slots code) (code_at system.codes code) (state_now system moment code)
command_fine system moment (DisplayTerminal terminal) =
    shown_fine (DisplayTerminal terminal) terminal (terminal_at moment.lasting.terminals terminal) (output_at moment.lasting.outputs terminal)
command_fine system moment DisplayActive = refl
command_fine system moment (DequeueFirst terminal) = first_fine (DequeueFirst terminal) terminal (output_at moment.lasting.outputs terminal)
command_fine system moment (DequeueAll terminal) = all_fine (DequeueAll terminal) terminal (output_at moment.lasting.outputs terminal)
command_fine system moment (Exit terminal) =
    named_fine (Exit terminal) (is_some (terminal_at moment.lasting.terminals terminal)) terminal _
    (exit_fine (Exit terminal) terminal (conversation_at terminal moment.lasting.conversations) (busy_id terminal moment.lasting.messages))
command_fine system moment (AssignClass code class) = named_fine (AssignClass code class) (is_some (code_at system.codes code)) code _ refl
command_fine system moment (AssignPriority code priority) = named_fine (AssignPriority code priority) (is_some (code_at system.codes code)) code _ refl
command_fine system moment TakeCheckpoint = refl
command_fine system moment Freeze = refl
command_fine system moment EmergencyRestart = refl
command_fine system moment NormalRestart = refl
command_fine system moment ColdStart = refl

-- ---- checkpoints

unless_fine : (freeze : Bool) (number : ℕ) (busy : Option (ℕ × ℕ)) → is_fault (Checked freeze (unless_busy number busy)) ≡ false
unless_fine freeze number None = refl
unless_fine freeze number (Some busy) = refl

checkpoint_fine : (moment : Moment) (freeze : Bool) (number : ℕ) → is_fault (Checked freeze (checkpoint_answer moment freeze number)) ≡ false
checkpoint_fine moment true number = unless_fine true number (first_busy 1 moment.slots)
checkpoint_fine moment false number = refl

-- ---- all of them

entry_fine : (system : System) (moment : Moment) (victims : List Victim) (number : ℕ) (call : ControlCall) → is_fault (entry_now system moment victims number call) ≡ false
entry_fine system moment victims number (Input terminal n segments) = input_fine terminal n segments system moment
entry_fine system moment victims number (Receive terminal) = refl
entry_fine system moment victims number (Acknowledge terminal n) = ack_fine terminal n (output_at moment.lasting.outputs terminal)
entry_fine system moment victims number (Turn region) = refl
entry_fine system moment victims number (CommandCall command) = command_fine system moment command
entry_fine system moment victims number (Checkpoint freeze) = checkpoint_fine moment freeze number
entry_fine system moment victims number AskQuiet = refl

pub unfaulted : (system : System) (moment : Moment) (entry : Entry) → May system moment entry → is_fault entry ≡ false
unfaulted system moment entry may = ap is_fault may.answer ∙ entry_fine system moment (victims_in entry) (checkpoint_number_in entry) (call_of entry)
