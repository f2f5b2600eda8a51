-- Whole lives: which histories are legal, and where they lead.
use Rattle.std.specs.Prelude.{◌≡◌, ◌<◌, ⊤, ℕ, Bool, true, false, Ok, Err, Option, None, Some, List, [], ◌∷◌, ◌++◌, length}
use Rattle.model_machine.specs.declared.entry.Entry.{Entry}
use Rattle.model_machine.specs.declared.entry.Entry.TheVariants.{Accept, Show, Acked, Turn as TurnEntry, Commanded, Checked, Quiet}
use Rattle.model_machine.specs.declared.entry.ControlCall.{ControlCall}
use Rattle.model_machine.specs.declared.entry.ControlCall.TheVariants.{Input, Receive, Acknowledge, Turn, Command, Checkpoint, AskQuiet}
use Rattle.model_machine.specs.declared.entry.InputRefused.TheVariants.{Fault as InputFault}
use Rattle.model_machine.specs.declared.entry.AckRefused.TheVariants.{Fault as AckFault}
use Rattle.model_machine.specs.declared.entry.CommandRefused.TheVariants.{Fault as CommandFault}
use Rattle.model_machine.specs.declared.entry.CheckpointRefused.TheVariants.{Fault as CheckpointFault}
use Rattle.model_system.specs.System.{System}
use Rattle.model_machine.specs.Machine.{LastingState, Moment, start_of, slot_at, IsRegion}
use Rattle.model_machine.specs.declared.entry.Turned.TheVariants.{Backed}
use Rattle.model_data.specs.declared.victim.Victim.{Victim}
use Rattle.model_machine.specs.Requests.{BreaksRingsAt}
use Rattle.model_machine.specs.CommandAnswers.{IsCommandServed, command_answer, checkpoint_answer}
use Rattle.model_machine.specs.MachineCalls.{input_answer, show_answer, ack_answer, turn_answer, is_machine_quiet, After}

-- the call that an entry answers
abbrev pub call_of : Entry → ControlCall
call_of (Accept terminal number segments answer) = Input terminal number segments
call_of (Show terminal answer) = Receive terminal
call_of (Acked terminal number answer) = Acknowledge terminal number
call_of (TurnEntry region answer) = Turn region
call_of (Commanded command answer) = Command command
call_of (Checked freeze answer) = Checkpoint freeze
call_of (Quiet quiet) = AskQuiet

-- the regions that gave way in the turn that an entry tells of
abbrev pub victims_in : Entry → List Victim
victims_in (TurnEntry region (Ok (Backed victims))) = victims
victims_in _ = []

-- the number of the checkpoint that an entry tells of
abbrev pub checkpoint_number_in : Entry → ℕ
checkpoint_number_in (Checked freeze (Ok number)) = number
checkpoint_number_in _ = 0

-- The entry that a call adds at a moment, and no other: the call with the machine's answer. These are the
-- victims, where the call is a turn whose request is blocked, and this is the number of a checkpoint.
abbrev pub entry_now : System → Moment → List Victim → ℕ → ControlCall → Entry
entry_now system moment victims checkpoint (Input terminal number segments) = Accept terminal number segments (input_answer system moment terminal number segments)
entry_now system moment victims checkpoint (Receive terminal) = Show terminal (show_answer moment terminal)
entry_now system moment victims checkpoint (Acknowledge terminal number) = Acked terminal number (ack_answer moment terminal number)
entry_now system moment victims checkpoint (Turn region) = TurnEntry region (Ok (turn_answer system moment region victims))
entry_now system moment victims checkpoint (Command command) = Commanded command (command_answer system moment command)
entry_now system moment victims checkpoint (Checkpoint freeze) = Checked freeze (checkpoint_answer moment freeze checkpoint)
entry_now system moment victims checkpoint AskQuiet = Quiet (is_machine_quiet system moment)

-- the victims of a call are the right ones
abbrev pub AreVictims : System → Moment → List Victim → ControlCall → Type 0
AreVictims system moment victims (Turn region) = BreaksRingsAt system moment region victims (slot_at moment region)
AreVictims system moment victims _ = victims ≡ []

-- an input has a segment, a turn is one of a region that is there, and a command is one that is served
abbrev pub IsCall : System → ControlCall → Type 0
IsCall system (Input terminal number segments) = 0 < length segments
IsCall system (Receive terminal) = ⊤
IsCall system (Acknowledge terminal number) = ⊤
IsCall system (Turn region) = IsRegion system region
IsCall system (Command command) = IsCommandServed command
IsCall system (Checkpoint freeze) = ⊤
IsCall system AskQuiet = ⊤

-- the entry has the right answer at the moment
pub record May (system : System) (moment : Moment) (entry : Entry) : Type 0 where
  pub call : IsCall system (call_of entry)
  pub victims : AreVictims system moment (victims_in entry) (call_of entry)
  pub answer : entry ≡ entry_now system moment (victims_in entry) (checkpoint_number_in entry) (call_of entry)

-- what the call of an entry leaves
abbrev pub after_entry : System → Moment → Entry → Moment
after_entry system moment entry = After system moment (call_of entry) (victims_in entry)

-- the checkpoints that entries tell of have numbers above this one, each above those before it
abbrev pub AscendAbove : ℕ → List Entry → Type 0
AscendAbove least [] = ⊤
AscendAbove least (Checked freeze (Ok number) ∷ entries) = (least < number) × AscendAbove number entries
AscendAbove least (entry ∷ entries) = AscendAbove least entries

-- the moment that these entries lead to
abbrev pub moment_after : System → Moment → List Entry → Moment
moment_after system moment [] = moment
moment_after system moment (entry ∷ entries) = moment_after system (after_entry system moment entry) entries

-- each entry's answer is the right one at the moment that the entries before it lead to
abbrev pub AreSteps : System → Moment → List Entry → Type 0
AreSteps system moment [] = Unit {0}
AreSteps system moment (entry ∷ entries) = May system moment entry × AreSteps system (after_entry system moment entry) entries

-- an entry has a fault in place of its answer
abbrev pub is_fault : Entry → Bool
is_fault (Accept terminal number segments (Err (InputFault fault))) = true
is_fault (Acked terminal number (Err (AckFault fault))) = true
is_fault (TurnEntry region (Err fault)) = true
is_fault (Commanded command (Err (CommandFault fault))) = true
is_fault (Checked freeze (Err (CheckpointFault fault))) = true
is_fault _ = false

-- behind a life's steps stands nothing more, or a call that met a fault
abbrev pub IsEnd : System → Option Entry → Type 0
IsEnd system None = Unit {0}
IsEnd system (Some entry) = (is_fault entry ≡ true) × IsCall system (call_of entry)

abbrev pub history_ended_by : List Entry → Option Entry → List Entry
history_ended_by entries None = entries
history_ended_by entries (Some entry) = entries ++ entry ∷ []

-- The history of a life is legal: each entry is a step of the machine, but that the last one may have a
-- fault in place of its answer.
pub record IsLegal (system : System) (moment : Moment) (history : List Entry) : Type 0 where
  pub steps : List Entry
  pub last : Option Entry
  pub all : history ≡ history_ended_by steps last
  pub legal : AreSteps system moment steps
  pub end : IsEnd system last

-- A control region as contracts see it: its system, what it opened with, the entries since, and for
-- how many more entries it has room. The state of its machine follows from these.
pub record ControlState : Type 0 where
  pub system : System
  pub opening : LastingState
  pub history : List Entry
  pub room : ℕ

-- the moment that a control region has come to
abbrev pub control_moment : ControlState → Moment
control_moment control = moment_after control.system (start_of control.system control.opening) control.history

-- a call added this entry, which is the machine's answer at its place, and nothing else
pub record AddsEntry (old new : ControlState) (entry : Entry) : Type 0 where
  pub system : new.system ≡ old.system
  pub opening : new.opening ≡ old.opening
  pub history : new.history ≡ old.history ++ entry ∷ []
  pub may : May old.system (control_moment old) entry

-- a call added nothing; it may have made room
pub record AddsNothing (old new : ControlState) : Type 0 where
  pub system : new.system ≡ old.system
  pub opening : new.opening ≡ old.opening
  pub history : new.history ≡ old.history

-- A call that was answered added its entry; one that could not be done added nothing.
abbrev pub AddsUnless : Bool → ControlState → ControlState → Entry → Type 0
AddsUnless true old new entry = AddsNothing old new
AddsUnless false old new entry = AddsEntry old new entry

abbrev pub Adds : ControlState → ControlState → Entry → Type 0
Adds old new entry = AddsUnless (is_fault entry) old new entry
