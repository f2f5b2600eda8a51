-- Inputs and replies that are sent again.
use Rattle.std.specs.Prelude.{◌≡◌, ℕ, ◌+◌, ◌≤◌, Bool, true, false, not, List, Option, Some}
use Rattle.std.specs.List.{list_all}
use Rattle.std.specs.Option.{option_map_or}
use Rattle.std.specs.Str.{bytes_eq}
use Rattle.tm_types.specs.declared.message.Reply.{Reply}
use Rattle.model_machine.specs.declared.command.Command.TheVariants.{DequeueFirst, DequeueAll}
use Rattle.model_machine.specs.declared.entry.Entry.{Entry}
use Rattle.model_machine.specs.declared.entry.ControlCall.{ControlCall}
use Rattle.model_machine.specs.declared.entry.ControlCall.TheVariants.{Input, Acknowledge, Command}
use Rattle.model_system.specs.System.{System}
use Rattle.model_messages.specs.Outputs.{reply_at}
use Rattle.model_machine.specs.Machine.{LastingState, Moment, terminal_at}
use Rattle.model_machine.specs.History.{call_of, after_entry}
use Rattle.model_session.specs.declared.asked.Asked.{Asked}
use Rattle.model_session.specs.declared.asked.Asked.TheVariants.{Call, ColdStart}
use Rattle.model_session.specs.Blocks.{Block}
use Rattle.model_session.specs.Lines.{asked_of}
use Rattle.model_session.specs.Lives.{now_in}
use Rattle.model_session.specs.SessionState.{Setting, Outage, Standing, MayBeFound}
use Rattle.model_session.specs.SessionState.Standing.{Up, Down}

-- the number of a terminal's last input; 0 where it has none
abbrev pub last_number_of : List ℕ → LastingState → ℕ
last_number_of terminal lasting = option_map_or (λ t. t.last) (terminal_at lasting.terminals terminal) 0

-- the reply that a terminal is shown, with its number and its segments
abbrev pub shown_reply : List ℕ → LastingState → Option Reply
shown_reply terminal lasting = reply_at terminal 0 lasting.outputs

-- ---- what a stop leaves

-- with what the system would be down, if it stopped here
abbrev pub outage_at : Standing → Outage
outage_at (Up life) = record { last = Some life; emptied = false; stopped = true }
outage_at (Down outage) = outage

-- Whatever a stop at this place leaves has this.
abbrev pub HasAlways : (LastingState → Type 0) → Setting → Standing → Type 0
HasAlways P setting standing = (kept : ℕ) (state : LastingState) → MayBeFound setting (outage_at standing) kept state → P state

-- No more lasting steps of a life that is up are forced than it has.
abbrev pub IsForcedWithin : System → Standing → Type 0
IsForcedWithin system (Up life) = life.opening.steps + life.forced ≤ (now_in system life).lasting.steps
IsForcedWithin system (Down outage) = Unit {0}

-- ---- what lies between

-- Each call of this kind keeps it, whatever it is answered.
abbrev pub IsKeptBy : (LastingState → Type 0) → System → (ControlCall → Bool) → Type 0
IsKeptBy P system kind = (moment : Moment) (entry : Entry) → kind (call_of entry) ≡ true → P moment.lasting → P (after_entry system moment entry).lasting

-- the lines ask for calls of this kind, and for no cold start
abbrev pub asks_only : (ControlCall → Bool) → Asked → Bool
asks_only kind (Call call) = kind call
asks_only kind ColdStart = false
asks_only kind _ = true

abbrev pub all_ask_only : (ControlCall → Bool) → System → List Block → Bool
all_ask_only kind system blocks = list_all (λ block. asks_only kind (asked_of system block)) blocks

-- any call
abbrev pub any_call : ControlCall → Bool
any_call call = true

-- a call that is no input of the terminal
abbrev pub spares_input : List ℕ → ControlCall → Bool
spares_input terminal (Input other number segments) = not (bytes_eq other terminal)
spares_input terminal _ = true

-- a call that takes no reply of the terminal away
abbrev pub spares : List ℕ → ControlCall → Bool
spares terminal (Acknowledge other number) = not (bytes_eq other terminal)
spares terminal (Command (DequeueFirst other)) = not (bytes_eq other terminal)
spares terminal (Command (DequeueAll other)) = not (bytes_eq other terminal)
spares terminal _ = true
