-- Inputs, but for the room that they want.
use Rattle.std.specs.Prelude.{◌≡◌, ℕ, Bool, ◌<◌, ◌≤◌, ◌-◌, ◌==◌, true, false, if◌then◌else◌, List, Option, Some, None, Result, Ok, Err, length}
use Rattle.std.specs.Option.{unwrap_or}
use Rattle.model_machine.specs.declared.entry.Taken.{Taken}
use Rattle.model_machine.specs.declared.entry.Taken.TheVariants.{New, Already}
use Rattle.model_machine.specs.declared.entry.InputRefused.{InputRefused}
use Rattle.model_machine.specs.declared.entry.InputRefused.TheVariants.{Terminal, StoppedTerminal, Expected, Conversation, Code, StoppedCode, SegmentsOver, QueueFull, Fault}
use Rattle.model_machine.specs.Machine.{terminal_place}
use Rattle.tm_types.specs.Name.{IsName}
use Rattle.model_system.specs.Codes.{code_place}
use Rattle.model_messages.specs.Pads.{begun}
use Rattle.model_machine.specs.LastingSteps.{KeptInput, code_word, kept_input, without_word}
use Rattle.lasting_state.specs.KeptInputs.{kept_as}
use Rattle.model_machine.specs.MachineCalls.{busy_conversation, no_room, input_answer}
use Rattle.tm_machine.specs.declared.input.NewInput.{NewInput}
use Rattle.tm_machine.specs.declared.input.Way.{Way}
use Rattle.tm_machine.specs.declared.input.Way.TheVariants.{Alone, GoesOn, Begins}
use Rattle.tm_machine.specs.Parts.{PartsState}

-- the code that an input goes to: that of the terminal's conversation, or else the first word
abbrev pub code_for : Option (List ℕ) → List (List ℕ) → List ℕ
code_for (Some code) segments = code
code_for None segments = code_word segments

-- how an input to a code with a pad of this length is kept
abbrev pub way_by : Option (List ℕ) → ℕ → Way
way_by (Some code) pad = GoesOn
way_by None pad = if pad == 0 then Alone else Begins pad

-- the input as it is kept so
abbrev pub kept_so : Way → List ℕ → List (List ℕ) → KeptInput
kept_so Alone code segments = kept_as code false segments None
kept_so GoesOn code segments = kept_as code true segments None
kept_so (Begins pad) code segments = kept_as code true (without_word segments) (Some (begun code (pad - 14)))

-- The input is new if there is room for it: its terminal and its code have these places, and it is kept so.
pub record IsNewInput (parts : PartsState) (terminal : List ℕ) (number : ℕ) (segments : List (List ℕ)) (input : NewInput) : Type 0 where
  pub answer : input_answer parts.system parts.moment terminal number segments
      ≡ unwrap_or (no_room parts.system parts.moment (kept_input parts.system parts.moment.lasting terminal segments).segments) (Ok (New parts.moment.lasting.next_id))
  pub place : terminal_place parts.moment.lasting.terminals terminal ≡ Some input.place
  pub within : input.place < length parts.moment.lasting.terminals
  pub kept : kept_so input.way input.code segments ≡ kept_input parts.system parts.moment.lasting terminal segments
  pub named : IsName input.code
  pub coded : Some input.code_index ≡ code_place parts.system.codes input.code
  pub code_within : input.code_index < length parts.system.codes
  pub free : busy_conversation parts.moment.lasting terminal ≡ None
  pub few : length segments ≤ 16

-- the right answer, which is neither that the input is new nor a fault
abbrev pub IsInputRefusal : Result Taken InputRefused → Result Taken InputRefused → Type 0
IsInputRefusal right (Ok (New id)) = ⊥
IsInputRefusal right (Ok Already) = Ok Already ≡ right
IsInputRefusal right (Err Terminal) = Err Terminal ≡ right
IsInputRefusal right (Err StoppedTerminal) = Err StoppedTerminal ≡ right
IsInputRefusal right (Err (StoppedCode code)) = Err (StoppedCode code) ≡ right
IsInputRefusal right (Err (Expected next)) = Err (Expected next) ≡ right
IsInputRefusal right (Err (Conversation id)) = Err (Conversation id) ≡ right
IsInputRefusal right (Err Code) = Err Code ≡ right
IsInputRefusal right (Err (SegmentsOver count most)) = Err (SegmentsOver count most) ≡ right
IsInputRefusal right (Err (QueueFull need limit)) = Err (QueueFull need limit) ≡ right
IsInputRefusal right (Err (Fault fault)) = ⊥

-- an input met a fault
abbrev pub is_input_fault : Result Taken InputRefused → Bool
is_input_fault (Err (Fault fault)) = true
is_input_fault _ = false
