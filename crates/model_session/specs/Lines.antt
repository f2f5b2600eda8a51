-- What a block of session lines asks for, or the lowest rule that it breaks: 1 a first word that is not
-- known, 2 operands missing or too many, 3 no number in its range, 4 no name, 5 a `+` line that belongs to
-- no line, 6 a byte that is not printable, 8 a field line without =.
use Rattle.std.specs.Prelude.{ℕ, ◌<◌, ◌≤◌, ⊤, ◌==◌, nat_lt, nat_le, Bool, true, false, ◌&&◌, if◌then◌else◌, Option, Some, None, Result, Ok, Err, List, [], ◌∷◌, ◌++◌, length, map, replicate, take, codes}
use Rattle.std.specs.List.{list_all, list_any}
use Rattle.std.specs.Option.{option_or}
use Rattle.std.specs.Str.{bytes_eq}
use Rattle.text_rows.specs.LowestRule.{both, also}
use Rattle.tm_types.specs.Segment.{are_printable}
use Rattle.tm_types.specs.Words.{first_word, operands}
use Rattle.model_machine.specs.CommandAnswers.{IsCommandServed}
use Rattle.model_machine.specs.declared.entry.ControlCall.TheVariants.{Input, Receive, Acknowledge, Turn, Command, Checkpoint, AskQuiet}
use Rattle.model_system.specs.declared.fields.FieldValue.{FieldValue}
use Rattle.model_system.specs.ScreenInput.{entered}
use Rattle.model_system.specs.FormatLines.{FormatLines}
use Rattle.model_system.specs.SystemFormats.{format_of}
use Rattle.model_system.specs.System.{System}
use Rattle.model_session.specs.declared.asked.Form.{Form}
use Rattle.model_session.specs.declared.asked.Form.TheVariants.{Input as InputForm, Screen as ScreenForm, Receive as ReceiveForm, Acknowledge as AcknowledgeForm, Turn as TurnForm, Quiet as QuietForm, Power as PowerForm, PowerIn as PowerInForm}
use Rattle.model_session.specs.declared.asked.Asked.{Asked}
use Rattle.model_session.specs.declared.asked.Asked.TheVariants.{Bad, Stopped, Call, Quiet, Power, PowerIn, Restart, ColdStart, BadCommand}
use Rattle.model_session.specs.declared.asked.InputStopped.{InputStopped}
use Rattle.model_session.specs.declared.asked.InputStopped.TheVariants.{Terminal, Format, Field, TooLong}
use Rattle.model_session.specs.Numbers.{number_operand, name_operand}
use Rattle.model_machine.specs.declared.command.Command.{Command as OperatorCommand}
use Rattle.model_machine.specs.declared.command.Command.TheVariants.{Checkpoint as TakeCheckpoint, Freeze, EmergencyRestart, NormalRestart, ColdStart as ColdRestart}
use Rattle.model_machine.specs.CommandText.{command_of}
pub use Rattle.model_session.specs.Blocks.{operand_count, has_operand}
use Rattle.model_session.specs.Blocks.{Block, is_further, is_screen}

-- ---- the form of one line

-- the number of an input or a reply
abbrev pub message_number : List ℕ → Result ℕ ℕ
message_number text = number_operand 1 999999999999 text

abbrev pub numbered_form : (List ℕ → ℕ → Form) → Result (List ℕ × ℕ) ℕ → Result Form ℕ
numbered_form form (Ok (terminal, number)) = Ok (form terminal number)
numbered_form form (Err rule) = Err rule

abbrev pub named_form : Result (List ℕ) ℕ → Result Form ℕ
named_form (Ok terminal) = Ok (ReceiveForm terminal)
named_form (Err rule) = Err rule

abbrev pub counted_form : (ℕ → Form) → Result ℕ ℕ → Result Form ℕ
counted_form form (Ok number) = Ok (form number)
counted_form form (Err rule) = Err rule

-- IN t n text: the text is all that follows the blank behind n, and may be empty
unfoldable pub input_form : List ℕ → Result Form ℕ
input_form line =
    if nat_le 3 (operand_count line)
    then numbered_form (λ t n. InputForm t n) (both (name_operand (first_word (operands line))) (message_number (first_word (operands (operands line)))))
    else Err 2

-- a terminal and a number, and no other operand
abbrev pub terminal_and_number : List ℕ → Result (List ℕ × ℕ) ℕ
terminal_and_number line =
    if operand_count line == 2 then both (name_operand (first_word (operands line))) (message_number (operands (operands line))) else Err 2

-- SCREEN t n
unfoldable pub screen_form : List ℕ → Result Form ℕ
screen_form line = numbered_form (λ t n. ScreenForm t n) (terminal_and_number line)

-- RECV t
unfoldable pub receive_form : List ℕ → Result Form ℕ
receive_form line = if operand_count line == 1 then named_form (name_operand (operands line)) else Err 2

-- ACK t n
unfoldable pub acknowledge_form : List ℕ → Result Form ℕ
acknowledge_form line = numbered_form (λ t n. AcknowledgeForm t n) (terminal_and_number line)

-- TURN r, of so many regions
unfoldable pub turn_form : ℕ → List ℕ → Result Form ℕ
turn_form regions line =
    if operand_count line == 1 then counted_form (λ r. TurnForm r) (number_operand 1 regions (operands line)) else Err 2

-- QUIET n
unfoldable pub quiet_form : List ℕ → Result Form ℕ
quiet_form line =
    if operand_count line == 1 then counted_form (λ n. QuietForm n) (number_operand 1 1000000 (operands line)) else Err 2

-- POWER p
abbrev pub pick_number : List ℕ → Result ℕ ℕ
pick_number text = number_operand 0 999999999999 text

-- POWER IN n p
abbrev pub armed_form : Result (ℕ × ℕ) ℕ → Result Form ℕ
armed_form (Ok (writes, pick)) = Ok (PowerInForm writes pick)
armed_form (Err rule) = Err rule

abbrev pub power_in_form : List ℕ → Result Form ℕ
power_in_form line =
    if operand_count line == 3
    then armed_form (both (message_number (first_word (operands (operands line)))) (pick_number (operands (operands (operands line)))))
    else Err 2

unfoldable pub power_form : List ℕ → Result Form ℕ
power_form line =
    if bytes_eq (first_word (operands line)) (codes "IN") then power_in_form line
    else if operand_count line == 1 then counted_form (λ p. PowerForm p) (pick_number (operands line)) else Err 2

-- a `+` line that belongs to no line
unfoldable pub lone_form : List ℕ → Result Form ℕ
lone_form line = if operand_count line == 0 then Err 2 else Err 5

-- by its first word
unfoldable pub line_form : ℕ → List ℕ → Result Form ℕ
line_form regions line =
    if bytes_eq (first_word line) (codes "IN") then input_form line
    else if is_screen line then screen_form line
    else if bytes_eq (first_word line) (codes "TURN") then turn_form regions line
    else if bytes_eq (first_word line) (codes "RECV") then receive_form line
    else if bytes_eq (first_word line) (codes "ACK") then acknowledge_form line
    else if bytes_eq (first_word line) (codes "QUIET") then quiet_form line
    else if bytes_eq (first_word line) (codes "POWER") then power_form line
    else if is_further line then lone_form line
    else Err 1

-- ---- a whole block

-- each `+` line of an input has an operand
abbrev pub text_forms : Block → Result (Unit {0}) ℕ
text_forms block = if list_all has_operand block.further && block.others.complete then Ok tt else Err 2

-- behind SCREEN stand field lines, and behind another line texts
unfoldable pub further_forms : Block → Result (Unit {0}) ℕ
further_forms block = if is_screen block.line then block.others.fields else text_forms block

unfoldable pub printable_block : Block → Result (Unit {0}) ℕ
printable_block block = if are_printable block.line && list_all are_printable block.further && block.others.printable then Ok tt else Err 6

-- the form of the first line, where no line of the block breaks a rule; else the lowest rule that one of them breaks
unfoldable pub block_form : ℕ → Block → Result Form ℕ
block_form regions block = also (line_form regions block.line) (also (further_forms block) (printable_block block))

-- the texts of an input's segments that are kept: the first is the third operand of its line
abbrev pub input_text : List ℕ → List ℕ
input_text line = operands (operands (operands line))

abbrev pub kept_texts : Block → List (List ℕ)
kept_texts block = input_text block.line ∷ map operands block.further

-- The texts of an input's segments. Those behind the kept ones are empty: an input with so many segments is refused
-- by their number, and its texts are told nowhere.
abbrev pub input_texts : Block → List (List ℕ)
input_texts block = kept_texts block ++ replicate block.others.count []

-- the length of the first text that is too long
abbrev pub first_long : List (List ℕ) → Option ℕ
first_long [] = None
first_long (text ∷ texts) = if nat_lt 1996 (length text) then Some (length text) else first_long texts

-- the same of an input's texts, kept or not
abbrev pub input_long : Block → Option ℕ
input_long block = option_or (first_long (kept_texts block)) block.others.long

-- An input is refused for a segment that is too long, the first; before that one from a screen is refused
-- where the terminal has no format, or for a name that is no field, the first. Where there is such a
-- reason, a name that is no terminal's is refused as such before.
abbrev pub is_terminal_word : System → List ℕ → Bool
is_terminal_word system name = list_any (λ terminal. bytes_eq terminal name) system.terminals

abbrev pub stopped : System → List ℕ → ℕ → InputStopped → Asked
stopped system terminal number reason = Stopped terminal number (if is_terminal_word system terminal then reason else Terminal)

abbrev pub unless_long : System → List ℕ → ℕ → List (List ℕ) → Option ℕ → Asked
unless_long system terminal number texts (Some long) = stopped system terminal number (TooLong long)
unless_long system terminal number texts None = Call (Input terminal number texts)

abbrev pub entered_asked : System → List ℕ → ℕ → Result (List (List ℕ)) (List ℕ) → Asked
entered_asked system terminal number (Ok texts) = unless_long system terminal number texts (first_long texts)
entered_asked system terminal number (Err name) = stopped system terminal number (Field name)

abbrev pub screen_asked : System → List ℕ → ℕ → List FieldValue → Option FormatLines → Asked
screen_asked system terminal number values (Some format) = entered_asked system terminal number (entered format values)
screen_asked system terminal number values None = stopped system terminal number Format

abbrev pub asked_by : System → Block → Result Form ℕ → Asked
asked_by system block (Ok (InputForm terminal number)) = unless_long system terminal number (input_texts block) (input_long block)
asked_by system block (Ok (ScreenForm terminal number)) = screen_asked system terminal number block.values (format_of system terminal)
asked_by system block (Ok (ReceiveForm terminal)) = Call (Receive terminal)
asked_by system block (Ok (AcknowledgeForm terminal number)) = Call (Acknowledge terminal number)
asked_by system block (Ok (TurnForm region)) = Call (Turn region)
asked_by system block (Ok (QuietForm most)) = Quiet most
asked_by system block (Ok (PowerForm pick)) = Power pick
asked_by system block (Ok (PowerInForm writes pick)) = PowerIn writes pick
asked_by system block (Err rule) = Bad rule

-- a line that begins with / is an operator's command
abbrev pub is_command : List ℕ → Bool
is_command line = bytes_eq (take 1 line) (codes "/")

-- what a command asks for
abbrev pub command_asked : Result OperatorCommand ℕ → Asked
command_asked (Ok EmergencyRestart) = Restart
command_asked (Ok NormalRestart) = Restart
command_asked (Ok ColdRestart) = ColdStart
command_asked (Ok TakeCheckpoint) = Call (Checkpoint false)
command_asked (Ok Freeze) = Call (Checkpoint true)
command_asked (Ok command) = Call (Command command)
command_asked (Err rule) = BadCommand rule

-- What a block asks for of a system. A block that breaks a rule asks for nothing.
unfoldable pub asked_of : System → Block → Asked
asked_of system block =
    if is_command block.line then command_asked (command_of block.line)
    else asked_by system block (block_form (length system.regions) block)

-- What is asked can be asked of a system with so many regions: an input has a segment, and the region
-- is there. No block asks whether nothing is left to do: `QUIET` asks for turns.
abbrev pub CanAsk : ℕ → Asked → Type 0
CanAsk regions (Call (Input terminal number segments)) = 0 < length segments
CanAsk regions (Call (Turn region)) = (1 ≤ region) × (region ≤ regions)
CanAsk regions (Call (Receive terminal)) = ⊤
CanAsk regions (Call (Acknowledge terminal number)) = ⊤
CanAsk regions (Call (Command command)) = IsCommandServed command
CanAsk regions (Call (Checkpoint freeze)) = ⊤
CanAsk regions (Call AskQuiet) = ⊥
CanAsk regions (Quiet most) = ⊤
CanAsk regions (Stopped terminal number reason) = ⊤
CanAsk regions (Bad rule) = ⊤
CanAsk regions (Power pick) = ⊤
CanAsk regions (PowerIn writes pick) = 1 ≤ writes
CanAsk regions Restart = ⊤
CanAsk regions ColdStart = ⊤
CanAsk regions (BadCommand rule) = ⊤
