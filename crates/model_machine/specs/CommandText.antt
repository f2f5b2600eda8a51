-- What a text commands, or the lowest rule that it breaks: 1 a first word that is no command, 2 a word that
-- stands where the command has a keyword and is none of its keywords, 3 operands missing or too many,
-- 4 a word that is no name, 5 a word that is no number, or a number out of range.
use Rattle.std.specs.Prelude.{ℕ, ◌==◌, nat_lt, if◌then◌else◌, Result, Ok, Err, List, codes}
use Rattle.std.specs.List.{count_by}
use Rattle.std.specs.Str.{bytes_eq}
use Rattle.tm_types.specs.Words.{first_word, operands}
use Rattle.text_rows.specs.Names.{is_name}
use Rattle.text_rows.specs.Numbers.{number_between}
use Rattle.model_machine.specs.declared.command.Command.{Command}
use Rattle.model_machine.specs.declared.command.Command.TheVariants.{StartTransaction, StopTransaction, StartTerminal, StopTerminal, DisplayTransaction, DisplayTerminal, DisplayActive, Checkpoint, Freeze, DequeueFirst, DequeueAll, Exit, AssignClass, AssignPriority, EmergencyRestart, NormalRestart, ColdStart}

-- ---- words

-- words are parted by one blank, so a text has as many operands as blanks; an operand may be empty
abbrev pub command_operand_count : List ℕ → ℕ
command_operand_count text = count_by (λ b. b == 32) text

abbrev pub first_operand : List ℕ → List ℕ
first_operand text = first_word (operands text)

abbrev pub second_operand : List ℕ → List ℕ
second_operand text = first_word (operands (operands text))

abbrev pub third_operand : List ℕ → List ℕ
third_operand text = first_word (operands (operands (operands text)))

abbrev pub fourth_operand : List ℕ → List ℕ
fourth_operand text = first_word (operands (operands (operands (operands text))))

-- the name that a word is
unfoldable pub command_name_operand : List ℕ → Result (List ℕ) ℕ
command_name_operand word = if is_name word then Ok word else Err 4

-- the name that stands second, where there are so many operands
abbrev pub command_name_of : ℕ → List ℕ → Result (List ℕ) ℕ
command_name_of count text = if command_operand_count text == count then command_name_operand (second_operand text) else Err 3

-- the command that a name makes
abbrev pub named_command : (List ℕ → Command) → Result (List ℕ) ℕ → Result Command ℕ
named_command command (Ok name) = Ok (command name)
named_command command (Err rule) = Err rule

-- the number from low to high that a word spells in digits
abbrev pub or_no_number : Result ℕ ℕ → Result ℕ ℕ
or_no_number (Ok number) = Ok number
or_no_number (Err rule) = Err 5

unfoldable pub command_number_operand : ℕ → ℕ → List ℕ → Result ℕ ℕ
command_number_operand low high word = or_no_number (number_between low high word)

-- the command that a name and a number make
abbrev pub numbered_command : (List ℕ → ℕ → Command) → Result (List ℕ) ℕ → Result ℕ ℕ → Result Command ℕ
numbered_command command (Err rule) number = Err rule
numbered_command command (Ok name) (Err rule) = Err rule
numbered_command command (Ok name) (Ok number) = Ok (command name number)

-- a command behind whose words nothing more stands
abbrev pub command_alone : ℕ → Command → List ℕ → Result Command ℕ
command_alone count command text = if command_operand_count text == count then Ok command else Err 3

-- ---- the commands, each by its keywords

-- /START TRANSACTION c, /START LTERM t
unfoldable pub start_command : List ℕ → Result Command ℕ
start_command text =
    if command_operand_count text == 0 then Err 3
    else if bytes_eq (first_operand text) (codes "TRANSACTION") then named_command (λ c. StartTransaction c) (command_name_of 2 text)
    else if bytes_eq (first_operand text) (codes "LTERM") then named_command (λ t. StartTerminal t) (command_name_of 2 text)
    else Err 2

-- /STOP TRANSACTION c, /STOP LTERM t
unfoldable pub stop_command : List ℕ → Result Command ℕ
stop_command text =
    if command_operand_count text == 0 then Err 3
    else if bytes_eq (first_operand text) (codes "TRANSACTION") then named_command (λ c. StopTransaction c) (command_name_of 2 text)
    else if bytes_eq (first_operand text) (codes "LTERM") then named_command (λ t. StopTerminal t) (command_name_of 2 text)
    else Err 2

-- /DISPLAY TRANSACTION c, /DISPLAY LTERM t, /DISPLAY ACTIVE
unfoldable pub display_command : List ℕ → Result Command ℕ
display_command text =
    if command_operand_count text == 0 then Err 3
    else if bytes_eq (first_operand text) (codes "TRANSACTION") then named_command (λ c. DisplayTransaction c) (command_name_of 2 text)
    else if bytes_eq (first_operand text) (codes "LTERM") then named_command (λ t. DisplayTerminal t) (command_name_of 2 text)
    else if bytes_eq (first_operand text) (codes "ACTIVE") then command_alone 1 DisplayActive text
    else Err 2

-- /CHECKPOINT, /CHECKPOINT FREEZE
unfoldable pub checkpoint_command : List ℕ → Result Command ℕ
checkpoint_command text =
    if command_operand_count text == 0 then Ok Checkpoint
    else if bytes_eq (first_operand text) (codes "FREEZE") then command_alone 1 Freeze text
    else Err 2

-- /DEQUEUE LTERM t PURGE1, /DEQUEUE LTERM t PURGE: the keyword behind the name counts before the name
unfoldable pub purge_command : List ℕ → Result Command ℕ
purge_command text =
    if nat_lt (command_operand_count text) 3 then Err 3
    else if bytes_eq (third_operand text) (codes "PURGE1") then named_command (λ t. DequeueFirst t) (command_name_of 3 text)
    else if bytes_eq (third_operand text) (codes "PURGE") then named_command (λ t. DequeueAll t) (command_name_of 3 text)
    else Err 2

unfoldable pub dequeue_command : List ℕ → Result Command ℕ
dequeue_command text =
    if command_operand_count text == 0 then Err 3
    else if bytes_eq (first_operand text) (codes "LTERM") then purge_command text
    else Err 2

-- /EXIT t
unfoldable pub exit_command : List ℕ → Result Command ℕ
exit_command text =
    if command_operand_count text == 1 then named_command (λ t. Exit t) (command_name_operand (first_operand text)) else Err 3

-- /ASSIGN TRANSACTION c CLASS k with k from 1 to 255, /ASSIGN TRANSACTION c PRIORITY p with p from 0 to 14: the keyword behind
-- the name counts before the name, and that before the number
unfoldable pub assigned_command : List ℕ → Result Command ℕ
assigned_command text =
    if nat_lt (command_operand_count text) 3 then Err 3
    else if bytes_eq (third_operand text) (codes "CLASS")
    then numbered_command (λ c k. AssignClass c k) (command_name_of 4 text) (command_number_operand 1 255 (fourth_operand text))
    else if bytes_eq (third_operand text) (codes "PRIORITY")
    then numbered_command (λ c p. AssignPriority c p) (command_name_of 4 text) (command_number_operand 0 14 (fourth_operand text))
    else Err 2

unfoldable pub assign_command : List ℕ → Result Command ℕ
assign_command text =
    if command_operand_count text == 0 then Err 3
    else if bytes_eq (first_operand text) (codes "TRANSACTION") then assigned_command text
    else Err 2

-- /NRESTART, /NRESTART CHECKPOINT 0: the 0 is a keyword
unfoldable pub cold_command : List ℕ → Result Command ℕ
cold_command text =
    if nat_lt (command_operand_count text) 2 then Err 3
    else if bytes_eq (second_operand text) (codes "0") then command_alone 2 ColdStart text
    else Err 2

unfoldable pub restart_command : List ℕ → Result Command ℕ
restart_command text =
    if command_operand_count text == 0 then Ok NormalRestart
    else if bytes_eq (first_operand text) (codes "CHECKPOINT") then cold_command text
    else Err 2

-- by the first word; /ERESTART has no operand
unfoldable pub command_of : List ℕ → Result Command ℕ
command_of text =
    if bytes_eq (first_word text) (codes "/START") then start_command text
    else if bytes_eq (first_word text) (codes "/STOP") then stop_command text
    else if bytes_eq (first_word text) (codes "/DISPLAY") then display_command text
    else if bytes_eq (first_word text) (codes "/CHECKPOINT") then checkpoint_command text
    else if bytes_eq (first_word text) (codes "/DEQUEUE") then dequeue_command text
    else if bytes_eq (first_word text) (codes "/EXIT") then exit_command text
    else if bytes_eq (first_word text) (codes "/ASSIGN") then assign_command text
    else if bytes_eq (first_word text) (codes "/ERESTART") then command_alone 0 EmergencyRestart text
    else if bytes_eq (first_word text) (codes "/NRESTART") then restart_command text
    else Err 1
