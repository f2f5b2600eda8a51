-- How many blocks lines make, and what a block may add.
use Rattle.std.proofs.Common.{◌≡◌, ℕ, ◌+◌, ◌≤◌, nat_le, cond, Bool, true, false, ◌&&◌, List, [], ◌∷◌, Option, Some, None, length, refl, subst, arith}
use Rattle.std.specs.Prelude.{◌==◌, Result, Ok, Err, codes}
use Rattle.std.specs.Str.{bytes_eq}
use Rattle.std.specs.Str.Parse.{digits_value}
use Rattle.std.proofs.lemmas.Bool.Decides.{nat_tests}
use Rattle.text_rows.specs.Lines.{is_passed_over}
use Rattle.text_rows.specs.LowestRule.{also, both}
use Rattle.tm_types.specs.Words.{first_word, operands}
use Rattle.model_system.specs.declared.fields.FieldValue.{FieldValue}
use Rattle.model_system.specs.ScreenInput.{entered}
use Rattle.model_system.specs.FormatLines.{FormatLines}
use Rattle.model_machine.specs.declared.command.Command.{Command as OperatorCommand}
use Rattle.model_machine.specs.declared.command.Command.TheVariants.{Checkpoint as TakeCheckpoint, Freeze, EmergencyRestart, NormalRestart, ColdStart as ColdRestart}
use Rattle.model_machine.specs.CommandText.{command_of}
use Rattle.model_system.specs.SystemFormats.{format_of}
use Rattle.model_system.specs.System.{System}
use Rattle.model_session.specs.declared.asked.InputStopped.{InputStopped}
use Rattle.model_session.specs.declared.asked.InputStopped.TheVariants.{Format, Field, TooLong}
use Rattle.model_session.specs.declared.asked.Form.{Form}
use Rattle.model_session.specs.declared.asked.Form.TheVariants.{Input as InputForm, Screen as ScreenForm, Receive as ReceiveForm, Acknowledge as AcknowledgeForm, Turn as TurnForm, Quiet as QuietForm, Power as PowerForm, PowerIn as PowerInForm}
use Rattle.model_session.specs.Numbers.{is_padded_number, name_operand, number_in, number_operand, number_or}
use Rattle.model_session.specs.Blocks.{Block, block_alone, and_line, blocks_of, closed_blocks, is_further, is_screen, line_before, open_before, takes_further}
use Rattle.model_session.specs.Lines.{acknowledge_form, armed_form, asked_by, asked_of, block_form, command_asked, counted_form, entered_asked, first_long, line_form, further_forms, input_form, input_long, input_texts, is_command, lone_form, message_number, named_form, numbered_form, operand_count, pick_number, power_form, printable_block, quiet_form, receive_form, screen_asked, screen_form, stopped, terminal_and_number, turn_form, unless_long}
use Rattle.session_law.specs.Measures.{most_weight, block_weight}

-- ---- how many blocks

open_few : (block : Block) (blocks : List Block) → length (open_before block blocks) ≤ length blocks + 1
open_few block [] = omega arith
open_few block (next ∷ blocks) = by (is_further next.line) (open_few (and_line block next.line) blocks) where
  by : (b : Bool) → length (open_before (and_line block next.line) blocks) ≤ length blocks + 1
      → length (cond b (open_before (and_line block next.line) blocks) (block ∷ next ∷ blocks)) ≤ length (next ∷ blocks) + 1
  by true rest = omega (arith, rest)
  by false rest = omega arith

line_few : (line : List ℕ) (blocks : List Block) → length (line_before line blocks) ≤ length blocks + 1
line_few line blocks = by (takes_further line) where
  by : (b : Bool) → length (cond b (open_before (block_alone line) blocks) (block_alone line ∷ blocks)) ≤ length blocks + 1
  by true = open_few (block_alone line) blocks
  by false = omega arith

-- Lines make at most one block each.
pub few_blocks : (lines : List (List ℕ)) → length (blocks_of lines) ≤ length lines
few_blocks [] = omega arith
few_blocks (line ∷ lines) = by (is_passed_over line) (few_blocks lines) where
  by : (b : Bool) → length (blocks_of lines) ≤ length lines → length (cond b (blocks_of lines) (line_before line (blocks_of lines))) ≤ length (line ∷ lines)
  by true rest = omega (arith, rest)
  by false rest = omega (arith, rest, line_few line (blocks_of lines))

pub few_closed : (blocks : List Block) → length (closed_blocks blocks) ≤ length blocks
few_closed [] = omega arith
few_closed (block ∷ []) = by (takes_further block.line) where
  by : (b : Bool) → length (cond b [] (block ∷ [])) ≤ 1
  by true = omega arith
  by false = omega arith
few_closed (block ∷ next ∷ blocks) = omega (arith, few_closed (next ∷ blocks))

-- ---- the number of a QUIET

abbrev FormFits : Result Form ℕ → Type 0
FormFits (Ok (QuietForm most)) = most ≤ 1000000
FormFits _ = Unit {0}

if_fits : (b : Bool) (r s : Result Form ℕ) → FormFits r → FormFits s → FormFits (cond b r s)
if_fits true r s h g = h
if_fits false r s h g = g

input_fits : (line : List ℕ) → FormFits (input_form line)
unfolding input_form
input_fits line = by (nat_le 3 (operand_count line)) (both (name_operand (first_word (operands line))) (message_number (first_word (operands (operands line))))) where
  by : (b : Bool) (read : Result (List ℕ × ℕ) ℕ) → FormFits (cond b (numbered_form (λ t n. InputForm t n) read) (Err 2))
  by true (Ok (t, n)) = tt
  by true (Err rule) = tt
  by false read = tt

screen_fits : (line : List ℕ) → FormFits (screen_form line)
unfolding screen_form
screen_fits line = by (terminal_and_number line) where
  by : (read : Result (List ℕ × ℕ) ℕ) → FormFits (numbered_form (λ t n. ScreenForm t n) read)
  by (Ok (t, n)) = tt
  by (Err rule) = tt

acknowledge_fits : (line : List ℕ) → FormFits (acknowledge_form line)
unfolding acknowledge_form
acknowledge_fits line = by (terminal_and_number line) where
  by : (read : Result (List ℕ × ℕ) ℕ) → FormFits (numbered_form (λ t n. AcknowledgeForm t n) read)
  by (Ok (t, n)) = tt
  by (Err rule) = tt

receive_fits : (line : List ℕ) → FormFits (receive_form line)
unfolding receive_form
receive_fits line = by (operand_count line == 1) (name_operand (operands line)) where
  by : (b : Bool) (read : Result (List ℕ) ℕ) → FormFits (cond b (named_form read) (Err 2))
  by true (Ok t) = tt
  by true (Err rule) = tt
  by false read = tt

turn_fits : (regions : ℕ) (line : List ℕ) → FormFits (turn_form regions line)
unfolding turn_form
turn_fits regions line = by (operand_count line == 1) (number_operand 1 regions (operands line)) where
  by : (b : Bool) (read : Result ℕ ℕ) → FormFits (cond b (counted_form (λ r. TurnForm r) read) (Err 2))
  by true (Ok r) = tt
  by true (Err rule) = tt
  by false read = tt

power_fits : (line : List ℕ) → FormFits (power_form line)
unfolding power_form
power_fits line =
    by (bytes_eq (first_word (operands line)) (codes "IN")) (operand_count line == 3) (operand_count line == 1)
    (both (message_number (first_word (operands (operands line)))) (pick_number (operands (operands (operands line))))) (pick_number (operands line)) where
      by : (armed three one : Bool) (read : Result (ℕ × ℕ) ℕ) (pick : Result ℕ ℕ) → FormFits (cond armed (cond three (armed_form read) (Err 2)) (cond one (counted_form (λ p. PowerForm p) pick) (Err 2)))
      by true true one (Ok (writes, p)) pick = tt
      by true true one (Err rule) pick = tt
      by true false one read pick = tt
      by false three true read (Ok p) = tt
      by false three true read (Err rule) = tt
      by false three false read pick = tt

lone_fits : (line : List ℕ) → FormFits (lone_form line)
unfolding lone_form
lone_fits line = if_fits (operand_count line == 0) (Err 2) (Err 5) tt tt

-- a number that is read is in its range
in_range : (a b c : Bool) (value high : ℕ) → nat_le value high ≡ c → (n : ℕ) → cond (a && b && c) (Some value) None ≡ Some n → n ≤ high
in_range true true true value high le n e = let same : value ≡ n = cc in subst (λ k. k ≤ high) same (grind (arith, nat_tests, le))
in_range true true false value high le n e = cc
in_range true false c value high le n e = cc
in_range false b c value high le n e = cc

number_read : (high : ℕ) (number : Option ℕ) → ((n : ℕ) → number ≡ Some n → n ≤ high) → high ≤ 1000000 → FormFits (counted_form (λ n. QuietForm n) (number_or number))
number_read high None in_its le = tt
number_read high (Some n) in_its le = omega (arith, in_its n refl, le)

quiet_fits : (line : List ℕ) → FormFits (quiet_form line)
unfolding quiet_form number_operand
quiet_fits line =
    let text = operands line in
    if_fits (operand_count line == 1) (counted_form (λ n. QuietForm n) (number_or (number_in 1 1000000 text))) (Err 2)
    (number_read 1000000 (number_in 1 1000000 text)
    (in_range (is_padded_number text) (nat_le 1 (digits_value 10 text)) (nat_le (digits_value 10 text) 1000000) (digits_value 10 text) 1000000 refl) (omega arith)) tt

line_fits : (regions : ℕ) (line : List ℕ) → FormFits (line_form regions line)
unfolding line_form
line_fits regions line =
    by (bytes_eq (first_word line) (codes "IN")) (is_screen line) (bytes_eq (first_word line) (codes "TURN")) (bytes_eq (first_word line) (codes "RECV"))
    (bytes_eq (first_word line) (codes "ACK")) (bytes_eq (first_word line) (codes "QUIET")) (bytes_eq (first_word line) (codes "POWER")) (is_further line) where
      by : (input screen turn receive acknowledge quiet power further : Bool)
          → FormFits (cond input (input_form line) (cond screen (screen_form line) (cond turn (turn_form regions line) (cond receive (receive_form line)
          (cond acknowledge (acknowledge_form line) (cond quiet (quiet_form line) (cond power (power_form line) (cond further (lone_form line) (Err 1)))))))))
      by true screen turn receive acknowledge quiet power further = input_fits line
      by false true turn receive acknowledge quiet power further = screen_fits line
      by false false true receive acknowledge quiet power further = turn_fits regions line
      by false false false true acknowledge quiet power further = receive_fits line
      by false false false false true quiet power further = acknowledge_fits line
      by false false false false false true power further = quiet_fits line
      by false false false false false false true further = power_fits line
      by false false false false false false false true = lone_fits line
      by false false false false false false false false = tt

also_fits : (form : Result Form ℕ) (besides : Result (Unit {0}) ℕ) → FormFits form → FormFits (also form besides)
unfolding also
also_fits (Ok form) (Ok u) h = h
also_fits (Ok form) (Err rule) h = tt
also_fits (Err rule) (Ok u) h = tt
also_fits (Err rule) (Err other) h = tt

block_fits : (regions : ℕ) (block : Block) → FormFits (block_form regions block)
unfolding block_form
block_fits regions block = also_fits (line_form regions block.line) (also (further_forms block) (printable_block block)) (line_fits regions block.line)

-- ---- what a block may add

light_stopped : (system : System) (terminal : List ℕ) (number : ℕ) (reason : InputStopped) → block_weight (stopped system terminal number reason) ≤ most_weight
light_stopped system terminal number reason = omega arith

light_long : (system : System) (terminal : List ℕ) (number : ℕ) (texts : List (List ℕ)) (long : Option ℕ) → block_weight (unless_long system terminal number texts long) ≤ most_weight
light_long system terminal number texts (Some long) = light_stopped system terminal number (TooLong long)
light_long system terminal number texts None = omega arith

light_entered : (system : System) (terminal : List ℕ) (number : ℕ) (texts : Result (List (List ℕ)) (List ℕ)) → block_weight (entered_asked system terminal number texts) ≤ most_weight
light_entered system terminal number (Ok texts) = light_long system terminal number texts (first_long texts)
light_entered system terminal number (Err name) = light_stopped system terminal number (Field name)

light_screen : (system : System) (terminal : List ℕ) (number : ℕ) (values : List FieldValue) (format : Option FormatLines) → block_weight (screen_asked system terminal number values format) ≤ most_weight
light_screen system terminal number values (Some format) = light_entered system terminal number (entered format values)
light_screen system terminal number values None = light_stopped system terminal number Format

light_by : (system : System) (block : Block) (form : Result Form ℕ) → FormFits form → block_weight (asked_by system block form) ≤ most_weight
light_by system block (Ok (InputForm terminal number)) fits = light_long system terminal number (input_texts block) (input_long block)
light_by system block (Ok (ScreenForm terminal number)) fits = light_screen system terminal number block.values (format_of system terminal)
light_by system block (Ok (ReceiveForm terminal)) fits = omega arith
light_by system block (Ok (AcknowledgeForm terminal number)) fits = omega arith
light_by system block (Ok (TurnForm region)) fits = omega arith
light_by system block (Ok (QuietForm most)) fits = omega (arith, fits)
light_by system block (Ok (PowerForm pick)) fits = omega arith
light_by system block (Ok (PowerInForm writes pick)) fits = omega arith
light_by system block (Err rule) fits = omega arith

light_command : (command : Result OperatorCommand ℕ) → block_weight (command_asked command) ≤ most_weight
light_command (Ok EmergencyRestart) = omega arith
light_command (Ok NormalRestart) = omega arith
light_command (Ok ColdRestart) = omega arith
light_command (Ok TakeCheckpoint) = omega arith
light_command (Ok Freeze) = omega arith
light_command (Ok _) = omega arith
light_command (Err rule) = omega arith

-- No block adds more than a QUIET of a million turns.
pub light : (system : System) (block : Block) → block_weight (asked_of system block) ≤ most_weight
unfolding asked_of
light system block = by (is_command block.line) where
  by : (b : Bool) → block_weight (cond b (command_asked (command_of block.line)) (asked_by system block (block_form (length system.regions) block))) ≤ most_weight
  by true = light_command (command_of block.line)
  by false = light_by system block (block_form (length system.regions) block) (block_fits (length system.regions) block)
