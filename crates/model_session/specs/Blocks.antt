-- The blocks that a session's lines make: a line, with the `+` lines that belong to it.
use Rattle.std.specs.Prelude.{ℕ, ◌+◌, Bool, true, ◌||◌, ◌&&◌, ◌==◌, nat_lt, nat_le, Option, Some, None, Result, Ok, Err, if◌then◌else◌, List, [], ◌∷◌, ◌++◌, length, take, codes}
use Rattle.std.specs.List.{count_by}
use Rattle.std.specs.Option.{option_or}
use Rattle.std.specs.Str.{bytes_eq}
use Rattle.tm_types.specs.Segment.{are_printable}
use Rattle.tm_types.specs.Words.{first_word, operands}
use Rattle.text_rows.specs.Lines.{is_passed_over, split_at}
use Rattle.text_rows.specs.LowestRule.{also}
use Rattle.model_system.specs.declared.fields.FieldValue.{FieldValue}
use Rattle.model_session.specs.Numbers.{name_operand}
use Rattle.model_session.specs.declared.others.Others.{Others}

-- a `+` line
abbrev pub is_further : List ℕ → Bool
is_further line = bytes_eq (first_word line) (codes "+")

-- a line of SCREEN, well formed or not
abbrev pub is_screen : List ℕ → Bool
is_screen line = bytes_eq (first_word line) (codes "SCREEN")

-- a line that takes `+` lines, well formed or not
abbrev pub takes_further : List ℕ → Bool
takes_further line = bytes_eq (first_word line) (codes "IN") || is_screen line

-- words are parted by one blank, so a line has as many operands as blanks
abbrev pub operand_count : List ℕ → ℕ
operand_count line = count_by (λ b. b == 32) line

-- + text: the text is all that follows the blank, and may be empty
abbrev pub has_operand : List ℕ → Bool
has_operand line = nat_le 1 (operand_count line)

-- the length of a text that is too long for a segment
abbrev pub long_of : List ℕ → Option ℕ
long_of text = if nat_lt 1996 (length text) then Some (length text) else None

-- ---- the field lines of a screen

-- + NAME=text: the name stands before the first =, and the text is all that follows this, and may be empty
abbrev pub with_field_text : List ℕ → Result (List ℕ) ℕ → Result FieldValue ℕ
with_field_text text (Ok name) = Ok (record { name = name; text = text })
with_field_text text (Err rule) = Err rule

abbrev pub field_parts : Option (List ℕ × List ℕ) → Result FieldValue ℕ
field_parts (Some (name, text)) = with_field_text text (name_operand name)
field_parts None = Err 8

abbrev pub printable_block_line : List ℕ → Result (Unit {0}) ℕ
printable_block_line line = if are_printable line then Ok tt else Err 6

-- the value that a field line gives, or the lowest rule that it breaks
unfoldable pub field_of : List ℕ → Result FieldValue ℕ
field_of line = also (if has_operand line then field_parts (split_at 61 (operands line)) else Err 2) (printable_block_line line)

abbrev pub judged_field : Result FieldValue ℕ → Result (Unit {0}) ℕ
judged_field (Ok value) = Ok tt
judged_field (Err rule) = Err rule

-- a value in the place of the one for the same name, or at the end
abbrev pub put_value : FieldValue → List FieldValue → List FieldValue
put_value value [] = value ∷ []
put_value value (first ∷ values) = if bytes_eq first.name value.name then value ∷ values else first ∷ put_value value values

-- The last values for the first 1,921 names, with that of one more line. A screen has 1,920 places, so one of so many
-- names is no field of its format, and the values for later names are asked for nothing.
unfoldable pub first_values : List FieldValue → List FieldValue
first_values values = take 1921 values

abbrev pub and_value : List FieldValue → Result FieldValue ℕ → List FieldValue
and_value values (Ok value) = first_values (put_value value values)
and_value values (Err rule) = values

-- ---- blocks

-- A line, and what is kept of the `+` lines that belong to it. Of those of an input the first 16 are kept; the others
-- are counted, and with them stands what is asked of each: whether it has an operand, whether its bytes are printable,
-- and the first length that is too long. Of those of a screen the values are kept, and the lowest rule that one breaks.
pub record Block : Type 0 where
  pub line : List ℕ
  pub further : List (List ℕ)
  pub values : List FieldValue
  pub others : Others

abbrev pub no_others : Others
no_others = record { count = 0; complete = true; printable = true; long = None; fields = Ok tt }

abbrev pub and_other : Others → List ℕ → Others
and_other others line =
    record {
      count = others.count + 1;
      complete = others.complete && has_operand line;
      printable = others.printable && are_printable line;
      long = option_or others.long (long_of (operands line));
      fields = others.fields;
    }

abbrev pub block_alone : List ℕ → Block
block_alone line = record { line = line; further = []; values = []; others = no_others }

-- whether one more text of an input is kept
abbrev pub keeps_further : Block → Bool
keeps_further block = nat_lt (length block.further) 16

abbrev pub and_text : Block → List ℕ → Block
and_text block line =
    record block {
      further = if keeps_further block then block.further ++ line ∷ [] else block.further;
      others = if keeps_further block then block.others else and_other block.others line;
    }

abbrev pub and_field : Block → List ℕ → Block
and_field block line =
    record block {
      values = and_value block.values (field_of line);
      others = record block.others { fields = also block.others.fields (judged_field (field_of line)) };
    }

-- one more `+` line: behind SCREEN stand field lines, and behind another line texts
abbrev pub and_line : Block → List ℕ → Block
and_line block line = if is_screen block.line then and_field block line else and_text block line

-- A block before others. It takes the `+` lines that stand right behind it.
abbrev pub open_before : Block → List Block → List Block
open_before block [] = block ∷ []
open_before block (next ∷ blocks) =
    if is_further next.line then open_before (and_line block next.line) blocks else block ∷ next ∷ blocks

-- a line before blocks; only some lines take `+` lines
abbrev pub line_before : List ℕ → List Block → List Block
line_before line blocks = if takes_further line then open_before (block_alone line) blocks else block_alone line ∷ blocks

-- The blocks of some lines. Lines that are empty or begin with * are passed over.
abbrev pub blocks_of : List (List ℕ) → List Block
blocks_of [] = []
blocks_of (line ∷ lines) = if is_passed_over line then blocks_of lines else line_before line (blocks_of lines)

-- the same, behind a line that may still take `+` lines
abbrev pub blocks_behind : Option Block → List Block → List Block
blocks_behind (Some block) blocks = open_before block blocks
blocks_behind None blocks = blocks

-- The closed blocks of some blocks: all but a last one that may still take `+` lines.
abbrev pub closed_blocks : List Block → List Block
closed_blocks [] = []
closed_blocks (block ∷ []) = if takes_further block.line then [] else block ∷ []
closed_blocks (block ∷ next ∷ blocks) = block ∷ closed_blocks (next ∷ blocks)
