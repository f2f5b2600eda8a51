-- The values of operands.
use Rattle.std.specs.Prelude.{ℕ, ◌==◌, List, [], ◌∷◌, codes, Option, Some, None, Result, Ok, Err, if◌then◌else◌}
use Rattle.std.specs.Str.{bytes_eq}
use Rattle.tm_types.specs.Segment.{are_printable}
use Rattle.text_rows.specs.Lines.{split_at}
use Rattle.text_rows.specs.Lists.{two_of}
use Rattle.text_rows.specs.LowestRule.{both}
use Rattle.text_rows.specs.Numbers.{number_between}
use Rattle.model_system.specs.declared.message_field.Justify.{Justify}
use Rattle.model_system.specs.declared.message_field.Justify.TheVariants.{Left, Right}
use Rattle.model_system.specs.ValidFormat.{is_fill}
use Rattle.mfs_text.specs.declared.lines.Direction.{Direction}
use Rattle.mfs_text.specs.declared.lines.Direction.TheVariants.{Input, Output}

-- POS: a row of 1 to 24 and a column of 1 to 80
abbrev pub screen_place_in : Result (List ℕ × List ℕ) ℕ → Result (ℕ × ℕ) ℕ
screen_place_in (Ok (row, column)) = both (number_between 1 24 row) (number_between 1 80 column)
screen_place_in (Err rule) = Err rule

unfoldable pub screen_place_of : List ℕ → Result (ℕ × ℕ) ℕ
screen_place_of text = screen_place_in (two_of text)

-- Rule 9: the words of TYPE, JUST and FILL.
unfoldable pub direction_of : List ℕ → Result Direction ℕ
direction_of word = if bytes_eq word (codes "INPUT") then Ok Input else (if bytes_eq word (codes "OUTPUT") then Ok Output else Err 9)

unfoldable pub justify_of : List ℕ → Result Justify ℕ
justify_of word = if bytes_eq word (codes "L") then Ok Left else (if bytes_eq word (codes "R") then Ok Right else Err 9)

-- FILL is one byte where it isn't the word BLANK
abbrev pub one_byte : List ℕ → Result ℕ ℕ
one_byte (byte ∷ []) = if is_fill byte then Ok byte else Err 9
one_byte _ = Err 9

unfoldable pub fill_of : List ℕ → Result ℕ ℕ
fill_of word = if bytes_eq word (codes "BLANK") then Ok 32 else one_byte word

-- Rule 9 too: LIT begins by a quote and ends by the next one. Rule 11: its bytes are printable.
abbrev pub literal_closed : Option (List ℕ × List ℕ) → Result (List ℕ) ℕ
literal_closed (Some (inside, [])) = if are_printable inside then Ok inside else Err 11
literal_closed (Some (inside, byte ∷ bytes)) = Err 9
literal_closed None = Err 9

abbrev pub quoted : List ℕ → Result (List ℕ) ℕ
quoted [] = Err 9
quoted (byte ∷ bytes) = if byte == 39 then literal_closed (split_at 39 bytes) else Err 9

unfoldable pub literal_of : List ℕ → Result (List ℕ) ℕ
literal_of text = quoted text
