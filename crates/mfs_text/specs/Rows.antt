-- The table of a format's macros: a row for each, with its operands and their defaults.
use Rattle.std.specs.Prelude.{ℕ, ◌+◌, nat_le, List, codes, Result, Ok, Err, if◌then◌else◌}
use Rattle.text_rows.specs.LowestRule.{both}
use Rattle.text_rows.specs.Names.{name_of}
use Rattle.text_rows.specs.Numbers.{number_between}
use Rattle.text_rows.specs.Operands.{needed, or_as}
use Rattle.model_system.specs.declared.message_field.Justify.{Justify}
use Rattle.model_system.specs.declared.message_field.Justify.TheVariants.{Left}
use Rattle.model_system.specs.declared.message_field.MessageField.{MessageField}
use Rattle.model_system.specs.declared.message_field.MessageField.TheVariants as content
use Rattle.mfs_text.specs.declared.kinds.Kind.{Kind}
use Rattle.mfs_text.specs.declared.kinds.Kind.TheVariants as kind
use Rattle.mfs_text.specs.declared.lines.Direction.{Direction}
use Rattle.mfs_text.specs.declared.lines.FormatLine.{FormatLine}
use Rattle.mfs_text.specs.declared.lines.FormatLine.TheVariants as line
use Rattle.mfs_text.specs.Kinds.{has_literal}
use Rattle.mfs_text.specs.Values.{screen_place_of, direction_of, justify_of, fill_of, literal_of}

-- DFLD NAME, POS, LTH; the field ends in its row, else rule 6
abbrev pub within_row : Result ((ℕ × ℕ) × ℕ) ℕ → Result ((ℕ × ℕ) × ℕ) ℕ
within_row (Ok ((row, column), width)) = if nat_le (column + width) 81 then Ok ((row, column), width) else Err 6
within_row (Err rule) = Err rule

unfoldable pub extent_part : List (List ℕ) → Result ((ℕ × ℕ) × ℕ) ℕ
extent_part ops = within_row (both (needed (codes "POS") screen_place_of ops) (needed (codes "LTH") (number_between 1 80) ops))

abbrev pub field_made : ℕ → Result (List ℕ × ((ℕ × ℕ) × ℕ)) ℕ → Result FormatLine ℕ
field_made number (Ok (name, ((row, column), width))) = Ok (line.Field (record { number = number; name = name; row = row; column = column; width = width }))
field_made number (Err rule) = Err rule

unfoldable pub field_row : ℕ → List (List ℕ) → Result FormatLine ℕ
field_row number ops = field_made number (both (needed (codes "NAME") name_of ops) (extent_part ops))

-- MSG TYPE
abbrev pub message_made : Result Direction ℕ → Result FormatLine ℕ
message_made (Ok direction) = Ok (line.Message direction)
message_made (Err rule) = Err rule

unfoldable pub message_row : List (List ℕ) → Result FormatLine ℕ
message_row ops = message_made (needed (codes "TYPE") direction_of ops)

-- MFLD LIT
abbrev pub literal_made : Result (List ℕ) ℕ → Result MessageField ℕ
literal_made (Ok text) = Ok (content.Literal text)
literal_made (Err rule) = Err rule

-- MFLD SRC, LTH, JUST, FILL
abbrev pub source_made : Result ((List ℕ × ℕ) × (Justify × ℕ)) ℕ → Result MessageField ℕ
source_made (Ok ((name, width), (justify, fill))) = Ok (content.Source (record { name = name; width = width; justify = justify; fill = fill }))
source_made (Err rule) = Err rule

unfoldable pub source_part : List (List ℕ) → Result (List ℕ × ℕ) ℕ
source_part ops = both (needed (codes "SRC") name_of ops) (needed (codes "LTH") (number_between 1 80) ops)

unfoldable pub fitting_part : List (List ℕ) → Result (Justify × ℕ) ℕ
fitting_part ops = both (or_as (codes "JUST") justify_of Left ops) (or_as (codes "FILL") fill_of 32 ops)

unfoldable pub message_field_row : List (List ℕ) → Result MessageField ℕ
message_field_row ops =
    if has_literal ops then literal_made (needed (codes "LIT") literal_of ops)
    else source_made (both (source_part ops) (fitting_part ops))

abbrev pub numbered_field : ℕ → Result MessageField ℕ → Result FormatLine ℕ
numbered_field number (Ok field) = Ok (line.MessageField (record { number = number; content = field }))
numbered_field number (Err rule) = Err rule

-- the row of a kind, in the line of this number; SEG and FMTEND have no operands
unfoldable pub format_macro_row : Kind → ℕ → List (List ℕ) → Result FormatLine ℕ
format_macro_row kind.Field number ops = field_row number ops
format_macro_row kind.Message number ops = message_row ops
format_macro_row kind.Segment number ops = Ok (line.Segment number)
format_macro_row kind.MessageField number ops = numbered_field number (message_field_row ops)
format_macro_row kind.End number ops = Ok line.End
