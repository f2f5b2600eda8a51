-- The pieces of a segment, MFLD by MFLD, and the row in which one is set.
use Rattle.std.specs.Prelude.{ℕ, ◌+◌, ◌-◌, ◌≤◌, List, [], ◌∷◌, ◌++◌, take, drop}
use Rattle.model_system.specs.declared.device_field.DeviceField.{DeviceField}
use Rattle.model_system.specs.declared.message_field.MessageField.{MessageField}
use Rattle.model_system.specs.declared.message_field.MessageField.TheVariants.{Source, Literal}
use Rattle.model_system.specs.declared.message_field.MessageFieldLine.{MessageFieldLine}
use Rattle.model_system.specs.ScreenPage.{Piece, with_piece}

-- what an MFLD leaves of a text, and what some of them leave
abbrev pub left_by_field : MessageField → List ℕ → List ℕ
left_by_field (Source source) text = drop source.width text
left_by_field (Literal literal) text = text

abbrev pub rest_of : List MessageFieldLine → List ℕ → List ℕ
rest_of [] text = text
rest_of (line ∷ lines) text = rest_of lines (left_by_field line.content text)

-- the piece of one MFLD
abbrev pub piece_of : MessageField → List ℕ → List Piece
piece_of content text = with_piece content text (λ rest. [])

-- the field lies on the page
pub record OnPage (field : DeviceField) : Type 0 where
  pub first_row : 1 ≤ field.row
  pub last_row : field.row ≤ 24
  pub first_column : 1 ≤ field.column
  pub last_column : field.column + field.width ≤ 81

-- a row with a text in the columns of a field
abbrev pub screen_row_with : DeviceField → List ℕ → List ℕ → List ℕ
screen_row_with field text row = take (field.column - 1) row ++ (text ++ drop (field.column - 1 + field.width) row)
