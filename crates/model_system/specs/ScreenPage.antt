-- What a screen shows of a reply.
use Rattle.std.specs.Prelude.{ℕ, ◌+◌, ◌-◌, ◌==◌, nat_le, nat_lt, Bool, ◌&&◌, List, [], ◌∷◌, ◌++◌, take, drop, map, reverse, find, get_or, Option, Some, None}
use Rattle.std.specs.List.{range_with_len}
use Rattle.std.specs.Option.{option_map_or}
use Rattle.std.specs.Str.{bytes_eq}
use Rattle.model_system.specs.declared.device_field.DeviceField.{DeviceField}
use Rattle.model_system.specs.declared.message_field.MessageField.{MessageField}
use Rattle.model_system.specs.declared.message_field.MessageField.TheVariants as content
use Rattle.model_system.specs.declared.message_field.MessageFieldLine.{MessageFieldLine}
use Rattle.model_system.specs.declared.message_field.Source.{Source}
use Rattle.model_system.specs.declared.segment_line.SegmentLine.{SegmentLine}
use Rattle.model_system.specs.FittedValues.{fitted_value}
use Rattle.model_system.specs.FormatLines.{FormatLines}

-- a piece of a segment, and the MFLD that it belongs to
pub record Piece : Type 0 where
  pub source : Source
  pub text : List ℕ

-- Each MFLD takes its bytes from the front of what is left; the last ones may be short or empty. A
-- literal takes none.
abbrev pub with_piece : MessageField → List ℕ → (List ℕ → List Piece) → List Piece
with_piece (content.Source source) text rest = record { source = source; text = take source.width text } ∷ rest (drop source.width text)
with_piece (content.Literal literal) text rest = rest text

abbrev pub pieces_of : List MessageFieldLine → List ℕ → List Piece
pieces_of [] text = []
pieces_of (line ∷ lines) text = with_piece line.content text (pieces_of lines)

-- The i-th segment meets the i-th SEG. Segments past the last SEG aren't shown, and a SEG past the
-- last segment has no pieces.
abbrev pub all_pieces : List SegmentLine → List (List ℕ) → List Piece
all_pieces [] segments = []
all_pieces (line ∷ lines) [] = []
all_pieces (line ∷ lines) (segment ∷ segments) = pieces_of line.fields segment ++ all_pieces lines segments

-- what a field shows: the last piece for it, set into its bytes, or nothing
abbrev pub shown_in : List Piece → DeviceField → List ℕ
shown_in pieces field =
    option_map_or (λ piece. fitted_value piece.source.justify piece.source.fill field.width piece.text) (find (λ piece. bytes_eq piece.source.name field.name) (reverse pieces)) []

-- a field covers its columns of its row
abbrev pub covers : ℕ → ℕ → DeviceField → Bool
covers row column field = (field.row == row) && (nat_le field.column column && nat_lt column (field.column + field.width))

abbrev pub byte_in : List Piece → ℕ → Option DeviceField → ℕ
byte_in pieces column (Some field) = get_or (shown_in pieces field) (column - field.column) 32
byte_in pieces column None = 32

-- At each place stands the byte of the field that covers it, and a blank where none does or where
-- the field has no byte. Rows and columns are counted from 1.
abbrev pub screen_byte_at : List DeviceField → List Piece → ℕ → ℕ → ℕ
screen_byte_at fields pieces row column = byte_in pieces column (find (covers row column) fields)

-- the page of 24 rows of 80 bytes that shows these pieces
unfoldable pub page_of : List DeviceField → List Piece → List (List ℕ)
page_of fields pieces = map (λ row. map (screen_byte_at fields pieces row) (range_with_len 1 80)) (range_with_len 1 24)

-- the page that shows a reply
unfoldable pub shown_page : FormatLines → List (List ℕ) → List (List ℕ)
shown_page format segments = page_of format.fields (all_pieces format.output segments)
