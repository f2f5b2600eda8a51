-- How a line is cut into pieces.
use Rattle.std.specs.Prelude.{ℕ, suc, Bool, true, false, List, [], ◌∷◌, ◌==◌, if◌then◌else◌}
use Rattle.text_rows.specs.declared.pieces.Place.{Place}
use Rattle.text_rows.specs.declared.pieces.Place.TheVariants.{Operand, AfterF, AfterFi, AfterFil, AfterFill, Fill, InOperand, InBrackets, InQuotes, Element, WordStart, InWord, InLiteral}

-- Operands of a macro and elements of a list are parted by commas, words of a script by blanks.
-- No byte parts within brackets, within a text in quotes or within a literal.
unfoldable pub parts : Place → ℕ → Bool
parts Operand byte = byte == 44
parts AfterF byte = byte == 44
parts AfterFi byte = byte == 44
parts AfterFil byte = byte == 44
parts AfterFill byte = byte == 44
parts Fill byte = byte == 44
parts InOperand byte = byte == 44
parts InBrackets byte = false
parts InQuotes byte = false
parts Element byte = byte == 44
parts WordStart byte = byte == 32
parts InWord byte = byte == 32
parts InLiteral byte = false

-- In an operand brackets begin by ( and end by ), and a text begins and ends by '.
unfoldable pub within_operand : ℕ → Place
within_operand byte = if byte == 40 then InBrackets else (if byte == 39 then InQuotes else InOperand)

-- The byte behind FILL= stands for itself. A word that begins by " is a literal up to the next ".
unfoldable pub place_after : Place → ℕ → Place
place_after Operand byte = if byte == 70 then AfterF else within_operand byte
place_after AfterF byte = if byte == 73 then AfterFi else within_operand byte
place_after AfterFi byte = if byte == 76 then AfterFil else within_operand byte
place_after AfterFil byte = if byte == 76 then AfterFill else within_operand byte
place_after AfterFill byte = if byte == 61 then Fill else within_operand byte
place_after Fill byte = InOperand
place_after InOperand byte = within_operand byte
place_after InBrackets byte = if byte == 41 then InOperand else InBrackets
place_after InQuotes byte = if byte == 39 then InOperand else InQuotes
place_after Element byte = Element
place_after WordStart byte = if byte == 34 then InLiteral else InWord
place_after InWord byte = InWord
place_after InLiteral byte = if byte == 34 then InWord else InLiteral

-- the byte before the first piece
abbrev pub with_front : ℕ → List (List ℕ) → List (List ℕ)
with_front byte [] = (byte ∷ []) ∷ []
with_front byte (piece ∷ pieces) = (byte ∷ piece) ∷ pieces

-- The pieces of a text that goes on at a place; each further piece begins at the first place.
-- There is one piece more than there are bytes that part.
abbrev pub pieces_from : Place → Place → List ℕ → List (List ℕ)
pieces_from first place [] = [] ∷ []
pieces_from first place (byte ∷ bytes) = if parts place byte then [] ∷ pieces_from first first bytes else with_front byte (pieces_from first (place_after place byte) bytes)

unfoldable pub pieces : Place → List ℕ → List (List ℕ)
pieces first text = pieces_from first first text

-- how many bytes the first piece has
abbrev pub first_length : Place → List ℕ → ℕ
first_length place [] = 0
first_length place (byte ∷ bytes) = if parts place byte then 0 else suc (first_length (place_after place byte) bytes)

-- the pieces that are left, none once the text has ended
abbrev pub pieces_left : Place → List ℕ → Bool → List (List ℕ)
pieces_left first text true = []
pieces_left first text false = pieces first text
