-- Lists in brackets.
use Rattle.std.specs.Prelude.{ℕ, List, [], ◌∷◌, ◌==◌, Option, Some, None, Result, Ok, Err, if◌then◌else◌}
use Rattle.text_rows.specs.declared.pieces.Place.TheVariants.{Element}
use Rattle.text_rows.specs.Pieces.{pieces}
use Rattle.text_rows.specs.Lines.{split_at}

-- empty brackets have no element
abbrev pub elements : List ℕ → List (List ℕ)
elements [] = []
elements (byte ∷ bytes) = pieces Element (byte ∷ bytes)

-- nothing stands behind the closing bracket
abbrev pub list_closed : Option (List ℕ × List ℕ) → Result (List (List ℕ)) ℕ
list_closed (Some (inside, [])) = Ok (elements inside)
list_closed (Some (inside, byte ∷ bytes)) = Err 8
list_closed None = Err 8

abbrev pub list_opened : List ℕ → Result (List (List ℕ)) ℕ
list_opened [] = Err 8
list_opened (byte ∷ bytes) = if byte == 40 then list_closed (split_at 41 bytes) else Err 8

-- the elements of a list: rule 8 where the text is none
unfoldable pub list_of : List ℕ → Result (List (List ℕ)) ℕ
list_of text = list_opened text

-- Rule 8 also where the list has another number of elements.
abbrev pub as_two : Result (List (List ℕ)) ℕ → Result (List ℕ × List ℕ) ℕ
as_two (Ok (a ∷ b ∷ [])) = Ok (a, b)
as_two (Ok _) = Err 8
as_two (Err rule) = Err rule

abbrev pub as_three : Result (List (List ℕ)) ℕ → Result (List ℕ × List ℕ × List ℕ) ℕ
as_three (Ok (a ∷ b ∷ c ∷ [])) = Ok (a, b, c)
as_three (Ok _) = Err 8
as_three (Err rule) = Err rule

unfoldable pub two_of : List ℕ → Result (List ℕ × List ℕ) ℕ
two_of text = as_two (list_of text)

unfoldable pub three_of : List ℕ → Result (List ℕ × List ℕ × List ℕ) ℕ
three_of text = as_three (list_of text)
