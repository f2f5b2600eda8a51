-- The operands of a macro.
use Rattle.std.specs.Prelude.{ℕ, Bool, true, false, List, [], ◌∷◌, Option, Some, None, Result, Ok, Err, if◌then◌else◌}
use Rattle.std.specs.List.{list_all, list_any}
use Rattle.std.specs.Str.{bytes_eq}
use Rattle.text_rows.specs.declared.pieces.Place.TheVariants.{Operand}
use Rattle.text_rows.specs.Pieces.{pieces}
use Rattle.text_rows.specs.Lines.{split_at}

-- A macro's line is its name, one blank, and its operands, which commas part. A line without a
-- blank has no operands.
abbrev pub name_before : List ℕ → Option (List ℕ × List ℕ) → List ℕ
name_before line None = line
name_before line (Some (name, rest)) = name

abbrev pub operands_behind : Option (List ℕ × List ℕ) → List (List ℕ)
operands_behind None = []
operands_behind (Some (name, rest)) = pieces Operand rest

unfoldable pub macro_name : List ℕ → List ℕ
macro_name line = name_before line (split_at 32 line)

unfoldable pub macro_operands : List ℕ → List (List ℕ)
macro_operands line = operands_behind (split_at 32 line)

-- An operand is a key, = and a value.
abbrev pub value_with : List ℕ → Option (List ℕ × List ℕ) → Option (List ℕ)
value_with key None = None
value_with key (Some (word, value)) = if bytes_eq word key then Some value else None

unfoldable pub value_under : List ℕ → List ℕ → Option (List ℕ)
value_under key operand = value_with key (split_at 61 operand)

-- the values that stand under a key
abbrev pub value_and : Option (List ℕ) → List (List ℕ) → List (List ℕ)
value_and None values = values
value_and (Some value) values = value ∷ values

abbrev pub values : List ℕ → List (List ℕ) → List (List ℕ)
values key [] = []
values key (operand ∷ operands) = value_and (value_under key operand) (values key operands)

-- Rule 3: a key stands once at most.
abbrev pub only : List (List ℕ) → Result (Option (List ℕ)) ℕ
only [] = Ok None
only (value ∷ []) = Ok (Some value)
only (value ∷ other ∷ values) = Err 3

abbrev pub read_or : {A : Type 0} → Result A ℕ → (List ℕ → Result A ℕ) → Result (Option (List ℕ)) ℕ → Result A ℕ
read_or missing read (Ok None) = missing
read_or missing read (Ok (Some value)) = read value
read_or missing read (Err rule) = Err rule

-- Rule 4: an operand without a default is there.
unfoldable pub needed : {A : Type 0} → List ℕ → (List ℕ → Result A ℕ) → List (List ℕ) → Result A ℕ
needed key read operands = read_or (Err 4) read (only (values key operands))

-- an operand that stands for the default where it is missing
unfoldable pub or_as : {A : Type 0} → List ℕ → (List ℕ → Result A ℕ) → A → List (List ℕ) → Result A ℕ
or_as key read default operands = read_or (Ok default) read (only (values key operands))

-- an operand with a key stands there, be it once or twice
abbrev pub is_operand_there : Result (Option (List ℕ)) ℕ → Bool
is_operand_there (Ok None) = false
is_operand_there (Ok (Some value)) = true
is_operand_there (Err rule) = true

abbrev pub stands : List ℕ → List (List ℕ) → Bool
stands key operands = is_operand_there (only (values key operands))

abbrev pub is_among : List (List ℕ) → Option (List ℕ × List ℕ) → Bool
is_among keys None = false
is_among keys (Some (word, value)) = list_any (bytes_eq word) keys

-- an operand without = has no key
unfoldable pub has_key : List (List ℕ) → List ℕ → Bool
has_key keys operand = is_among keys (split_at 61 operand)

-- Rule 2: each operand has one of these keys.
abbrev pub known_among : List (List ℕ) → List (List ℕ) → Result (Unit {0}) ℕ
known_among keys operands = if list_all (has_key keys) operands then Ok tt else Err 2
