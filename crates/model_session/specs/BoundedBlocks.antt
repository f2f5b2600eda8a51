-- What a block keeps of many `+` lines is enough: it asks for what all its lines would ask for, but that the texts of
-- an input behind the 17th are empty. Of a screen this is so as no format has more than 1,920 fields.
use Rattle.std.specs.Prelude.{◌≡◌, ℕ, ◌-◌, ◌≤◌, ◌⊎◌, true, if◌then◌else◌, Result, Ok, Err, IfSome, List, [], ◌∷◌, ◌++◌, length, take, replicate}
use Rattle.model_machine.specs.declared.entry.ControlCall.TheVariants.{Input}
use Rattle.model_session.specs.declared.asked.Asked.{Asked}
use Rattle.model_session.specs.declared.asked.Asked.TheVariants.{Call}
use Rattle.model_system.specs.System.{System}
use Rattle.text_rows.specs.LowestRule.{also}
use Rattle.model_system.specs.declared.fields.FieldValue.{FieldValue}
use Rattle.model_system.specs.SystemFormats.{format_of}
use Rattle.model_session.specs.Blocks.{Block, block_alone, and_line, field_of, is_screen, judged_field, no_others, takes_further}
use Rattle.model_session.specs.Lines.{asked_of}

-- all values that field lines give, in their order
abbrev pub value_before : Result FieldValue ℕ → List FieldValue → List FieldValue
value_before (Ok value) values = value ∷ values
value_before (Err rule) values = values

abbrev pub values_in : List (List ℕ) → List FieldValue
values_in [] = []
values_in (line ∷ lines) = value_before (field_of line) (values_in lines)

-- the lowest rule that one of the field lines breaks
abbrev pub fields_in : List (List ℕ) → Result (Unit {0}) ℕ
fields_in [] = Ok tt
fields_in (line ∷ lines) = also (judged_field (field_of line)) (fields_in lines)

-- a block with all its `+` lines
abbrev pub whole_input : List ℕ → List (List ℕ) → Block
whole_input line lines = record { line = line; further = lines; values = []; others = no_others }

abbrev pub whole_screen : List ℕ → List (List ℕ) → Block
whole_screen line lines = record { line = line; further = []; values = values_in lines; others = record no_others { fields = fields_in lines } }

abbrev pub whole : List ℕ → List (List ℕ) → Block
whole line lines = if is_screen line then whole_screen line lines else whole_input line lines

-- a block with so many `+` lines more
abbrev pub with_lines : Block → List (List ℕ) → Block
with_lines block [] = block
with_lines block (line ∷ lines) = with_lines (and_line block line) lines

-- the first 17 texts as they are, and the others empty
abbrev pub first_texts : List (List ℕ) → List (List ℕ)
first_texts texts = take 17 texts ++ replicate (length texts - 17) []

-- the same input by its first texts
pub record AsksByFirst (kept all : Asked) : Type 0 where
  pub terminal : List ℕ
  pub number : ℕ
  pub texts : List (List ℕ)
  pub all_is : all ≡ Call (Input terminal number texts)
  pub kept_is : kept ≡ Call (Input terminal number (first_texts texts))

abbrev pub AsksAlike : Asked → Asked → Type 0
AsksAlike kept all = (kept ≡ all) ⊎ AsksByFirst kept all

-- each format of a terminal has 1,920 fields at most, which is how many places a screen has
abbrev pub HasScreens : System → Type 0
HasScreens system = (terminal : List ℕ) → IfSome (format_of system terminal) (λ format. length format.fields ≤ 1920)

-- whatever `+` lines stand behind a line that takes them
abbrev pub KeepsEnough : Type 0
KeepsEnough = (system : System) (line : List ℕ) (lines : List (List ℕ)) → HasScreens system → takes_further line ≡ true
    → AsksAlike (asked_of system (with_lines (block_alone line) lines)) (asked_of system (whole line lines))
