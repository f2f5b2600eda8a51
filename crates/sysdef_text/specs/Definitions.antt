-- Definitions.
use Rattle.std.specs.Prelude.{ℕ, suc, ◌+◌, ◌-◌, nat_lt, Bool, true, false, List, [], ◌∷◌, take, drop, length, ◌==◌, Result, Ok, Err, if◌then◌else◌}
use Rattle.std.specs.Str.Lines.{lines}
use Rattle.text_rows.specs.Refusals.{then_lines}
use Rattle.system_types.specs.declared.definition.MacroLine.{MacroLine}
use Rattle.sysdef_text.specs.declared.modes.Mode.{Mode}
use Rattle.sysdef_text.specs.declared.modes.Mode.TheVariants.{Start}
use Rattle.sysdef_text.specs.declared.modes.Step.{Step}
use Rattle.sysdef_text.specs.declared.modes.Step.TheVariants.{Pass, Item, Last}
use Rattle.sysdef_text.specs.LineSteps.{definition_step}

-- a step, and what is read of the lines behind it
abbrev pub step_follows : ℕ → Result Step (ℕ × ℕ) → (Mode → Result (List MacroLine) (ℕ × ℕ)) → Result (List MacroLine) (ℕ × ℕ)
step_follows number (Ok (Pass mode)) more = more mode
step_follows number (Ok (Item macro mode)) more = then_lines (Ok (record { number = number; content = macro })) (more mode)
step_follows number (Ok (Last macro)) more = Ok ((record { number = number; content = macro }) ∷ [])
step_follows number (Err fault) more = Err fault

-- The macros of lines up to END, the first line having this number. Rule 13: where END doesn't
-- come it is missing one past the last line.
abbrev pub definition : Mode → Bool → ℕ → List (List ℕ) → Result (List MacroLine) (ℕ × ℕ)
definition mode over number [] = Err (number, 13)
definition mode over number (line ∷ lines) = step_follows number (definition_step mode over number line lines) (λ next. definition next over (suc number) lines)

-- the lines of a text: each ends by LF, and a CR before that isn't of the line; the last may lack
-- its LF, and then keeps its CR
unfoldable pub text_lines : List ℕ → List (List ℕ)
text_lines text = lines text

-- how many bytes a text has through its first LF
abbrev pub through_line : List ℕ → ℕ
through_line [] = 0
through_line (byte ∷ bytes) = if byte == 10 then 1 else suc (through_line bytes)

-- A definition is read up to the line that passes 262,144 bytes.
unfoldable pub kept : List ℕ → List ℕ
kept text = take (262144 + through_line (drop 262144 text)) text

-- the macros that the text spells, or the line and the rule that it breaks first
unfoldable pub definition_of : List ℕ → Result (List MacroLine) (ℕ × ℕ)
definition_of text = definition Start (nat_lt 262144 (length text)) 1 (text_lines (kept text))

-- these lines have more bytes than there is room for, each with the LF that ends it
abbrev pub passes : ℕ → List (List ℕ) → Bool
passes room [] = false
passes room (line ∷ lines) = if nat_lt room (length line + 1) then true else passes (room - (length line + 1)) lines

-- the macros that the lines of a text spell, or the line and the rule that it breaks first
unfoldable pub definition_in : List (List ℕ) → Result (List MacroLine) (ℕ × ℕ)
definition_in lines = definition Start (passes 262144 lines) 1 lines
