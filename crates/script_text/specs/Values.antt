-- The operands of script lines, each by its word.
use Rattle.std.specs.Prelude.{ℕ, ◌-◌, ◌&&◌, ◌==◌, nat_le, List, [], ◌∷◌, codes, Option, Some, None, Result, Ok, Err, if◌then◌else◌}
use Rattle.std.specs.Str.{bytes_eq}
use Rattle.tm_types.specs.declared.function.Function.{Function}
use Rattle.tm_types.specs.declared.function.Function.TheVariants.{GU, GN, GNP, GHU, GHN, GHNP, ISRT, REPL, DLET, PURG, CHNG, ROLB, ROLL}
use Rattle.text_rows.specs.Lines.{split_at}
use Rattle.text_rows.specs.LowestRule.{both}
use Rattle.text_rows.specs.Names.{name_of}
use Rattle.text_rows.specs.Numbers.{number_between}
use Rattle.model_system.specs.declared.script_ssa.ScriptSsa.{ScriptSsa}
use Rattle.model_system.specs.declared.script_ssa.ScriptSsa.TheVariants.{Any, Equal as EqualKey, AtLeast}
use Rattle.model_system.specs.declared.statement.Comparison.{Comparison}
use Rattle.model_system.specs.declared.statement.Comparison.TheVariants.{Equal, NotEqual, LessThan}
use Rattle.model_system.specs.declared.statement.Target.{Target}
use Rattle.model_system.specs.declared.text.Text.{Text}
use Rattle.model_system.specs.declared.text.Text.TheVariants.{Variable, Status, Literal}

-- Rule 3: a variable is one letter, A to Z, seen as its place among them.
unfoldable pub variable_of : List ℕ → Result ℕ ℕ
variable_of [] = Err 3
variable_of (letter ∷ []) = if nat_le 65 letter && nat_le letter 90 then Ok (letter - 65) else Err 3
variable_of (letter ∷ other ∷ letters) = Err 3

-- Rule 4: a literal is closed by the next quote. Rule 3: nothing stands behind that.
abbrev pub quote_closed : Option (List ℕ × List ℕ) → Result Text ℕ
quote_closed (Some (inside, [])) = Ok (Literal inside)
quote_closed (Some (inside, byte ∷ bytes)) = Err 3
quote_closed None = Err 4

abbrev pub as_text : Result ℕ ℕ → Result Text ℕ
as_text (Ok x) = Ok (Variable x)
as_text (Err rule) = Err rule

-- Rule 3: a text is STATUS, a literal or a variable.
abbrev pub named_text : List ℕ → Result Text ℕ
named_text word = if bytes_eq word (codes "STATUS") then Ok Status else as_text (variable_of word)

unfoldable pub read_text_of : List ℕ → Result Text ℕ
read_text_of [] = Err 3
read_text_of (byte ∷ bytes) = if byte == 34 then quote_closed (split_at 34 bytes) else named_text (byte ∷ bytes)

abbrev pub with_read_text : Result (Text × List Text) ℕ → Result (List Text) ℕ
with_read_text (Ok (text, texts)) = Ok (text ∷ texts)
with_read_text (Err rule) = Err rule

-- the texts of the words, or the lowest rule that one of them breaks
abbrev pub read_texts : List (List ℕ) → Result (List Text) ℕ
read_texts [] = Ok []
read_texts (word ∷ words) = with_read_text (both (read_text_of word) (read_texts words))

-- Rule 7: a number lies in its range.
abbrev pub or_wrong_number : Result ℕ ℕ → Result ℕ ℕ
or_wrong_number (Ok number) = Ok number
or_wrong_number (Err rule) = Err 7

unfoldable pub operand_number : ℕ → ℕ → List ℕ → Result ℕ ℕ
operand_number low high text = or_wrong_number (number_between low high text)

-- Rule 1: the word between the texts of an IF.
unfoldable pub comparison_of : List ℕ → Result Comparison ℕ
comparison_of word = if bytes_eq word (codes "=") then Ok Equal else (if bytes_eq word (codes "<>") then Ok NotEqual else (if bytes_eq word (codes "<") then Ok LessThan else Err 1))

-- Rule 1: the word before the label of an IF.
unfoldable pub goto_word : List ℕ → Result (Unit {0}) ℕ
goto_word word = if bytes_eq word (codes "GOTO") then Ok tt else Err 1

-- Rule 5: a label is a name, and one that stands somewhere.
abbrev pub found_at : List ℕ → Option ℕ → Result Target ℕ
found_at name (Some place) = Ok (record { label = name; place = place })
found_at name None = Err 5

abbrev pub target_for : (List ℕ → Option ℕ) → Result (List ℕ) ℕ → Result Target ℕ
target_for places (Ok name) = found_at name (places name)
target_for places (Err rule) = Err 5

unfoldable pub read_target : (List ℕ → Option ℕ) → List ℕ → Result Target ℕ
read_target places word = target_for places (name_of word)

-- Rule 3: a segment search argument is the name of a segment type, alone or with = or >= and a
-- variable.
abbrev pub any_key : Result (List ℕ) ℕ → Result ScriptSsa ℕ
any_key (Ok name) = Ok (Any name)
any_key (Err rule) = Err 3

abbrev pub equal_key : Result (List ℕ) ℕ → Result ℕ ℕ → Result ScriptSsa ℕ
equal_key (Ok name) (Ok x) = Ok (EqualKey name x)
equal_key _ _ = Err 3

abbrev pub at_least : Result (List ℕ) ℕ → Result ℕ ℕ → Result ScriptSsa ℕ
at_least (Ok name) (Ok x) = Ok (AtLeast name x)
at_least _ _ = Err 3

abbrev pub with_equal : List ℕ → Option (List ℕ × List ℕ) → Result ScriptSsa ℕ
with_equal word (Some (name, x)) = equal_key (name_of name) (variable_of x)
with_equal word None = any_key (name_of word)

abbrev pub behind_greater : List ℕ → List ℕ → Result ScriptSsa ℕ
behind_greater name [] = Err 3
behind_greater name (byte ∷ x) = if byte == 61 then at_least (name_of name) (variable_of x) else Err 3

abbrev pub with_greater : List ℕ → Option (List ℕ × List ℕ) → Result ScriptSsa ℕ
with_greater word (Some (name, rest)) = behind_greater name rest
with_greater word None = with_equal word (split_at 61 word)

unfoldable pub ssa_of : List ℕ → Result ScriptSsa ℕ
ssa_of word = with_greater word (split_at 62 word)

abbrev pub with_ssa : Result (ScriptSsa × List ScriptSsa) ℕ → Result (List ScriptSsa) ℕ
with_ssa (Ok (ssa, ssas)) = Ok (ssa ∷ ssas)
with_ssa (Err rule) = Err rule

abbrev pub ssas_of : List (List ℕ) → Result (List ScriptSsa) ℕ
ssas_of [] = Ok []
ssas_of (word ∷ words) = with_ssa (both (ssa_of word) (ssas_of words))

-- Rule 10: the functions of calls.
unfoldable pub function_of : List ℕ → Result Function ℕ
function_of word =
    if bytes_eq word (codes "GU") then Ok GU
    else (if bytes_eq word (codes "GN") then Ok GN
    else (if bytes_eq word (codes "GNP") then Ok GNP
    else (if bytes_eq word (codes "GHU") then Ok GHU
    else (if bytes_eq word (codes "GHN") then Ok GHN
    else (if bytes_eq word (codes "GHNP") then Ok GHNP
    else (if bytes_eq word (codes "ISRT") then Ok ISRT
    else (if bytes_eq word (codes "REPL") then Ok REPL
    else (if bytes_eq word (codes "DLET") then Ok DLET
    else (if bytes_eq word (codes "PURG") then Ok PURG
    else (if bytes_eq word (codes "CHNG") then Ok CHNG
    else (if bytes_eq word (codes "ROLB") then Ok ROLB
    else (if bytes_eq word (codes "ROLL") then Ok ROLL
    else Err 10))))))))))))
