-- Programs: lists of lines that break no rule of scripts.
use Rattle.std.specs.Prelude.{◌≡◌, ℕ, suc, ◌≤◌, nat_le, ◌==◌, ◌&&◌, not, is_some, is_none, Bool, true, false, if◌then◌else◌, Option, Some, None, List, [], ◌∷◌, count_by, slice_get, IsTrue}
use Rattle.std.specs.List.{list_all}
use Rattle.std.specs.Str.{bytes_eq}
use Rattle.tm_types.specs.Segment.{is_printable}
use Rattle.tm_types.specs.declared.function.Function.{Function}
use Rattle.tm_types.specs.declared.function.Function.TheVariants.{GU, GN, GNP, GHU, GHN, GHNP, ISRT, REPL, DLET, PURG, CHNG, ROLB, ROLL}
use Rattle.model_system.specs.declared.program.ScriptLine.{ScriptLine}
use Rattle.model_system.specs.declared.script_ssa.ScriptSsa.{ScriptSsa}
use Rattle.model_system.specs.declared.statement.Target.{Target}
use Rattle.model_system.specs.declared.statement.Statement.{Statement}
use Rattle.model_system.specs.declared.statement.Statement.TheVariants.{Label, Set, Word, Cut, Pad, If, Goto, Call, Abend}
use Rattle.model_system.specs.declared.text.Text.{Text}
use Rattle.model_system.specs.declared.text.Text.TheVariants.{Literal}

abbrev pub is_label : Statement → Bool
is_label (Label name) = true
is_label _ = false

-- how many statements a program has: a label is none
abbrev pub statement_count : List ScriptLine → ℕ
statement_count lines = count_by (λ line. not (is_label line.statement)) lines

-- a function that PCB 0 can have
abbrev pub is_message_function : Function → Bool
is_message_function GU = true
is_message_function GN = true
is_message_function ISRT = true
is_message_function PURG = true
is_message_function ROLB = true
is_message_function ROLL = true
is_message_function _ = false

-- a function that another PCB can have, one of a database or one for output
abbrev pub is_other_function : Function → Bool
is_other_function GU = true
is_other_function GN = true
is_other_function GNP = true
is_other_function GHU = true
is_other_function GHN = true
is_other_function GHNP = true
is_other_function ISRT = true
is_other_function REPL = true
is_other_function DLET = true
is_other_function PURG = true
is_other_function CHNG = true
is_other_function _ = false

abbrev pub is_function_of : ℕ → Function → Bool
is_function_of pcb function = if pcb == 0 then is_message_function function else is_other_function function

-- all functions take an area but PURG, DLET and ROLL
abbrev pub takes_area : Function → Bool
takes_area PURG = false
takes_area DLET = false
takes_area ROLL = false
takes_area _ = true

-- the gets and ISRT take segment search arguments
abbrev pub takes_ssas : Function → Bool
takes_ssas REPL = false
takes_ssas DLET = false
takes_ssas PURG = false
takes_ssas CHNG = false
takes_ssas ROLB = false
takes_ssas ROLL = false
takes_ssas _ = true

-- only on a PCB above 0
abbrev pub ssas_allowed : ℕ → Function → List ScriptSsa → Bool
ssas_allowed pcb function [] = true
ssas_allowed pcb function (ssa ∷ ssas) = nat_le 1 pcb && takes_ssas function

abbrev pub is_call : Function → ℕ → Option ℕ → List ScriptSsa → Bool
is_call function pcb area ssas =
    nat_le pcb 8 && is_function_of pcb function && (if takes_area function then is_some area else is_none area) && ssas_allowed pcb function ssas

-- a literal has printable bytes
abbrev pub is_plain : Text → Bool
is_plain (Literal bytes) = list_all is_printable bytes
is_plain _ = true

-- the numbers of a line lie in their ranges, its literals are printable, and its call is one that
-- there is
abbrev pub is_statement : Statement → Bool
is_statement (Set x texts) = list_all is_plain texts
is_statement (Word x y number) = nat_le 1 number && nat_le number 100
is_statement (Cut x y start count) = nat_le 1 start && nat_le start 1996 && nat_le 1 count && nat_le count 1996
is_statement (Pad x width) = nat_le 1 width && nat_le width 18
is_statement (If left comparison right target) = is_plain left && is_plain right
is_statement (Call function pcb area ssas) = is_call function pcb area ssas
is_statement (Abend code) = nat_le 1 code.number && nat_le code.number 4095
is_statement _ = true

abbrev pub sets_label : List ℕ → Statement → Bool
sets_label name (Label label) = bytes_eq label name
sets_label name _ = false

-- the place of the first LABEL with this name, the first of the lines having a place
abbrev pub label_from : ℕ → List ℕ → List ScriptLine → Option ℕ
label_from place name [] = None
label_from place name (line ∷ lines) = if sets_label name line.statement then Some place else label_from (suc place) name lines

abbrev pub label_place : List ℕ → List ScriptLine → Option ℕ
label_place name lines = label_from 0 name lines

abbrev pub statement_target : Statement → Option Target
statement_target (If left comparison right target) = Some target
statement_target (Goto target) = Some target
statement_target _ = None

-- A program has at most 500 statements, each of them allowed. A label stands once, and where a line
-- goes to one, the target has its place.
pub record IsProgram (lines : List ScriptLine) : Type 0 where
  pub few : statement_count lines ≤ 500
  pub allowed : IsTrue (list_all (λ line. is_statement line.statement) lines)
  pub labels : (place : ℕ) (number : ℕ) (name : List ℕ) → slice_get lines place ≡ Some (record { number = number; statement = Label name }) → label_place name lines ≡ Some place
  pub targets : (place : ℕ) (line : ScriptLine) (target : Target) → slice_get lines place ≡ Some line → statement_target line.statement ≡ Some target → label_place target.label lines ≡ Some target.place
