-- The lines of a script, each by its words.
use Rattle.std.specs.Prelude.{ℕ, ◌==◌, ◌&&◌, ◌||◌, nat_le, Bool, true, false, List, [], ◌∷◌, codes, Option, Some, None, Result, Ok, Err, if◌then◌else◌}
use Rattle.std.specs.Str.{bytes_eq}
use Rattle.tm_types.specs.declared.function.Function.{Function}
use Rattle.text_rows.specs.LowestRule.{both, also}
use Rattle.text_rows.specs.Names.{name_of}
use Rattle.text_rows.specs.Numbers as rows
use Rattle.text_rows.specs.Numbers.{is_number}
use Rattle.model_system.specs.Programs.{is_function_of, takes_area, takes_ssas}
use Rattle.model_system.specs.declared.script_ssa.ScriptSsa.{ScriptSsa}
use Rattle.model_system.specs.declared.statement.Comparison.{Comparison}
use Rattle.model_system.specs.declared.statement.Statement.{Statement}
use Rattle.model_system.specs.declared.statement.Statement.TheVariants as line
use Rattle.model_system.specs.declared.statement.Target.{Target}
use Rattle.model_system.specs.declared.text.Text.{Text}
use Rattle.script_text.specs.declared.line_word.LineWord.{LineWord}
use Rattle.script_text.specs.declared.line_word.LineWord.TheVariants.{Label, Set, Word, Cut, Pad, Add, Less, If, Goto, Call, Abend, End}
use Rattle.script_text.specs.Values.{variable_of, read_text_of, read_texts, operand_number, comparison_of, goto_word, read_target, ssas_of, function_of}

-- Rule 1: the first word of a line.
unfoldable pub line_word : List ℕ → Option LineWord
line_word word =
    if bytes_eq word (codes "LABEL") then Some Label
    else (if bytes_eq word (codes "SET") then Some Set
    else (if bytes_eq word (codes "WORD") then Some Word
    else (if bytes_eq word (codes "CUT") then Some Cut
    else (if bytes_eq word (codes "PAD") then Some Pad
    else (if bytes_eq word (codes "ADD") then Some Add
    else (if bytes_eq word (codes "LESS") then Some Less
    else (if bytes_eq word (codes "IF") then Some If
    else (if bytes_eq word (codes "GOTO") then Some Goto
    else (if bytes_eq word (codes "CALL") then Some Call
    else (if bytes_eq word (codes "ABEND") then Some Abend
    else (if bytes_eq word (codes "END") then Some End
    else None)))))))))))

abbrev pub if_name : Result (List ℕ) ℕ → Option (List ℕ)
if_name (Ok name) = Some name
if_name (Err rule) = None

-- the label that a line sets: the word LABEL and a name alone
abbrev pub label_by : Option LineWord → List (List ℕ) → Option (List ℕ)
label_by (Some Label) (name ∷ []) = if_name (name_of name)
label_by _ _ = None

abbrev pub label_in : List (List ℕ) → Option (List ℕ)
label_in [] = None
label_in (word ∷ words) = label_by (line_word word) words

-- whether a line has the word LABEL; it is no statement then
abbrev pub is_label_word : Option LineWord → Bool
is_label_word (Some Label) = true
is_label_word _ = false

abbrev pub has_label_word : List (List ℕ) → Bool
has_label_word [] = false
has_label_word (word ∷ words) = is_label_word (line_word word)

-- Rule 6: a label stands at the first place where there is one of its name.
abbrev pub stands_at : Option ℕ → ℕ → Bool
stands_at (Some place) here = place == here
stands_at None here = false

abbrev pub label_at : (List ℕ → Option ℕ) → ℕ → Result (List ℕ) ℕ → Result Statement ℕ
label_at places here (Ok name) = if stands_at (places name) here then Ok (line.Label name) else Err 6
label_at places here (Err rule) = Err 5

-- Rule 2: a line has as many operands as its word takes.
unfoldable pub label_of : (List ℕ → Option ℕ) → ℕ → List (List ℕ) → Result Statement ℕ
label_of places here (name ∷ []) = label_at places here (name_of name)
label_of places here _ = Err 2

abbrev pub set_made : Result (ℕ × List Text) ℕ → Result Statement ℕ
set_made (Ok (x, texts)) = Ok (line.Set x texts)
set_made (Err rule) = Err rule

unfoldable pub set_of : List (List ℕ) → Result Statement ℕ
set_of (x ∷ word ∷ words) = set_made (both (variable_of x) (read_texts (word ∷ words)))
set_of _ = Err 2

abbrev pub word_made : Result (ℕ × (ℕ × ℕ)) ℕ → Result Statement ℕ
word_made (Ok (x, (y, number))) = Ok (line.Word x y number)
word_made (Err rule) = Err rule

unfoldable pub word_of : List (List ℕ) → Result Statement ℕ
word_of (x ∷ y ∷ number ∷ []) = word_made (both (variable_of x) (both (variable_of y) (operand_number 1 100 number)))
word_of _ = Err 2

abbrev pub cut_made : Result ((ℕ × ℕ) × (ℕ × ℕ)) ℕ → Result Statement ℕ
cut_made (Ok ((x, y), (start, count))) = Ok (line.Cut x y start count)
cut_made (Err rule) = Err rule

unfoldable pub read_cut : List (List ℕ) → Result Statement ℕ
read_cut (x ∷ y ∷ start ∷ count ∷ []) = cut_made (both (both (variable_of x) (variable_of y)) (both (operand_number 1 1996 start) (operand_number 1 1996 count)))
read_cut _ = Err 2

abbrev pub pad_made : Result (ℕ × ℕ) ℕ → Result Statement ℕ
pad_made (Ok (x, width)) = Ok (line.Pad x width)
pad_made (Err rule) = Err rule

unfoldable pub read_pad : List (List ℕ) → Result Statement ℕ
read_pad (x ∷ width ∷ []) = pad_made (both (variable_of x) (operand_number 1 18 width))
read_pad _ = Err 2

-- the two variables of ADD and LESS
unfoldable pub pair_of : List (List ℕ) → Result (ℕ × ℕ) ℕ
pair_of (x ∷ y ∷ []) = both (variable_of x) (variable_of y)
pair_of _ = Err 2

abbrev pub add_made : Result (ℕ × ℕ) ℕ → Result Statement ℕ
add_made (Ok (x, y)) = Ok (line.Add x y)
add_made (Err rule) = Err rule

abbrev pub less_made : Result (ℕ × ℕ) ℕ → Result Statement ℕ
less_made (Ok (x, y)) = Ok (line.Less x y)
less_made (Err rule) = Err rule

abbrev pub if_made : Result ((Text × Comparison) × (Text × Target)) ℕ → Result Statement ℕ
if_made (Ok ((left, comparison), (right, target))) = Ok (line.If left comparison right target)
if_made (Err rule) = Err rule

-- an IF with another count than five operands
abbrev pub if_miscounted : List (List ℕ) → Result Statement ℕ
if_miscounted (left ∷ comparison ∷ right ∷ goto ∷ words) = also (also (Err 2) (comparison_of comparison)) (goto_word goto)
if_miscounted (left ∷ comparison ∷ words) = also (Err 2) (comparison_of comparison)
if_miscounted _ = Err 2

unfoldable pub if_of : (List ℕ → Option ℕ) → List (List ℕ) → Result Statement ℕ
if_of places (left ∷ comparison ∷ right ∷ goto ∷ label ∷ []) =
    also (if_made (both (both (read_text_of left) (comparison_of comparison)) (both (read_text_of right) (read_target places label)))) (goto_word goto)
if_of places words = if_miscounted words

abbrev pub goto_made : Result Target ℕ → Result Statement ℕ
goto_made (Ok target) = Ok (line.Goto target)
goto_made (Err rule) = Err rule

unfoldable pub goto_of : (List ℕ → Option ℕ) → List (List ℕ) → Result Statement ℕ
goto_of places (label ∷ []) = goto_made (read_target places label)
goto_of places _ = Err 2

-- Rule 10: PCB 0 has other functions than the others.
abbrev pub on_pcb : Function → Result ℕ ℕ → Result ℕ ℕ
on_pcb function (Ok pcb) = if is_function_of pcb function then Ok pcb else Err 10
on_pcb function (Err rule) = Err rule

-- The number of a PCB is above 0, be it one that there can't be, as 9.
unfoldable pub is_above_0 : List ℕ → Bool
is_above_0 text = is_number text && nat_le 1 (rows.number_of text)

abbrev pub with_area : Result (ℕ × List ScriptSsa) ℕ → Result (Option ℕ × List ScriptSsa) ℕ
with_area (Ok (x, ssas)) = Ok (Some x, ssas)
with_area (Err rule) = Err rule

abbrev pub is_empty : List (List ℕ) → Bool
is_empty [] = true
is_empty (word ∷ words) = false

-- Rule 2: the area is missing for the functions that take none, and only a get or ISRT on a PCB
-- above 0 has segment search arguments.
abbrev pub area_taken : Bool → List (List ℕ) → Result (Option ℕ × List ScriptSsa) ℕ
area_taken ssas [] = Err 2
area_taken ssas (x ∷ words) = if is_empty words || ssas then with_area (both (variable_of x) (ssas_of words)) else Err 2

abbrev pub no_area : List (List ℕ) → Result (Option ℕ × List ScriptSsa) ℕ
no_area [] = Ok (None, [])
no_area (word ∷ words) = Err 2

abbrev pub area_of : Function → Bool → List (List ℕ) → Result (Option ℕ × List ScriptSsa) ℕ
area_of function above words = if takes_area function then area_taken (takes_ssas function && above) words else no_area words

abbrev pub call_made : Function → Result (ℕ × (Option ℕ × List ScriptSsa)) ℕ → Result Statement ℕ
call_made function (Ok (pcb, (area, ssas))) = Ok (line.Call function pcb area ssas)
call_made function (Err rule) = Err rule

-- Of a call of an unknown function only the number is judged besides.
abbrev pub call_with : Result Function ℕ → Result ℕ ℕ → Bool → List (List ℕ) → Result Statement ℕ
call_with (Ok function) pcb above words = call_made function (both (on_pcb function pcb) (area_of function above words))
call_with (Err rule) pcb above words = also (Err rule) pcb

unfoldable pub read_call : List (List ℕ) → Result Statement ℕ
read_call (word ∷ number ∷ words) = call_with (function_of word) (operand_number 0 8 number) (is_above_0 number) words
read_call _ = Err 2

abbrev pub abend_made : Result ℕ ℕ → Result Statement ℕ
abend_made (Ok number) = Ok (line.Abend (record { number = number }))
abend_made (Err rule) = Err rule

unfoldable pub read_abend : List (List ℕ) → Result Statement ℕ
read_abend (number ∷ []) = abend_made (operand_number 1 4095 number)
read_abend _ = Err 2

-- nothing stands behind END and ENDPROG
unfoldable pub nothing_behind : List (List ℕ) → Result (Unit {0}) ℕ
nothing_behind [] = Ok tt
nothing_behind (word ∷ words) = Err 2

abbrev pub line_ended : Result (Unit {0}) ℕ → Result Statement ℕ
line_ended (Ok _) = Ok line.End
line_ended (Err rule) = Err rule

-- a line by its word; labels stand at these places, and this is the line's own
abbrev pub by_word : LineWord → (List ℕ → Option ℕ) → ℕ → List (List ℕ) → Result Statement ℕ
by_word Label places here words = label_of places here words
by_word Set places here words = set_of words
by_word Word places here words = word_of words
by_word Cut places here words = read_cut words
by_word Pad places here words = read_pad words
by_word Add places here words = add_made (pair_of words)
by_word Less places here words = less_made (pair_of words)
by_word If places here words = if_of places words
by_word Goto places here words = goto_of places words
by_word Call places here words = read_call words
by_word Abend places here words = read_abend words
by_word End places here words = line_ended (nothing_behind words)

abbrev pub known_word : Option LineWord → (List ℕ → Option ℕ) → ℕ → List (List ℕ) → Result Statement ℕ
known_word (Some word) places here words = by_word word places here words
known_word None places here words = Err 1

unfoldable pub statement_of : (List ℕ → Option ℕ) → ℕ → List (List ℕ) → Result Statement ℕ
statement_of places here [] = Err 1
statement_of places here (word ∷ words) = known_word (line_word word) places here words
