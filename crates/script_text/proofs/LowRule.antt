-- Each rule of a script is at most 11.
use Rattle.std.proofs.Common.{ℕ, suc, ◌≤◌, ◌-◌, Bool, true, false, ◌&&◌, ◌||◌, List, [], ◌∷◌, cond, Result, Ok, Err, arith, lit≤, subst, codes, nat_lt, nat_le}
use Rattle.std.specs.Prelude.{Option, Some, None}
use Rattle.std.specs.List.{list_all}
use Rattle.std.specs.Str.{bytes_eq}
use Rattle.tm_types.specs.declared.function.Function.{Function}
use Rattle.tm_types.specs.declared.function.Function.TheVariants.{GU, GN, GNP, GHU, GHN, GHNP, ISRT, REPL, DLET, PURG, CHNG, ROLB, ROLL}
use Rattle.tm_types.specs.Segment.{is_printable}
use Rattle.text_rows.specs.Lines.{is_passed_over, printable_line, split_at}
use Rattle.text_rows.specs.LowestRule.{both, also}
use Rattle.text_rows.specs.Names.{name_of}
use Rattle.text_rows.specs.Numbers.{number_between}
use Rattle.text_rows.specs.Refusals.{AnswersLines, at_line, then_lines}
use Rattle.text_rows.specs.declared.refused.LineRefused.{LineRefused}
use Rattle.text_rows.specs.declared.refused.LineRefused.TheVariants.{BadLine, Memory}
use Rattle.model_system.specs.Programs.{is_function_of, takes_area, takes_ssas}
use Rattle.model_system.specs.declared.program.ScriptLine.{ScriptLine}
use Rattle.model_system.specs.declared.script_ssa.ScriptSsa.{ScriptSsa}
use Rattle.model_system.specs.declared.statement.Comparison.{Comparison}
use Rattle.model_system.specs.declared.statement.Comparison.TheVariants.{Equal, NotEqual, LessThan}
use Rattle.model_system.specs.declared.statement.Statement.{Statement}
use Rattle.model_system.specs.declared.statement.Statement.TheVariants as line
use Rattle.model_system.specs.declared.statement.Target.{Target}
use Rattle.model_system.specs.declared.text.Text.{Text}
use Rattle.model_system.specs.declared.text.Text.TheVariants.{Status}
use Rattle.script_text.specs.declared.line_word.LineWord.{LineWord}
use Rattle.script_text.specs.declared.line_word.LineWord.TheVariants.{Label, Set, Word, Cut, Pad, Add, Less, If, Goto, Call, Abend, End}
use Rattle.script_text.specs.LowRules.{HasScriptRule}
use Rattle.script_text.specs.Values.{variable_of, quote_closed, as_text, named_text, read_text_of, with_read_text, read_texts, or_wrong_number, operand_number, comparison_of, goto_word, found_at, target_for, read_target, any_key, equal_key, at_least, with_equal, behind_greater, with_greater, ssa_of, with_ssa, ssas_of, function_of}
use Rattle.script_text.specs.Statements.{line_word, stands_at, label_at, label_of, set_made, set_of, word_made, word_of, cut_made, read_cut, pad_made, read_pad, pair_of, add_made, less_made, if_made, if_of, goto_made, goto_of, on_pcb, is_above_0, with_area, is_empty, area_taken, no_area, area_of, call_made, call_with, read_call, abend_made, read_abend, nothing_behind, line_ended, by_word, known_word, statement_of}
use Rattle.script_text.specs.Scripts.{script, is_script_last, script_words, behind_first, statement_line, program_end_line, room_for, room_before, numbered_statement, nothing_more, statements_before}

abbrev IsLow : {A : Type 0} → Result A ℕ → Type 0
IsLow (Ok value) = Unit {0}
IsLow (Err rule) = rule ≤ 11

abbrev IsLowAt : {A : Type 0} → Result A (ℕ × ℕ) → Type 0
IsLowAt (Ok value) = Unit {0}
IsLowAt (Err fault) = fault.1 ≤ 11

if_low : {A : Type 0} → (b : Bool) (x y : Result A ℕ) → IsLow x → IsLow y → IsLow (cond b x y)
if_low true x y h k = h
if_low false x y h k = k

also_low : {A B : Type 0} → (value : Result A ℕ) (besides : Result B ℕ) → IsLow value → IsLow besides → IsLow (also value besides)
unfolding also
also_low (Ok a) (Ok b) h k = tt
also_low (Ok a) (Err rule) h k = k
also_low (Err rule) (Ok b) h k = h
also_low (Err rule) (Err other) h k = omega (arith, h, k)

both_low : {A B : Type 0} → (first : Result A ℕ) (second : Result B ℕ) → IsLow first → IsLow second → IsLow (both first second)
unfolding both
both_low (Ok a) (Ok b) h k = tt
both_low (Ok a) (Err rule) h k = k
both_low (Err rule) (Ok b) h k = h
both_low (Err rule) (Err other) h k = omega (arith, h, k)

variable_low : (text : List ℕ) → IsLow (variable_of text)
unfolding variable_of
variable_low [] = lit≤ tt
variable_low (letter ∷ []) = if_low (nat_le 65 letter && nat_le letter 90) (Ok (letter - 65)) (Err 3) tt (lit≤ tt)
variable_low (letter ∷ other ∷ letters) = lit≤ tt

closed_low : (found : Option (List ℕ × List ℕ)) → IsLow (quote_closed found)
closed_low (Some (inside, [])) = tt
closed_low (Some (inside, byte ∷ bytes)) = lit≤ tt
closed_low None = lit≤ tt

as_text_low : (x : Result ℕ ℕ) → IsLow x → IsLow (as_text x)
as_text_low (Ok x) h = tt
as_text_low (Err rule) h = h

text_low : (word : List ℕ) → IsLow (read_text_of word)
unfolding read_text_of
text_low [] = lit≤ tt
text_low (byte ∷ bytes) =
    if_low _ (quote_closed (split_at 34 bytes)) (named_text (byte ∷ bytes)) (closed_low (split_at 34 bytes))
    (if_low (bytes_eq (byte ∷ bytes) (codes "STATUS")) (Ok Status) (as_text (variable_of (byte ∷ bytes))) tt (as_text_low (variable_of (byte ∷ bytes)) (variable_low (byte ∷ bytes))))

with_text_low : (read : Result (Text × List Text) ℕ) → IsLow read → IsLow (with_read_text read)
with_text_low (Ok texts) h = tt
with_text_low (Err rule) h = h

texts_low : (words : List (List ℕ)) → IsLow (read_texts words)
texts_low [] = tt
texts_low (word ∷ words) = with_text_low (both (read_text_of word) (read_texts words)) (both_low (read_text_of word) (read_texts words) (text_low word) (texts_low words))

or_number_low : (read : Result ℕ ℕ) → IsLow (or_wrong_number read)
or_number_low (Ok number) = tt
or_number_low (Err rule) = lit≤ tt

number_low : (low high : ℕ) (text : List ℕ) → IsLow (operand_number low high text)
unfolding operand_number
number_low low high text = or_number_low (number_between low high text)

comparison_low : (word : List ℕ) → IsLow (comparison_of word)
unfolding comparison_of
comparison_low word = if_low (bytes_eq word (codes "=")) (Ok Equal) _ tt (if_low (bytes_eq word (codes "<>")) (Ok NotEqual) _ tt (if_low (bytes_eq word (codes "<")) (Ok LessThan) (Err 1) tt (lit≤ tt)))

goto_word_low : (word : List ℕ) → IsLow (goto_word word)
unfolding goto_word
goto_word_low word = if_low (bytes_eq word (codes "GOTO")) (Ok tt) (Err 1) tt (lit≤ tt)

found_low : (name : List ℕ) (found : Option ℕ) → IsLow (found_at name found)
found_low name (Some place) = tt
found_low name None = lit≤ tt

target_for_low : (places : List ℕ → Option ℕ) (name : Result (List ℕ) ℕ) → IsLow (target_for places name)
target_for_low places (Ok name) = found_low name (places name)
target_for_low places (Err rule) = lit≤ tt

target_low : (places : List ℕ → Option ℕ) (word : List ℕ) → IsLow (read_target places word)
unfolding read_target
target_low places word = target_for_low places (name_of word)

any_low : (name : Result (List ℕ) ℕ) → IsLow (any_key name)
any_low (Ok name) = tt
any_low (Err rule) = lit≤ tt

equal_low : (name : Result (List ℕ) ℕ) (x : Result ℕ ℕ) → IsLow (equal_key name x)
equal_low (Ok name) (Ok x) = tt
equal_low (Ok name) (Err rule) = lit≤ tt
equal_low (Err rule) x = lit≤ tt

least_low : (name : Result (List ℕ) ℕ) (x : Result ℕ ℕ) → IsLow (at_least name x)
least_low (Ok name) (Ok x) = tt
least_low (Ok name) (Err rule) = lit≤ tt
least_low (Err rule) x = lit≤ tt

with_equal_low : (word : List ℕ) (found : Option (List ℕ × List ℕ)) → IsLow (with_equal word found)
with_equal_low word (Some (name, x)) = equal_low (name_of name) (variable_of x)
with_equal_low word None = any_low (name_of word)

behind_low : (name rest : List ℕ) → IsLow (behind_greater name rest)
behind_low name [] = lit≤ tt
behind_low name (byte ∷ x) = if_low _ (at_least (name_of name) (variable_of x)) (Err 3) (least_low (name_of name) (variable_of x)) (lit≤ tt)

with_greater_low : (word : List ℕ) (found : Option (List ℕ × List ℕ)) → IsLow (with_greater word found)
with_greater_low word (Some (name, rest)) = behind_low name rest
with_greater_low word None = with_equal_low word (split_at 61 word)

ssa_low : (word : List ℕ) → IsLow (ssa_of word)
unfolding ssa_of
ssa_low word = with_greater_low word (split_at 62 word)

with_ssa_low : (read : Result (ScriptSsa × List ScriptSsa) ℕ) → IsLow read → IsLow (with_ssa read)
with_ssa_low (Ok ssas) h = tt
with_ssa_low (Err rule) h = h

ssas_low : (words : List (List ℕ)) → IsLow (ssas_of words)
ssas_low [] = tt
ssas_low (word ∷ words) = with_ssa_low (both (ssa_of word) (ssas_of words)) (both_low (ssa_of word) (ssas_of words) (ssa_low word) (ssas_low words))

function_low : (word : List ℕ) → IsLow (function_of word)
unfolding function_of
function_low word =
    if_low (bytes_eq word (codes "GU")) (Ok GU) _ tt (if_low (bytes_eq word (codes "GN")) (Ok GN) _ tt (if_low (bytes_eq word (codes "GNP")) (Ok GNP) _ tt
    (if_low (bytes_eq word (codes "GHU")) (Ok GHU) _ tt (if_low (bytes_eq word (codes "GHN")) (Ok GHN) _ tt (if_low (bytes_eq word (codes "GHNP")) (Ok GHNP) _ tt
    (if_low (bytes_eq word (codes "ISRT")) (Ok ISRT) _ tt (if_low (bytes_eq word (codes "REPL")) (Ok REPL) _ tt (if_low (bytes_eq word (codes "DLET")) (Ok DLET) _ tt
    (if_low (bytes_eq word (codes "PURG")) (Ok PURG) _ tt (if_low (bytes_eq word (codes "CHNG")) (Ok CHNG) _ tt (if_low (bytes_eq word (codes "ROLB")) (Ok ROLB) _ tt
    (if_low (bytes_eq word (codes "ROLL")) (Ok ROLL) (Err 10) tt (lit≤ tt)))))))))))))

label_at_low : (places : List ℕ → Option ℕ) (here : ℕ) (name : Result (List ℕ) ℕ) → IsLow (label_at places here name)
label_at_low places here (Ok name) = if_low (stands_at (places name) here) (Ok (line.Label name)) (Err 6) tt (lit≤ tt)
label_at_low places here (Err rule) = lit≤ tt

label_low : (places : List ℕ → Option ℕ) (here : ℕ) (words : List (List ℕ)) → IsLow (label_of places here words)
unfolding label_of
label_low places here [] = lit≤ tt
label_low places here (name ∷ []) = label_at_low places here (name_of name)
label_low places here (name ∷ other ∷ words) = lit≤ tt

set_made_low : (read : Result (ℕ × List Text) ℕ) → IsLow read → IsLow (set_made read)
set_made_low (Ok read) h = tt
set_made_low (Err rule) h = h

set_low : (words : List (List ℕ)) → IsLow (set_of words)
unfolding set_of
set_low [] = lit≤ tt
set_low (x ∷ []) = lit≤ tt
set_low (x ∷ word ∷ words) = set_made_low (both (variable_of x) (read_texts (word ∷ words))) (both_low (variable_of x) (read_texts (word ∷ words)) (variable_low x) (texts_low (word ∷ words)))

word_made_low : (read : Result (ℕ × (ℕ × ℕ)) ℕ) → IsLow read → IsLow (word_made read)
word_made_low (Ok read) h = tt
word_made_low (Err rule) h = h

word_low : (words : List (List ℕ)) → IsLow (word_of words)
unfolding word_of
word_low [] = lit≤ tt
word_low (x ∷ []) = lit≤ tt
word_low (x ∷ y ∷ []) = lit≤ tt
word_low (x ∷ y ∷ number ∷ []) =
    word_made_low (both (variable_of x) (both (variable_of y) (operand_number 1 100 number)))
    (both_low (variable_of x) (both (variable_of y) (operand_number 1 100 number)) (variable_low x) (both_low (variable_of y) (operand_number 1 100 number) (variable_low y) (number_low 1 100 number)))
word_low (x ∷ y ∷ number ∷ other ∷ words) = lit≤ tt

cut_made_low : (read : Result ((ℕ × ℕ) × (ℕ × ℕ)) ℕ) → IsLow read → IsLow (cut_made read)
cut_made_low (Ok read) h = tt
cut_made_low (Err rule) h = h

cut_low : (words : List (List ℕ)) → IsLow (read_cut words)
unfolding read_cut
cut_low [] = lit≤ tt
cut_low (x ∷ []) = lit≤ tt
cut_low (x ∷ y ∷ []) = lit≤ tt
cut_low (x ∷ y ∷ start ∷ []) = lit≤ tt
cut_low (x ∷ y ∷ start ∷ count ∷ []) =
    cut_made_low (both (both (variable_of x) (variable_of y)) (both (operand_number 1 1996 start) (operand_number 1 1996 count)))
    (both_low (both (variable_of x) (variable_of y)) (both (operand_number 1 1996 start) (operand_number 1 1996 count)) (both_low (variable_of x) (variable_of y) (variable_low x) (variable_low y))
    (both_low (operand_number 1 1996 start) (operand_number 1 1996 count) (number_low 1 1996 start) (number_low 1 1996 count)))
cut_low (x ∷ y ∷ start ∷ count ∷ other ∷ words) = lit≤ tt

pad_made_low : (read : Result (ℕ × ℕ) ℕ) → IsLow read → IsLow (pad_made read)
pad_made_low (Ok read) h = tt
pad_made_low (Err rule) h = h

pad_low : (words : List (List ℕ)) → IsLow (read_pad words)
unfolding read_pad
pad_low [] = lit≤ tt
pad_low (x ∷ []) = lit≤ tt
pad_low (x ∷ width ∷ []) = pad_made_low (both (variable_of x) (operand_number 1 18 width)) (both_low (variable_of x) (operand_number 1 18 width) (variable_low x) (number_low 1 18 width))
pad_low (x ∷ width ∷ other ∷ words) = lit≤ tt

pair_low : (words : List (List ℕ)) → IsLow (pair_of words)
unfolding pair_of
pair_low [] = lit≤ tt
pair_low (x ∷ []) = lit≤ tt
pair_low (x ∷ y ∷ []) = both_low (variable_of x) (variable_of y) (variable_low x) (variable_low y)
pair_low (x ∷ y ∷ other ∷ words) = lit≤ tt

add_low : (read : Result (ℕ × ℕ) ℕ) → IsLow read → IsLow (add_made read)
add_low (Ok read) h = tt
add_low (Err rule) h = h

less_low : (read : Result (ℕ × ℕ) ℕ) → IsLow read → IsLow (less_made read)
less_low (Ok read) h = tt
less_low (Err rule) h = h

if_made_low : (read : Result ((Text × Comparison) × (Text × Target)) ℕ) → IsLow read → IsLow (if_made read)
if_made_low (Ok read) h = tt
if_made_low (Err rule) h = h

two_low : (comparison : List ℕ) → IsLow (also {A = Statement} (Err 2) (comparison_of comparison))
two_low comparison = also_low {A = Statement} (Err 2) (comparison_of comparison) (lit≤ tt) (comparison_low comparison)

if_statement_low : (places : List ℕ → Option ℕ) (words : List (List ℕ)) → IsLow (if_of places words)
unfolding if_of
if_statement_low places [] = lit≤ tt
if_statement_low places (left ∷ []) = lit≤ tt
if_statement_low places (left ∷ comparison ∷ []) = two_low comparison
if_statement_low places (left ∷ comparison ∷ right ∷ []) = two_low comparison
if_statement_low places (left ∷ comparison ∷ right ∷ goto ∷ []) = also_low (also {A = Statement} (Err 2) (comparison_of comparison)) (goto_word goto) (two_low comparison) (goto_word_low goto)
if_statement_low places (left ∷ comparison ∷ right ∷ goto ∷ label ∷ []) =
    also_low (if_made (both (both (read_text_of left) (comparison_of comparison)) (both (read_text_of right) (read_target places label)))) (goto_word goto)
    (if_made_low (both (both (read_text_of left) (comparison_of comparison)) (both (read_text_of right) (read_target places label)))
    (both_low (both (read_text_of left) (comparison_of comparison)) (both (read_text_of right) (read_target places label))
    (both_low (read_text_of left) (comparison_of comparison) (text_low left) (comparison_low comparison)) (both_low (read_text_of right) (read_target places label) (text_low right) (target_low places label))))
    (goto_word_low goto)
if_statement_low places (left ∷ comparison ∷ right ∷ goto ∷ label ∷ other ∷ words) = also_low (also {A = Statement} (Err 2) (comparison_of comparison)) (goto_word goto) (two_low comparison) (goto_word_low goto)

goto_made_low : (read : Result Target ℕ) → IsLow read → IsLow (goto_made read)
goto_made_low (Ok read) h = tt
goto_made_low (Err rule) h = h

goto_low : (places : List ℕ → Option ℕ) (words : List (List ℕ)) → IsLow (goto_of places words)
unfolding goto_of
goto_low places [] = lit≤ tt
goto_low places (label ∷ []) = goto_made_low (read_target places label) (target_low places label)
goto_low places (label ∷ other ∷ words) = lit≤ tt

on_pcb_low : (function : Function) (pcb : Result ℕ ℕ) → IsLow pcb → IsLow (on_pcb function pcb)
on_pcb_low function (Ok pcb) h = if_low (is_function_of pcb function) (Ok pcb) (Err 10) tt (lit≤ tt)
on_pcb_low function (Err rule) h = h

with_area_low : (read : Result (ℕ × List ScriptSsa) ℕ) → IsLow read → IsLow (with_area read)
with_area_low (Ok read) h = tt
with_area_low (Err rule) h = h

area_taken_low : (ssas : Bool) (words : List (List ℕ)) → IsLow (area_taken ssas words)
area_taken_low ssas [] = lit≤ tt
area_taken_low ssas (x ∷ words) =
    if_low (is_empty words || ssas) (with_area (both (variable_of x) (ssas_of words))) (Err 2)
    (with_area_low (both (variable_of x) (ssas_of words)) (both_low (variable_of x) (ssas_of words) (variable_low x) (ssas_low words))) (lit≤ tt)

no_area_low : (words : List (List ℕ)) → IsLow (no_area words)
no_area_low [] = tt
no_area_low (word ∷ words) = lit≤ tt

area_low : (function : Function) (above : Bool) (words : List (List ℕ)) → IsLow (area_of function above words)
area_low function above words = if_low (takes_area function) (area_taken (takes_ssas function && above) words) (no_area words) (area_taken_low (takes_ssas function && above) words) (no_area_low words)

call_made_low : (function : Function) (read : Result (ℕ × (Option ℕ × List ScriptSsa)) ℕ) → IsLow read → IsLow (call_made function read)
call_made_low function (Ok read) h = tt
call_made_low function (Err rule) h = h

call_with_low : (function : Result Function ℕ) (pcb : Result ℕ ℕ) (above : Bool) (words : List (List ℕ)) → IsLow function → IsLow pcb → IsLow (call_with function pcb above words)
call_with_low (Ok function) pcb above words h k =
    call_made_low function (both (on_pcb function pcb) (area_of function above words)) (both_low (on_pcb function pcb) (area_of function above words) (on_pcb_low function pcb k) (area_low function above words))
call_with_low (Err rule) pcb above words h k = also_low {A = Statement} (Err rule) pcb h k

call_low : (words : List (List ℕ)) → IsLow (read_call words)
unfolding read_call
call_low [] = lit≤ tt
call_low (word ∷ []) = lit≤ tt
call_low (word ∷ number ∷ words) = call_with_low (function_of word) (operand_number 0 8 number) (is_above_0 number) words (function_low word) (number_low 0 8 number)

abend_made_low : (read : Result ℕ ℕ) → IsLow read → IsLow (abend_made read)
abend_made_low (Ok read) h = tt
abend_made_low (Err rule) h = h

abend_low : (words : List (List ℕ)) → IsLow (read_abend words)
unfolding read_abend
abend_low [] = lit≤ tt
abend_low (number ∷ []) = abend_made_low (operand_number 1 4095 number) (number_low 1 4095 number)
abend_low (number ∷ other ∷ words) = lit≤ tt

nothing_low : (words : List (List ℕ)) → IsLow (nothing_behind words)
unfolding nothing_behind
nothing_low [] = tt
nothing_low (word ∷ words) = lit≤ tt

ended_low : (nothing : Result (Unit {0}) ℕ) → IsLow nothing → IsLow (line_ended nothing)
ended_low (Ok _) h = tt
ended_low (Err rule) h = h

by_word_low : (word : LineWord) (places : List ℕ → Option ℕ) (here : ℕ) (words : List (List ℕ)) → IsLow (by_word word places here words)
by_word_low Label places here words = label_low places here words
by_word_low Set places here words = set_low words
by_word_low Word places here words = word_low words
by_word_low Cut places here words = cut_low words
by_word_low Pad places here words = pad_low words
by_word_low Add places here words = add_low (pair_of words) (pair_low words)
by_word_low Less places here words = less_low (pair_of words) (pair_low words)
by_word_low If places here words = if_statement_low places words
by_word_low Goto places here words = goto_low places words
by_word_low Call places here words = call_low words
by_word_low Abend places here words = abend_low words
by_word_low End places here words = ended_low (nothing_behind words) (nothing_low words)

known_low : (word : Option LineWord) (places : List ℕ → Option ℕ) (here : ℕ) (words : List (List ℕ)) → IsLow (known_word word places here words)
known_low (Some word) places here words = by_word_low word places here words
known_low None places here words = lit≤ tt

statement_low : (places : List ℕ → Option ℕ) (here : ℕ) (words : List (List ℕ)) → IsLow (statement_of places here words)
unfolding statement_of
statement_low places here [] = lit≤ tt
statement_low places here (word ∷ words) = known_low (line_word word) places here words

printable_low : (line : List ℕ) → IsLow (printable_line line)
unfolding printable_line
printable_low line = if_low (list_all is_printable line) (Ok tt) (Err 11) tt (lit≤ tt)

room_low : (before : ℕ) → IsLow (room_for before)
unfolding room_for
room_low before = if_low (nat_lt before 500) (Ok tt) (Err 8) tt (lit≤ tt)

room_before_low : (before : ℕ) (line : List ℕ) → IsLow (room_before before line)
room_before_low before line = if_low _ (Ok tt) (room_for before) tt (room_low before)

line_low : (places : List ℕ → Option ℕ) (here before : ℕ) (line : List ℕ) → IsLow (statement_line places here before line)
unfolding statement_line
line_low places here before line =
    also_low (also (statement_of places here (script_words line)) (printable_line line)) (room_before before line)
    (also_low (statement_of places here (script_words line)) (printable_line line) (statement_low places here (script_words line)) (printable_low line)) (room_before_low before line)

last_low : (line : List ℕ) → IsLow (program_end_line line)
unfolding program_end_line
last_low line = also_low (nothing_behind (behind_first (script_words line))) (printable_line line) (nothing_low (behind_first (script_words line))) (printable_low line)

nothing_more_low : (number : ℕ) (read : Result (Unit {0}) ℕ) → IsLow read → IsLowAt (nothing_more (at_line number read))
nothing_more_low number (Ok _) h = tt
nothing_more_low number (Err rule) h = h

then_low : (number : ℕ) (read : Result Statement ℕ) (more : Result (List ScriptLine) (ℕ × ℕ)) → IsLow read → IsLowAt more → IsLowAt (then_lines (numbered_statement number (at_line number read)) more)
then_low number (Ok statement) (Ok lines) h k = tt
then_low number (Ok statement) (Err fault) h k = k
then_low number (Err rule) more h k = h

if_low_at : {A : Type 0} → (b : Bool) (x y : Result A (ℕ × ℕ)) → IsLowAt x → IsLowAt y → IsLowAt (cond b x y)
if_low_at true x y h k = h
if_low_at false x y h k = k

script_low : (places : List ℕ → Option ℕ) (number here before : ℕ) (lines : List (List ℕ)) → IsLowAt (script places number here before lines)
script_low places number here before [] = lit≤ tt
script_low places number here before (line ∷ lines) =
    if_low_at (is_passed_over line) (script places (suc number) here before lines) _ (script_low places (suc number) here before lines)
    (if_low_at (is_script_last line) (nothing_more (at_line number (program_end_line line))) _ (nothing_more_low number (program_end_line line) (last_low line))
    (then_low number (statement_line places here before line) (script places (suc number) (suc here) (statements_before before line) lines) (line_low places here before line)
    (script_low places (suc number) (suc here) (statements_before before line) lines)))

-- what a reader answers by a script has such a rule
answer_low : {X : Type 0} → (answer : Result X LineRefused) (read : Result X (ℕ × ℕ)) → IsLowAt read → AnswersLines answer read → HasScriptRule answer
answer_low (Ok value) read h e = tt
answer_low (Err (BadLine line rule)) read h e = subst IsLowAt e h
answer_low (Err Memory) read h e = tt

pub script_rule : (answer : Result (List ScriptLine) LineRefused) (places : List ℕ → Option ℕ) (first : ℕ) (lines : List (List ℕ)) → AnswersLines answer (script places first 0 0 lines) → HasScriptRule answer
script_rule answer places first lines e = answer_low answer (script places first 0 0 lines) (script_low places first 0 0 lines) e
