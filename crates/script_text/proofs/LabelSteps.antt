-- Labels, line by line.
use Rattle.std.proofs.Common.{◌≡◌, ℕ, suc, ◌+◌, Bool, true, false, cond, List, [], ◌∷◌, ◌++◌, length, refl, ap, sym, ◌∙◌, arith}
use Rattle.std.specs.Prelude.{Option, Some, None, is_some}
use Rattle.std.specs.Str.{bytes_eq}
use Rattle.std.specs.Ordering.{nat_cmp, is_eq}
use Rattle.std.specs.Cmp.Lexicographic.{slice_cmp}
use Rattle.std.proofs.lemmas.Map.Text.{is_eq-slice_cmp}
use Rattle.std.proofs.lemmas.Slice.Eq.{bytes_eq-Decides}
use Rattle.text_rows.specs.Lines.{is_passed_over}
use Rattle.model_system.specs.Programs as program
use Rattle.model_system.specs.declared.program.ScriptLine.{ScriptLine}
use Rattle.model_system.specs.declared.statement.Statement.{Statement}
use Rattle.model_system.specs.declared.statement.Statement.TheVariants.{Label, Set, Word, Cut, Pad, Add, Less, If, Goto, Call, Abend, End}
use Rattle.script_text.specs.GoodStatement.{label_name}
use Rattle.script_text.specs.Scripts.{script_words, is_script_last, label_here, first_or, label_in_lines}
use Rattle.script_text.specs.Statements.{label_in}
use Rattle.tm_types.proofs.Truths.{none_is}

first_none : (found : Option ℕ) → found ≡ first_or found None
first_none (Some place) = refl
first_none None = refl

added_by : (f g : List ℕ → Option ℕ) (label name : List ℕ) (place : ℕ) (b : Bool) → bytes_eq label name ≡ b → f label ≡ None
    → g name ≡ cond b (Some place) (f name) → g name ≡ first_or (f name) (cond b (Some place) None)
added_by f g label name place true same none e =
    let here : label ≡ name = (bytes_eq-Decides label name).0 same in
    e ∙ sym (ap (λ found. first_or found (Some place)) (sym (ap f here) ∙ none))
added_by f g label name place false same none e = e ∙ first_none (f name)

-- a label that is added has its place, and the others keep theirs
pub added : (f g : List ℕ → Option ℕ) (label name : List ℕ) (place : ℕ) → is_some (f label) ≡ false
    → g name ≡ cond (is_eq (slice_cmp nat_cmp label name)) (Some place) (f name) → g name ≡ first_or (f name) (label_here place (Some label) name)
added f g label name place none e =
    added_by f g label name place (bytes_eq label name) refl (none_is (f label) none) (e ∙ ap (λ b. cond b (Some place) (f name)) (is_eq-slice_cmp label name))

there_by : (f : List ℕ → Option ℕ) (label name : List ℕ) (place : ℕ) (b : Bool) (found : Option ℕ) → bytes_eq label name ≡ b → f name ≡ found → is_some (f label) ≡ true → f name ≡ first_or (f name) (cond b (Some place) None)
there_by f label name place b (Some other) same e there = e ∙ ap (λ found. first_or found (cond b (Some place) None)) (sym e)
there_by f label name place true None same e there = let here : label ≡ name = (bytes_eq-Decides label name).0 same in let none : is_some (f name) ≡ true = ap (λ n. is_some (f n)) (sym here) ∙ there in let no-one : is_some {T = ℕ} None ≡ true = ap is_some (sym e) ∙ none in cc
there_by f label name place false None same e there = first_none (f name)

-- a label that is there already keeps its place
pub there : (f : List ℕ → Option ℕ) (label name : List ℕ) (place : ℕ) → is_some (f label) ≡ true → f name ≡ first_or (f name) (label_here place (Some label) name)
there f label name place e = there_by f label name place (bytes_eq label name) (f name) refl refl e

first_twice : (a b c : Option ℕ) → first_or (first_or a b) c ≡ first_or a (first_or b c)
first_twice (Some place) b c = refl
first_twice None b c = refl

-- a line that is passed over
pub from_passed : (place : ℕ) (line : List ℕ) (lines : List (List ℕ)) (name : List ℕ) → is_passed_over line ≡ true → label_in_lines place (line ∷ lines) name ≡ label_in_lines place lines name
from_passed place line lines name e = ap (λ b. cond b (label_in_lines place lines name) (cond (is_script_last line) None (first_or (label_here place (label_in (script_words line)) name) (label_in_lines (suc place) lines name)))) e

pub from_last : (place : ℕ) (line : List ℕ) (lines : List (List ℕ)) (name : List ℕ) → is_passed_over line ≡ false → is_script_last line ≡ true → label_in_lines place (line ∷ lines) name ≡ None
from_last place line lines name e f =
    ap (λ b. cond b (label_in_lines place lines name) (cond (is_script_last line) None (first_or (label_here place (label_in (script_words line)) name) (label_in_lines (suc place) lines name)))) e
    ∙ ap (λ b. cond b None (first_or (label_here place (label_in (script_words line)) name) (label_in_lines (suc place) lines name))) f

pub from_line : (place : ℕ) (line : List ℕ) (lines : List (List ℕ)) (name : List ℕ) → is_passed_over line ≡ false → is_script_last line ≡ false
    → label_in_lines place (line ∷ lines) name ≡ first_or (label_here place (label_in (script_words line)) name) (label_in_lines (suc place) lines name)
from_line place line lines name e f =
    ap (λ b. cond b (label_in_lines place lines name) (cond (is_script_last line) None (first_or (label_here place (label_in (script_words line)) name) (label_in_lines (suc place) lines name)))) e
    ∙ ap (λ b. cond b None (first_or (label_here place (label_in (script_words line)) name) (label_in_lines (suc place) lines name))) f

-- one line more: the labels so far with that of the line, and those behind it
pub one_line : (found next : Option ℕ) (place : ℕ) (line : List ℕ) (lines : List (List ℕ)) (name : List ℕ) → is_passed_over line ≡ false → is_script_last line ≡ false
    → next ≡ first_or found (label_here place (label_in (script_words line)) name) → first_or next (label_in_lines (suc place) lines name) ≡ first_or found (label_in_lines place (line ∷ lines) name)
one_line found next place line lines name e f g =
    ap (λ n. first_or n (label_in_lines (suc place) lines name)) g ∙ first_twice found (label_here place (label_in (script_words line)) name) (label_in_lines (suc place) lines name)
    ∙ ap (first_or found) (sym (from_line place line lines name e f))

-- the labels of the lines that were read
here_is : (place : ℕ) (name : List ℕ) (statement : Statement) → cond (program.sets_label name statement) (Some place) None ≡ label_here place (label_name statement) name
here_is place name (Label label) = refl
here_is place name (Set x texts) = refl
here_is place name (Word x y number) = refl
here_is place name (Cut x y start count) = refl
here_is place name (Pad x width) = refl
here_is place name (Add x y) = refl
here_is place name (Less x y) = refl
here_is place name (If left comparison right target) = refl
here_is place name (Goto target) = refl
here_is place name (Call function pcb area ssas) = refl
here_is place name (Abend code) = refl
here_is place name End = refl

more_by : (b : Bool) (place : ℕ) (here rest : Option ℕ) (others : Option ℕ) → rest ≡ first_or others here → cond b (Some place) rest ≡ first_or (cond b (Some place) others) here
more_by true place here rest others e = refl
more_by false place here rest others e = e

label_push : (place : ℕ) (name : List ℕ) (items : List ScriptLine) (item : ScriptLine) → program.label_from place name (items ++ item ∷ []) ≡ first_or (program.label_from place name items) (label_here (place + length items) (label_name item.statement) name)
label_push place name [] item = here_is place name item.statement ∙ ap (λ p. label_here p (label_name item.statement) name) (omega arith)
label_push place name (first ∷ items) item =
    let same : suc place + length items ≡ place + suc (length items) = omega arith in
    more_by (program.sets_label name first.statement) place (label_here (place + suc (length items)) (label_name item.statement) name) _ (program.label_from (suc place) name items)
    (label_push (suc place) name items item ∙ ap (λ p. first_or (program.label_from (suc place) name items) (label_here p (label_name item.statement) name)) same)

pub place_push : (name : List ℕ) (items : List ScriptLine) (item : ScriptLine) (line : List ℕ) → label_name item.statement ≡ label_in (script_words line)
    → program.label_place name (items ++ item ∷ []) ≡ first_or (program.label_place name items) (label_here (length items) (label_in (script_words line)) name)
place_push name items item line e =
    label_push 0 name items item ∙ ap (λ p. first_or (program.label_place name items) (label_here p (label_name item.statement) name)) (omega arith)
    ∙ ap (λ l. first_or (program.label_place name items) (label_here (length items) l name)) e
