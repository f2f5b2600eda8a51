-- Lines that were read are a program.
use Rattle.std.proofs.Common.{◌≡◌, ℕ, suc, ◌+◌, Bool, true, false, cond, List, [], ◌∷◌, ◌++◌, length, refl, ap, sym, ◌∙◌, subst, arith, ⊎_elim}
use Rattle.std.specs.Prelude.{Option, Some, None, slice_get, not, sum_by}
use Rattle.std.specs.List.{list_all}
use Rattle.std.proofs.lemmas.List.Sums.{sum_by-append}
use Rattle.std.proofs.lemmas.Option.{same_Some}
use Rattle.text_rows.specs.Lines.{is_passed_over}
use Rattle.model_system.specs.Programs.{IsProgram, is_statement, is_label, statement_count, label_place, statement_target}
use Rattle.model_system.specs.declared.program.ScriptLine.{ScriptLine}
use Rattle.model_system.specs.declared.statement.Statement.{Statement}
use Rattle.model_system.specs.declared.statement.Statement.TheVariants.{Label, Set, Word, Cut, Pad, Add, Less, If, Goto, Call, Abend, End}
use Rattle.model_system.specs.declared.statement.Target.{Target}
use Rattle.tm_types.proofs.Hierarchy.{slice_get_push}
use Rattle.script_text.specs.GoodStatement.{IsPlaced, IsStatementKept}
use Rattle.script_text.specs.KeptLines.{AreLinesKept}
use Rattle.script_text.specs.Scripts.{script_words, is_script_last, statements_before, first_or, label_in_lines}
use Rattle.script_text.specs.Statements.{has_label_word}
use Rattle.script_text.proofs.LabelSteps.{from_passed, from_last, one_line, place_push}
use Rattle.tm_types.proofs.Truths.{both_true}

-- nothing was read
pub nothing_kept : (places : List ℕ → Option ℕ) (lines : List (List ℕ)) → AreLinesKept places [] 0 lines lines
nothing_kept places lines = record {
  lines = λ place line e. cc;
  count = refl;
  few = omega arith;
  labels = λ name. refl;
}

-- a line that is passed over
pub passed_kept : (places : List ℕ → Option ℕ) (items : List ScriptLine) (statements : ℕ) (line : List ℕ) (left all : List (List ℕ)) → is_passed_over line ≡ true
    → AreLinesKept places items statements (line ∷ left) all → AreLinesKept places items statements left all
passed_kept places items statements line left all e kept = record {
  lines = kept.lines;
  count = kept.count;
  few = kept.few;
  labels = λ name. ap (first_or (label_place name items)) (sym (from_passed (length items) line left name e)) ∙ kept.labels name;
}

one_label : (item : ScriptLine) (b : Bool) → is_label item.statement ≡ b → sum_by (λ line. cond (not (is_label line.statement)) 1 0) (item ∷ []) ≡ cond b 0 1
one_label item true e = ap (λ c. 0 + cond (not c) 1 0) e
one_label item false e = ap (λ c. 0 + cond (not c) 1 0) e

counted_next : (b : Bool) (n m : ℕ) → m ≡ n + cond b 0 1 → m ≡ cond b n (suc n)
counted_next true n m e = omega (arith, e)
counted_next false n m e = omega (arith, e)

count_push : (items : List ScriptLine) (item : ScriptLine) (n : ℕ) (b : Bool) → is_label item.statement ≡ b → statement_count items ≡ n → statement_count (items ++ item ∷ []) ≡ cond b n (suc n)
count_push items item n b e c =
    counted_next b n (statement_count (items ++ item ∷ []))
    (sum_by-append (λ line. cond (not (is_label line.statement)) 1 0) items (item ∷ []) ∙ ap (λ k. k + sum_by (λ line. cond (not (is_label line.statement)) 1 0) (item ∷ [])) c ∙ ap (λ k. n + k) (one_label item b e))

-- a line more
pub line_kept : (places : List ℕ → Option ℕ) (items : List ScriptLine) (statements : ℕ) (number : ℕ) (statement : Statement) (line : List ℕ) (left all : List (List ℕ)) → is_passed_over line ≡ false → is_script_last line ≡ false
    → IsStatementKept places (length items) statements line statement → AreLinesKept places items statements (line ∷ left) all
    → AreLinesKept places (items ++ record { number = number; statement = statement } ∷ []) (statements_before statements line) left all
line_kept places items statements number statement line left all e f good kept =
    let item : ScriptLine = record { number = number; statement = statement } in record {
      lines = λ place other at. ⊎_elim (kept.lines place other)
          (λ h. subst (λ o. (is_statement o.statement ≡ true) × IsPlaced places place o.statement) h.1 (subst (λ p. (is_statement statement ≡ true) × IsPlaced places p statement) (sym h.0) (good.allowed, good.placed)))
          (slice_get_push items item place other at);
      count = count_push items item statements (has_label_word (script_words line)) good.kind kept.count;
      few = good.room;
      labels = λ name.
          ap (λ n. first_or (label_place name (items ++ item ∷ [])) (label_in_lines n left name)) (length_push items item)
          ∙ one_line (label_place name items) (label_place name (items ++ item ∷ [])) (length items) line left name e f (place_push name items item line good.label_is) ∙ kept.labels name;
    }
  where
    length_push : (xs : List ScriptLine) (x : ScriptLine) → length (xs ++ x ∷ []) ≡ suc (length xs)
    length_push [] x = refl
    length_push (y ∷ ys) x = ap suc (length_push ys x)

all_allowed : (items : List ScriptLine) → ((place : ℕ) (line : ScriptLine) → slice_get items place ≡ Some line → is_statement line.statement ≡ true) → list_all (λ line. is_statement line.statement) items ≡ true
all_allowed [] each = refl
all_allowed (item ∷ items) each = both_true (is_statement item.statement) (list_all (λ line. is_statement line.statement) items) (each 0 item refl) (all_allowed items (λ place line at. each (suc place) line at))

target_placed : (places : List ℕ → Option ℕ) (place : ℕ) (statement : Statement) (target : Target) → IsPlaced places place statement → statement_target statement ≡ Some target → places target.label ≡ Some target.place
target_placed places place (If left comparison right goal) target placed e = let same : goal ≡ target = same_Some goal target e in subst (λ t. places t.label ≡ Some t.place) same placed
target_placed places place (Goto goal) target placed e = let same : goal ≡ target = same_Some goal target e in subst (λ t. places t.label ≡ Some t.place) same placed
target_placed places place (Label name) target placed e = cc
target_placed places place (Set x texts) target placed e = cc
target_placed places place (Word x y number) target placed e = cc
target_placed places place (Cut x y start count) target placed e = cc
target_placed places place (Pad x width) target placed e = cc
target_placed places place (Add x y) target placed e = cc
target_placed places place (Less x y) target placed e = cc
target_placed places place (Call function pcb area ssas) target placed e = cc
target_placed places place (Abend code) target placed e = cc
target_placed places place End target placed e = cc

only_found : (found : Option ℕ) → first_or found None ≡ found
only_found (Some place) = refl
only_found None = refl

-- at the last line all is read
pub program_kept : (places : List ℕ → Option ℕ) (items : List ScriptLine) (statements : ℕ) (line : List ℕ) (left all : List (List ℕ)) → is_passed_over line ≡ false → is_script_last line ≡ true
    → ((name : List ℕ) → places name ≡ label_in_lines 0 all name) → AreLinesKept places items statements (line ∷ left) all → IsProgram items
program_kept places items statements line left all e f found kept =
    let here : (name : List ℕ) → label_place name items ≡ places name = λ name.
    sym (only_found (label_place name items)) ∙ sym (ap (first_or (label_place name items)) (from_last (length items) line left name e f)) ∙ kept.labels name ∙ sym (found name) in record {
      few = omega (arith, kept.count, kept.few);
      allowed = all_allowed items (λ place item at. (kept.lines place item at).0);
      labels = λ place number name at. here name ∙ (kept.lines place (record { number = number; statement = Label name }) at).1;
      targets = λ place item target at to. here target.label ∙ target_placed places place item.statement target (kept.lines place item at).1 to;
    }
