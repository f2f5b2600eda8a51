-- A program, line by line.
use Rattle.std.proofs.Common.{◌≡◌, ℕ, suc, ◌+◌, true, false, cond, List, [], ◌∷◌, ◌++◌, length, Ok, Err, refl, ap, sym, ◌∙◌, arith}
use Rattle.std.specs.Prelude.{Option}
use Rattle.text_rows.specs.Lines.{is_passed_over}
use Rattle.text_rows.specs.Refusals.{at_line, then_lines, values_behind}
use Rattle.text_rows.proofs.Reading.{behind_then}
use Rattle.model_system.specs.declared.program.ScriptLine.{ScriptLine}
use Rattle.model_system.specs.declared.statement.Statement.{Statement}
use Rattle.script_text.specs.Scripts.{is_script_last, program_end_line, statement_line, numbered_statement, nothing_more, statements_before, script}

module _ (places : List ℕ → Option ℕ) (number here before : ℕ) (line : List ℕ) (lines : List (List ℕ)) where
  pub script_passed : is_passed_over line ≡ true → script places number here before (line ∷ lines) ≡ script places (suc number) here before lines
  script_passed e =
      ap (λ b. cond b (script places (suc number) here before lines)
      (cond (is_script_last line) (nothing_more (at_line number (program_end_line line))) (then_lines (numbered_statement number (at_line number (statement_line places here before line))) (script places (suc number) (suc here) (statements_before before line) lines)))) e

  pub script_line : is_passed_over line ≡ false → is_script_last line ≡ false
      → script places number here before (line ∷ lines) ≡ then_lines (numbered_statement number (at_line number (statement_line places here before line))) (script places (suc number) (suc here) (statements_before before line) lines)
  script_line e f =
      ap (λ b. cond b (script places (suc number) here before lines)
      (cond (is_script_last line) (nothing_more (at_line number (program_end_line line))) (then_lines (numbered_statement number (at_line number (statement_line places here before line))) (script places (suc number) (suc here) (statements_before before line) lines)))) e
      ∙ ap (λ b. cond b (nothing_more (at_line number (program_end_line line))) (then_lines (numbered_statement number (at_line number (statement_line places here before line))) (script places (suc number) (suc here) (statements_before before line) lines))) f

module _ (places : List ℕ → Option ℕ) (first index : ℕ) (items : List ScriptLine) (statements : ℕ) (line : List ℕ) (left all : List (List ℕ)) (passed : is_passed_over line ≡ false) (last : is_script_last line ≡ false)
    (read : values_behind items (script places (first + index) (length items) statements (line ∷ left)) ≡ script places first 0 0 all) where
  -- a line that breaks a rule
  pub refused_at : (rule : ℕ) → statement_line places (length items) statements line ≡ Err rule → script places first 0 0 all ≡ Err (first + index, rule)
  refused_at rule e =
      sym read ∙ ap (values_behind items) (script_line places (first + index) (length items) statements line left passed last
      ∙ ap (λ s. then_lines (numbered_statement (first + index) (at_line (first + index) s)) (script places (suc (first + index)) (suc (length items)) (statements_before statements line) left)) e)

  length_push : (xs : List ScriptLine) (x : ScriptLine) → length (xs ++ x ∷ []) ≡ suc (length xs)
  length_push [] x = refl
  length_push (y ∷ ys) x = ap suc (length_push ys x)

  -- a line that was read goes behind those before it
  pub next_read : (statement : Statement) → statement_line places (length items) statements line ≡ Ok statement
      → values_behind (items ++ record { number = first + index; statement = statement } ∷ [])
      (script places (first + (index + 1)) (length (items ++ record { number = first + index; statement = statement } ∷ [])) (statements_before statements line) left)
      ≡ script places first 0 0 all
  next_read statement e =
      let item : ScriptLine = record { number = first + index; statement = statement } in
      let next : first + (index + 1) ≡ suc (first + index) = omega arith in
      ap (λ n. values_behind (items ++ item ∷ []) (script places n (length (items ++ item ∷ [])) (statements_before statements line) left)) next
      ∙ ap (λ n. values_behind (items ++ item ∷ []) (script places (suc (first + index)) n (statements_before statements line) left)) (length_push items item)
      ∙ sym (behind_then items item (script places (suc (first + index)) (suc (length items)) (statements_before statements line) left))
      ∙ sym (ap (values_behind items) (script_line places (first + index) (length items) statements line left passed last
      ∙ ap (λ s. then_lines (numbered_statement (first + index) (at_line (first + index) s)) (script places (suc (first + index)) (suc (length items)) (statements_before statements line) left)) e))
      ∙ read
