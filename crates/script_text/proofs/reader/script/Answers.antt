use Rattle.std.proofs.Common.{◌≡◌, ◌+◌, ◌++◌, ◌∷◌, [], length, drop, true, false, Ok, ap, sym, ◌∙◌, subst, arith, IfOk, length-append}
use Rattle.text_rows.specs.Lines.{is_passed_over}
use Rattle.text_rows.specs.Refusals.{values_behind}
use Rattle.text_rows.proofs.Reading.{line_at}
use Rattle.model_system.specs.declared.program.ScriptLine.{ScriptLine}
use Rattle.script_text.specs.GoodStatement.{places_in, IsStatementKept}
use Rattle.script_text.specs.KeptLines.{AreLinesKept}
use Rattle.script_text.specs.Scripts.{is_script_last, statement_line, statements_before, script}
use Rattle.script_text.proofs.KeptPrograms.{program_kept, line_kept}
use Rattle.script_text.proofs.ScriptLines.{refused_at, next_read}
use Rattle.script_text.proofs.reader.script.Goals as goal

pub new-requires : goal.new-requires
new-requires c =
    let places = places_in c.args.labels.now in
    let lines = c.args.lines.now in
    let i = c.loop-index.index in
    let line = c.index-lines-index.result in
    let at : drop i lines ≡ line ∷ drop (i + 1) lines = line_at i lines line c.loop-index-test.true c.index-lines-index.is in
    let passed : is_passed_over line ≡ false = ap is_passed_over (sym c.bytes-text.ensures) ∙ sym c.is_passed_over.ensures ∙ c.if-is_passed_over.false in
    let last : is_script_last line ≡ true = ap is_script_last (sym c.bytes-text.ensures) ∙ sym c.is_last.ensures ∙ c.if-is_last.true in
    program_kept places c.loop-index.items.items c.loop-index.statements line (drop (i + 1) lines) lines passed last c.requires.labels
    (subst (λ d. AreLinesKept places c.loop-index.items.items c.loop-index.statements d lines) at c.loop-index.invariant.kept)

pub returns-in-Err-2 : goal.returns-in-Err-2
returns-in-Err-2 c =
    let places = places_in c.args.labels.now in
    let lines = c.args.lines.now in
    let i = c.loop-index.index in
    let items = c.loop-index.items.items in
    let line = c.index-lines-index.result in
    let at : drop i lines ≡ line ∷ drop (i + 1) lines = line_at i lines line c.loop-index-test.true c.index-lines-index.is in
    let passed : is_passed_over line ≡ false = ap is_passed_over (sym c.bytes-text.ensures) ∙ sym c.is_passed_over.ensures ∙ c.if-is_passed_over.false in
    let last : is_script_last line ≡ false = ap is_script_last (sym c.bytes-text.ensures) ∙ sym c.is_last.ensures ∙ c.if-is_last.false in
    let read = ap (λ d. values_behind items (script places (c.args.first + i) (length items) c.loop-index.statements d)) (sym at) ∙ c.loop-index.invariant.read in
    let size : c.len.result ≡ length items = c.len.ensures ∙ c.loop-index.items.ok.0 in
    refused_at places c.args.first i items c.loop-index.statements line (drop (i + 1) lines) lines passed last read c.in-Err-2.rule
    (ap (λ n. statement_line places n c.loop-index.statements line) (sym size) ∙ ap (statement_line places c.len.result c.loop-index.statements) (sym c.bytes-text.ensures) ∙ sym c.in_ok-statement.ensures.value ∙ c.in-Err-2.is)

pub loop-index-preserved : goal.loop-index-preserved
loop-index-preserved c =
    let places = places_in c.args.labels.now in
    let lines = c.args.lines.now in
    let i = c.loop-index.index in
    let items = c.loop-index.items.items in
    let line = c.index-lines-index.result in
    let at : drop i lines ≡ line ∷ drop (i + 1) lines = line_at i lines line c.loop-index-test.true c.index-lines-index.is in
    let passed : is_passed_over line ≡ false = ap is_passed_over (sym c.bytes-text.ensures) ∙ sym c.is_passed_over.ensures ∙ c.if-is_passed_over.false in
    let last : is_script_last line ≡ false = ap is_script_last (sym c.bytes-text.ensures) ∙ sym c.is_last.ensures ∙ c.if-is_last.false in
    let read = ap (λ d. values_behind items (script places (c.args.first + i) (length items) c.loop-index.statements d)) (sym at) ∙ c.loop-index.invariant.read in
    let size : c.len.result ≡ length items = c.len.ensures ∙ c.loop-index.items.ok.0 in
    let statement = c.in-Ok-2.statement in
    let item : ScriptLine = record { number = c.args.first + i; statement = statement } in
    let pushed : c.push.new.self.items ≡ items ++ item ∷ [] = c.in_ok-push-in-Ok-2.ensures.items in
    let reads : statement_line places (length items) c.loop-index.statements line ≡ Ok statement =
    ap (λ n. statement_line places n c.loop-index.statements line) (sym size) ∙ ap (statement_line places c.len.result c.loop-index.statements) (sym c.bytes-text.ensures) ∙ sym c.in_ok-statement.ensures.value ∙ c.in-Ok-2.is in
    let good-there : IsStatementKept places c.len.result c.loop-index.statements c.bytes-text.result.now statement =
    subst (λ r. IfOk r (IsStatementKept places c.len.result c.loop-index.statements c.bytes-text.result.now)) c.in-Ok-2.is c.in_ok-statement.ensures.kept in
    let good : IsStatementKept places (length items) c.loop-index.statements line statement =
    subst (λ n. IsStatementKept places n c.loop-index.statements line statement) size (subst (λ t. IsStatementKept places c.len.result c.loop-index.statements t statement) c.bytes-text.ensures good-there) in
    let counted-is : c.count_line-statements.result ≡ statements_before c.loop-index.statements line = c.count_line-statements.ensures ∙ ap (statements_before c.loop-index.statements) c.bytes-text.ensures in
    let kept = subst (λ d. AreLinesKept places items c.loop-index.statements d lines) at c.loop-index.invariant.kept in
    record {
      read =
          ap (λ xs. values_behind xs (script places (c.args.first + (i + 1)) (length xs) c.count_line-statements.result (drop (i + 1) lines))) pushed
          ∙ ap (λ s. values_behind (items ++ item ∷ []) (script places (c.args.first + (i + 1)) (length (items ++ item ∷ [])) s (drop (i + 1) lines))) counted-is
          ∙ next_read places c.args.first i items c.loop-index.statements line (drop (i + 1) lines) lines passed last read statement reads;
      kept = subst (λ xs. AreLinesKept places xs c.count_line-statements.result (drop (i + 1) lines) lines) (sym pushed)
          (subst (λ s. AreLinesKept places (items ++ item ∷ []) s (drop (i + 1) lines) lines) (sym counted-is)
          (line_kept places items c.loop-index.statements (c.args.first + i) statement line (drop (i + 1) lines) lines passed last good kept));
      short = omega (arith, ap length pushed, length-append items (item ∷ []), c.loop-index.invariant.short);
    }
