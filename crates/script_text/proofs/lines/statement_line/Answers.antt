use Rattle.std.proofs.Common.{◌≡◌, ap, sym, ◌∙◌, subst, IfOk}
use Rattle.text_rows.specs.Lines.{printable_line}
use Rattle.text_rows.specs.LowestRule.{also}
use Rattle.script_text.specs.GoodStatement.{places_in, IsGood, IsStatementKept}
use Rattle.script_text.specs.Statements.{has_label_word, label_in}
use Rattle.script_text.proofs.KeptLines.{kept_line}
use Rattle.script_text.proofs.lines.statement_line.Goals as goal

pub returns-clause-kept : goal.returns-clause-kept
returns-clause-kept c =
    let made : c.also-2.result ≡ also (also c.in_ok-statement.statement (printable_line c.args.line.now)) c.room_before-room.result =
    c.also-2.ensures.value ∙ ap (λ a. also a c.room_before-room.result) (c.also.ensures.value ∙ ap (also c.in_ok-statement.statement) c.printable_line-printable.ensures) in
    subst (λ read. IfOk read (IsStatementKept (places_in c.args.labels.now) c.args.here c.args.before c.args.line.now)) (sym made)
    (kept_line (places_in c.args.labels.now) c.args.here c.args.before c.args.line.now c.in_ok-statement.statement c.room_before-room.result
    (subst (λ ws. IfOk c.in_ok-statement.statement (IsGood (places_in c.args.labels.now) c.args.here ws (has_label_word ws) (label_in ws))) c.of-words.ensures c.in_ok-statement.ensures.good) c.room_before-room.ensures.room)
