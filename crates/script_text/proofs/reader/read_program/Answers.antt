use Rattle.std.proofs.Common.{◌≡◌, subst}
use Rattle.text_rows.specs.Refusals.{AnswersLines}
use Rattle.script_text.specs.GoodStatement.{places_in}
use Rattle.script_text.specs.Scripts.{script, label_in_lines, program_of}
use Rattle.script_text.proofs.LowRule.{script_rule}
use Rattle.script_text.proofs.reader.read_program.Goals as goal

pub returns-clause-exact : goal.returns-clause-exact
unfolding program_of
returns-clause-exact c =
    let same : places_in c.in_ok-labels.labels ≡ label_in_lines 0 c.args.lines.now = λ i name. c.in_ok-labels.ensures name i in
    subst (λ places. AnswersLines c.script.result (script places c.args.first 0 0 c.args.lines.now)) same c.script.ensures

pub returns-clause-rules : goal.returns-clause-rules
returns-clause-rules c = script_rule c.script.result (places_in c.in_ok-labels.labels) c.args.first c.args.lines.now c.script.ensures
