use Rattle.std.proofs.Common.{sym, ◌∙◌}
use Rattle.std.specs.Prelude.{Some}
use Rattle.script_run.proofs.VariableTexts.{found, one_back}
use Rattle.script_run.proofs.script.put_one_back.Goals as goal

pub returns-in-Some-clause-before : goal.returns-in-Some-clause-before
returns-in-Some-clause-before c =
    rw c.take.ensures.after
    (one_back c.args.kept.now.items c.args.variables.now.items c.args.place c.in-Some.text
    (found c.args.kept.now.items c.args.place c.index_mut.result.now (Some c.in-Some.text) c.requires.kept c.index_mut.ensures.value (sym c.take.ensures.value ∙ c.in-Some.is)) c.requires.variable)
