use Rattle.std.proofs.Common.{sym}
use Rattle.std.specs.Prelude.{Some, None}
use Rattle.script_run.proofs.VariableTexts.{found, set_again, set_first}
use Rattle.script_run.proofs.script.set_variable.Goals as goal

pub returns-in-Some-clause-before : goal.returns-in-Some-clause-before
returns-in-Some-clause-before c =
    set_again c.args.kept.now.items c.args.variables.now.items c.args.place c.in-Some.field-0 c.replace-before.new.dest
    (found c.args.kept.now.items c.args.place c.index.result.now (Some c.in-Some.field-0) c.requires.kept c.index.ensures c.in-Some.is)

pub returns-in-None-clause-before : goal.returns-in-None-clause-before
returns-in-None-clause-before c =
    set_first c.args.kept.now.items c.args.variables.now.items c.args.place c.replace-before.result c.replace-before.new.dest
    (found c.args.kept.now.items c.args.place c.index.result.now None c.requires.kept c.index.ensures c.in-None.is)
    (found c.args.variables.now.items c.args.place c.index_mut.result.now c.replace-before.result c.requires.variable c.index_mut.ensures.value (sym c.replace-before.ensures.value))
