use Rattle.std.proofs.Common.{rules, ◌≡◌}
use Rattle.script_run.proofs.VariableTexts.{start_stands}
use Rattle.script_run.proofs.script.Script.start.Goals as goal

pub invariant_of-result : goal.invariant_of-result
invariant_of-result c =
    let all : c.loop-place._place ≡ 26 = search rules in
    start_stands c.loop-place.variables.items c.loop-place.kept.items c.loop-place._place c.loop-place.invariant.variables c.loop-place.invariant.kept all
