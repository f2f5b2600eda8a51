use Rattle.std.proofs.Common.{rules, ◌≡◌, ◌≤◌, ◌∙◌, ap, sym, length, replicate}
use Rattle.std.specs.Prelude.{None}
use Rattle.std.proofs.lemmas.List.{take_all}
use Rattle.script_run.specs.RunningScript.{texts_before}
use Rattle.script_run.proofs.VariableTexts.{none_kept}
use Rattle.script_run.proofs.script.put_back.Goals as goal

pub returns-clause-variables : goal.returns-clause-variables
returns-clause-variables c =
    let all : length c.loop-place.kept.items ≤ c.loop-place.place = search rules in
    let none : c.loop-place.kept.items ≡ replicate c.loop-place.place None = sym (take_all c.loop-place.place c.loop-place.kept.items all) ∙ c.loop-place.invariant.none in
    sym (none_kept c.loop-place.place c.loop-place.variables.items)
    ∙ ap (λ k. texts_before k c.loop-place.variables.items) (sym none) ∙ c.loop-place.invariant.before
