use Rattle.std.proofs.Common.{ap, sym, ◌∙◌}
use Rattle.model_system.specs.Codes.{code_place}
use Rattle.tm_machine.specs.Inputs.{code_for}
use Rattle.tm_machine.proofs.input.code_for.Goals as goal

pub returns-in-None-clause-value : goal.returns-in-None-clause-value
returns-in-None-clause-value c = c.code_named.ensures.value ∙ ap (code_place c.args.system.now.codes) (c.code_word.ensures ∙ ap (λ conversation. code_for conversation c.args.segments.now) (sym c.in-None.is))
