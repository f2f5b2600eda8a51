use Rattle.std.proofs.Common.{ap, ◌∙◌}
use Rattle.image_records.specs.KeptState.{KeptState}
use Rattle.openings.proofs.Opened.{opened_by}
use Rattle.openings.proofs.codes.codes_of.Goals as goal

pub returns : goal.returns
returns c lasting is =
    opened_by c.args.system.now c.args.kept.now lasting _ _ _ _ is c.codes.ensures.value (c.deref.ensures.value ∙ ap (λ (k : KeptState). k.codes) c.kept.view_is) (ap (λ (k : KeptState). k.queues) c.kept.view_is)
    (c.with.ensures ∙ c.in_ok-states.ensures)
