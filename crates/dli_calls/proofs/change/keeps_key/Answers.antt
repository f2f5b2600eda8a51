use Rattle.std.proofs.Common.{ap, ◌∙◌}
use Rattle.std.specs.Prelude.{is_some}
use Rattle.std.proofs.lemmas.Bool.{false≢true}
use Rattle.tm_types.specs.SegTypes.{type_at}
use Rattle.dli_calls.proofs.Asking.{path_typed}
use Rattle.dli_calls.proofs.change.keeps_key.Goals as goal

pub unreachable-requires : goal.unreachable-requires
unreachable-requires c =
    absurd (false≢true (ap is_some (c.in_default.ensures.value ∙ ap (type_at c.args.types.now) c.segment.ensures) ∙ path_typed c.args.types.now c.args.held.now c.requires))
