use Rattle.std.proofs.Common.{sym, ap, ◌∙◌}
use Rattle.std.specs.List.{list_all}
use Rattle.tm_types.specs.Segment.{is_printable}
use Rattle.script_text.proofs.Printable.{front_passes}
use Rattle.script_text.proofs.values.literal.Goals as goal

pub returns-in_ok-copied-in-Some-default-empty-clause-plain :
    goal.returns-in_ok-copied-in-Some-default-empty-clause-plain
returns-in_ok-copied-in-Some-default-empty-clause-plain c = λ printable.
    ap (list_all is_printable) c.in_ok-copied-in-Some-default-empty.ensures
    ∙ front_passes is_printable 34 c.args.rest.now c.in-Some-default-empty.inside.now c.in-Some-default-empty.field-0-1.now (sym c.in-Some-default-empty.ensures) printable
