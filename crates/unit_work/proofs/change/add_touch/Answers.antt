use Rattle.std.proofs.Common.{ap, ◌∙◌}
use Rattle.unit_work.specs.declared.change.Change.{Change}
use Rattle.unit_work.specs.Changes.{with_slot}
use Rattle.unit_work.proofs.Keeping.{image_came}
use Rattle.unit_work.proofs.change.add_touch.Goals as goal

pub returns-clause-slots : goal.returns-clause-slots
returns-clause-slots c =
    c.add_slot.ensures
    ∙ ap (λ (s : Change). with_slot s c.args.slots.now.items)
    (c.with_image.ensures ∙ image_came c.args.touch.moves c.args.touch.record c.args.touch.slot c.args.before c.requires.image)
