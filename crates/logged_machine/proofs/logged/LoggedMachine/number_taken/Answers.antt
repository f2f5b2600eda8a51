-- each image has the number
use Rattle.std.proofs.Common.{◌∙◌, ap, sym}
use Rattle.logged_machine.specs.LoggedState.{LoggedState}
use Rattle.logged_machine.proofs.Checked.{has_number}
use Rattle.logged_machine.proofs.logged.LoggedMachine.number_taken.Goals as goal

pub returns-clause-images : goal.returns-clause-images
returns-clause-images g c =
    rw (sym c.self.view_is) (has_number c.self.inside.parts c.self.inside.units.items c.self.inside.next_unit c.self.inside.journal c.self.inside.text (c.self.invariant (ap (λ (v : LoggedState _). v.served) c.self.view_is ∙ c.requires.served)).states (g.D.Disk.state c.self.inside.disk)
    (c.self.invariant (ap (λ (v : LoggedState _). v.served) c.self.view_is ∙ c.requires.served)).logged (ap (λ (v : LoggedState _). v.journal.log.place) c.self.view_is ∙ c.requires.place))
