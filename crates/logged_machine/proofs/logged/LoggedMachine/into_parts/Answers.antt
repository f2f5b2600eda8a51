use Rattle.std.proofs.Common.{sym}
use Rattle.logged_machine.proofs.Serving.{are_lasting}
use Rattle.logged_machine.proofs.logged.LoggedMachine.into_parts.Goals as goal

pub returns-clause-lasts : goal.returns-clause-lasts
returns-clause-lasts g c =
    rw (sym c.self.view_is)
    (λ up. are_lasting g.D.Disk.state (record { machine = c.self.inside.parts; text = c.self.inside.text; served = c.self.inside.served; forced = c.self.inside.forced; journal = c.self.inside.journal; units = c.self.inside.units.items; next_unit = c.self.inside.next_unit; disk = c.self.inside.disk }) (c.self.invariant up))
