use Rattle.std.proofs.Common.{sym}
use Rattle.logged_machine.proofs.Serving.{are_lasting, kept_pending, kept_still}
use Rattle.logged_machine.proofs.logged.LoggedMachine.arm.Goals as goal

pub invariant_of-self : goal.invariant_of-self
invariant_of-self g c =
    λ up. kept_pending c.self.inside.parts c.self.inside.units.items c.self.inside.next_unit c.self.inside.journal c.self.inside.text c.self.inside.forced (g.D.Disk.state c.self.inside.disk) (g.D.Disk.state c.arm.new.self) c.arm.ensures.told (c.self.invariant up)

pub returns-clause-lasts : goal.returns-clause-lasts
returns-clause-lasts g c =
    λ up. are_lasting g.D.Disk.state (record { machine = c.self.inside.parts; text = c.self.inside.text; served = c.self.inside.served; forced = c.self.inside.forced; journal = c.self.inside.journal; units = c.self.inside.units.items; next_unit = c.self.inside.next_unit; disk = c.arm.new.self })
    (kept_pending c.self.inside.parts c.self.inside.units.items c.self.inside.next_unit c.self.inside.journal c.self.inside.text c.self.inside.forced (g.D.Disk.state c.self.inside.disk) (g.D.Disk.state c.arm.new.self) c.arm.ensures.told (c.self.invariant up))

pub returns-clause-pends : goal.returns-clause-pends
returns-clause-pends g c =
    rw (sym c.self.view_is)
    (kept_still g.D.Disk.state (record { machine = c.self.inside.parts; text = c.self.inside.text; served = c.self.inside.served; forced = c.self.inside.forced; journal = c.self.inside.journal; units = c.self.inside.units.items; next_unit = c.self.inside.next_unit; disk = c.self.inside.disk }) c.arm.new.self c.arm.ensures.told)
