use Rattle.std.proofs.Common.{sym}
use Rattle.tm_control.proofs.Going.{is_served, lasts_now, slots_too}
use Rattle.tm_control.proofs.control.Control.is_up.Goals as goal

pub returns-clause-lasts : goal.returns-clause-lasts
returns-clause-lasts g c =
    rw (sym c.self.view_is)
    (lasts_now g.D.Disk.state c.self.inside.machine c.self.inside.opening c.self.inside.checkpoint c.self.inside.history.items _ c.self.inside.began c.self.inside.steps c.self.invariant.holds c.is_served.ensures.lasts)

pub returns-clause-slots : goal.returns-clause-slots
returns-clause-slots g c =
    rw (sym c.self.view_is)
    (λ up. slots_too g.D.Disk.state c.self.inside.machine c.self.inside.opening c.self.inside.checkpoint c.self.inside.history.items 0 c.self.inside.began c.self.inside.steps
    (is_served g.D.Disk.state c.self.inside.machine c.self.inside.opening c.self.inside.checkpoint c.self.inside.history.items c.self.inside.steps up c.self.invariant.holds) c.is_served.ensures.slots)
