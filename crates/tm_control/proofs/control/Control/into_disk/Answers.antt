-- the life, as its entries tell it
use Rattle.std.proofs.Common.{sym}
use Rattle.tm_control.proofs.Closing.{least, least_forced}
use Rattle.tm_control.proofs.Going.{lasts_now}
use Rattle.tm_control.proofs.Handing.{closes_now}
use Rattle.tm_control.proofs.control.Control.into_disk.Goals as goal

pub close-requires : goal.close-requires
close-requires g c = record {
  more = least g.D.Disk.state c.self.inside.machine c.self.inside.opening c.self.inside.checkpoint c.self.inside.history.items c.self.inside.steps c.self.inside.machine.served c.self.invariant.holds;
  opened = least_forced g.D.Disk.state c.self.inside.machine c.self.inside.opening c.self.inside.checkpoint c.self.inside.history.items c.self.inside.steps c.self.inside.machine.served c.self.invariant.holds;
}

pub returns-clause-closes : goal.returns-clause-closes
returns-clause-closes g c =
    rw (sym c.self.view_is)
    (closes_now g.D.Disk.state c.self.inside.machine c.self.inside.opening c.self.inside.checkpoint c.self.inside.history.items _ c.self.inside.began c.self.inside.steps
    c.close.result.disk c.close.result.life c.close.result.system c.close.result.text c.close.result.faults c.self.invariant.holds
    c.close.ensures.disk c.close.ensures.system c.close.ensures.text c.close.ensures.faults c.close.ensures.opening c.close.ensures.checkpoint c.close.ensures.history c.close.ensures.forced c.close.ensures.kept)

pub returns-clause-lasts : goal.returns-clause-lasts
returns-clause-lasts g c =
    rw (sym c.self.view_is)
    (lasts_now g.D.Disk.state c.self.inside.machine c.self.inside.opening c.self.inside.checkpoint c.self.inside.history.items _ c.self.inside.began c.self.inside.steps c.self.invariant.holds c.close.ensures.lasts)
