-- all stands, but for the room
use Rattle.std.proofs.Common.{◌-◌, List, sym, subst}
use Rattle.model_machine.specs.declared.entry.Entry.{Entry}
use Rattle.tm_control.specs.ControlParts.{HoldsControl}
use Rattle.tm_control.proofs.Going.{lasts_now, stays_still}
use Rattle.tm_control.proofs.control.Control.reserve.Goals as goal

pub returns-clause-stays : goal.returns-clause-stays
returns-clause-stays g c = rw (sym c.self.view_is) (stays_still g.D.Disk.state c.self.inside.machine c.self.inside.opening c.self.inside.checkpoint c.self.inside.history.items c.reserve.new.self.items (c.self.inside.history.cap - c.self.inside.history.len - 1) (c.reserve.new.self.cap - c.reserve.new.self.len - 1) c.self.inside.began)

pub returns-clause-lasts : goal.returns-clause-lasts
returns-clause-lasts g c =
    lasts_now g.D.Disk.state c.self.inside.machine c.self.inside.opening c.self.inside.checkpoint c.reserve.new.self.items _ c.self.inside.began c.self.inside.steps
    (subst (λ (es : List Entry). HoldsControl g.D.Disk.state c.self.inside.machine c.self.inside.opening c.self.inside.checkpoint es c.self.inside.steps) (sym c.reserve.ensures.items) c.self.invariant.holds) c.is_served.ensures.lasts
