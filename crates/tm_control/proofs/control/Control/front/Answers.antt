-- no fewer steps than those before the opening
use Rattle.std.proofs.Common.{◌∙◌, ap, arith}
use Rattle.tm_control.specs.ControlOnDisk.{ControlOnDisk}
use Rattle.tm_control.proofs.Along.{forced_within}
use Rattle.tm_control.proofs.Going.{is_served}
use Rattle.tm_control.proofs.control.Control.front.Goals as goal

pub steps_since-requires : goal.steps_since-requires
steps_since-requires g c =
    let h = (is_served g.D.Disk.state c.self.inside.machine c.self.inside.opening c.self.inside.checkpoint c.self.inside.history.items c.self.inside.steps (ap (λ (v : ControlOnDisk _). v.up) c.self.view_is ∙ c.requires.up) c.self.invariant.holds) in
    omega (arith, h.more, forced_within g.D.Disk.state c.self.inside.machine c.self.inside.opening c.self.inside.checkpoint c.self.inside.history.items c.self.inside.steps h, c.steps.ensures)
