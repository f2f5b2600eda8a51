-- all that was appended is forced
use Rattle.std.proofs.Common.{◌∙◌, false, sym, ap}
use Rattle.logged_machine.specs.LoggedState.{LoggedState}
use Rattle.logged_machine.proofs.Frugality.{writes_log}
use Rattle.logged_machine.proofs.Logging.{area}
use Rattle.logged_machine.proofs.Serving.{all_pending, forcing_broke, forcing_counts, forcing_keeps, forcing_leaves, has_forced, sequences}
use Rattle.logged_machine.proofs.logged.LoggedMachine.force_any.Goals as goal

pub force-requires-clause-area : goal.force-requires-clause-area
force-requires-clause-area g c =
    area c.self.inside.parts c.self.inside.units.items c.self.inside.next_unit c.self.inside.journal c.self.inside.text (c.self.invariant (ap (λ (v : LoggedState _). v.served) c.self.view_is ∙ c.requires.served)).states (g.D.Disk.state c.self.inside.disk) (c.self.invariant (ap (λ (v : LoggedState _). v.served) c.self.view_is ∙ c.requires.served)).logged

pub force-requires-clause-sequences : goal.force-requires-clause-sequences
force-requires-clause-sequences g c =
    sequences c.self.inside.parts c.self.inside.units.items c.self.inside.next_unit c.self.inside.journal c.self.inside.text (c.self.invariant (ap (λ (v : LoggedState _). v.served) c.self.view_is ∙ c.requires.served)).states (g.D.Disk.state c.self.inside.disk) (c.self.invariant (ap (λ (v : LoggedState _). v.served) c.self.view_is ∙ c.requires.served)).logged

pub force-requires-clause-ready : goal.force-requires-clause-ready
force-requires-clause-ready g c = (c.self.invariant (ap (λ (v : LoggedState _). v.served) c.self.view_is ∙ c.requires.served)).logged.ready

pub invariant_of-self : goal.invariant_of-self
invariant_of-self g c =
    λ up. all_pending g.D.Disk.state c.self.inside.parts c.self.inside.text c.self.inside.journal c.force.new.self c.self.inside.units.items c.self.inside.next_unit c.self.inside.forced c.self.inside.disk c.force.new.disk c.self.inside.served
    (c.self.invariant (ap (λ (v : LoggedState _). v.served) c.self.view_is ∙ c.requires.served)) c.force.ensures.stays c.force.ensures.any_moment c.in-Ok.ensures.kept c.in-Ok.ensures.log c.force.ensures.restart c.in-Ok.ensures.ready c.in-Ok.ensures.done c.steps-self-inside.result c.steps-self-inside.ensures

pub returns-in-Ok-clause-done : goal.returns-in-Ok-clause-done
returns-in-Ok-clause-done g c =
    rw (sym c.self.view_is) (has_forced g.D.Disk.state c.self.inside.parts c.self.inside.text c.self.inside.journal c.force.new.self c.self.inside.units.items c.self.inside.next_unit c.self.inside.forced c.self.inside.disk c.force.new.disk c.self.inside.served
    (c.self.invariant (ap (λ (v : LoggedState _). v.served) c.self.view_is ∙ c.requires.served)) c.force.ensures.stays c.force.ensures.any_moment c.in-Ok.ensures.kept c.in-Ok.ensures.log c.force.ensures.restart c.in-Ok.ensures.ready c.in-Ok.ensures.done c.steps-self-inside.result c.steps-self-inside.ensures (ap (λ (v : LoggedState _). v.served) c.self.view_is ∙ c.requires.served) c.in-Ok.ensures.no_fault)

pub returns-in-Ok-clause-leaves : goal.returns-in-Ok-clause-leaves
returns-in-Ok-clause-leaves g c = rw (sym c.self.view_is) (forcing_leaves g.D.Disk.state c.self.inside.parts c.self.inside.text c.self.inside.journal c.force.new.self c.self.inside.units.items c.self.inside.next_unit c.self.inside.forced c.self.inside.disk c.force.new.disk c.self.inside.served
    (c.self.invariant (ap (λ (v : LoggedState _). v.served) c.self.view_is ∙ c.requires.served)) c.force.ensures.stays c.force.ensures.any_moment c.self.inside.served c.steps-self-inside.result)

pub returns-in-Err-clause-leaves : goal.returns-in-Err-clause-leaves
returns-in-Err-clause-leaves g c = rw (sym c.self.view_is) (forcing_leaves g.D.Disk.state c.self.inside.parts c.self.inside.text c.self.inside.journal c.force.new.self c.self.inside.units.items c.self.inside.next_unit c.self.inside.forced c.self.inside.disk c.force.new.disk c.self.inside.served
    (c.self.invariant (ap (λ (v : LoggedState _). v.served) c.self.view_is ∙ c.requires.served)) c.force.ensures.stays c.force.ensures.any_moment false c.self.inside.forced)

pub returns-in-Ok-clause-keeps : goal.returns-in-Ok-clause-keeps
returns-in-Ok-clause-keeps g c = rw (sym c.self.view_is) (forcing_keeps g.D.Disk.state c.self.inside.parts c.self.inside.text c.self.inside.journal c.force.new.self c.self.inside.units.items c.self.inside.next_unit c.self.inside.forced c.self.inside.disk c.force.new.disk c.self.inside.served
    (c.self.invariant (ap (λ (v : LoggedState _). v.served) c.self.view_is ∙ c.requires.served)) c.force.ensures.stays c.force.ensures.any_moment c.self.inside.served c.steps-self-inside.result c.force.ensures.restart)

pub returns-in-Err-clause-keeps : goal.returns-in-Err-clause-keeps
returns-in-Err-clause-keeps g c = rw (sym c.self.view_is) (forcing_keeps g.D.Disk.state c.self.inside.parts c.self.inside.text c.self.inside.journal c.force.new.self c.self.inside.units.items c.self.inside.next_unit c.self.inside.forced c.self.inside.disk c.force.new.disk c.self.inside.served
    (c.self.invariant (ap (λ (v : LoggedState _). v.served) c.self.view_is ∙ c.requires.served)) c.force.ensures.stays c.force.ensures.any_moment false c.self.inside.forced c.force.ensures.restart)

pub returns-in-Ok-clause-counts : goal.returns-in-Ok-clause-counts
returns-in-Ok-clause-counts g c = rw (sym c.self.view_is) (forcing_counts g.D.Disk.state c.self.inside.parts c.self.inside.text c.self.inside.journal c.force.new.self c.self.inside.units.items c.self.inside.next_unit c.self.inside.forced c.self.inside.disk c.force.new.disk c.self.inside.served
    (c.self.invariant (ap (λ (v : LoggedState _). v.served) c.self.view_is ∙ c.requires.served)) c.force.ensures.stays c.force.ensures.any_moment c.self.inside.served c.steps-self-inside.result)

pub returns-in-Err-clause-counts : goal.returns-in-Err-clause-counts
returns-in-Err-clause-counts g c = rw (sym c.self.view_is) (forcing_counts g.D.Disk.state c.self.inside.parts c.self.inside.text c.self.inside.journal c.force.new.self c.self.inside.units.items c.self.inside.next_unit c.self.inside.forced c.self.inside.disk c.force.new.disk c.self.inside.served
    (c.self.invariant (ap (λ (v : LoggedState _). v.served) c.self.view_is ∙ c.requires.served)) c.force.ensures.stays c.force.ensures.any_moment false c.self.inside.forced)

pub returns-in-Err-clause-broke : goal.returns-in-Err-clause-broke
returns-in-Err-clause-broke g c = rw (sym c.self.view_is) (forcing_broke g.D.Disk.state c.self.inside.parts c.self.inside.text c.self.inside.journal c.force.new.self c.self.inside.units.items c.self.inside.next_unit c.self.inside.forced c.self.inside.disk c.force.new.disk c.self.inside.served
    (c.self.invariant (ap (λ (v : LoggedState _). v.served) c.self.view_is ∙ c.requires.served)) c.force.ensures.stays c.force.ensures.any_moment c.in-Err.ensures.cause)

pub returns-in-Ok-clause-writes : goal.returns-in-Ok-clause-writes
returns-in-Ok-clause-writes g c = rw (sym c.self.view_is) (writes_log c.self.inside.journal.log (g.D.Disk.state c.self.inside.disk) (g.D.Disk.state c.force.new.disk) c.force.ensures.any_moment c.force.ensures.writes)

pub returns-in-Err-clause-writes : goal.returns-in-Err-clause-writes
returns-in-Err-clause-writes g c = rw (sym c.self.view_is) (writes_log c.self.inside.journal.log (g.D.Disk.state c.self.inside.disk) (g.D.Disk.state c.force.new.disk) c.force.ensures.any_moment c.force.ensures.writes)
