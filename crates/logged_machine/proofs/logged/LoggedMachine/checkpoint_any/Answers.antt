-- where a region's work forbids it
use Rattle.std.proofs.Common.{◌*◌, Err, refl, arith, ◌∙◌, ap, sym, inl}
use Rattle.model_machine.specs.declared.entry.CheckpointRefused.TheVariants.{BusyRegion}
use Rattle.model_machine.specs.declared.entry.Entry.TheVariants.{Checked}
use Rattle.logged_machine.specs.LoggedState.{LoggedState}
use Rattle.logged_machine.proofs.Checked.{busy_answer, most_same}
use Rattle.logged_machine.proofs.Checkpointed.{answered_still}
use Rattle.logged_machine.proofs.Frugality.{nothing_counted}
use Rattle.logged_machine.proofs.logged.LoggedMachine.checkpoint_any.Goals as goal

pub returns-in-Some-clause-did : goal.returns-in-Some-clause-did
returns-in-Some-clause-did g c =
    rw (sym c.self.view_is) (answered_still g.D.Disk.state (record { machine = c.self.inside.parts; text = c.self.inside.text; served = c.self.inside.served; forced = c.self.inside.forced; journal = c.self.inside.journal; units = c.self.inside.units.items; next_unit = c.self.inside.next_unit; disk = c.self.inside.disk }) (Checked c.args.freeze (Err (BusyRegion c.in-Some.region c.in-Some.id))) (refl, refl) (inl refl)
    (busy_answer c.self.inside.parts c.args.freeze c.in-Some.region c.in-Some.id c.region_count-regions.ensures.stays c.in-Some.ensures) (ap (λ (v : LoggedState _). v.served) c.self.view_is ∙ c.requires.served))

pub checkpoint_free-requires-clause-stays : goal.checkpoint_free-requires-clause-stays
checkpoint_free-requires-clause-stays g c = rw (sym c.self.view_is) c.region_count-regions.ensures.stays

pub checkpoint_free-requires-clause-free : goal.checkpoint_free-requires-clause-free
checkpoint_free-requires-clause-free g c = rw (sym c.self.view_is) c.in-None.ensures

pub returns-in-Some-clause-raises : goal.returns-in-Some-clause-raises
returns-in-Some-clause-raises g c = λ up. record { epoch = refl; sequence = omega arith; checkpoint = omega arith; unit = omega arith }

pub returns-in-Some-clause-counts : goal.returns-in-Some-clause-counts
returns-in-Some-clause-counts g c =
    rw (sym c.self.view_is) (nothing_counted g.D.Disk.state (record { machine = c.self.inside.parts; text = c.self.inside.text; served = c.self.inside.served; forced = c.self.inside.forced; journal = c.self.inside.journal; units = c.self.inside.units.items; next_unit = c.self.inside.next_unit; disk = c.self.inside.disk }) (2 * c.self.inside.parts.system.logs))

pub returns-in-Some-clause-writes : goal.returns-in-Some-clause-writes
returns-in-Some-clause-writes g c = most_same c.args.self.now.machine.system c.args.self.now.machine.databases.stores c.args.self.now.machine.databases.changed c.args.self.now.journal (g.D.Disk.state c.args.self.now.disk)
