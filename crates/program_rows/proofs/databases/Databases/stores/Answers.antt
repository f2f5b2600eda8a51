use Rattle.std.proofs.Common.{subst}
use Rattle.program_rows.specs.SlotsState.{AreOnSlots}
use Rattle.program_rows.proofs.Having.{whole_slots}
use Rattle.program_rows.proofs.databases.Databases.stores.Goals as goal

pub returns-clause-on_slots : goal.returns-clause-on_slots
returns-clause-on_slots c = subst AreOnSlots c.self.view_is (whole_slots c.self.inside.opened c.self.invariant)
