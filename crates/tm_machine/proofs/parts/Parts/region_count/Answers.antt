use Rattle.std.proofs.Common.{sym}
use Rattle.tm_machine.proofs.Leaving.{moment_stays}
use Rattle.tm_machine.proofs.parts.Parts.region_count.Goals as goal

pub returns-clause-stays : goal.returns-clause-stays
returns-clause-stays c =
    rw (sym c.self.view_is) (sym (moment_stays c.self.inside.system c.self.inside.tables c.self.inside.codes c.self.inside.regions.items c.self.invariant))
