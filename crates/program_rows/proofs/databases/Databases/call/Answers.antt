use Rattle.program_rows.proofs.Ending.{has_unit}
use Rattle.program_rows.proofs.Retold.{whole_after}
use Rattle.program_rows.proofs.databases.Databases.call.Goals as goal

pub call-requires-clause-last : goal.call-requires-clause-last
call-requires-clause-last c = (has_unit c.self.inside.opened c.args.self.now c.args.region c.self.invariant.units c.self.view_is c.requires.region).most

pub invariant_of-self : goal.invariant_of-self
invariant_of-self c =
    whole_after c.args.telling.now.unit c.args.region c.args.number c.args.dbd.now c.args.call.now c.args.at.now c.self.inside.opened c.call.new.opened c.call.result c.self.invariant c.call.ensures.done c.call.ensures.touch c.call.ensures.slots
    c.call.ensures.kept
