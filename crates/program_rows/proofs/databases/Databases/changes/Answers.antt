use Rattle.std.proofs.Common.{length, ap, arith}
use Rattle.program_rows.proofs.Ending.{has_unit, changes_are, clean_so}
use Rattle.program_rows.proofs.databases.Databases.changes.Goals as goal

pub unit_of-requires-clause-most : goal.unit_of-requires-clause-most
unit_of-requires-clause-most c =
    omega (arith, (has_unit c.self.inside.opened c.args.self.now c.args.region c.self.invariant.units c.self.view_is c.requires).most, ap length c.deref.ensures.value)

pub returns-clause-count : goal.returns-clause-count
returns-clause-count c =
    changes_are c.self.inside.opened c.args.self.now c.args.region c.deref.result.now c.unit_of.result.now c.changes.result c.self.invariant.units c.self.view_is c.requires c.deref.ensures.value
    c.unit_of.ensures c.changes.ensures

pub returns-clause-clean : goal.returns-clause-clean
returns-clause-clean c =
    clean_so c.self.inside.opened c.args.self.now c.args.region c.changes.result c.self.invariant.units c.self.view_is c.requires
    (changes_are c.self.inside.opened c.args.self.now c.args.region c.deref.result.now c.unit_of.result.now c.changes.result c.self.invariant.units c.self.view_is c.requires c.deref.ensures.value
    c.unit_of.ensures c.changes.ensures)
