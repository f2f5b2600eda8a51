use Rattle.program_rows.proofs.Ending.{begins, begins_touched, none_marked, slots_are, begins_committed, begins_regions, committed_are_rows}
use Rattle.program_rows.proofs.databases.Databases.empty.Goals as goal

pub invariant_of-result : goal.invariant_of-result
invariant_of-result c =
    record {
      units = begins c.args.dbds.now c.args.regions (record { units = c.in_ok-units.units; stores = c.in_ok-stores.stores; table = c.in_ok-table.table }) c.types_of.ensures c.in_ok-units.ensures
          c.in_ok-stores.ensures.stores c.in_ok-table.ensures;
      touched = begins_touched c.args.dbds.now c.args.regions (record { units = c.in_ok-units.units; stores = c.in_ok-stores.stores; table = c.in_ok-table.table }) c.types_of.ensures c.in_ok-units.ensures
          c.in_ok-stores.ensures.stores c.in_ok-table.ensures;
      marks = none_marked c.args.dbds.now c.args.regions (record { units = c.in_ok-units.units; stores = c.in_ok-stores.stores; table = c.in_ok-table.table }) c.types_of.ensures c.in_ok-units.ensures
          c.in_ok-stores.ensures.stores c.in_ok-table.ensures c.in_ok-stores.ensures.changed;
    }

pub returns-clause-committed : goal.returns-clause-committed
returns-clause-committed c =
    begins_committed c.args.dbds.now c.args.regions (record { units = c.in_ok-units.units; stores = c.in_ok-stores.stores; table = c.in_ok-table.table }) c.types_of.ensures c.in_ok-units.ensures
    c.in_ok-stores.ensures.stores c.in_ok-table.ensures

pub returns-clause-regions : goal.returns-clause-regions
returns-clause-regions c =
    begins_regions c.args.dbds.now c.args.regions (record { units = c.in_ok-units.units; stores = c.in_ok-stores.stores; table = c.in_ok-table.table }) c.types_of.ensures c.in_ok-units.ensures
    c.in_ok-stores.ensures.stores c.in_ok-table.ensures

pub returns-clause-rows : goal.returns-clause-rows
returns-clause-rows c =
    committed_are_rows (record { units = c.in_ok-units.units; stores = c.in_ok-stores.stores; table = c.in_ok-table.table })
    (begins c.args.dbds.now c.args.regions (record { units = c.in_ok-units.units; stores = c.in_ok-stores.stores; table = c.in_ok-table.table }) c.types_of.ensures c.in_ok-units.ensures
    c.in_ok-stores.ensures.stores c.in_ok-table.ensures)

pub returns-clause-touched : goal.returns-clause-touched
returns-clause-touched c =
    slots_are c.args.dbds.now c.args.regions (record { units = c.in_ok-units.units; stores = c.in_ok-stores.stores; table = c.in_ok-table.table }) c.types_of.ensures c.in_ok-units.ensures
    c.in_ok-stores.ensures.stores c.in_ok-table.ensures
