use Rattle.std.proofs.Common.{◌-◌, [], ap, ◌∙◌, arith, set}
use Rattle.model_data.specs.Table.{EnqueueTable}
use Rattle.model_data.specs.EnqueueRequests.{released}
use Rattle.program_rows.specs.DatabasesState.{DatabasesState, dbds_of}
use Rattle.program_rows.specs.CallAnswers.{regions_backed}
use Rattle.program_rows.proofs.Ending.{has_unit, can_back_out, taken_back_units, taken_back_touched, taken_back_committed, taken_back_dbds, taken_back_regions, given_up_units, given_up_touched, back_gives_up, there_back}
use Rattle.program_rows.proofs.Having.{whole_slots}
use Rattle.program_rows.proofs.databases.Databases.give_up.Goals as goal

pub take_back-requires-clause-most : goal.take_back-requires-clause-most
take_back-requires-clause-most c = (has_unit c.self.inside.opened c.args.self.now c.args.region c.self.invariant.units c.self.view_is c.requires).most

pub take_back-requires-clause-can : goal.take_back-requires-clause-can
take_back-requires-clause-can c =
    can_back_out c.self.inside.opened c.args.region c.self.invariant.units (has_unit c.self.inside.opened c.args.self.now c.args.region c.self.invariant.units c.self.view_is c.requires)

pub release-requires : goal.release-requires
release-requires c =
    let u = has_unit c.self.inside.opened c.args.self.now c.args.region c.self.invariant.units c.self.view_is c.requires in
    (u.known.0, omega (arith, u.known.1, ap (λ (t : EnqueueTable). t.regions) c.take_back.ensures.table))

pub invariant_of-self : goal.invariant_of-self
invariant_of-self c =
    let u = has_unit c.self.inside.opened c.args.self.now c.args.region c.self.invariant.units c.self.view_is c.requires in
    record {
      units =
          given_up_units c.self.inside.opened c.take_back.new.opened c.self.invariant.units c.args.region (has_unit c.self.inside.opened c.args.self.now c.args.region c.self.invariant.units c.self.view_is c.requires)
          c.take_back.ensures.units c.take_back.new.opened.stores.stores c.take_back.new.opened.table c.release.new.table
          (taken_back_units c.self.inside.opened c.take_back.new.opened c.self.invariant.units c.args.region (has_unit c.self.inside.opened c.args.self.now c.args.region c.self.invariant.units c.self.view_is c.requires)
          c.take_back.ensures.units c.take_back.ensures.stores c.take_back.new.opened.table c.take_back.ensures.table)
          c.release.ensures.table c.release.ensures.kept;
      touched =
          given_up_touched c.self.inside.opened c.take_back.new.opened c.self.invariant.units c.self.invariant.touched c.args.region
          (has_unit c.self.inside.opened c.args.self.now c.args.region c.self.invariant.units c.self.view_is c.requires) c.take_back.ensures.units c.take_back.ensures.slots
          c.take_back.new.opened.stores.stores c.take_back.new.opened.table c.release.new.table
          (taken_back_touched c.self.inside.opened c.take_back.new.opened c.self.invariant.units c.self.invariant.touched c.args.region
          (has_unit c.self.inside.opened c.args.self.now c.args.region c.self.invariant.units c.self.view_is c.requires) c.take_back.ensures.units c.take_back.ensures.slots
          c.take_back.ensures.stores c.take_back.new.opened.table c.take_back.ensures.table)
          c.release.ensures.table;
      marks = there_back c.self.inside.opened c.take_back.new.opened c.self.invariant c.args.region u c.take_back.ensures.stores c.take_back.ensures.marks;
    }

pub returns-clause-value : goal.returns-clause-value
returns-clause-value c =
    record {
      committed = taken_back_committed c.self.inside.opened c.take_back.new.opened c.self.invariant.units c.args.region
          (has_unit c.self.inside.opened c.args.self.now c.args.region c.self.invariant.units c.self.view_is c.requires) c.take_back.ensures.units c.take_back.ensures.stores
          ∙ ap (λ (d : DatabasesState). d.committed) c.self.view_is;
      regions = taken_back_regions c.self.inside.opened c.take_back.new.opened c.self.invariant.units c.args.region
          (has_unit c.self.inside.opened c.args.self.now c.args.region c.self.invariant.units c.self.view_is c.requires) c.take_back.ensures.units c.take_back.ensures.stores
          ∙ ap (regions_backed c.args.region) c.self.view_is;
      touched = c.take_back.ensures.slots ∙ ap (λ (d : DatabasesState). set d.touched (c.args.region - 1) []) c.self.view_is;
      slots = back_gives_up c.self.inside.opened (record { units = c.take_back.new.opened.units; stores = c.take_back.new.opened.stores; table = c.release.new.table }) c.args.self.now c.self.invariant.touched c.self.view_is c.args.region
          (has_unit c.self.inside.opened c.args.self.now c.args.region c.self.invariant.units c.self.view_is c.requires) c.take_back.ensures.stores c.take_back.ensures.marks c.take_back.ensures.all_marked c.take_back.ensures.slots
          (taken_back_committed c.self.inside.opened c.take_back.new.opened c.self.invariant.units c.args.region (has_unit c.self.inside.opened c.args.self.now c.args.region c.self.invariant.units c.self.view_is c.requires)
          c.take_back.ensures.units c.take_back.ensures.stores);
      on_slots = whole_slots (record { units = c.take_back.new.opened.units; stores = c.take_back.new.opened.stores; table = c.release.new.table }) (invariant_of-self c);
      table = c.release.ensures.table ∙ (ap (released c.args.region) c.take_back.ensures.table ∙ ap (λ (d : DatabasesState). released c.args.region d.table) c.self.view_is);
    }

pub returns-clause-databases : goal.returns-clause-databases
returns-clause-databases c =
    taken_back_dbds c.self.inside.opened c.take_back.new.opened c.self.invariant.units c.args.region (has_unit c.self.inside.opened c.args.self.now c.args.region c.self.invariant.units c.self.view_is c.requires)
    c.take_back.ensures.units c.take_back.ensures.stores
    ∙ ap dbds_of c.self.view_is
