use Rattle.std.proofs.Common.{◌-◌, [], ap, ◌∙◌, set}
use Rattle.program_rows.specs.DatabasesState.{DatabasesState, dbds_of}
use Rattle.program_rows.specs.CallAnswers.{regions_backed}
use Rattle.program_rows.proofs.Ending.{has_unit, can_back_out, taken_back_units, taken_back_touched, back_slots, taken_back_committed, taken_back_dbds, taken_back_regions, there_back}
use Rattle.program_rows.proofs.databases.Databases.back_out.Goals as goal

pub take_back-requires-clause-most : goal.take_back-requires-clause-most
take_back-requires-clause-most c = (has_unit c.self.inside.opened c.args.self.now c.args.region c.self.invariant.units c.self.view_is c.requires).most

pub take_back-requires-clause-can : goal.take_back-requires-clause-can
take_back-requires-clause-can c =
    can_back_out c.self.inside.opened c.args.region c.self.invariant.units (has_unit c.self.inside.opened c.args.self.now c.args.region c.self.invariant.units c.self.view_is c.requires)

pub invariant_of-self : goal.invariant_of-self
invariant_of-self c =
    record {
      units =
          taken_back_units c.self.inside.opened c.take_back.new.opened c.self.invariant.units c.args.region
          (has_unit c.self.inside.opened c.args.self.now c.args.region c.self.invariant.units c.self.view_is c.requires)
          c.take_back.ensures.units c.take_back.ensures.stores c.take_back.new.opened.table c.take_back.ensures.table;
      touched =
          taken_back_touched c.self.inside.opened c.take_back.new.opened c.self.invariant.units c.self.invariant.touched c.args.region
          (has_unit c.self.inside.opened c.args.self.now c.args.region c.self.invariant.units c.self.view_is c.requires)
          c.take_back.ensures.units c.take_back.ensures.slots c.take_back.ensures.stores c.take_back.new.opened.table c.take_back.ensures.table;
      marks =
          there_back c.self.inside.opened c.take_back.new.opened c.self.invariant c.args.region
          (has_unit c.self.inside.opened c.args.self.now c.args.region c.self.invariant.units c.self.view_is c.requires) c.take_back.ensures.stores c.take_back.ensures.marks;
    }

pub returns-clause-regions : goal.returns-clause-regions
returns-clause-regions c =
    taken_back_regions c.self.inside.opened c.take_back.new.opened c.self.invariant.units c.args.region (has_unit c.self.inside.opened c.args.self.now c.args.region c.self.invariant.units c.self.view_is c.requires)
    c.take_back.ensures.units c.take_back.ensures.stores
    ∙ ap (regions_backed c.args.region) c.self.view_is

pub returns-clause-committed : goal.returns-clause-committed
returns-clause-committed c =
    taken_back_committed c.self.inside.opened c.take_back.new.opened c.self.invariant.units c.args.region (has_unit c.self.inside.opened c.args.self.now c.args.region c.self.invariant.units c.self.view_is c.requires)
    c.take_back.ensures.units c.take_back.ensures.stores
    ∙ ap (λ (d : DatabasesState). d.committed) c.self.view_is

pub returns-clause-databases : goal.returns-clause-databases
returns-clause-databases c =
    taken_back_dbds c.self.inside.opened c.take_back.new.opened c.self.invariant.units c.args.region (has_unit c.self.inside.opened c.args.self.now c.args.region c.self.invariant.units c.self.view_is c.requires)
    c.take_back.ensures.units c.take_back.ensures.stores
    ∙ ap dbds_of c.self.view_is

pub returns-clause-touched : goal.returns-clause-touched
returns-clause-touched c = c.take_back.ensures.slots ∙ ap (λ (d : DatabasesState). set d.touched (c.args.region - 1) []) c.self.view_is

pub returns-clause-slots : goal.returns-clause-slots
returns-clause-slots c = λ unit.
    back_slots unit c.self.inside.opened c.take_back.new.opened c.args.self.now c.self.invariant.touched c.self.view_is c.args.region
    (has_unit c.self.inside.opened c.args.self.now c.args.region c.self.invariant.units c.self.view_is c.requires) c.take_back.ensures.stores c.take_back.ensures.marks c.take_back.ensures.all_marked c.take_back.ensures.slots
    (taken_back_committed c.self.inside.opened c.take_back.new.opened c.self.invariant.units c.args.region (has_unit c.self.inside.opened c.args.self.now c.args.region c.self.invariant.units c.self.view_is c.requires)
    c.take_back.ensures.units c.take_back.ensures.stores)
