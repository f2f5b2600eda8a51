use Rattle.std.proofs.Common.{◌≡◌, ◌-◌, [], ap, ◌∙◌, subst, refl, set}
use Rattle.unit_work.specs.Changes.{Changes}
use Rattle.program_rows.specs.DatabasesState.{DatabasesState}
use Rattle.program_rows.specs.CallAnswers.{IsCommitted}
use Rattle.program_rows.specs.OpenUnits.{unit_records_of, unit_slots_of}
use Rattle.program_rows.specs.PlannedChanges.{databases_opened}
use Rattle.program_rows.proofs.Ending.{has_unit, kept_units, kept_touched_so, given_up_units, given_up_touched, is_committed, committed_are_rows}
use Rattle.program_rows.proofs.Setting.{records_put, slots_put}
use Rattle.program_rows.proofs.databases.Databases.commit.Goals as goal

pub put_unit-requires-clause-most : goal.put_unit-requires-clause-most
put_unit-requires-clause-most c = (has_unit c.self.inside.opened c.args.self.now c.args.region c.self.invariant.units c.self.view_is c.requires).most

pub release-requires : goal.release-requires
release-requires c = (has_unit c.self.inside.opened c.args.self.now c.args.region c.self.invariant.units c.self.view_is c.requires).known

pub invariant_of-self : goal.invariant_of-self
invariant_of-self c =
    let units : unit_records_of c.put_unit.new.units.items ≡ set (unit_records_of c.self.inside.opened.units.items) (c.args.region - 1) [] =
    ap unit_records_of c.put_unit.ensures ∙ (records_put c.self.inside.opened.units.items (c.args.region - 1) c.new.result ∙ ap (λ (u : Changes). set (unit_records_of c.self.inside.opened.units.items) (c.args.region - 1) u.records) c.new.ensures) in
    let slots : unit_slots_of c.put_unit.new.units.items ≡ set (unit_slots_of c.self.inside.opened.units.items) (c.args.region - 1) [] =
    ap unit_slots_of c.put_unit.ensures ∙ (slots_put c.self.inside.opened.units.items (c.args.region - 1) c.new.result ∙ ap (λ (u : Changes). set (unit_slots_of c.self.inside.opened.units.items) (c.args.region - 1) u.slots) c.new.ensures) in
    record {
      units =
          given_up_units c.self.inside.opened (record { units = c.put_unit.new.units; stores = c.self.inside.opened.stores; table = c.release.new.table }) c.self.invariant.units c.args.region
          (has_unit c.self.inside.opened c.args.self.now c.args.region c.self.invariant.units c.self.view_is c.requires) units c.self.inside.opened.stores.stores c.self.inside.opened.table c.release.new.table
          (kept_units c.self.inside.opened (record { units = c.put_unit.new.units; stores = c.self.inside.opened.stores; table = c.release.new.table }) c.self.invariant.units c.args.region
          (has_unit c.self.inside.opened c.args.self.now c.args.region c.self.invariant.units c.self.view_is c.requires) units refl refl)
          c.release.ensures.table c.release.ensures.kept;
      touched =
          given_up_touched c.self.inside.opened (record { units = c.put_unit.new.units; stores = c.self.inside.opened.stores; table = c.release.new.table }) c.self.invariant.units c.self.invariant.touched c.args.region (has_unit c.self.inside.opened c.args.self.now c.args.region c.self.invariant.units c.self.view_is c.requires) units slots
          c.self.inside.opened.stores.stores c.self.inside.opened.table c.release.new.table
          (kept_touched_so c.self.inside.opened (record { units = c.put_unit.new.units; stores = c.self.inside.opened.stores; table = c.release.new.table }) c.self.invariant.units c.self.invariant.touched c.args.region (has_unit c.self.inside.opened c.args.self.now c.args.region c.self.invariant.units c.self.view_is c.requires) units slots refl)
          c.release.ensures.table;
      marks = c.self.invariant.marks;
    }

pub returns-clause-value : goal.returns-clause-value
returns-clause-value c =
    let units : unit_records_of c.put_unit.new.units.items ≡ set (unit_records_of c.self.inside.opened.units.items) (c.args.region - 1) [] =
    ap unit_records_of c.put_unit.ensures ∙ (records_put c.self.inside.opened.units.items (c.args.region - 1) c.new.result ∙ ap (λ (u : Changes). set (unit_records_of c.self.inside.opened.units.items) (c.args.region - 1) u.records) c.new.ensures) in
    let slots : unit_slots_of c.put_unit.new.units.items ≡ set (unit_slots_of c.self.inside.opened.units.items) (c.args.region - 1) [] =
    ap unit_slots_of c.put_unit.ensures ∙ (slots_put c.self.inside.opened.units.items (c.args.region - 1) c.new.result ∙ ap (λ (u : Changes). set (unit_slots_of c.self.inside.opened.units.items) (c.args.region - 1) u.slots) c.new.ensures) in
    subst (λ (d : DatabasesState). IsCommitted c.args.region d (databases_opened (record { units = c.put_unit.new.units; stores = c.self.inside.opened.stores; table = c.release.new.table }))) c.self.view_is
    (is_committed c.self.inside.opened (record { units = c.put_unit.new.units; stores = c.self.inside.opened.stores; table = c.release.new.table }) c.self.invariant.units c.args.region
    (has_unit c.self.inside.opened c.args.self.now c.args.region c.self.invariant.units c.self.view_is c.requires) units refl refl c.self.invariant.touched slots c.release.ensures.table)

pub returns-clause-rows : goal.returns-clause-rows
returns-clause-rows c =
    let units : unit_records_of c.put_unit.new.units.items ≡ set (unit_records_of c.self.inside.opened.units.items) (c.args.region - 1) [] =
    ap unit_records_of c.put_unit.ensures ∙ (records_put c.self.inside.opened.units.items (c.args.region - 1) c.new.result ∙ ap (λ (u : Changes). set (unit_records_of c.self.inside.opened.units.items) (c.args.region - 1) u.records) c.new.ensures) in
    committed_are_rows (record { units = c.put_unit.new.units; stores = c.self.inside.opened.stores; table = c.release.new.table })
    (given_up_units c.self.inside.opened (record { units = c.put_unit.new.units; stores = c.self.inside.opened.stores; table = c.release.new.table }) c.self.invariant.units c.args.region
    (has_unit c.self.inside.opened c.args.self.now c.args.region c.self.invariant.units c.self.view_is c.requires) units c.self.inside.opened.stores.stores c.self.inside.opened.table c.release.new.table
    (kept_units c.self.inside.opened (record { units = c.put_unit.new.units; stores = c.self.inside.opened.stores; table = c.release.new.table }) c.self.invariant.units c.args.region
    (has_unit c.self.inside.opened c.args.self.now c.args.region c.self.invariant.units c.self.view_is c.requires) units refl refl)
    c.release.ensures.table c.release.ensures.kept)
