use Rattle.std.proofs.Common.{◌∙◌, ◌-◌, ap, sym, length, arith, List, [], get_or}
use Rattle.unit_work.specs.Changes.{Changes}
use Rattle.program_rows.specs.OpenUnits.{unit_slots_of}
use Rattle.program_rows.specs.DatabasesState.{DatabasesState, touched_by}
use Rattle.program_rows.proofs.Clearing.{unit_slots}
use Rattle.program_rows.proofs.Ending.{has_unit}
use Rattle.program_rows.proofs.databases.Databases.unit.Goals as goal

pub unit_of-requires-clause-most : goal.unit_of-requires-clause-most
unit_of-requires-clause-most c =
    omega (arith, (has_unit c.self.inside.opened c.args.self.now c.args.region c.self.invariant.units c.self.view_is c.requires).most, ap length c.deref.ensures.value)

pub returns : goal.returns
returns c =
    sym (unit_slots c.deref.result.now (c.args.region - 1) c.unit_of.result.now c.unit_of.ensures)
    ∙ ap (λ (us : List Changes). get_or (unit_slots_of us) (c.args.region - 1) []) c.deref.ensures.value
    ∙ ap (λ (d : DatabasesState). touched_by c.args.region d) c.self.view_is
