use Rattle.std.proofs.Common.{◌-◌, List, sym, ap, subst, ◌∙◌}
use Rattle.unit_work.specs.Images.{image_at}
use Rattle.unit_work.specs.Marks.{AreMarked, AreAllMarked}
use Rattle.unit_work.specs.declared.change.Change.{Change}
use Rattle.unit_work.specs.Changes.{no_changes}
use Rattle.unit_work.specs.BackOut.{backed_out, backs}
use Rattle.program_rows.specs.OpenUnits.{unit_records_of, unit_slots_of}
use Rattle.program_rows.proofs.Setting.{unit_records, records_put, slots_put}
use Rattle.program_rows.proofs.databases.take_back.Goals as goal

pub returns-clause-units : goal.returns-clause-units
returns-clause-units c = ap unit_records_of c.take_unit-unit.ensures.left ∙ records_put c.args.opened.now.units.items (c.args.region - 1) no_changes

pub returns-clause-stores : goal.returns-clause-stores
returns-clause-stores c =
    c.back_out.ensures.stores
    ∙ ap (λ rs. backed_out rs c.args.opened.now.stores.stores) (sym (unit_records c.args.opened.now.units.items (c.args.region - 1) c.take_unit-unit.result c.take_unit-unit.ensures.taken))

pub returns-clause-slots : goal.returns-clause-slots
returns-clause-slots c =
    ap unit_slots_of c.take_unit-unit.ensures.left
    ∙ (slots_put c.args.opened.now.units.items (c.args.region - 1) no_changes)

pub returns-clause-marks : goal.returns-clause-marks
returns-clause-marks c =
    subst (λ (rs : List Change). AreMarked (λ db slot. backs rs db slot (image_at db slot c.args.opened.now.stores.stores)) c.args.opened.now.stores c.back_out.new.stores)
    (sym (unit_records c.args.opened.now.units.items (c.args.region - 1) c.take_unit-unit.result c.take_unit-unit.ensures.taken)) c.back_out.ensures.marks

pub returns-clause-all_marked : goal.returns-clause-all_marked
returns-clause-all_marked c =
    subst (λ (rs : List Change). AreAllMarked (λ db slot. backs rs db slot (image_at db slot c.args.opened.now.stores.stores)) c.back_out.new.stores)
    (sym (unit_records c.args.opened.now.units.items (c.args.region - 1) c.take_unit-unit.result c.take_unit-unit.ensures.taken)) c.back_out.ensures.all_marked
