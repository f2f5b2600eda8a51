use Rattle.std.proofs.Common.{List, length, ap, arith, refl, subst}
use Rattle.std.specs.Prelude.{IfErr, OnOk}
use Rattle.log_records.specs.declared.record.Record.{Record}
use Rattle.log_records.specs.ToldRecords.{TellsInRoom, AreRecordsUntold}
use Rattle.program_rows.proofs.Ending.{has_unit, back_toldable, back_told_is}
use Rattle.program_rows.proofs.databases.Databases.tell_back.Goals as goal

pub unit_of-requires-clause-most : goal.unit_of-requires-clause-most
unit_of-requires-clause-most c =
    omega (arith, (has_unit c.self.inside.opened c.args.self.now c.args.region c.self.invariant.units c.self.view_is c.requires.region).most, ap length c.deref.ensures.value)

pub tell_slots-requires : goal.tell_slots-requires
tell_slots-requires c =
    back_toldable c.self.inside.opened c.args.self.now c.args.region c.deref.result.now c.unit_of.result.now c.touched.result.now c.self.inside.opened.stores.stores
    c.self.invariant.units c.self.invariant.touched c.self.view_is
    (has_unit c.self.inside.opened c.args.self.now c.args.region c.self.invariant.units c.self.view_is c.requires.region) c.deref.ensures.value c.unit_of.ensures c.touched.ensures.value refl
    c.requires.sectors

pub returns-clause-tells : goal.returns-clause-tells
returns-clause-tells c =
    subst (λ (rs : List Record). OnOk c.tell_slots.result (TellsInRoom rs c.args.telling.now.room c.args.telling.now.told.items c.tell_slots.new.telling.told.items))
    (back_told_is c.args.telling.now.unit c.self.inside.opened c.args.self.now c.args.region c.deref.result.now c.unit_of.result.now c.touched.result.now c.self.inside.opened.stores.stores
    c.self.view_is c.deref.ensures.value c.unit_of.ensures c.touched.ensures.value refl) c.tell_slots.ensures.tells

pub returns-clause-full : goal.returns-clause-full
returns-clause-full c =
    subst (λ (rs : List Record). IfErr c.tell_slots.result (AreRecordsUntold rs c.args.telling.now.room))
    (back_told_is c.args.telling.now.unit c.self.inside.opened c.args.self.now c.args.region c.deref.result.now c.unit_of.result.now c.touched.result.now c.self.inside.opened.stores.stores
    c.self.view_is c.deref.ensures.value c.unit_of.ensures c.touched.ensures.value refl) c.tell_slots.ensures.full
