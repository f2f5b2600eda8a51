use Rattle.std.proofs.Common.{◌<◌, length, refl, ap, subst}
use Rattle.log_records.specs.ToldRecords.{spelled_records}
use Rattle.region_work.specs.declared.region.Busy.{Busy}
use Rattle.region_work.specs.RegionWork.{TellsSo, IsLongerSo, IsStarted}
use Rattle.region_work.proofs.Results.{ok_map, on_map, if_err_map}
use Rattle.region_work.proofs.Going.{next_from, started_one, steps_from}
use Rattle.lasting_state.proofs.Told.{where_full}
use Rattle.region_work.proofs.region.advance_busy.Goals as goal

pub returns-clause-steps : goal.returns-clause-steps
returns-clause-steps c =
    ok_map _ _ c.advance_unit.result
    (λ advanced h. steps_from c.args.system.now c.args.region c.args.tables.now _ c.databases_mut.result.now c.args.busy.now c.start.new.busy _ c.in-Some.run' c.advance_unit.new.run advanced
    (started_one c.start.new.busy.unit c.in-Some.run' (IsStarted c.args.system.now c.args.tables.now c.args.busy.now) c.in-Some.is c.in_ok-start.ensures.started c.args.region c.requires.work) c.start.ensures.same c.databases_mut.ensures.value h refl)
    c.advance_unit.ensures.advances

pub returns-clause-tells : goal.returns-clause-tells
returns-clause-tells c =
    on_map c.advance_unit.result
    (λ h. next_from c.args.system.now c.args.region c.args.telling.now.unit c.args.tables.now c.args.busy.now c.start.new.busy c.in-Some.run' _
    (started_one c.start.new.busy.unit c.in-Some.run' (IsStarted c.args.system.now c.args.tables.now c.args.busy.now) c.in-Some.is c.in_ok-start.ensures.started c.args.region c.requires.work) (ap (λ (b : Busy). b.code) c.start.ensures.same)
    (subst (λ d. TellsSo c.args.system.now c.args.region c.start.new.busy.code d c.advance_unit.new.databases c.in-Some.run' c.args.telling.now.unit c.args.telling.now.room c.args.telling.now.told.items c.advance_unit.new.telling.told.items)
    c.databases_mut.ensures.value h))
    c.advance_unit.ensures.tells

pub returns-clause-full : goal.returns-clause-full
returns-clause-full c =
    if_err_map c.advance_unit.result
    (λ error. where_full error (λ h. next_from c.args.system.now c.args.region c.args.telling.now.unit c.args.tables.now c.args.busy.now c.start.new.busy c.in-Some.run' (λ records. c.args.telling.now.room < length (spelled_records records))
    (started_one c.start.new.busy.unit c.in-Some.run' (IsStarted c.args.system.now c.args.tables.now c.args.busy.now) c.in-Some.is c.in_ok-start.ensures.started c.args.region c.requires.work) (ap (λ (b : Busy). b.code) c.start.ensures.same)
    (subst (λ d. IsLongerSo c.args.system.now c.args.region c.start.new.busy.code d c.in-Some.run' c.args.telling.now.unit c.args.telling.now.room) c.databases_mut.ensures.value h)))
    c.advance_unit.ensures.full
