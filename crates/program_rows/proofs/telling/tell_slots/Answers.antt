use Rattle.std.proofs.Common.{map, arith}
use Rattle.log_records.proofs.Told.{full, tells, untold, within}
use Rattle.program_rows.specs.ToldChanges.{back_out_told}
use Rattle.program_rows.proofs.telling.tell_slots.Goals as goal

pub end_telling-requires : goal.end_telling-requires
end_telling-requires c =
    within c.append_slots-written.result (map (back_out_told c.args.telling.now.unit c.args.stores.now.stores) c.args.slots.now) c.len-start.result c.args.telling.now.told.items c.append_slots-written.new.out.items
    (omega arith) c.append_slots-written.ensures.adds c.append_slots-written.ensures.kept

pub returns-clause-tells : goal.returns-clause-tells
returns-clause-tells c =
    tells c.append_slots-written.result c.end_telling.result (map (back_out_told c.args.telling.now.unit c.args.stores.now.stores) c.args.slots.now) c.len-start.result c.args.telling.now.room
    c.args.telling.now.told.items c.append_slots-written.new.out.items c.end_telling.new.told.items c.end_telling.ensures.unwritten c.end_telling.ensures.told c.end_telling.ensures.fits (omega arith)
    c.append_slots-written.ensures.adds

pub returns-clause-untold : goal.returns-clause-untold
returns-clause-untold c =
    untold c.append_slots-written.result c.end_telling.result (map (back_out_told c.args.telling.now.unit c.args.stores.now.stores) c.args.slots.now) c.len-start.result
    c.args.telling.now.told.items c.append_slots-written.new.out.items c.end_telling.new.told.items c.end_telling.ensures.gone (omega arith) c.append_slots-written.ensures.adds c.append_slots-written.ensures.kept

pub returns-clause-full : goal.returns-clause-full
returns-clause-full c =
    full c.append_slots-written.result c.end_telling.result (map (back_out_told c.args.telling.now.unit c.args.stores.now.stores) c.args.slots.now) c.len-start.result c.args.telling.now.room
    c.args.telling.now.told.items c.append_slots-written.new.out.items c.end_telling.ensures.unwritten c.end_telling.ensures.full (omega arith) c.append_slots-written.ensures.adds
