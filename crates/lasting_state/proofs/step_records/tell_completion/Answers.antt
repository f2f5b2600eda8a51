use Rattle.std.proofs.Common.{List, arith, subst}
use Rattle.std.proofs.lemmas.Result.{IfErr-weaker, on_ok_weaker}
use Rattle.log_records.specs.declared.record.Record.{Record}
use Rattle.log_records.specs.ToldRecords.{TellsInRoom, AreRecordsUntold}
use Rattle.log_records.proofs.Told.{full, tells, untold, within}
use Rattle.lasting_state.specs.OutputRecords.{counted_completion}
use Rattle.lasting_state.proofs.Counted.{completion_counted}
use Rattle.lasting_state.proofs.step_records.tell_completion.Goals as goal

pub end_telling-requires : goal.end_telling-requires
end_telling-requires c =
    within c.put_completion-written.result
    (counted_completion c.args.telling.now.unit c.args.origin.now c.args.id c.args.outputs.now.items c.args.pad.now c.args.terminals.now c.args.next_id)
    c.len-start.result c.args.telling.now.told.items c.put_completion-written.new.out.items (omega arith) c.put_completion-written.ensures.adds c.put_completion-written.ensures.kept

pub returns-clause-told : goal.returns-clause-told
returns-clause-told c =
    let records : List Record = counted_completion c.args.telling.now.unit c.args.origin.now c.args.id c.args.outputs.now.items c.args.pad.now c.args.terminals.now c.args.next_id in
    on_ok_weaker c.end_telling.result
    (λ (h : TellsInRoom records c.args.telling.now.room c.args.telling.now.told.items c.end_telling.new.told.items) lasting outputs next.
    subst (λ (rs : List Record). TellsInRoom rs c.args.telling.now.room c.args.telling.now.told.items c.end_telling.new.told.items)
    (completion_counted c.args.telling.now.unit c.args.origin.now c.args.id c.args.outputs.now.items c.args.pad.now c.args.terminals.now c.args.next_id lasting outputs next) h)
    (tells c.put_completion-written.result c.end_telling.result records c.len-start.result c.args.telling.now.room c.args.telling.now.told.items c.put_completion-written.new.out.items c.end_telling.new.told.items
    c.end_telling.ensures.unwritten c.end_telling.ensures.told c.end_telling.ensures.fits (omega arith) c.put_completion-written.ensures.adds)

pub returns-clause-untold : goal.returns-clause-untold
returns-clause-untold c =
    untold c.put_completion-written.result c.end_telling.result
    (counted_completion c.args.telling.now.unit c.args.origin.now c.args.id c.args.outputs.now.items c.args.pad.now c.args.terminals.now c.args.next_id)
    c.len-start.result c.args.telling.now.told.items c.put_completion-written.new.out.items c.end_telling.new.told.items
    c.end_telling.ensures.gone (omega arith) c.put_completion-written.ensures.adds c.put_completion-written.ensures.kept

pub returns-clause-full : goal.returns-clause-full
returns-clause-full c =
    let records : List Record = counted_completion c.args.telling.now.unit c.args.origin.now c.args.id c.args.outputs.now.items c.args.pad.now c.args.terminals.now c.args.next_id in
    IfErr-weaker c.end_telling.result (AreRecordsUntold records c.args.telling.now.room) _
    (λ error h lasting outputs next.
    subst (λ (rs : List Record). AreRecordsUntold rs c.args.telling.now.room error)
    (completion_counted c.args.telling.now.unit c.args.origin.now c.args.id c.args.outputs.now.items c.args.pad.now c.args.terminals.now c.args.next_id lasting outputs next) h)
    (full c.put_completion-written.result c.end_telling.result records c.len-start.result c.args.telling.now.room c.args.telling.now.told.items c.put_completion-written.new.out.items
    c.end_telling.ensures.unwritten c.end_telling.ensures.full (omega arith) c.put_completion-written.ensures.adds)
