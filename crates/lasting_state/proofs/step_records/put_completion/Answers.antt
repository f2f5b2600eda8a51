use Rattle.std.proofs.lemmas.Result.{on_err_weaker, on_ok_weaker}
use Rattle.std.proofs.Common.{List, ◌≡◌, ◌∷◌, []}
use Rattle.log_records.specs.declared.record.Record.{Record}
use Rattle.log_records.specs.declared.record.Record.TheVariants.{Completed, SyncPoint}
use Rattle.log_records.specs.ToldRecords.{AddsRecords}
use Rattle.log_records.proofs.Kept.{behind, behind2, failed, same}
use Rattle.log_records.proofs.Told.{added, adds_both, adds_one}
use Rattle.lasting_state.specs.OutputRecords.{counted_records}
use Rattle.lasting_state.proofs.RecordLimits.{is_pad_change, is_short}
use Rattle.lasting_state.proofs.step_records.put_completion.Goals as goal

pub returns-clause-adds : goal.returns-clause-adds
returns-clause-adds c =
    let outputs : List Record = counted_records c.args.unit c.args.origin.now [] c.args.outputs.now.items c.args.terminals.now c.args.next_id in
    let completed : Record = Completed c.args.unit c.args.id in
    let synced : Record = SyncPoint c.args.unit c.args.pad.now in
    on_ok_weaker c.append_sync_point.result
    (λ (last : AddsRecords (synced ∷ []) c.append_completed.new.out.items c.append_sync_point.new.out.items).
    adds_both outputs (completed ∷ synced ∷ []) c.args.out.now.items c.put_outputs.new.bytes.items c.append_sync_point.new.out.items
    (record { bytes = c.in_ok-put_outputs.ensures.ok; valid = c.in_ok-put_outputs.ensures.valid })
    (adds_both (completed ∷ []) (synced ∷ []) c.put_outputs.new.bytes.items c.append_completed.new.out.items c.append_sync_point.new.out.items
    (adds_one completed c.put_outputs.new.bytes.items c.append_completed.new.out.items c.in_ok-append_completed.ensures.ok c.in_ok-append_completed.ensures.valid) last))
    (added c.append_sync_point.result synced c.append_completed.new.out.items c.append_sync_point.new.out.items c.append_sync_point.ensures.ok c.append_sync_point.ensures.valid)

pub returns-in_err-append_completed-clause-kept : goal.returns-in_err-append_completed-clause-kept
returns-in_err-append_completed-clause-kept c =
    failed c.from_residual-in_err-append_completed.result
    (behind _ c.args.out.now.items c.put_outputs.new.bytes.items c.append_completed.new.out.items c.in_ok-put_outputs.ensures.ok
    (same c.put_outputs.new.bytes.items c.append_completed.new.out.items c.in_err-append_completed.ensures.unwritten))

pub returns-clause-kept : goal.returns-clause-kept
returns-clause-kept c =
    on_err_weaker c.append_sync_point.result
    (λ (is : c.append_sync_point.new.out.items ≡ c.append_completed.new.out.items).
    behind2 _ _ c.args.out.now.items c.put_outputs.new.bytes.items c.append_completed.new.out.items c.append_sync_point.new.out.items c.in_ok-put_outputs.ensures.ok c.in_ok-append_completed.ensures.ok
    (same c.append_completed.new.out.items c.append_sync_point.new.out.items is))
    c.append_sync_point.ensures.unwritten

pub append_sync_point-requires-clause-pad : goal.append_sync_point-requires-clause-pad
append_sync_point-requires-clause-pad c = is_pad_change c.args.pad.now c.requires.pad

pub append_sync_point-requires-clause-short : goal.append_sync_point-requires-clause-short
append_sync_point-requires-clause-short c = is_short c.args.unit c.args.pad.now c.requires.pad
