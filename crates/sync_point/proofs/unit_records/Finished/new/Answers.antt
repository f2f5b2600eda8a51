use Rattle.sync_point.proofs.Pads.{is_pad_change, is_short}
use Rattle.sync_point.proofs.unit_records.Finished.new.Goals as goal

pub append_sync_point-requires-clause-pad : goal.append_sync_point-requires-clause-pad
append_sync_point-requires-clause-pad c = is_pad_change c.args.pad.now c.requires

pub append_sync_point-requires-clause-short : goal.append_sync_point-requires-clause-short
append_sync_point-requires-clause-short c = is_short c.sent.inside.unit c.args.pad.now c.requires
