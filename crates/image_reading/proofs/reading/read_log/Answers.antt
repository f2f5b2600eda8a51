use Rattle.std.proofs.Common.{◌+◌, refl, arith}
use Rattle.image_reading.specs.declared.reading.ReadLog.{ReadLog}
use Rattle.image_reading.proofs.Logs.{log_of}
use Rattle.image_reading.proofs.reading.read_log.Goals as goal

pub returns-clause-cut : goal.returns-clause-cut
returns-clause-cut g c =
    let cut = c.in-Ok-cut_log.ensures in
    record { bytes = c.as_slice.result.now; are = cut.bytes; cut = record { all = cut.records; decided = cut.decided } }

pub returns-clause-value : goal.returns-clause-value
returns-clause-value g c tells =
    let cut = c.in-Ok-cut_log.ensures in
    let area = c.in-Ok.area in
    let read : ReadLog = record { records = c.in-Ok-cut_log.log.0; is_cut_off = c.in-Ok-cut_log.log.1; next_sequence = c.args.restart.now.sequence + c.from.result; later = area.later } in
    log_of c.args.system.now c.args.restart.now (g.D.Disk.state c.args.disk.now).shown c.logs-logs.result c.log_first-first.result c.logs-logs.ensures.value c.log_first-first.ensures.value area read c.as_slice.result.now (c.in-Ok.ensures.value tells) c.as_slice.ensures
    (record { all = cut.records; decided = cut.decided }) (omega (arith, c.from.ensures)) refl
