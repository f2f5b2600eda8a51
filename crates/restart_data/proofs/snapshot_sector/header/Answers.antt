use Rattle.restart_data.proofs.Numbers.{snapshot_header_is}
use Rattle.restart_data.proofs.snapshot_sector.header.Goals as goal

pub returns : goal.returns
returns c =
    snapshot_header_is c.to_be_bytes-c.result c.to_be_bytes-p.result c.to_be_bytes-u.result c.args.checkpoint c.args.place c.args.used
    c.to_be_bytes-c.ensures c.to_be_bytes-p.ensures c.to_be_bytes-u.ensures
