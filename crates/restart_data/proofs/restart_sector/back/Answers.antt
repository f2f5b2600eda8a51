use Rattle.restart_data.proofs.Numbers.{restart_back_is}
use Rattle.restart_data.proofs.restart_sector.back.Goals as goal

pub returns : goal.returns
returns c =
    restart_back_is c.to_be_bytes-n.result c.to_be_bytes-s.result c.to_be_bytes-c.result c.to_be_bytes-t.result c.args.sectors c.args.sequence c.args.checkpoint c.args.text
    c.to_be_bytes-n.ensures c.to_be_bytes-s.ensures c.to_be_bytes-c.ensures c.to_be_bytes-t.ensures
