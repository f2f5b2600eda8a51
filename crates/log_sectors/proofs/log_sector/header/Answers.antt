use Rattle.log_sectors.proofs.Sealing.{header_is}
use Rattle.log_sectors.proofs.log_sector.header.Goals as goal

pub returns : goal.returns
returns c = header_is c.to_be_bytes-e.result c.to_be_bytes-s.result c.to_be_bytes-u.result c.args.epoch c.args.sequence c.args.used c.to_be_bytes-e.ensures c.to_be_bytes-s.ensures c.to_be_bytes-u.ensures
