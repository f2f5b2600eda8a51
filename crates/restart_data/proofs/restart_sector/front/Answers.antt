use Rattle.restart_data.proofs.Numbers.{restart_front_is}
use Rattle.restart_data.proofs.restart_sector.front.Goals as goal

pub returns : goal.returns
returns c = restart_front_is c.to_be_bytes-e.result c.args.epoch c.args.snapshot c.args.log c.to_be_bytes-e.ensures
