use Rattle.image_records.proofs.Named.{named_empty}
use Rattle.image_records.proofs.telling.tell_all.Goals as goal

pub tell_behind-requires : goal.tell_behind-requires
tell_behind-requires c = named_empty c.args.system.now c.in_ok-empty.empty c.in_ok-empty.ensures
