use Rattle.std.proofs.Common.{refl}
use Rattle.message_run.proofs.NextTold.{tells_nothing}
use Rattle.region_work.proofs.region.advance.Goals as goal

pub returns-in_default-clause-tells : goal.returns-in_default-clause-tells
returns-in_default-clause-tells c =
    rw c.in_default.is (tells_nothing c.args.telling.now.unit c.args.telling.now.room c.args.region c.args.tables.now.databases c.args.tables.now.databases c.args.telling.now.told.items refl)
