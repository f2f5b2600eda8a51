use Rattle.std.proofs.Common.{sym}
use Rattle.image_loading.proofs.Built.{no_root, none_new}
use Rattle.image_loading.proofs.building.add.Goals as goal

pub returns-in_default-clause-slots : goal.returns-in_default-clause-slots
returns-in_default-clause-slots c = none_new c.args.number c.args.image c.args.store.now.slots c.requires.free (no_root c.args.store.now.dbd c.args.image c.requires.slot (sym c.in_default.ensures))
