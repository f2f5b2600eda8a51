use Rattle.std.proofs.Common.{sym, None}
use Rattle.seg_store.specs.ChangedSlots.{stored}
use Rattle.checkpointing.proofs.Present.{image_is, image_short}
use Rattle.checkpointing.proofs.touches.present_rows.Goals as goal

pub returns-in-None-clause-value : goal.returns-in-None-clause-value
returns-in-None-clause-value c =
    sym (image_is c.args.stores.now.stores c.args.db c.args.slot (stored c.store.result.now) None c.store.ensures.stored_is (sym c.in-None.ensures.value))

pub returns-in-None-clause-short : goal.returns-in-None-clause-short
returns-in-None-clause-short c =
    image_short c.args.stores.now.stores c.args.db c.args.slot (stored c.store.result.now) c.requires.few_sectors c.store.ensures.stored_is c.in-None.ensures.valid
