use Rattle.std.proofs.Common.{sym, ap}
use Rattle.seg_store.specs.Slots.{with_rows}
use Rattle.image_loading.proofs.Copying.{none_at}
use Rattle.image_loading.proofs.rows.add_slot.Goals as goal

pub returns-in-None-clause-rows : goal.returns-in-None-clause-rows
returns-in-None-clause-rows c =
    ap (λ image. with_rows image c.args.rows.now.rows) (sym (none_at c.args.store.now.slots c.args.number (sym c.in-None.ensures.value)))
