use Rattle.image_loading.proofs.SlotsRead.{rows_slot}
use Rattle.image_loading.proofs.reading.slot_image.Goals as goal

pub returns-in-Ok-clause-slot : goal.returns-in-Ok-clause-slot
returns-in-Ok-clause-slot c = rows_slot c.args.dbd.now c.as_slice-types.ensures.valid c.args.bytes.now c.in-Ok.rows c.in-Ok.ensures
