use Rattle.log_records.specs.declared.record.Record.TheVariants as told
use Rattle.seg_store.specs.ChangedSlots.{stored}
use Rattle.program_rows.proofs.Setting.{is_stored}
use Rattle.program_rows.proofs.Placing.{slot_within, short_before, short_after}
use Rattle.program_rows.proofs.making.tell_and_set.Goals as goal

pub store-store-requires-clause-most : goal.store-store-requires-clause-most
store-store-requires-clause-most c = is_stored c.args.asked.now.number c.args.opened.now.stores.stores c.args.dbd.now c.requires.first c.requires.database

pub image_in-before-requires : goal.image_in-before-requires
image_in-before-requires c =
    slot_within c.args.opened.now.stores.stores c.args.asked.now.number c.args.slot c.args.edit c.args.dbd.now c.requires.database c.requires.takes c.requires.sectors (stored c.store-store.result.now)
    c.store-store.ensures.stored_is

pub tell-requires-clause-before : goal.tell-requires-clause-before
tell-requires-clause-before c =
    short_before c.args.opened.now.stores.stores c.args.asked.now.number c.args.slot c.args.edit c.args.dbd.now c.requires.database c.requires.takes c.requires.sectors (stored c.store-store.result.now)
    c.store-store.ensures.stored_is c.image_in-before.result.now c.image_in-before.ensures

pub tell-requires-clause-after : goal.tell-requires-clause-after
tell-requires-clause-after c =
    short_after c.args.opened.now.stores.stores c.args.asked.now.number c.args.slot c.args.edit c.args.dbd.now c.requires.database c.requires.takes c.requires.sectors (stored c.store-store.result.now)
    c.store-store.ensures.stored_is

pub set-requires-clause-last : goal.set-requires-clause-last
set-requires-clause-last c = is_stored c.args.asked.now.number c.args.opened.now.stores.stores c.args.dbd.now c.requires.first c.requires.database
