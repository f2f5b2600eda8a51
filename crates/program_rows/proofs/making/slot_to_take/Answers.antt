use Rattle.std.proofs.Common.{◌<◌, ◌≤◌, length, refl, sym, subst}
use Rattle.model_data.specs.Record.{rows_spelling, record_limit}
use Rattle.seg_rows.proofs.Kept.{passed}
use Rattle.seg_store.specs.Slots.{AreSlots}
use Rattle.program_rows.proofs.Limits.{past_slots, past_length, within_limits}
use Rattle.program_rows.proofs.making.slot_to_take.Goals as goal

pub returns-then-not-fits-clause-refused : goal.returns-then-not-fits-clause-refused
returns-then-not-fits-clause-refused c =
    let valid : AreSlots c.args.dbd.now c.args.store.now.slots = subst (λ d. AreSlots d c.args.store.now.slots) c.requires.database c.slot_for.ensures.valid in
    let long : record_limit c.args.dbd.now < length (rows_spelling c.args.edit.now.image) =
    subst (λ n. n < length (rows_spelling c.args.edit.now.image)) c.record_limit.ensures (passed c.fits.result _ _ c.fits.ensures c.if-not-fits.true) in
    past_length c.args.dbd.now c.args.store.now.slots valid c.args.edit.now.root c.args.edit.now.image c.in-Some.slot (sym c.in-Some.ensures.value) long

pub returns-in-None-clause-refused : goal.returns-in-None-clause-refused
returns-in-None-clause-refused c =
    let valid : AreSlots c.args.dbd.now c.args.store.now.slots = subst (λ d. AreSlots d c.args.store.now.slots) c.requires.database c.slot_for.ensures.valid in
    past_slots c.args.dbd.now c.args.store.now.slots valid c.args.edit.now.root c.args.edit.now c.requires.there refl (sym c.in-None.ensures.value)

pub returns-else-not-fits-clause-accepted : goal.returns-else-not-fits-clause-accepted
returns-else-not-fits-clause-accepted c =
    let valid : AreSlots c.args.dbd.now c.args.store.now.slots = subst (λ d. AreSlots d c.args.store.now.slots) c.requires.database c.slot_for.ensures.valid in
    let fits : length (rows_spelling c.args.edit.now.image) ≤ record_limit c.args.dbd.now =
    subst (λ n. length (rows_spelling c.args.edit.now.image) ≤ n) c.record_limit.ensures (c.fits.ensures.0 c.if-not-fits.false) in
    within_limits c.args.dbd.now c.args.store.now.slots valid c.args.edit.now.root c.args.edit.now.image c.in-Some.slot (sym c.in-Some.ensures.value) fits
