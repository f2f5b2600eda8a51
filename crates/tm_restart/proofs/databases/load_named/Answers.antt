use Rattle.std.proofs.Common.{length, sym, ◌∙◌, ap, subst}
use Rattle.model_image.specs.Slots.{all_slots, slot_fault}
use Rattle.image_loading.specs.Databases.{slots_of_databases, AreImages}
use Rattle.image_loading.specs.LoadedStores.{AreSlotted}
use Rattle.image_reading.specs.NamedBytes.{AreNamedBytes}
use Rattle.tm_restart.proofs.NamedSlots.{given_images, databases_are, same_fault, same_count}
use Rattle.tm_restart.proofs.databases.load_named.Goals as goal

pub load_all-requires-clause-images : goal.load_all-requires-clause-images
load_all-requires-clause-images g c =
    subst (λ l. AreImages c.args.system.now l) (sym c.deref.ensures.value) (given_images c.args.system.now _ c.args.named.now c.in-Ok.given.items c.requires.images c.in-Ok.ensures)

pub returns-in-Ok-load_all-clause-value : goal.returns-in-Ok-load_all-clause-value
returns-in-Ok-load_all-clause-value g c tells snapshot log are =
    let system = c.args.system.now in
    let image = (g.D.Disk.state c.args.disk.now).shown in
    let given = c.deref.result.now in
    let bytes : AreNamedBytes (length system.databases) c.args.named.now given = subst (λ l. AreNamedBytes (length system.databases) c.args.named.now l) (sym c.deref.ensures.value) (same_count _ (length system.databases) c.args.named.now c.in-Ok.given.items (ap length c.databases.ensures.value) c.in-Ok.ensures) in
    let same = databases_are system image c.args.named.now given snapshot log bytes are in
    let told = c.in-Ok-load_all.ensures.value tells in
    (ap slot_fault (sym same) ∙ told.0, subst (λ l. AreSlotted l c.in-Ok-load_all.loaded.stores) same told.1)

pub returns-in-Err-clause-value : goal.returns-in-Err-clause-value
returns-in-Err-clause-value g c tells snapshot log are =
    let system = c.args.system.now in
    let image = (g.D.Disk.state c.args.disk.now).shown in
    let given = c.deref.result.now in
    let bytes : AreNamedBytes (length system.databases) c.args.named.now given = subst (λ l. AreNamedBytes (length system.databases) c.args.named.now l) (sym c.deref.ensures.value) (same_count _ (length system.databases) c.args.named.now c.in-Ok.given.items (ap length c.databases.ensures.value) c.in-Ok.ensures) in
    same_fault c.in-Err.fault (slots_of_databases system image given 0 system.databases) (all_slots system image snapshot log 0 system.databases) (databases_are system image c.args.named.now given snapshot log bytes are) (c.in-Err.ensures.value tells)
