use Rattle.std.proofs.Common.{◌≡◌, ◌∷◌, ◌++◌, [], List, None, Err, sym, ◌∙◌, subst, IsTrue}
use Rattle.tm_types.specs.declared.dbd.Dbd.{Dbd}
use Rattle.model_image.specs.Slots.{SlotOnImage, slot_fault}
use Rattle.image_loading.specs.LoadedStore.{image_slots_in, TellsSlots}
use Rattle.image_loading.specs.LoadedStores.{AreAllMade, AreSlotted}
use Rattle.image_loading.proofs.Adding.{made_more, slotted_more, good_more, bad_more, with_ok}
use Rattle.image_loading.proofs.databases.add.Goals as goal

pub returns-in-Ok-clause-made : goal.returns-in-Ok-clause-made
returns-in-Ok-clause-made g c =
    let old = c.args.loaded.now in
    let new = c.push.new.loaded in
    with_ok c.push.result (new.stores ≡ old.stores ++ c.in-Ok.store ∷ [])
    ((dbds : List Dbd) → (old.broken ≡ None → AreAllMade dbds old.stores) → new.broken ≡ None → AreAllMade (dbds ++ c.args.dbd.now ∷ []) new.stores)
    c.push.ensures.stores
    (λ stores dbds made none.
    subst (λ l. AreAllMade (dbds ++ c.args.dbd.now ∷ []) l) (sym stores)
    (made_more dbds old.stores c.args.dbd.now c.in-Ok.store (made (sym c.push.ensures.broken ∙ none)) c.in-Ok.ensures.made))

pub returns-in-Ok-clause-value : goal.returns-in-Ok-clause-value
returns-in-Ok-clause-value g c =
    let old = c.args.loaded.now in
    let new = c.push.new.loaded in
    let disk = g.D.Disk.state c.args.disk.now in
    let slots = image_slots_in disk.shown c.args.dbd.now c.args.first c.args.given.now in
    with_ok c.push.result (new.stores ≡ old.stores ++ c.in-Ok.store ∷ [])
    (IsTrue disk.tells → (databases : List (List SlotOnImage)) → old.broken ≡ slot_fault databases → new.broken ≡ slot_fault (databases ++ slots ∷ []))
    c.push.ensures.stores
    (λ stores tells databases is. good_more databases slots old.broken new.broken c.push.ensures.broken is (c.in-Ok.ensures.value tells).good)

pub returns-in-Ok-clause-slotted : goal.returns-in-Ok-clause-slotted
returns-in-Ok-clause-slotted g c =
    let old = c.args.loaded.now in
    let new = c.push.new.loaded in
    let disk = g.D.Disk.state c.args.disk.now in
    let slots = image_slots_in disk.shown c.args.dbd.now c.args.first c.args.given.now in
    with_ok c.push.result (new.stores ≡ old.stores ++ c.in-Ok.store ∷ [])
    (IsTrue disk.tells → (databases : List (List SlotOnImage)) → (old.broken ≡ None → AreSlotted databases old.stores) → new.broken ≡ None → AreSlotted (databases ++ slots ∷ []) new.stores)
    c.push.ensures.stores
    (λ stores tells databases are none.
    subst (λ l. AreSlotted (databases ++ slots ∷ []) l) (sym stores)
    (slotted_more databases old.stores slots c.in-Ok.store (are (sym c.push.ensures.broken ∙ none)) (c.in-Ok.ensures.value tells).each))

pub returns-in-Err-Bad-clause-value : goal.returns-in-Err-Bad-clause-value
returns-in-Err-Bad-clause-value g c tells databases is =
    let disk = g.D.Disk.state c.args.disk.now in
    let slots = image_slots_in disk.shown c.args.dbd.now c.args.first c.args.given.now in
    bad_more databases slots c.args.loaded.now.broken c.breaks.new.loaded.broken (c.in-Err-Bad.rule, c.in-Err-Bad.sector) c.breaks.ensures is
    (subst (λ fault. TellsSlots (Err fault) slots) c.in-Err-Bad.field-0-is (c.in-Err-Bad.ensures.value tells))
