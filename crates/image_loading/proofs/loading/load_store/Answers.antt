use Rattle.std.proofs.Common.{sym, ◌∙◌, subst}
use Rattle.image_loading.specs.LoadedStore.{image_slots_in}
use Rattle.image_loading.specs.ReadSlots.{AreRead}
use Rattle.image_loading.proofs.StoreLoaded.{shared_is, load_value}
use Rattle.image_loading.proofs.loading.load_store.Goals as goal

pub returns-in-None-clause-value : goal.returns-in-None-clause-value
returns-in-None-clause-value g c tells =
    let old = g.D.Disk.state c.args.disk.now in
    let read : AreRead (image_slots_in old.shown c.args.dbd.now c.args.first c.args.given.now) c.in-Ok.read =
    subst (λ given. AreRead (image_slots_in old.shown c.args.dbd.now c.args.first given) c.in-Ok.read) c.as_slice.ensures.value (c.in-Ok.ensures.value tells) in
    load_value c.build.result (image_slots_in old.shown c.args.dbd.now c.args.first c.args.given.now) c.in-Ok.read.images.items c.args.dbd.now.sectors c.args.first read.right (sym c.in-None.is ∙ read.broken) read.each
    (shared_is old.shown c.args.dbd.now c.args.first c.args.given.now) c.build.ensures.slots c.build.ensures.alone c.build.ensures.shared
