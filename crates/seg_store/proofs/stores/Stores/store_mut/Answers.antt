use Rattle.std.proofs.Common.{◌≡◌, ◌<◌, length, arith, refl, sym, ap, ◌∙◌, subst, Some, ◌-◌}
use Rattle.std.proofs.lemmas.Option.{slice_get-get_or}
use Rattle.std.proofs.lemmas.List.{length-map}
use Rattle.seg_store.specs.ChangedSlots.{AllStores, stored}
use Rattle.seg_store.specs.Stores.{IsStoreOf, with_store}
use Rattle.seg_store.proofs.AllStores.{one_set, one_of}
use Rattle.seg_store.proofs.stores.Stores.store_mut.Goals as goal

pub returns : goal.returns
returns c =
    let count : length c.args.self.now.stores ≡ length c.self.inside.items.items =
    ap (λ (all : AllStores). length all.stores) (sym c.self.view_is) ∙ length-map c.self.inside.items.items stored in
    let inside : c.args.db - 1 < length c.self.inside.items.items = omega (arith, c.requires.least, c.requires.most, count) in (
      (refl, λ w. one_set c.self.inside.items.items c.args.db w ∙ ap (λ all. with_store all c.args.db w) c.self.view_is),
      record {
        value = subst (λ (all : AllStores). IsStoreOf all c.args.db c.index_mut.result.now) c.self.view_is (one_of c.self.inside.items.items c.args.db c.index_mut.result.now (slice_get-get_or c.self.inside.items.items (c.args.db - 1) c.index_mut.result.now inside ∙ ap Some (sym c.index_mut.ensures.value)));
        writes_back = tt;
      },
    )
