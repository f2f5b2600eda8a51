use Rattle.std.proofs.Common.{◌≡◌, ◌+◌, ◌-◌, ◌*◌, ◌^◌, ◌<◌, take, sym, ◌∙◌, ap, subst, arith}
use Rattle.std.specs.Prelude.{map}
use Rattle.std.specs.List.{slice_get}
use Rattle.std.proofs.lemmas.Option.{get_or_from_slice_get}
use Rattle.seg_store.specs.ChangedSlots.{Kept, stored, AllStores}
use Rattle.seg_store.specs.WrittenSlots.{kept_sectors, sector_count}
use Rattle.seg_store.specs.OneSlot.{slot_sector, IsSlotPlace}
use Rattle.seg_store.proofs.WritingBack.{slots_seen}
use Rattle.seg_store.proofs.OneSlot.{place_in, sector_at_place, sector_below}
use Rattle.seg_store.proofs.stores.Stores.slot_sector.Goals as goal

pub overflow_mul-result : goal.overflow_mul-result
overflow_mul-result c =
    let kept = c.self.inside.items.items in
    let there : IsSlotPlace c.args.place (map stored kept) = subst (λ (a : AllStores). IsSlotPlace c.args.place a.stores) (sym c.self.view_is) c.requires.there in
    let p = place_in kept c.args.place there in
    let place : c.from-database.result - 1 ≡ c.args.place.db - 1 = omega (arith, c.from-database.ensures) in
    let indexed : c.index.result.now ≡ p.one = c.index.ensures ∙ get_or_from_slice_get kept (c.from-database.result - 1) p.one _ (ap (slice_get kept) place ∙ p.found) in
    let sectors : c.slot_sectors.result ≡ p.one.dbd.sectors = c.slot_sectors.ensures ∙ ap (λ (k : Kept). k.dbd.sectors) indexed in
    let product : c.from.result * c.slot_sectors.result ≡ c.args.place.slot * p.one.dbd.sectors = λ j. c.from.ensures j * sectors j in
    let front : c.area_first.result ≡ c.args.first + kept_sectors (take (c.args.place.db - 1) kept) = c.area_first.ensures ∙ ap (λ n. c.args.first + kept_sectors (take n kept)) place in
    let small : c.args.first + kept_sectors kept < 2 ^ 32 = subst (λ n. c.args.first + n < 2 ^ 32) (sym (slots_seen kept ∙ ap (λ (a : AllStores). sector_count a.stores) c.self.view_is)) c.requires.small in
    let below = sector_below kept c.args.place p.one p.found p.below in
    omega (arith, product, below, small)

pub overflow_add-result : goal.overflow_add-result
overflow_add-result c =
    let kept = c.self.inside.items.items in
    let there : IsSlotPlace c.args.place (map stored kept) = subst (λ (a : AllStores). IsSlotPlace c.args.place a.stores) (sym c.self.view_is) c.requires.there in
    let p = place_in kept c.args.place there in
    let place : c.from-database.result - 1 ≡ c.args.place.db - 1 = omega (arith, c.from-database.ensures) in
    let indexed : c.index.result.now ≡ p.one = c.index.ensures ∙ get_or_from_slice_get kept (c.from-database.result - 1) p.one _ (ap (slice_get kept) place ∙ p.found) in
    let sectors : c.slot_sectors.result ≡ p.one.dbd.sectors = c.slot_sectors.ensures ∙ ap (λ (k : Kept). k.dbd.sectors) indexed in
    let product : c.from.result * c.slot_sectors.result ≡ c.args.place.slot * p.one.dbd.sectors = λ j. c.from.ensures j * sectors j in
    let front : c.area_first.result ≡ c.args.first + kept_sectors (take (c.args.place.db - 1) kept) = c.area_first.ensures ∙ ap (λ n. c.args.first + kept_sectors (take n kept)) place in
    let small : c.args.first + kept_sectors kept < 2 ^ 32 = subst (λ n. c.args.first + n < 2 ^ 32) (sym (slots_seen kept ∙ ap (λ (a : AllStores). sector_count a.stores) c.self.view_is)) c.requires.small in
    let below = sector_below kept c.args.place p.one p.found p.below in
    omega (arith, product, front, below, small)

pub returns : goal.returns
returns c =
    let kept = c.self.inside.items.items in
    let there : IsSlotPlace c.args.place (map stored kept) = subst (λ (a : AllStores). IsSlotPlace c.args.place a.stores) (sym c.self.view_is) c.requires.there in
    let p = place_in kept c.args.place there in
    let place : c.from-database.result - 1 ≡ c.args.place.db - 1 = omega (arith, c.from-database.ensures) in
    let indexed : c.index.result.now ≡ p.one = c.index.ensures ∙ get_or_from_slice_get kept (c.from-database.result - 1) p.one _ (ap (slice_get kept) place ∙ p.found) in
    let sectors : c.slot_sectors.result ≡ p.one.dbd.sectors = c.slot_sectors.ensures ∙ ap (λ (k : Kept). k.dbd.sectors) indexed in
    let product : c.from.result * c.slot_sectors.result ≡ c.args.place.slot * p.one.dbd.sectors = λ j. c.from.ensures j * sectors j in
    let front : c.area_first.result ≡ c.args.first + kept_sectors (take (c.args.place.db - 1) kept) = c.area_first.ensures ∙ ap (λ n. c.args.first + kept_sectors (take n kept)) place in
    (λ j. front j + product j)
    ∙ (sym (sector_at_place kept c.args.place p.one p.found c.args.first)
    ∙ ap (λ (a : AllStores). slot_sector c.args.first c.args.place a.stores) c.self.view_is)
