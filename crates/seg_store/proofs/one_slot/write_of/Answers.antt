use Rattle.std.proofs.Common.{◌≡◌, ◌+◌, ◌-◌, ◌≤◌, [], ◌∷◌, take, ◌∙◌, ap, arith, Some, IsTrue}
use Rattle.std.specs.List.{slice_get}
use Rattle.seg_store.specs.ChangedSlots.{Kept, all_stores}
use Rattle.seg_store.specs.DataSectors.{pieces_of, bytes_of_slots, HasPut, PutsFront}
use Rattle.seg_store.specs.WrittenSlots.{kept_sectors, changed_bytes}
use Rattle.seg_store.specs.OneSlot.{only_changed}
use Rattle.seg_store.proofs.WritingBack.{slots_within, all_at, on_ok}
use Rattle.seg_store.proofs.OneSlot.{place_in, sectors_at, within_one, follows_one, has_one, front_one, on_err}
use Rattle.seg_store.proofs.one_slot.write_of.Goals as goal

pub write_at-requires-clause-area : goal.write_at-requires-clause-area
write_at-requires-clause-area g c one found =
    omega (arith, c.area_first-at.ensures, slots_within c.args.stores.now.items (c.from-database.result - 1) one found, c.requires.area)

pub write_at-requires-clause-sectors : goal.write_at-requires-clause-sectors
write_at-requires-clause-sectors g c one found = all_at (λ (k : Kept). k.dbd.sectors ≤ 8) c.args.stores.now.items (c.from-database.result - 1) one c.requires.sectors found

pub returns-clause-any_moment : goal.returns-clause-any_moment
returns-clause-any_moment g c =
    let kept = c.args.stores.now.items in
    let p = place_in kept c.args.place c.requires.there in
    let same : c.from-database.result - 1 ≡ c.args.place.db - 1 = omega (arith, c.from-database.ensures) in
    let found : slice_get kept (c.from-database.result - 1) ≡ Some p.one = ap (slice_get kept) same ∙ p.found in
    let at_is : c.area_first-at.result ≡ c.args.first + kept_sectors (take (c.args.place.db - 1) kept) = c.area_first-at.ensures ∙ ap (λ n. c.args.first + kept_sectors (take n kept)) same in
    let old = g.D.Disk.state c.args.disk.now in
    let new = g.D.Disk.state c.write_at.new.disk in
    within_one c.args.first kept c.args.place p.one p.found c.area_first-at.result at_is old new (c.write_at.ensures.any_moment p.one found)

pub returns-clause-follows : goal.returns-clause-follows
returns-clause-follows g c =
    let kept = c.args.stores.now.items in
    let p = place_in kept c.args.place c.requires.there in
    let same : c.from-database.result - 1 ≡ c.args.place.db - 1 = omega (arith, c.from-database.ensures) in
    let found : slice_get kept (c.from-database.result - 1) ≡ Some p.one = ap (slice_get kept) same ∙ p.found in
    let at_is : c.area_first-at.result ≡ c.args.first + kept_sectors (take (c.args.place.db - 1) kept) = c.area_first-at.ensures ∙ ap (λ n. c.args.first + kept_sectors (take n kept)) same in
    let old = g.D.Disk.state c.args.disk.now in
    let new = g.D.Disk.state c.write_at.new.disk in
    follows_one c.args.first kept c.args.place p.one p.found c.area_first-at.result at_is old new (c.write_at.ensures.follows p.one found)

pub returns-clause-shown : goal.returns-clause-shown
returns-clause-shown g c =
    let kept = c.args.stores.now.items in
    let p = place_in kept c.args.place c.requires.there in
    let same : c.from-database.result - 1 ≡ c.args.place.db - 1 = omega (arith, c.from-database.ensures) in
    let found : slice_get kept (c.from-database.result - 1) ≡ Some p.one = ap (slice_get kept) same ∙ p.found in
    let at_is : c.area_first-at.result ≡ c.args.first + kept_sectors (take (c.args.place.db - 1) kept) = c.area_first-at.ensures ∙ ap (λ n. c.args.first + kept_sectors (take n kept)) same in
    let old = g.D.Disk.state c.args.disk.now in
    let new = g.D.Disk.state c.write_at.new.disk in
    on_ok c.write_at.result (IsTrue old.tells → HasPut c.area_first-at.result (pieces_of p.one.dbd.sectors (bytes_of_slots p.one.slots (c.args.place.slot ∷ []))) old.shown new.shown)
    (IsTrue old.tells → HasPut c.args.first (changed_bytes (only_changed c.args.place (all_stores kept))) old.shown new.shown)
    (λ has tells. has_one c.args.first kept c.args.place p.one p.found c.area_first-at.result at_is old.shown new.shown (has tells)) (c.write_at.ensures.shown p.one found)

pub returns-clause-ascending : goal.returns-clause-ascending
returns-clause-ascending g c =
    let kept = c.args.stores.now.items in
    let p = place_in kept c.args.place c.requires.there in
    let same : c.from-database.result - 1 ≡ c.args.place.db - 1 = omega (arith, c.from-database.ensures) in
    let found : slice_get kept (c.from-database.result - 1) ≡ Some p.one = ap (slice_get kept) same ∙ p.found in
    let at_is : c.area_first-at.result ≡ c.args.first + kept_sectors (take (c.args.place.db - 1) kept) = c.area_first-at.ensures ∙ ap (λ n. c.args.first + kept_sectors (take n kept)) same in
    let old = g.D.Disk.state c.args.disk.now in
    let new = g.D.Disk.state c.write_at.new.disk in
    on_err c.write_at.result (IsTrue old.tells → PutsFront c.area_first-at.result (pieces_of p.one.dbd.sectors (bytes_of_slots p.one.slots (c.args.place.slot ∷ []))) old.shown new.shown)
    (IsTrue old.tells → PutsFront c.args.first (changed_bytes (only_changed c.args.place (all_stores kept))) old.shown new.shown)
    (λ puts tells. front_one c.args.first kept c.args.place p.one p.found c.area_first-at.result at_is old.shown new.shown (puts tells)) (c.write_at.ensures.ascending p.one found)

pub returns-clause-writes : goal.returns-clause-writes
returns-clause-writes g c =
    let kept = c.args.stores.now.items in
    let p = place_in kept c.args.place c.requires.there in
    let same : c.from-database.result - 1 ≡ c.args.place.db - 1 = omega (arith, c.from-database.ensures) in
    let found : slice_get kept (c.from-database.result - 1) ≡ Some p.one = ap (slice_get kept) same ∙ p.found in
    let at_is : c.area_first-at.result ≡ c.args.first + kept_sectors (take (c.args.place.db - 1) kept) = c.area_first-at.ensures ∙ ap (λ n. c.args.first + kept_sectors (take n kept)) same in
    let old = g.D.Disk.state c.args.disk.now in
    let new = g.D.Disk.state c.write_at.new.disk in
    omega (arith, c.write_at.ensures.writes p.one found, sectors_at kept c.args.place p.one p.found)
