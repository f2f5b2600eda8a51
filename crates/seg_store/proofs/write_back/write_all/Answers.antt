use Rattle.std.proofs.Common.{◌≡◌, ◌*◌, ◌<◌, ◌≤◌, length, sym, ◌∙◌, ap, subst, arith, IsTrue}
use Rattle.std.proofs.lemmas.Option.{get_or_from_slice_get}
use Rattle.tm_disk.proofs.Words.{stays_on}
use Rattle.seg_store.specs.ChangedSlots.{Kept}
use Rattle.seg_store.proofs.WritingBack.{found_at, all_at, slots_within, count_within, sum_more, next_within, next_follows, next_front, next_has}
use Rattle.seg_store.proofs.write_back.write_all.Goals as goal

pub write_one-requires-clause-area : goal.write_one-requires-clause-area
write_one-requires-clause-area g c one found =
    let kept = c.args.stores.now.items in
    let i = c.loop-place.place in
    let inv = c.loop-place.invariant in
    let lt : i < length kept = omega (arith, c.loop-place-test.true, c.len-place-end.ensures, c.args.stores.now.ok) in
    let f = found_at kept i lt in
    omega (arith, inv.at, inv.stays.size, c.requires.area, slots_within kept i one found)

pub write_one-requires-clause-sectors : goal.write_one-requires-clause-sectors
write_one-requires-clause-sectors g c one found =
    let kept = c.args.stores.now.items in
    let i = c.loop-place.place in
    let inv = c.loop-place.invariant in
    let lt : i < length kept = omega (arith, c.loop-place-test.true, c.len-place-end.ensures, c.args.stores.now.ok) in
    let f = found_at kept i lt in
    all_at (λ (k : Kept). k.dbd.sectors ≤ 8) kept i one c.requires.sectors found

pub overflow_add-count : goal.overflow_add-count
overflow_add-count g c =
    let kept = c.args.stores.now.items in
    let i = c.loop-place.place in
    let inv = c.loop-place.invariant in
    let lt : i < length kept = omega (arith, c.loop-place-test.true, c.len-place-end.ensures, c.args.stores.now.ok) in
    let f = found_at kept i lt in
    let disk = g.met.D.Disk.is_disk c.args.disk.now in
    omega (arith, inv.count, inv.few, c.in-Ok.ensures.count f.one f.is, c.write_one.ensures.few f.one f.is, slots_within kept i f.one f.is, c.requires.area, disk.size_fits)

pub overflow_add-at : goal.overflow_add-at
overflow_add-at g c =
    let kept = c.args.stores.now.items in
    let i = c.loop-place.place in
    let inv = c.loop-place.invariant in
    let lt : i < length kept = omega (arith, c.loop-place-test.true, c.len-place-end.ensures, c.args.stores.now.ok) in
    let f = found_at kept i lt in
    let indexed : c.index.result.now ≡ f.one = c.index.ensures ∙ get_or_from_slice_get c.args.stores.now.items i f.one _ f.is in
    let area : c.sectors-area.result ≡ f.one.dbd.roots * f.one.dbd.sectors = c.sectors-area.ensures ∙ ap (λ (k : Kept). k.dbd.roots * k.dbd.sectors) indexed in
    let disk = g.met.D.Disk.is_disk c.args.disk.now in
    omega (arith, inv.at, area, slots_within kept i f.one f.is, c.requires.area, disk.size_fits)

pub returns-in-Err-clause-any_moment : goal.returns-in-Err-clause-any_moment
returns-in-Err-clause-any_moment g c =
    let kept = c.args.stores.now.items in
    let i = c.loop-place.place in
    let inv = c.loop-place.invariant in
    let lt : i < length kept = omega (arith, c.loop-place-test.true, c.len-place-end.ensures, c.args.stores.now.ok) in
    let f = found_at kept i lt in
    let old = g.D.Disk.state c.args.disk.now in
    let mid = g.D.Disk.state c.loop-place.disk in
    let new = g.D.Disk.state c.write_one.new.disk in
    next_within c.args.first kept i f.one f.is c.loop-place.at inv.at old mid new inv.within inv.follows (c.write_one.ensures.any_moment f.one f.is)

pub returns-in-Err-clause-follows : goal.returns-in-Err-clause-follows
returns-in-Err-clause-follows g c =
    let kept = c.args.stores.now.items in
    let i = c.loop-place.place in
    let inv = c.loop-place.invariant in
    let lt : i < length kept = omega (arith, c.loop-place-test.true, c.len-place-end.ensures, c.args.stores.now.ok) in
    let f = found_at kept i lt in
    let old = g.D.Disk.state c.args.disk.now in
    let mid = g.D.Disk.state c.loop-place.disk in
    let new = g.D.Disk.state c.write_one.new.disk in
    next_follows c.args.first kept i f.one f.is c.loop-place.at inv.at old mid new inv.follows (c.write_one.ensures.follows f.one f.is)

pub returns-in-Err-clause-ascending : goal.returns-in-Err-clause-ascending
returns-in-Err-clause-ascending g c =
    let kept = c.args.stores.now.items in
    let i = c.loop-place.place in
    let inv = c.loop-place.invariant in
    let lt : i < length kept = omega (arith, c.loop-place-test.true, c.len-place-end.ensures, c.args.stores.now.ok) in
    let f = found_at kept i lt in
    let old = g.D.Disk.state c.args.disk.now in
    let mid = g.D.Disk.state c.loop-place.disk in
    let new = g.D.Disk.state c.write_one.new.disk in
    λ tells. next_front c.args.first kept i f.one f.is c.loop-place.at inv.at old.shown mid.shown new.shown (inv.shown tells) (c.in-Err.ensures.ascending f.one f.is (subst (λ b. IsTrue b) (sym inv.stays.tells) tells))

pub returns-in-Err-clause-writes : goal.returns-in-Err-clause-writes
returns-in-Err-clause-writes g c =
    let kept = c.args.stores.now.items in
    let i = c.loop-place.place in
    let inv = c.loop-place.invariant in
    let lt : i < length kept = omega (arith, c.loop-place-test.true, c.len-place-end.ensures, c.args.stores.now.ok) in
    let f = found_at kept i lt in
    omega (arith, inv.writes, c.write_one.ensures.writes f.one f.is, count_within kept i f.one f.is)

pub loop-place-preserved : goal.loop-place-preserved
loop-place-preserved g c =
    let kept = c.args.stores.now.items in
    let i = c.loop-place.place in
    let inv = c.loop-place.invariant in
    let lt : i < length kept = omega (arith, c.loop-place-test.true, c.len-place-end.ensures, c.args.stores.now.ok) in
    let f = found_at kept i lt in
    let indexed : c.index.result.now ≡ f.one = c.index.ensures ∙ get_or_from_slice_get c.args.stores.now.items i f.one _ f.is in
    let area : c.sectors-area.result ≡ f.one.dbd.roots * f.one.dbd.sectors = c.sectors-area.ensures ∙ ap (λ (k : Kept). k.dbd.roots * k.dbd.sectors) indexed in
    let old = g.D.Disk.state c.args.disk.now in
    let mid = g.D.Disk.state c.loop-place.disk in
    let new = g.D.Disk.state c.write_one.new.disk in
    record {
      at = omega (arith, inv.at, area, sum_more (λ (k : Kept). k.dbd.roots * k.dbd.sectors) kept i f.one f.is);
      few = omega (arith, inv.few, c.write_one.ensures.few f.one f.is, sum_more (λ (k : Kept). k.dbd.roots * k.dbd.sectors) kept i f.one f.is, sum_more (λ (k : Kept). length k.changed * k.dbd.sectors) kept i f.one f.is);
      count = omega (arith, inv.count, c.in-Ok.ensures.count f.one f.is, sum_more (λ (k : Kept). length k.changed * k.dbd.sectors) kept i f.one f.is);
      stays = stays_on old mid new inv.stays c.write_one.ensures.stays;
      within = next_within c.args.first kept i f.one f.is c.loop-place.at inv.at old mid new inv.within inv.follows (c.write_one.ensures.any_moment f.one f.is);
      follows = next_follows c.args.first kept i f.one f.is c.loop-place.at inv.at old mid new inv.follows (c.write_one.ensures.follows f.one f.is);
      shown = λ tells. next_has c.args.first kept i f.one f.is c.loop-place.at inv.at old.shown mid.shown new.shown (inv.shown tells) (c.in-Ok.ensures.shown f.one f.is (subst (λ b. IsTrue b) (sym inv.stays.tells) tells));
      faults = c.in-Ok.ensures.no_fault ∙ inv.faults;
      writes = omega (arith, inv.writes, c.write_one.ensures.writes f.one f.is, sum_more (λ (k : Kept). length k.changed * k.dbd.sectors) kept i f.one f.is);
    }
