use Rattle.std.proofs.Common.{◌≡◌, ◌-◌, ◌<◌, length, arith}
use Rattle.seg_store.proofs.WritingBack.{found_at}
use Rattle.seg_store.proofs.OneSlot.{settled_one, settled_none}
use Rattle.seg_store.proofs.one_slot.settle_of.Goals as goal

pub returns-then-database-len : goal.returns-then-database-len
returns-then-database-len c =
    let kept = c.args.stores.now.items in
    let i = c.from-database.result - 1 in
    let lt : i < length kept = omega (arith, c.if-database-len.true, c.len.ensures, c.args.stores.now.ok) in
    let f = found_at kept i lt in
    let is : i ≡ c.args.place.db - 1 = omega (arith, c.from-database.ensures, c.requires) in
    settled_one kept c.settle_at.new.stores.items c.args.place i f.one is f.is (c.settle_at.ensures f.one f.is)

pub returns-else-database-len : goal.returns-else-database-len
returns-else-database-len c =
    settled_none c.args.stores.now.items c.args.place (omega (arith, c.if-database-len.false, c.len.ensures, c.args.stores.now.ok, c.from-database.ensures, c.requires))
