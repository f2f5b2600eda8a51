use Rattle.std.proofs.Common.{arith}
use Rattle.seg_store.proofs.Numbers.{below_within}
use Rattle.seg_store.proofs.free.add_slot.Goals as goal

pub insert-requires : goal.insert-requires
insert-requires c = omega (arith, below_within c.args.slot c.deref.result.now, c.place_among.ensures, c.deref.ensures.len)
