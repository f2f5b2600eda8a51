use Rattle.std.proofs.Common.{◌≡◌}
use Rattle.seg_store.proofs.WritingBack.{partly}
use Rattle.seg_store.proofs.write_back.settle_all.Given as goal

abbrev pub invariant-loop-place : goal.invariant-loop-place
invariant-loop-place l = l.stores.items ≡ partly l.initial.stores.items l.place
