use Rattle.std.proofs.Common.{arith, ap}
use Rattle.std.proofs.lemmas.List.{drop_all, ext_get_or}
use Rattle.tm_disk.specs.Moments.{writes_to}
use Rattle.tm_disk.proofs.images.take_over.Goals as goal

pub returns : goal.returns
returns c =
    let none = drop_all c.loop-place.place c.args.writes.now.items (omega arith) in
    ext_get_or 0 c.loop-place.numbers.items c.args.from.now (omega arith) (λ k lt. c.loop-place.invariant.others k (ap (λ l. writes_to k l) none))
