use Rattle.tm_disk.proofs.Numbers.{Chosen}
use Rattle.tm_disk.proofs.images.make_chosen.Given as goal

abbrev pub invariant-loop-place : goal.invariant-loop-place
invariant-loop-place l = Chosen l.writes.items l.settled l.place l.fn.numbers.items l.fn.left.items l.numbers.items l.left.items
