use Rattle.std.proofs.Common.{◌≡◌, length, filter}
use Rattle.pi_enqueue.proofs.Holding.{is_elsewhere, AreOwnOn}
use Rattle.pi_enqueue.proofs.holds.release.Given as goal

abbrev pub invariant-loop-resource : goal.invariant-loop-resource
invariant-loop-resource l = record {
  others : filter (is_elsewhere l.region) l.holds.entries ≡ filter (is_elsewhere l.fn.region) l.fn.holds.entries;
  own : AreOwnOn l.list l.region l.holds.entries;
}

abbrev pub decreases-loop-resource : goal.decreases-loop-resource
decreases-loop-resource l = length l.list
