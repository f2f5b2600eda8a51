use Rattle.std.proofs.Common.{◌-◌, ◌∷◌, []}
use Rattle.deadlock_pick.specs.Way.{BeginsWith}
use Rattle.deadlock_pick.specs.Reached.{AreRegions}
use Rattle.deadlock_pick.proofs.Reaching.{AreLookedAt}
use Rattle.deadlock_pick.proofs.reached.is_reached.Given as goal

abbrev pub invariant-loop-from : goal.invariant-loop-from
invariant-loop-from l = record {
  regions : AreRegions l.table l.reaching;
  first : BeginsWith (l.region ∷ []) l.reaching;
  seen : AreLookedAt l.table l.region l.reaching l.place;
}

abbrev pub decreases-loop-from : goal.decreases-loop-from
decreases-loop-from l = 8 - l.place
