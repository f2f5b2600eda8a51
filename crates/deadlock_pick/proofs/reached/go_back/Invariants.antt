use Rattle.std.proofs.Common.{◌≡◌, ◌<◌, ℕ, true}
use Rattle.std.specs.Prelude.{nat_eq}
use Rattle.std.specs.List.{list_any}
use Rattle.model_data.specs.Table.{waits_for}
use Rattle.model_data.specs.Cycle.{IsTableRegion}
use Rattle.deadlock_pick.specs.Way.{BeginsWith}
use Rattle.deadlock_pick.specs.Reached.{AreRegions}
use Rattle.deadlock_pick.proofs.reached.go_back.Given as goal

abbrev pub invariant-loop-next : goal.invariant-loop-next
invariant-loop-next l = record {
  regions : AreRegions l.table l.reaching;
  more : BeginsWith l.initial.reaching l.reaching;
  all : (m : ℕ) → m < l.next → IsTableRegion l.table m → waits_for m l.from l.table ≡ true → list_any (nat_eq m) l.reaching ≡ true;
}
