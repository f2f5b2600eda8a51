use Rattle.std.proofs.Common.{◌≡◌, drop, length}
use Rattle.pi_enqueue.specs.Grants.{with_holds}
use Rattle.pi_enqueue.specs.Lists.{AreListed, StayListed, before_all}
use Rattle.pi_enqueue.proofs.holds.hold_each.Given as goal

abbrev pub invariant-loop-request : goal.invariant-loop-request
invariant-loop-request l = record {
  ahead : with_holds (drop l.request-index l.requests) l.holds.entries ≡ with_holds l.requests l.fn.holds.entries;
  back : before_all l.changes.items l.holds.entries ≡ before_all l.fn.changes.items l.fn.holds.entries;
  listed : AreListed l.lists.items l.holds.entries;
  stay : StayListed l.fn.lists.items l.lists.items;
  all : length l.lists.items ≡ length l.fn.lists.items;
}
