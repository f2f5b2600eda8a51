use Rattle.std.proofs.Common.{◌≡◌, take, true}
use Rattle.pi_enqueue.specs.Grants.{AreRequestsFree, AreRequestsServed}
use Rattle.pi_enqueue.specs.Lists.{table_of_lists}
use Rattle.pi_enqueue.proofs.lists.Lists.course_of.Given as goal

abbrev pub invariant-loop-place : goal.invariant-loop-place
invariant-loop-place l = record {
  free : AreRequestsFree (take l.place l.requests) (table_of_lists l.self);
  served : l.held ≡ true → AreRequestsServed (take l.place l.requests) l.self.holds.entries;
}
