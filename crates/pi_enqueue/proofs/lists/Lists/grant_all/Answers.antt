use Rattle.pi_enqueue.specs.Lists.{table_of_lists}
use Rattle.pi_enqueue.proofs.Asking.{granted_seen}
use Rattle.pi_enqueue.proofs.lists.Lists.grant_all.Goals as goal

pub returns-clause-ok : goal.returns-clause-ok
returns-clause-ok c =
    granted_seen c.args.requests.now (table_of_lists c.args.self.now) c.hold_all.new.holds.entries c.end_each.new.waiters.items c.end_each-2.new.waiters.items
    c.in_ok-hold_all.ensures.ok c.end_each.ensures.value c.end_each-2.ensures.value
