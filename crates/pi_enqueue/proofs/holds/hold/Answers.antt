use Rattle.std.proofs.Common.{ap, ◌∙◌}
use Rattle.pi_enqueue.specs.Lists.{before_all}
use Rattle.pi_enqueue.proofs.Holding.{noted_back}
use Rattle.pi_enqueue.proofs.holds.hold.Goals as goal

pub returns-clause-back : goal.returns-clause-back
returns-clause-back c =
    noted_back c.args.request.now c.asker.result c.in_ok-before.before c.reserve.new.self.items c.note.new.changes.items c.args.holds.now.entries c.hold_one.new.holds.entries
    c.asker.ensures c.in_ok-before.ensures.was_ordered c.in_ok-before.ensures.told c.in_ok-before.ensures.ok c.note.ensures
    ∙ ap (λ changes. before_all changes c.args.holds.now.entries) c.reserve.ensures.items
