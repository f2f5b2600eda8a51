use Rattle.std.proofs.Common.{sym, ap, ◌∙◌}
use Rattle.log_replay.specs.SlotBytes.{with_change_said}
use Rattle.log_replay.proofs.Order.{changed}
use Rattle.log_replay.proofs.said.begin.Goals as goal

pub returns-in-Ok : goal.returns-in-Ok
returns-in-Ok c database slot =
    changed database slot c.args.place.0 c.args.place.1 c.args.counts c.args.before.now c.args.after.now c.args.said.now.entries c.insert.new.self.entries c.in_ok-first.first
    (c.in_ok-first.ensures ∙ ap (with_change_said c.args.counts c.args.before.now c.args.after.now) (sym c.requires))
    c.in-Ok.ensures.updates.0
