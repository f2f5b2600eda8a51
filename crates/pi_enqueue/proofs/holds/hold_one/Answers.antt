use Rattle.std.proofs.Common.{◌∙◌}
use Rattle.pi_enqueue.proofs.Holding.{hold_back, hold_listed}
use Rattle.pi_enqueue.proofs.holds.hold_one.Goals as goal

pub returns-in-Ok-clause-listed : goal.returns-in-Ok-clause-listed
returns-in-Ok-clause-listed c =
    hold_listed c.args.lists.now.items c.list_new.new.lists.items c.args.request.now c.asker-holder.result c.in_ok-before.before c.args.holds.now.entries c.strengthen.new.holds.entries
    c.list_new.ensures.stay c.requires.listed c.in-Ok.ensures.listed c.asker-holder.ensures c.in_ok-before.ensures.told c.in_ok-before.ensures.ok

pub returns-in-Err-clause-err : goal.returns-in-Err-clause-err
returns-in-Err-clause-err c =
    c.give_mode.ensures
    ∙ hold_back c.args.request.now c.asker-holder.result c.in_ok-before.before c.args.holds.now.entries c.strengthen.new.holds.entries
    c.asker-holder.ensures c.strengthen.ensures.was_ordered c.in_ok-before.ensures.told c.in_ok-before.ensures.ok
