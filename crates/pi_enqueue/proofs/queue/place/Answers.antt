use Rattle.std.proofs.Common.{sym}
use Rattle.pi_enqueue.proofs.Waiting.{placed_here, placed_behind}
use Rattle.pi_enqueue.proofs.queue.place.Goals as goal

pub returns-in-Some : goal.returns-in-Some
returns-in-Some c = placed_here c.args.request c.args.waiters.now.items c.deref.result.now c.in-Some.place c.deref.ensures.value (sym c.in-Some.ensures)

pub returns-in-None : goal.returns-in-None
returns-in-None c =
    placed_behind c.args.request c.args.waiters.now.items c.deref.result.now c.push_reserved.new.self.items c.deref.ensures.value (sym c.in-None.ensures)
    c.push_reserved.ensures.items
