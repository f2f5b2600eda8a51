use Rattle.std.proofs.Common.{◌≡◌, sym, ◌∙◌, arith}
use Rattle.std.specs.Vec.{vec_len}
use Rattle.std.proofs.lemmas.Bool.{eqb-true}
use Rattle.pi_enqueue.proofs.Alone.{none_waits}
use Rattle.pi_enqueue.proofs.queue.end_each.Goals as goal

pub returns-then-is_empty-clause-value : goal.returns-then-is_empty-clause-value
returns-then-is_empty-clause-value c =
    let none : vec_len c.args.waiters.now ≡ 0 = eqb-true (vec_len c.args.waiters.now) 0 (sym c.is_empty.ensures ∙ c.if-is_empty.true) in
    none_waits c.args.requests.now c.args.waiters.now.items (omega (arith, none))
