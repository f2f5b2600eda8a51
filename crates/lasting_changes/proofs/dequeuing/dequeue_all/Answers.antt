use Rattle.std.proofs.Common.{◌<◌, subst, arith}
use Rattle.lasting_changes.proofs.Dequeued.{all_gone, all_removed}
use Rattle.lasting_changes.proofs.dequeuing.dequeue_all.Goals as goal

pub loop-removed-preserved : goal.loop-removed-preserved
loop-removed-preserved c =
    all_removed c.args.name.now c.args.outputs.now c.loop-removed.outputs c.dequeue_first.new.outputs c.loop-removed.removed c.loop-removed.invariant.0 c.loop-removed.invariant.1
    (subst (λ n. c.loop-removed.removed < n) c.kept-removed-end.ensures c.loop-removed-test.true) c.dequeue_first.ensures

pub returns : goal.returns
returns c =
    all_gone c.args.name.now c.args.outputs.now c.loop-removed.outputs c.loop-removed.removed c.loop-removed.invariant.0 c.loop-removed.invariant.1
    (let test = c.loop-removed-test.false in let many = c.kept-removed-end.ensures in omega (arith, test, many))
