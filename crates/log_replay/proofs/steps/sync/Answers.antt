use Rattle.std.proofs.Common.{subst, ap, ◌∙◌}
use Rattle.log_replay.specs.ReplaySteps.{does_all}
use Rattle.log_replay.specs.ReplayRules.{DoesStep}
use Rattle.log_replay.proofs.Stepped.{sync_over, sync_counted, sync_small_then, small_now}
use Rattle.log_replay.proofs.Right.{sync_tells}
use Rattle.log_replay.proofs.steps.sync.Goals as goal

pub returns-then-not-fine-clause-done : goal.returns-then-not-fine-clause-done
returns-then-not-fine-clause-done c =
    sync_over c.args.pad c.args.records c.args.kept.now c.do_all.new.kept (subst (DoesStep (does_all c.args.records c.args.kept.now) c.do_all.new.kept) c.if-not-fine.true c.in_ok-fine.ensures.done)

pub returns-then-not-fine-clause-small : goal.returns-then-not-fine-clause-small
returns-then-not-fine-clause-small c = small_now c.do_all.new.kept c.in_ok-fine.ensures.orderly

pub returns-clause-done : goal.returns-clause-done
returns-clause-done c =
    sync_counted c.args.pad c.args.records c.args.kept.now c.do_all.new.kept c.change_pad_at.new.kept c.count_to.new.kept c.origin_done-origin.result
    (subst (DoesStep (does_all c.args.records c.args.kept.now) c.do_all.new.kept) c.if-not-fine.false c.in_ok-fine.ensures.done)
    c.origin_done-origin.ensures c.change_pad_at.ensures
    (c.count_to.ensures ∙ ap (λ n. record c.change_pad_at.new.kept { steps = n }) c.steps_after-steps.ensures)

pub returns-clause-small : goal.returns-clause-small
returns-clause-small c =
    sync_small_then c.args.pad c.do_all.new.kept c.change_pad_at.new.kept c.count_to.new.kept c.origin_done-origin.result c.steps_after-steps.result c.in_ok-fine.ensures.orderly c.change_pad_at.ensures c.count_to.ensures

pub returns-clause-tells : goal.returns-clause-tells
returns-clause-tells c surely =
    sync_tells c.args.system.now c.args.pad c.args.records c.args.kept.now c.do_all.new.kept c.change_pad_at.new.kept c.count_to.new.kept c.do_all.new.tally c.origin_done-origin.result c.steps_after-steps.result
    (subst (DoesStep (does_all c.args.records c.args.kept.now) c.do_all.new.kept) c.if-not-fine.false c.in_ok-fine.ensures.done)
    c.change_pad_at.ensures c.count_to.ensures (c.in_ok-fine.ensures.follows c.if-not-fine.false)
