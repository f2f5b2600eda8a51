use Rattle.std.proofs.Common.{true, sym, subst, ap, ◌∙◌}
use Rattle.std.specs.Option.{option_map_or}
use Rattle.log_replay.specs.ReplaySteps.{does, is_over}
use Rattle.log_replay.specs.ReplayRules.{DoesStep}
use Rattle.log_replay.proofs.Stepped.{stops}
use Rattle.log_replay.proofs.doing.do_all.Goals as goal

pub returns-then-not-fine-clause-done : goal.returns-then-not-fine-clause-done
returns-then-not-fine-clause-done c =
    ap (λ o. option_map_or is_over o true) (sym c.loop-r.invariant.0)
    ∙ stops c.loop-r.records c.in-Some.r c.loop-r.kept c.do_record.new.kept (sym c.in-Some.ensures.first)
    (subst (DoesStep (does c.in-Some.r c.loop-r.kept) c.do_record.new.kept) c.if-not-fine.true c.in_ok-fine.ensures.done)
