use Rattle.std.proofs.Common.{◌-◌, [], sym, ◌∙◌, slice_index_or}
use Rattle.tran_pick.proofs.Nothing.{none_picked}
use Rattle.tran_pick.proofs.schedule.candidate_for.Goals as goal

pub returns-then-not-has_free-clause-value : goal.returns-then-not-has_free-clause-value
returns-then-not-has_free-clause-value c =
    none_picked c.args.queues.now.queued (sym c.has_free.ensures ∙ c.if-not-has_free.true) (slice_index_or c.args.system.now.regions (c.args.region - 1) []) c.args.system.now.codes c.args.state.now
