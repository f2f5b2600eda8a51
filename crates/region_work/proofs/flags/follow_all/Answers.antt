use Rattle.std.proofs.Common.{length, ap, ◌∙◌}
use Rattle.model_messages.specs.Queue.{free_count}
use Rattle.model_machine.specs.Flags.{followed}
use Rattle.model_machine.proofs.Flags.{followed_length}
use Rattle.region_work.proofs.Following.{follow_step}
use Rattle.region_work.proofs.flags.follow_all.Goals as goal

pub loop-name-preserved : goal.loop-name-preserved
loop-name-preserved c = record {
  count = ap length c.follow.ensures ∙ followed_length c.args.system.now.codes c.name-item.result c.waiting.result c.loop-name.codes ∙ c.loop-name.invariant.count;
  rest = follow_step c.args.system.now.codes (λ name. free_count name c.args.queues.now.queued) c.args.names.now c.args.codes.now c.loop-name.codes c.follow.new.codes c.loop-name.name-index
      c.name-item.result c.loop-name-test.true c.name-item.is c.loop-name.invariant.rest
      (c.follow.ensures ∙ ap (λ n. followed c.args.system.now.codes c.name-item.result n c.loop-name.codes) c.waiting.ensures);
}
