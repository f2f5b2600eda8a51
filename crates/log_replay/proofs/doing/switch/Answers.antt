use Rattle.std.proofs.Common.{sym, subst, ap, ◌∙◌}
use Rattle.model_messages.specs.Queue.{IsNewId}
use Rattle.image_records.specs.KeptState.{KeptState}
use Rattle.log_replay.specs.ReplayRules.{IsOrderly}
use Rattle.log_replay.specs.ConversationTally.{TallyFollows}
use Rattle.log_replay.proofs.Orders.{id_above, orderly_added}
use Rattle.log_replay.proofs.Right.{added_follows}
use Rattle.log_replay.proofs.doing.switch.Goals as goal

pub add_message-requires-clause-above : goal.add_message-requires-clause-above
add_message-requires-clause-above c =
    subst (λ n. IsNewId n c.args.kept.now.queues.queued) (ap (λ (k : KeptState). k.next_id) (sym c.kept.view_is) ∙ c.if-kept-message.false) (id_above c.args.kept.now c.requires.orderly)

pub returns-clause-orderly : goal.returns-clause-orderly
returns-clause-orderly c =
    subst IsOrderly (sym (c.in_ok-add_message.ensures))
    (orderly_added c.args.number c.args.message c.args.kept.now c.requires.orderly
    (sym (ap (λ (k : KeptState). k.next_id) (sym c.kept.view_is) ∙ c.if-kept-message.false))
    (sym c.is_small_after.ensures ∙ c.if-not-is_small_after.false))

pub returns-clause-follows : goal.returns-clause-follows
returns-clause-follows c surely =
    subst (λ (k : KeptState). TallyFollows c.args.system.now k c.count_added.new.tally) (sym c.in_ok-add_message.ensures)
    (added_follows c.args.system.now c.args.kept.now c.args.tally.now c.count_added.new.tally c.requires.follows c.args.message c.in_ok-count_added.ensures)
