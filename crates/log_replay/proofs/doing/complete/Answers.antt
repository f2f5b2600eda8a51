use Rattle.std.proofs.Common.{◌≡◌, Some, sym, subst, ap, ◌∙◌}
use Rattle.std.specs.Option.{option_copied}
use Rattle.model_messages.specs.Queue.{QueuesState, queued_message}
use Rattle.image_records.specs.KeptState.{KeptState}
use Rattle.log_replay.specs.ReplayRules.{IsOrderly}
use Rattle.log_replay.specs.ReplaySteps.{with_gone}
use Rattle.log_replay.specs.ConversationTally.{TallyFollows}
use Rattle.log_replay.proofs.Orders.{orderly_gone}
use Rattle.log_replay.proofs.Right.{gone_follows}
use Rattle.log_replay.proofs.doing.complete.Goals as goal

pub returns-clause-orderly : goal.returns-clause-orderly
returns-clause-orderly c =
    let now : KeptState = record { queues = c.kept.inside.queues; next_id = c.kept.inside.next_id; terminals = c.kept.inside.terminals.items; outputs = c.kept.inside.outputs; conversations = c.kept.inside.conversations; codes = c.kept.inside.codes.items; steps = c.kept.inside.steps } in
    subst (λ (q : QueuesState). IsOrderly (record now { queues = q })) (sym c.remove.ensures)
    (orderly_gone c.args.id now (subst IsOrderly (sym c.kept.view_is) c.requires.orderly))

pub returns-clause-follows : goal.returns-clause-follows
returns-clause-follows c surely =
    let now : KeptState = record { queues = c.kept.inside.queues; next_id = c.kept.inside.next_id; terminals = c.kept.inside.terminals.items; outputs = c.kept.inside.outputs; conversations = c.kept.inside.conversations; codes = c.kept.inside.codes.items; steps = c.kept.inside.steps } in
    subst (λ (q : QueuesState). TallyFollows c.args.system.now (record now { queues = q }) c.count_removed.new.tally) (sym c.remove.ensures)
    (subst (λ (k : KeptState). TallyFollows c.args.system.now (with_gone c.args.id k) c.count_removed.new.tally) (sym c.kept.view_is)
    (gone_follows c.args.system.now c.args.kept.now c.args.tally.now c.count_removed.new.tally c.requires.follows c.args.id c.in-Some.message.now c.requires.orderly
    (subst (λ (k : KeptState). queued_message c.args.id k.queues.queued ≡ Some c.in-Some.message.now) c.kept.view_is (sym c.find.ensures ∙ ap option_copied c.in-Some.is)) c.in_ok-count_removed.ensures))
