use Rattle.std.proofs.Common.{sym, subst, ap, ◌∙◌}
use Rattle.std.specs.Option.{is_some}
use Rattle.model_messages.specs.Queue.{IsNewId}
use Rattle.model_messages.specs.Outputs.{replies_at}
use Rattle.image_records.specs.KeptState.{KeptState}
use Rattle.log_replay.proofs.Orders.{number_small, id_above}
use Rattle.log_replay.proofs.steps.tell.Goals as goal

pub add_reply-requires : goal.add_reply-requires
add_reply-requires c =
    number_small c.args.kept.now c.requires c.args.origin.now
    (ap (λ (k : KeptState). is_some (replies_at c.args.origin.now k.outputs)) (sym c.kept.view_is) ∙ (sym c.has_terminal-is_kept.ensures ∙ c.if-is_kept.true))

pub add_message-requires-clause-above : goal.add_message-requires-clause-above
add_message-requires-clause-above c =
    subst (λ n. IsNewId n c.args.kept.now.queues.queued) (ap (λ (k : KeptState). k.next_id) (sym c.kept.view_is)) (id_above c.args.kept.now c.requires)
