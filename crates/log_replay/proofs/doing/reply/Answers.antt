use Rattle.std.proofs.Common.{◌+◌, sym, subst, ap, ◌∙◌}
use Rattle.std.specs.Option.{option_map}
use Rattle.model_messages.specs.Outputs.{replies_at}
use Rattle.model_image.specs.States.{is_small}
use Rattle.image_records.specs.KeptState.{KeptState}
use Rattle.log_replay.specs.ReplayRules.{IsOrderly}
use Rattle.log_replay.proofs.Orders.{reply_to_none, reply_refused, reply_left}
use Rattle.log_replay.proofs.doing.reply.Goals as goal

pub returns-in_default-clause-done : goal.returns-in_default-clause-done
returns-in_default-clause-done c =
    reply_to_none c.args.terminal.now c.args.number c.args.segments c.args.kept.now
    (ap (λ (k : KeptState). option_map (λ t. t.next) (replies_at c.args.terminal.now k.outputs)) (sym c.kept.view_is) ∙ (sym c.next_at.ensures ∙ c.in_default.is))

pub returns-then-not-is_small_after-clause-done : goal.returns-then-not-is_small_after-clause-done
returns-then-not-is_small_after-clause-done c =
    reply_refused c.args.terminal.now c.args.segments c.args.kept.now c.requires c.in-Some.next
    (ap (λ (k : KeptState). option_map (λ t. t.next) (replies_at c.args.terminal.now k.outputs)) (sym c.kept.view_is) ∙ (sym c.next_at.ensures ∙ c.in-Some.is)) c.args.number c.args.kept.now
    (ap (λ n. is_small (n + 1)) c.if-next-number.false ∙ sym c.is_small_after.ensures ∙ c.if-not-is_small_after.true)

pub returns-clause-orderly : goal.returns-clause-orderly
returns-clause-orderly c =
    subst IsOrderly (sym (c.in_ok-add_reply.ensures))
    (reply_left c.args.terminal.now c.args.segments c.args.kept.now c.requires c.in-Some.next
    (ap (λ (k : KeptState). option_map (λ t. t.next) (replies_at c.args.terminal.now k.outputs)) (sym c.kept.view_is) ∙ (sym c.next_at.ensures ∙ c.in-Some.is))
    (ap (λ n. is_small (n + 1)) c.if-next-number.false ∙ sym c.is_small_after.ensures ∙ c.if-not-is_small_after.false))
