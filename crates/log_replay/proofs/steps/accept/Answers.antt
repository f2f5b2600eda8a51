use Rattle.std.proofs.Common.{◌<◌, length, sym, subst, ap, ◌∙◌}
use Rattle.std.specs.Option.{is_some}
use Rattle.std.proofs.lemmas.Bool.{eqb-true}
use Rattle.model_messages.specs.Queue.{IsNewId}
use Rattle.image_records.specs.KeptState.{KeptState}
use Rattle.log_replay.proofs.Orders.{id_above}
use Rattle.log_replay.proofs.Stepped.{not_next_input, not_next_id, accepted_is, none_refused}
use Rattle.log_replay.proofs.steps.accept.Goals as goal

pub returns-in_default : goal.returns-in_default
returns-in_default c =
    none_refused _ c.args.kept.now
    (not_next_input c.args.system.now c.args.kept.now c.args.number c.args.message (c.input_place.ensures.next ∙ ap is_some c.in_default.is))

pub returns-then-not-next : goal.returns-then-not-next
returns-then-not-next c =
    none_refused _ c.args.kept.now
    (not_next_id c.args.system.now c.args.kept.now c.args.number c.args.message (sym c.is_next_id-next.ensures ∙ c.if-not-next.true))

pub add_message-requires-clause-above : goal.add_message-requires-clause-above
add_message-requires-clause-above c =
    subst (λ n. IsNewId n c.args.kept.now.queues.queued) (eqb-true c.args.kept.now.next_id c.args.message.id (sym c.is_next_id-next.ensures ∙ c.if-not-next.false)) (id_above c.args.kept.now c.requires.orderly)

pub note_accepted-requires-clause-within : goal.note_accepted-requires-clause-within
note_accepted-requires-clause-within c =
    subst (λ (k : KeptState). c.in-Some.place < length k.terminals) (sym c.in_ok-add_message.ensures) c.in-Some.ensures.within

pub returns : goal.returns
returns c =
    accepted_is c.args.system.now c.args.kept.now c.args.number c.args.message c.in_ok-begins.begins c.in-Some.place c.add_message.new.kept c.note_accepted.new.kept
    (c.input_place.ensures.next ∙ ap is_some c.in-Some.is)
    (eqb-true c.args.kept.now.next_id c.args.message.id (sym c.is_next_id-next.ensures ∙ c.if-not-next.false))
    c.in_ok-begins.ensures c.in-Some.ensures.place c.in_ok-add_message.ensures c.note_accepted.ensures
