use Rattle.std.proofs.Common.{◌≤◌, refl, sym, subst, ◌∙◌, length}
use Rattle.std.specs.Prelude.{IsSome, IsSomeAnd}
use Rattle.model_messages.specs.Queue.{queued_at}
use Rattle.model_messages.specs.Outputs.{replies_at}
use Rattle.lasting_state.specs.SentOutputs.{switched_message, IsSent}
use Rattle.lasting_state.proofs.Sent.{sent_to_code, sent_to_terminal, added_found, reply_kept, code_taken_back, reply_taken_back}
use Rattle.lasting_state.proofs.sending.+send_all.Goals as goal

-- a reply went first
pub take_back-requires : goal.take_back-requires
take_back-requires t c =
    subst (λ ts. IsSomeAnd (replies_at c.in-Some.first.to ts) (λ u. 1 ≤ length u.replies)) (sym (c.in-Err.ensures.terminals ∙ c.in_ok-reply.ensures.ok))
    (reply_kept c.in-Some.first.to c.in-Some.first.segments c.args.terminals.now (sym c.has_terminal.ensures ∙ c.if-has_terminal.true))

pub returns-in-Ok-clause-ok : goal.returns-in-Ok-clause-ok
returns-in-Ok-clause-ok t c =
    subst (λ os. IsSent c.args.origin.now os c.args.queues.now c.send_all.new.queues c.args.terminals.now c.send_all.new.terminals c.args.next_id c.in-Ok.next) (sym c.in-Some.ensures.items)
    (sent_to_terminal c.args.origin.now c.in-Some.first c.pop_front.new.self.items c.args.queues.now c.send_all.new.queues c.args.terminals.now c.send_all.new.terminals c.args.next_id c.in-Ok.next
    c.reply.new.terminals (sym c.has_terminal.ensures ∙ c.if-has_terminal.true) c.in_ok-reply.ensures.ok c.in-Ok.ensures.ok)

pub returns-in-Err-clause-terminals : goal.returns-in-Err-clause-terminals
returns-in-Err-clause-terminals t c =
    reply_taken_back c.in-Some.first.to c.in-Some.first.segments c.args.terminals.now c.reply.new.terminals c.send_all.new.terminals c.take_back.new.self
    c.in_ok-reply.ensures.ok c.in-Err.ensures.terminals c.take_back.ensures

-- a message went first
pub remove-requires : goal.remove-requires
remove-requires t c =
    subst (λ q. IsSome (queued_at c.args.next_id q.queued)) (sym (c.in-Err-send_all.ensures.queues ∙ c.in_ok-switch.ensures.ok))
    (added_found c.args.next_id (switched_message c.args.origin.now c.in-Some.first c.args.next_id) c.args.queues.now.queued refl)

pub returns-in-Ok-send_all-clause-ok : goal.returns-in-Ok-send_all-clause-ok
returns-in-Ok-send_all-clause-ok t c =
    subst (λ os. IsSent c.args.origin.now os c.args.queues.now c.send_all-2.new.queues c.args.terminals.now c.send_all-2.new.terminals c.args.next_id c.in-Ok-send_all.next) (sym c.in-Some.ensures.items)
    (sent_to_code c.args.origin.now c.in-Some.first c.pop_front.new.self.items c.args.queues.now c.send_all-2.new.queues c.args.terminals.now c.send_all-2.new.terminals c.args.next_id c.in-Ok-send_all.next
    c.switch.new.queues (sym c.has_terminal.ensures ∙ c.if-has_terminal.false) c.in_ok-switch.ensures.ok c.in-Ok-send_all.ensures.ok)

pub returns-in-Err-send_all-clause-queues : goal.returns-in-Err-send_all-clause-queues
returns-in-Err-send_all-clause-queues t c =
    code_taken_back c.args.next_id (switched_message c.args.origin.now c.in-Some.first c.args.next_id) c.args.queues.now c.switch.new.queues c.send_all-2.new.queues c.remove.new.self
    refl c.requires c.in_ok-switch.ensures.ok c.in-Err-send_all.ensures.queues c.remove.ensures
