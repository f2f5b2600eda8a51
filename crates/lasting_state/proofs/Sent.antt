-- What sending comes to, output by output.
use Rattle.std.proofs.Common.{◌≡◌, ℕ, ◌+◌, ◌≤◌, Bool, true, false, not, cond, List, [], ◌∷◌, refl, sym, ap, ◌∙◌, subst, Some, None, map, length, arith}
use Rattle.std.proofs.lemmas.List.{append_assoc, append-nil, length-append}
use Rattle.std.proofs.lemmas.Bool.{eq-eqb, ne_eqb}
use Rattle.std.specs.Prelude.{IsSome, IsSomeAnd}
use Rattle.std.specs.Option.{is_some}
use Rattle.tm_types.specs.declared.message.Message.{Message}
use Rattle.model_messages.specs.declared.queued.Queued.{Queued}
use Rattle.model_messages.specs.declared.replies.TerminalReplies.{TerminalReplies}
use Rattle.model_messages.specs.Queue.{QueuesState, with_message, without_id_queued, IsNewId, has_id, queued_at}
use Rattle.model_messages.proofs.TakenBack.{taken_back}
use Rattle.model_messages.specs.Outputs.{are_replies_of, replies_at, with_terminal, with_reply, without_last}
use Rattle.model_messages.specs.declared.ended_message.EndedMessage.{EndedMessage}
use Rattle.lasting_state.proofs.Counted.{there_still}
use Rattle.lasting_state.specs.SentOutputs.{outputs_to_codes, switched_message, switched_messages, with_messages, with_replies, IsSent}

-- ---- which terminals are there
-- a terminal that isn't there can't be changed
pub with_terminal_none : (name : List ℕ) (change : TerminalReplies → TerminalReplies) (outputs : List TerminalReplies)
    → is_some (replies_at name outputs) ≡ false → with_terminal name change outputs ≡ outputs
with_terminal_none name change [] e = refl
with_terminal_none name change (t ∷ ts) e = by (are_replies_of name t) e (λ h. with_terminal_none name change ts h)
  where
    by : (b : Bool) → is_some (cond b (Some t) (replies_at name ts)) ≡ false → (is_some (replies_at name ts) ≡ false → with_terminal name change ts ≡ ts)
        → cond b (change t ∷ ts) (t ∷ with_terminal name change ts) ≡ t ∷ ts
    by true h rest = cc
    by false h rest = ap (λ us. t ∷ us) (rest h)

pub switches_still : (name : List ℕ) (segments : List (List ℕ)) (terminals : List TerminalReplies) (outputs : List EndedMessage)
    → outputs_to_codes (with_terminal name (with_reply segments) terminals) outputs ≡ outputs_to_codes terminals outputs
switches_still name segments terminals [] = refl
switches_still name segments terminals (output ∷ outputs) =
    λ i. cond (not (there_still output.to name segments terminals i)) (output ∷ switches_still name segments terminals outputs i) (switches_still name segments terminals outputs i)

pub switches_code : (terminals : List TerminalReplies) (output : EndedMessage) (outputs : List EndedMessage) → is_some (replies_at output.to terminals) ≡ false
    → outputs_to_codes terminals (output ∷ outputs) ≡ output ∷ outputs_to_codes terminals outputs
switches_code terminals output outputs none =
    ap (λ b. cond (not b) (output ∷ outputs_to_codes terminals outputs) (outputs_to_codes terminals outputs)) none

pub switches_terminal : (terminals : List TerminalReplies) (output : EndedMessage) (outputs : List EndedMessage) → is_some (replies_at output.to terminals) ≡ true
    → outputs_to_codes terminals (output ∷ outputs) ≡ outputs_to_codes terminals outputs
switches_terminal terminals output outputs there =
    ap (λ b. cond (not b) (output ∷ outputs_to_codes terminals outputs) (outputs_to_codes terminals outputs)) there

-- ---- one output more was sent before the others
module _ (origin : List ℕ) (output : EndedMessage) (outputs : List EndedMessage) (old new : QueuesState) (terminals replied : List TerminalReplies) (next after : ℕ) where
  pub sent_to_code : (mid : QueuesState) → is_some (replies_at output.to terminals) ≡ false
      → mid ≡ record old { queued = with_message (switched_message origin output next) old.queued }
      → IsSent origin outputs mid new terminals replied (next + 1) after
      → IsSent origin (output ∷ outputs) old new terminals replied next after
  sent_to_code mid none e h =
      let moved = switches_code terminals output outputs none in
      record {
        queues = h.queues
            ∙ (ap {A = QueuesState} (λ q. record q { queued = with_messages (switched_messages origin (outputs_to_codes terminals outputs) (next + 1)) q.queued }) e
            ∙ (ap (λ qs. record old { queued = qs })
            (append_assoc old.queued (record { message = switched_message origin output next; holder = None } ∷ [])
            (map (λ message. record { message = message; holder = None }) (switched_messages origin (outputs_to_codes terminals outputs) (next + 1))))
            ∙ ap (λ os. record old { queued = with_messages (switched_messages origin os next) old.queued }) (sym moved)));
        replies = h.replies ∙ ap (λ ts. with_replies outputs ts) (sym (with_terminal_none output.to (with_reply output.segments) terminals none));
        next_id = h.next_id ∙ (omega arith ∙ ap (λ os. next + length os) (sym moved));
      }

  pub sent_to_terminal : (mid : List TerminalReplies) → is_some (replies_at output.to terminals) ≡ true
      → mid ≡ with_terminal output.to (with_reply output.segments) terminals
      → IsSent origin outputs old new mid replied next after
      → IsSent origin (output ∷ outputs) old new terminals replied next after
  sent_to_terminal mid there e h =
      let same : outputs_to_codes mid outputs ≡ outputs_to_codes terminals (output ∷ outputs) =
      ap (λ ts. outputs_to_codes ts outputs) e ∙ (switches_still output.to output.segments terminals outputs ∙ sym (switches_terminal terminals output outputs there)) in
      record {
        queues = h.queues ∙ ap (λ os. record old { queued = with_messages (switched_messages origin os next) old.queued }) same;
        replies = h.replies ∙ ap (λ ts. with_replies outputs ts) e;
        next_id = h.next_id ∙ ap (λ os. next + length os) same;
      }

pub sent_none : (origin : List ℕ) (queues : QueuesState) (terminals : List TerminalReplies) (next : ℕ) → IsSent origin [] queues queues terminals terminals next next
sent_none origin queues terminals next =
    record {
      queues = ap (λ qs. record queues { queued = qs }) (sym (append-nil queues.queued));
      replies = refl;
      next_id = omega arith;
    }

-- ---- what was sent is taken back
-- a message that was added last is found
pub added_found : (id : ℕ) (message : Message) (queued : List Queued) → message.id ≡ id → IsSome (queued_at id (with_message message queued))
added_found id message [] e = ap (λ b. is_some {T = Queued} (cond b (Some (record { message = message; holder = None })) None)) (eq-eqb message.id id e)
added_found id message (q ∷ queued) e = by (has_id id q) (added_found id message queued e)
  where
    by : (b : Bool) → IsSome (queued_at id (with_message message queued)) → IsSome (cond b (Some q) (queued_at id (with_message message queued)))
    by true rest = refl
    by false rest = rest

-- where no message has an id none goes
pub none_without : (id : ℕ) (queued : List Queued) → IsNewId id queued → without_id_queued id queued ≡ queued
none_without id [] h = refl
none_without id (q ∷ queued) h =
    ap (λ b. cond (not b) (q ∷ without_id_queued id queued) (without_id_queued id queued)) (ne_eqb q.message.id id (λ e. absurd (omega (arith, h.0, e))))
    ∙ ap (λ qs. q ∷ qs) (none_without id queued h.1)

-- and one that was added last goes alone
pub added_without : (id : ℕ) (message : Message) (queued : List Queued) → message.id ≡ id → IsNewId id queued → without_id_queued id (with_message message queued) ≡ queued
added_without id message [] e h = ap (λ b. cond (not b) (record { message = message; holder = None } ∷ []) []) (eq-eqb message.id id e)
added_without id message (q ∷ queued) e h =
    ap (λ b. cond (not b) (q ∷ without_id_queued id (with_message message queued)) (without_id_queued id (with_message message queued))) (ne_eqb q.message.id id (λ e. absurd (omega (arith, h.0, e))))
    ∙ ap (λ qs. q ∷ qs) (added_without id message queued e h.1)

-- a terminal to which a reply was sent keeps one
pub reply_kept : (name : List ℕ) (segments : List (List ℕ)) (terminals : List TerminalReplies) → IsSome (replies_at name terminals)
    → IsSomeAnd (replies_at name (with_terminal name (with_reply segments) terminals)) (λ t. 1 ≤ length t.replies)
reply_kept name segments [] h = let clash : false ≡ true = h in absurd (cc)
reply_kept name segments (t ∷ ts) h = by (are_replies_of name t) refl h (reply_kept name segments ts)
  where
    by : (b : Bool) → are_replies_of name t ≡ b → IsSome (cond b (Some t) (replies_at name ts))
        → (IsSome (replies_at name ts) → IsSomeAnd (replies_at name (with_terminal name (with_reply segments) ts)) (λ u. 1 ≤ length u.replies))
        → IsSomeAnd (replies_at name (cond b (with_reply segments t ∷ ts) (t ∷ with_terminal name (with_reply segments) ts))) (λ u. 1 ≤ length u.replies)
    by true q g rest =
        subst (λ b. IsSomeAnd (cond b (Some (with_reply segments t)) (replies_at name ts)) (λ u. 1 ≤ length u.replies)) (sym q)
        (omega (arith, length-append t.replies (record { number = t.next; segments = segments } ∷ [])))
    by false q g rest =
        subst (λ b. IsSomeAnd (cond b (Some t) (replies_at name (with_terminal name (with_reply segments) ts))) (λ u. 1 ≤ length u.replies)) (sym q) (rest g)

pub code_taken_back : (id : ℕ) (message : Message) (old mid left new : QueuesState) → message.id ≡ id → IsNewId id old.queued
    → mid ≡ record old { queued = with_message message old.queued } → left ≡ mid → new ≡ record left { queued = without_id_queued id left.queued } → new ≡ old
code_taken_back id message old mid left new e fresh added same gone =
    gone
    ∙ (ap {A = QueuesState} (λ q. record q { queued = without_id_queued id q.queued }) (same ∙ added)
    ∙ ap {A = List Queued} (λ qs. record old { queued = qs }) (added_without id message old.queued e fresh))

pub reply_taken_back : (name : List ℕ) (segments : List (List ℕ)) (old mid left new : List TerminalReplies)
    → mid ≡ with_terminal name (with_reply segments) old → left ≡ mid → new ≡ with_terminal name without_last left → new ≡ old
reply_taken_back name segments old mid left new added same gone =
    gone ∙ (ap (with_terminal name without_last) (same ∙ added) ∙ taken_back name segments old)
