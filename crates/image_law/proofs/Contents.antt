-- What messages and replies count, behind a step.
use Rattle.std.proofs.Common.{◌≡◌, ℕ, ◌+◌, ◌≤◌, Bool, true, false, not, List, [], ◌∷◌, drop, refl, arith}
use Rattle.std.specs.Prelude.{if◌then◌else◌, ◌==◌}
use Rattle.std.specs.Option.{is_some}
use Rattle.std.proofs.lemmas.List.Sums.{sum_by-cons, sum_by_push}
use Rattle.std.proofs.lemmas.List.Filters.{sum_by-filter_both}
use Rattle.tm_types.specs.Segment.{counted_bytes}
use Rattle.tm_types.specs.declared.message.Message.{Message}
use Rattle.tm_types.specs.declared.message.Reply.{Reply}
use Rattle.model_messages.specs.declared.replies.TerminalReplies.{TerminalReplies}
use Rattle.model_messages.specs.Outputs.{are_replies_of, outputs_bytes, with_reply, with_terminal, without_first}
use Rattle.model_messages.specs.Room.{message_bytes, messages_bytes, replies_bytes, reply_bytes}
use Rattle.model_messages.specs.declared.ended_message.EndedMessage.{EndedMessage}
use Rattle.model_machine.specs.LastingSteps.{all_sent, finished, replied, output_sent, switched, without_message, without_replies}
use Rattle.model_machine.specs.Machine.{LastingState, content, output_at}
use Rattle.image_law.specs.SentMessages.{ended_bytes, sent_bytes}

abbrev terminal_bytes : TerminalReplies → ℕ
terminal_bytes t = replies_bytes t.replies

pub reply_more : (segments : List (List ℕ)) (t : TerminalReplies) → terminal_bytes (with_reply segments t) ≡ terminal_bytes t + counted_bytes segments
reply_more segments t = sum_by_push reply_bytes t.replies (record { number = t.next; segments = segments })

-- one reply more counts what its segments do, and nothing where there is no such terminal
pub replied_bytes : (name : List ℕ) (segments : List (List ℕ)) (outputs : List TerminalReplies) → outputs_bytes (with_terminal name (with_reply segments) outputs) ≤ outputs_bytes outputs + counted_bytes segments
replied_bytes name segments [] = omega arith
replied_bytes name segments (t ∷ ts) = by (are_replies_of name t) (replied_bytes name segments ts) where
  by : (b : Bool) → outputs_bytes (with_terminal name (with_reply segments) ts) ≤ outputs_bytes ts + counted_bytes segments
      → outputs_bytes (if b then with_reply segments t ∷ ts else t ∷ with_terminal name (with_reply segments) ts) ≤ outputs_bytes (t ∷ ts) + counted_bytes segments
  by true rest = omega (arith, sum_by-cons terminal_bytes (with_reply segments t) ts, sum_by-cons terminal_bytes t ts, reply_more segments t)
  by false rest = omega (arith, sum_by-cons terminal_bytes t (with_terminal name (with_reply segments) ts), sum_by-cons terminal_bytes t ts, rest)

drop_less : (replies : List Reply) → replies_bytes (drop 1 replies) ≤ replies_bytes replies
drop_less [] = omega arith
drop_less (reply ∷ replies) = omega (arith, sum_by-cons reply_bytes reply replies)

pub acknowledged_bytes : (name : List ℕ) (outputs : List TerminalReplies) → outputs_bytes (with_terminal name without_first outputs) ≤ outputs_bytes outputs
acknowledged_bytes name [] = omega arith
acknowledged_bytes name (t ∷ ts) = by (are_replies_of name t) (acknowledged_bytes name ts) where
  by : (b : Bool) → outputs_bytes (with_terminal name without_first ts) ≤ outputs_bytes ts
      → outputs_bytes (if b then without_first t ∷ ts else t ∷ with_terminal name without_first ts) ≤ outputs_bytes (t ∷ ts)
  by true rest = omega (arith, sum_by-cons terminal_bytes (without_first t) ts, sum_by-cons terminal_bytes t ts, drop_less t.replies)
  by false rest = omega (arith, sum_by-cons terminal_bytes t (with_terminal name without_first ts), sum_by-cons terminal_bytes t ts, rest)

pub dequeued_bytes : (name : List ℕ) (outputs : List TerminalReplies) → outputs_bytes (with_terminal name without_replies outputs) ≤ outputs_bytes outputs
dequeued_bytes name [] = omega arith
dequeued_bytes name (t ∷ ts) = by (are_replies_of name t) (dequeued_bytes name ts) where
  by : (b : Bool) → outputs_bytes (with_terminal name without_replies ts) ≤ outputs_bytes ts
      → outputs_bytes (if b then without_replies t ∷ ts else t ∷ with_terminal name without_replies ts) ≤ outputs_bytes (t ∷ ts)
  by true rest = omega (arith, sum_by-cons terminal_bytes (without_replies t) ts, sum_by-cons terminal_bytes t ts)
  by false rest = omega (arith, sum_by-cons terminal_bytes t (with_terminal name without_replies ts), sum_by-cons terminal_bytes t ts, rest)

sent_content : (origin : List ℕ) (output : EndedMessage) (lasting : LastingState) → content (output_sent origin output lasting) ≤ content lasting + ended_bytes output
sent_content origin output lasting = by (is_some (output_at lasting.outputs output.to)) where
  by : (b : Bool) → content (if b then replied output lasting else switched origin output lasting) ≤ content lasting + ended_bytes output
  by true = omega (arith, replied_bytes output.to output.segments lasting.outputs)
  by false =
      omega (arith, sum_by_push message_bytes lasting.messages (record { id = lasting.next_id; origin = origin; code = output.to; conversation = false; segments = output.segments }))

pub all_content : (origin : List ℕ) (outputs : List EndedMessage) (lasting : LastingState) → content (all_sent origin outputs lasting) ≤ content lasting + sent_bytes outputs
all_content origin [] lasting = omega arith
all_content origin (output ∷ outputs) lasting =
    omega (arith, all_content origin outputs (output_sent origin output lasting), sent_content origin output lasting, sum_by-cons ended_bytes output outputs)

gone_bytes : (id : ℕ) (messages : List Message) → messages_bytes (without_message messages id) ≤ messages_bytes messages
gone_bytes id messages =
    omega (arith, sum_by-filter_both (λ (message : Message). not (message.id == id)) (λ message. not (not (message.id == id))) (λ message. refl) message_bytes messages)

pub finished_content : (message : Message) (outputs : List EndedMessage) (lasting : LastingState) → content (finished message outputs lasting) ≤ content lasting + sent_bytes outputs
finished_content message outputs lasting =
    omega (arith, all_content message.origin outputs (record lasting { messages = without_message lasting.messages message.id }), gone_bytes message.id lasting.messages)
