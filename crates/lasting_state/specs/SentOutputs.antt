-- Where the outputs of a message go.
use Rattle.std.specs.Prelude.{◌≡◌, ℕ, ◌+◌, Bool, false, not, List, [], ◌∷◌, ◌++◌, None, map, filter, length}
use Rattle.std.specs.Option.{is_some}
use Rattle.tm_types.specs.declared.message.Message.{Message}
use Rattle.model_messages.specs.declared.queued.Queued.{Queued}
use Rattle.model_messages.specs.Queue.{QueuesState}
use Rattle.model_messages.specs.declared.replies.TerminalReplies.{TerminalReplies}
use Rattle.model_messages.specs.Outputs.{replies_at, with_terminal, with_reply}
use Rattle.model_messages.specs.declared.ended_message.EndedMessage.{EndedMessage}

-- an output goes to a code where no terminal has its name
abbrev pub is_switched : List TerminalReplies → EndedMessage → Bool
is_switched terminals output = not (is_some (replies_at output.to terminals))

-- the outputs that go to codes
abbrev pub outputs_to_codes : List TerminalReplies → List EndedMessage → List EndedMessage
outputs_to_codes terminals outputs = filter (is_switched terminals) outputs

abbrev pub switched_message : List ℕ → EndedMessage → ℕ → Message
switched_message origin output id = record { id = id; origin = origin; code = output.to; conversation = false; segments = output.segments }

-- the messages that these become, from this id on, which keep their origin
abbrev pub switched_messages : List ℕ → List EndedMessage → ℕ → List Message
switched_messages origin [] next = []
switched_messages origin (output ∷ outputs) next =
    switched_message origin output next ∷ switched_messages origin outputs (next + 1)

-- messages that no region has, behind all others
abbrev pub with_messages : List Message → List Queued → List Queued
with_messages messages queued = queued ++ map (λ message. record { message = message; holder = None }) messages

-- the outputs that go to terminals, each as the last reply of its terminal, under its next number
abbrev pub with_replies : List EndedMessage → List TerminalReplies → List TerminalReplies
with_replies [] terminals = terminals
with_replies (output ∷ outputs) terminals = with_replies outputs (with_terminal output.to (with_reply output.segments) terminals)

-- these outputs were sent, under ids from `next` on; `after` is the next id then
pub record IsSent (origin : List ℕ) (outputs : List EndedMessage) (old new : QueuesState) (terminals replied : List TerminalReplies) (next after : ℕ) : Type 0 where
  pub queues : new ≡ record old { queued = with_messages (switched_messages origin (outputs_to_codes terminals outputs) next) old.queued }
  pub replies : replied ≡ with_replies outputs terminals
  pub next_id : after ≡ next + length (outputs_to_codes terminals outputs)
