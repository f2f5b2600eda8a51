-- How far a step raises what is counted of what lasts.
use Rattle.std.proofs.Common.{ℕ, ◌+◌, ◌≤◌, Bool, true, false, List, [], ◌∷◌, Option, Some, None, length, arith}
use Rattle.std.specs.Prelude.{if◌then◌else◌, map}
use Rattle.std.specs.Option.{is_some}
use Rattle.tm_types.specs.declared.command.LastingCommand.{LastingCommand}
use Rattle.tm_types.specs.declared.command.LastingCommand.TheVariants.{StartTransaction, StopTransaction, StartTerminal, StopTerminal, DequeueFirst, DequeueAll, Exit, AssignClass, AssignPriority}
use Rattle.tm_types.specs.declared.message.Message.{Message}
use Rattle.model_messages.specs.declared.replies.TerminalReplies.{TerminalReplies}
use Rattle.model_messages.specs.Outputs.{fresh_terminal, are_replies_of, with_terminal, with_reply, without_first}
use Rattle.model_messages.specs.declared.conversation.PadChange.{PadChange}
use Rattle.model_messages.specs.declared.ended_message.EndedMessage.{EndedMessage}
use Rattle.model_system.specs.System.{System}
use Rattle.model_machine.specs.Machine.{LastingState, message_at, output_at, empty_state}
use Rattle.model_machine.specs.LastingSteps.{LastingStep, abend_outputs, acknowledged, all_sent, applied, changed, commanded, discarded_pad, finished, finished_by, replied, output_sent, switched, with_pad_by, without_replies}
use Rattle.model_machine.specs.LastingSteps.LastingStep.{Accepts, Acknowledges, Completes, Discards, Commands}
use Rattle.session_law.specs.Counts.{LastsUpTo, RepliesUpTo, most_raised}

-- ---- higher bounds

pub replies_higher : (low high : ℕ) → low ≤ high → (outputs : List TerminalReplies) → RepliesUpTo low outputs → RepliesUpTo high outputs
replies_higher low high le [] h = tt
replies_higher low high le (t ∷ ts) h = (omega (arith, le, h.0), replies_higher low high le ts h.1)

pub lasts_higher : (low high : ℕ) (lasting : LastingState) → low ≤ high → LastsUpTo low lasting → LastsUpTo high lasting
lasts_higher low high lasting le h = record {
  next_id = omega (arith, le, h.next_id);
  steps = omega (arith, le, h.steps);
  replies = replies_higher low high le lasting.outputs h.replies;
}

-- ---- the empty state

fresh_replies : (high : ℕ) → 1 ≤ high → (names : List (List ℕ)) → RepliesUpTo high (map fresh_terminal names)
fresh_replies high le [] = tt
fresh_replies high le (name ∷ names) = (omega (arith, le), fresh_replies high le names)

-- The empty state counts up to 1.
pub empty_lasts : (system : System) (high : ℕ) → 1 ≤ high → LastsUpTo high (empty_state system)
empty_lasts system high le = record { next_id = omega (arith, le); steps = omega arith; replies = fresh_replies high le system.terminals }

-- ---- what is sent

changed_replies : (name : List ℕ) (change : TerminalReplies → TerminalReplies) (low high : ℕ) → low ≤ high → ((t : TerminalReplies) → t.next ≤ low → (change t).next ≤ high) → (outputs : List TerminalReplies)
    → RepliesUpTo low outputs → RepliesUpTo high (with_terminal name change outputs)
changed_replies name change low high le rises [] h = tt
changed_replies name change low high le rises (t ∷ ts) h = by (are_replies_of name t) (changed_replies name change low high le rises ts h.1) where
  by : (b : Bool) → RepliesUpTo high (with_terminal name change ts) → RepliesUpTo high (if b then change t ∷ ts else t ∷ with_terminal name change ts)
  by true rest = (rises t h.0, replies_higher low high le ts h.1)
  by false rest = (omega (arith, le, h.0), rest)

-- what sending counts on: the next id, and each terminal's next reply
record SendsUpTo (high : ℕ) (lasting : LastingState) : Type 0 where
  next_id : lasting.next_id ≤ high
  replies : RepliesUpTo high lasting.outputs

one_sent : (origin : List ℕ) (output : EndedMessage) (high : ℕ) (lasting : LastingState) → SendsUpTo high lasting → SendsUpTo (high + 1) (output_sent origin output lasting)
one_sent origin output high lasting h = by (is_some (output_at lasting.outputs output.to)) where
  by : (b : Bool) → SendsUpTo (high + 1) (if b then replied output lasting else switched origin output lasting)
  by true = record {
    next_id = omega (arith, h.next_id);
    replies = changed_replies output.to (with_reply output.segments) high (high + 1) (omega arith) (λ t le. omega (arith, le)) lasting.outputs h.replies;
  }
  by false = record { next_id = omega (arith, h.next_id); replies = replies_higher high (high + 1) (omega arith) lasting.outputs h.replies }

sends_higher : (low high : ℕ) (lasting : LastingState) → low ≤ high → SendsUpTo low lasting → SendsUpTo high lasting
sends_higher low high lasting le h = record { next_id = omega (arith, le, h.next_id); replies = replies_higher low high le lasting.outputs h.replies }

each_sent : (origin : List ℕ) (outputs : List EndedMessage) (high : ℕ) (lasting : LastingState) → SendsUpTo high lasting → SendsUpTo (high + length outputs) (all_sent origin outputs lasting)
each_sent origin [] high lasting h = sends_higher high (high + 0) lasting (omega arith) h
each_sent origin (output ∷ outputs) high lasting h =
    sends_higher (high + 1 + length outputs) (high + length (output ∷ outputs)) (all_sent origin outputs (output_sent origin output lasting)) (omega arith)
    (each_sent origin outputs (high + 1) (output_sent origin output lasting) (one_sent origin output high lasting h))

-- a message that is gone, with what it sent; or none
few_sent : (message : Option Message) (outputs : Message → List EndedMessage) (high : ℕ) (lasting : LastingState) → ((m : Message) → length (outputs m) ≤ most_raised) → SendsUpTo high lasting
    → SendsUpTo (high + most_raised) (finished_by message outputs lasting)
few_sent None outputs high lasting few h = sends_higher high (high + most_raised) lasting (omega arith) h
few_sent (Some m) outputs high lasting few h =
    sends_higher (high + length (outputs m)) (high + most_raised) (finished m (outputs m) lasting) (omega (arith, few m))
    (each_sent m.origin (outputs m) high _ (record { next_id = h.next_id; replies = h.replies }))

pad_sends : (message : Option Message) (change : Message → PadChange) (high : ℕ) (lasting : LastingState) → SendsUpTo high lasting → SendsUpTo high (with_pad_by message change lasting)
pad_sends None change high lasting h = h
pad_sends (Some m) change high lasting h = record { next_id = h.next_id; replies = h.replies }

commanded_sends : (command : LastingCommand) (high : ℕ) (lasting : LastingState) → SendsUpTo high lasting → SendsUpTo high (commanded command lasting)
commanded_sends (StartTransaction code) high lasting h = record { next_id = h.next_id; replies = h.replies }
commanded_sends (StopTransaction code) high lasting h = record { next_id = h.next_id; replies = h.replies }
commanded_sends (StartTerminal terminal) high lasting h = record { next_id = h.next_id; replies = h.replies }
commanded_sends (StopTerminal terminal) high lasting h = record { next_id = h.next_id; replies = h.replies }
commanded_sends (DequeueFirst terminal) high lasting h = record {
  next_id = h.next_id;
  replies = changed_replies terminal without_first high high (omega arith) (λ t le. le) lasting.outputs h.replies;
}
commanded_sends (DequeueAll terminal) high lasting h = record {
  next_id = h.next_id;
  replies = changed_replies terminal without_replies high high (omega arith) (λ t le. le) lasting.outputs h.replies;
}
commanded_sends (Exit terminal) high lasting h = record { next_id = h.next_id; replies = h.replies }
commanded_sends (AssignClass code class) high lasting h = record { next_id = h.next_id; replies = h.replies }
commanded_sends (AssignPriority code priority) high lasting h = record { next_id = h.next_id; replies = h.replies }

-- ---- steps

-- a step that sends at most so many outputs as a unit may
abbrev pub SendsSome : LastingStep → Type 0
SendsSome (Completes id rows outputs pad) = length outputs ≤ most_raised
SendsSome _ = Unit {0}

changed_sends : (step : LastingStep) → SendsSome step → (high : ℕ) (lasting : LastingState) → SendsUpTo high lasting → SendsUpTo (high + most_raised) (changed step lasting)
changed_sends (Accepts terminal number kept) few high lasting h = record { next_id = omega (arith, h.next_id); replies = replies_higher high (high + most_raised) (omega arith) lasting.outputs h.replies }
changed_sends (Acknowledges terminal) few high lasting h =
    sends_higher high (high + most_raised) (acknowledged terminal lasting) (omega arith) (commanded_sends (DequeueFirst terminal) high lasting h)
changed_sends (Completes id rows outputs pad) few high lasting h =
    few_sent (message_at lasting.messages id) (λ _. outputs) high _ (λ m. few)
    (pad_sends (message_at lasting.messages id) (λ _. pad) high (record lasting { rows = rows }) (record { next_id = h.next_id; replies = h.replies }))
changed_sends (Discards id abend) few high lasting h =
    few_sent (message_at lasting.messages id) (λ m. abend_outputs m abend) high _ (λ m. omega arith) (pad_sends (message_at lasting.messages id) discarded_pad high lasting h)
changed_sends (Commands command) few high lasting h =
    sends_higher high (high + most_raised) (commanded command lasting) (omega arith) (commanded_sends command high lasting h)

-- A step raises no counter by more than 32.
pub step_lasts : (step : LastingStep) → SendsSome step → (high : ℕ) (lasting : LastingState) → LastsUpTo high lasting → LastsUpTo (high + most_raised) (applied step lasting)
step_lasts step few high lasting h =
    let s = changed_sends step few high lasting (record { next_id = h.next_id; replies = h.replies }) in
    record { next_id = s.next_id; steps = omega (arith, h.steps); replies = s.replies }
