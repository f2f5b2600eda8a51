-- The rows of a state stand aside: a step changes all else alike, whatever they are.
use Rattle.std.proofs.Common.{◌≡◌, Bool, true, false, List, [], ◌∷◌, ℕ, ◌+◌, refl, ◌∙◌, ap, Some, None}
use Rattle.std.specs.Prelude.{Option}
use Rattle.std.specs.Option.{is_some}
use Rattle.tm_types.specs.declared.command.LastingCommand.{LastingCommand}
use Rattle.tm_types.specs.declared.command.LastingCommand.TheVariants.{StartTransaction, StopTransaction, StartTerminal, StopTerminal, DequeueFirst, DequeueAll, Exit, AssignClass, AssignPriority}
use Rattle.tm_types.specs.declared.message.Message.{Message}
use Rattle.model_messages.specs.declared.conversation.PadChange.{PadChange}
use Rattle.model_messages.specs.declared.ended_message.EndedMessage.{EndedMessage}
use Rattle.model_data.specs.declared.row.Row.{Row}
use Rattle.model_machine.specs.Machine.{LastingState, message_at, output_at}
use Rattle.model_machine.specs.LastingSteps.{LastingStep, applied, output_sent, all_sent, without_message, finished_by, with_pad_by, with_pad_changed, discarded_pad, abend_outputs}
use Rattle.model_machine.specs.LastingSteps.LastingStep.{Accepts, Acknowledges, Completes, Discards, Commands}

abbrev pub with_rows : List (List Row) → LastingState → LastingState
with_rows rows lasting = record lasting { rows = rows }

-- a step with these rows, where it has any
abbrev pub at_rows : List (List Row) → LastingStep → LastingStep
at_rows rows (Completes id others outputs pad) = Completes id rows outputs pad
at_rows rows (Accepts terminal number kept) = Accepts terminal number kept
at_rows rows (Acknowledges terminal) = Acknowledges terminal
at_rows rows (Discards id abend) = Discards id abend
at_rows rows (Commands command) = Commands command

module _ (rows : List (List Row)) where
  sent_rows : (origin : List ℕ) (output : EndedMessage) (lasting : LastingState) (b : Bool) → is_some (output_at lasting.outputs output.to) ≡ b → with_rows rows (output_sent origin output lasting) ≡ output_sent origin output (with_rows rows lasting)
  sent_rows origin output lasting true is = rw is refl
  sent_rows origin output lasting false is = rw is refl

  all_sent_rows : (origin : List ℕ) (outputs : List EndedMessage) (lasting : LastingState) → with_rows rows (all_sent origin outputs lasting) ≡ all_sent origin outputs (with_rows rows lasting)
  all_sent_rows origin [] lasting = refl
  all_sent_rows origin (output ∷ outputs) lasting =
      all_sent_rows origin outputs (output_sent origin output lasting)
      ∙ ap (all_sent origin outputs) (sent_rows origin output lasting (is_some (output_at lasting.outputs output.to)) refl)

  finished_rows : (o : Option Message) (outputs : Message → List EndedMessage) (pad : Message → PadChange) (lasting : LastingState) →
      with_rows rows (finished_by o outputs (with_pad_by o pad lasting)) ≡ finished_by o outputs (with_pad_by o pad (with_rows rows lasting))
  finished_rows (Some message) outputs pad lasting =
      all_sent_rows message.origin (outputs message) (record lasting { conversations = with_pad_changed (pad message) message.origin lasting.conversations; messages = without_message lasting.messages message.id })
  finished_rows None outputs pad lasting = refl

  commanded_rows : (command : LastingCommand) (lasting : LastingState) → with_rows rows (applied (Commands command) lasting) ≡ applied (Commands command) (with_rows rows lasting)
  commanded_rows (StartTransaction code) lasting = refl
  commanded_rows (StopTransaction code) lasting = refl
  commanded_rows (StartTerminal terminal) lasting = refl
  commanded_rows (StopTerminal terminal) lasting = refl
  commanded_rows (DequeueFirst terminal) lasting = refl
  commanded_rows (DequeueAll terminal) lasting = refl
  commanded_rows (Exit terminal) lasting = refl
  commanded_rows (AssignClass code class) lasting = refl
  commanded_rows (AssignPriority code priority) lasting = refl

  pub rows_aside : (step : LastingStep) (lasting : LastingState) → with_rows rows (applied step lasting) ≡ applied (at_rows rows step) (with_rows rows lasting)
  rows_aside (Accepts terminal number kept) lasting = refl
  rows_aside (Acknowledges terminal) lasting = refl
  rows_aside (Completes id others outputs pad) lasting =
      ap (λ (l : LastingState). record l { steps = lasting.steps + 1 }) (finished_rows (message_at lasting.messages id) (λ _. outputs) (λ _. pad) (with_rows others lasting))
  rows_aside (Discards id abend) lasting =
      ap (λ (l : LastingState). record l { steps = lasting.steps + 1 }) (finished_rows (message_at lasting.messages id) (λ message. abend_outputs message abend) discarded_pad lasting)
  rows_aside (Commands command) lasting = commanded_rows command lasting
