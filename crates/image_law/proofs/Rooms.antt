-- Each step of the machine keeps its room.
use Rattle.std.proofs.Common.{◌≡◌, ℕ, ◌+◌, ◌*◌, ◌≤◌, List, Option, Some, None, refl, arith}
use Rattle.std.proofs.lemmas.List.Sums.{sum_by_push}
use Rattle.tm_types.specs.declared.abend.AbendCode.{AbendCode}
use Rattle.tm_types.specs.declared.command.LastingCommand.{LastingCommand}
use Rattle.tm_types.specs.declared.command.LastingCommand.TheVariants.{StartTransaction, StopTransaction, StartTerminal, StopTerminal, DequeueFirst, DequeueAll, Exit, AssignClass, AssignPriority}
use Rattle.tm_types.specs.declared.message.Message.{Message}
use Rattle.model_messages.specs.declared.conversation.PadChange.{PadChange}
use Rattle.model_data.specs.declared.row.Row.{Row}
use Rattle.model_system.specs.System.{System}
use Rattle.model_messages.specs.Room.{input_needs, message_bytes, slot_room}
use Rattle.model_messages.specs.declared.ended_message.EndedMessage.{EndedMessage}
use Rattle.model_machine.specs.LastingSteps.{abend_outputs, applied, finished_by, input_message, kept_input, with_pad_by}
use Rattle.model_machine.specs.LastingSteps.LastingStep.{Accepts, Acknowledges, Completes, Discards, Commands}
use Rattle.model_machine.specs.Machine.{LastingState, Moment, busy_slots, content, message_at}
use Rattle.image_law.specs.SentMessages.{sent_bytes}
use Rattle.image_law.proofs.Contents.{acknowledged_bytes, dequeued_bytes, finished_content}
use Rattle.image_law.proofs.Refused.{IsNew, has_room}

-- what a message leaves that is there, or nothing
finished_within : (found : Option Message) (outputs : Message → List EndedMessage) (change : Message → PadChange) (lasting : LastingState) (bytes : ℕ)
    → ((message : Message) → found ≡ Some message → sent_bytes (outputs message) ≤ bytes) → content (finished_by found outputs (with_pad_by found change lasting)) ≤ content lasting + bytes
finished_within None outputs change lasting bytes each = omega arith
finished_within (Some message) outputs change lasting bytes each =
    omega (arith, finished_content message (outputs message) (with_pad_by (Some message) change lasting), each message refl)

-- a completion adds no more than a slot's room
pub completed_content : (id : ℕ) (rows : List (List Row)) (outputs : List EndedMessage) (pad : PadChange) (lasting : LastingState) → sent_bytes outputs ≤ 65536
    → content (applied (Completes id rows outputs pad) lasting) ≤ content lasting + 65536
completed_content id rows outputs pad lasting few = finished_within (message_at lasting.messages id) (λ _. outputs) (λ _. pad) (record lasting { rows = rows }) 65536 (λ message e. few)

-- nor does an abend
pub discarded_content : (id : ℕ) (abend : AbendCode) (lasting : LastingState) → ((message : Message) → message_at lasting.messages id ≡ Some message → sent_bytes (abend_outputs message abend) ≤ 65536)
    → content (applied (Discards id abend) lasting) ≤ content lasting + 65536
discarded_content id abend lasting few = finished_within (message_at lasting.messages id) (λ message. abend_outputs message abend) _ lasting 65536 few

-- an accepted input had its room
pub accepted_room : (system : System) (moment : Moment) (terminal : List ℕ) (number : ℕ) (segments : List (List ℕ)) → IsNew system moment terminal number segments
    → content (applied (Accepts terminal number (kept_input system moment.lasting terminal segments)) moment.lasting) + slot_room * busy_slots moment.slots ≤ system.qbytes
accepted_room system moment terminal number segments new =
    let kept = kept_input system moment.lasting terminal segments in
    let m : Message = input_message moment.lasting.next_id terminal kept in
    let need = input_needs (content moment.lasting) (message_bytes m) (busy_slots moment.slots) in
    omega (arith, has_room need system.qbytes new.room, sum_by_push message_bytes moment.lasting.messages m)

pub acknowledged_content : (terminal : List ℕ) (lasting : LastingState) → content (applied (Acknowledges terminal) lasting) ≤ content lasting
acknowledged_content terminal lasting = omega (arith, acknowledged_bytes terminal lasting.outputs)

-- no command adds to the content
pub commanded_content : (command : LastingCommand) (lasting : LastingState) → content (applied (Commands command) lasting) ≤ content lasting
commanded_content (StartTransaction code) lasting = omega arith
commanded_content (StopTransaction code) lasting = omega arith
commanded_content (StartTerminal terminal) lasting = omega arith
commanded_content (StopTerminal terminal) lasting = omega arith
commanded_content (DequeueFirst terminal) lasting = acknowledged_content terminal lasting
commanded_content (DequeueAll terminal) lasting = omega (arith, dequeued_bytes terminal lasting.outputs)
commanded_content (Exit terminal) lasting = omega arith
commanded_content (AssignClass code class) lasting = omega arith
commanded_content (AssignPriority code priority) lasting = omega arith
