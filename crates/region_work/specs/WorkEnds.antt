-- Where the outputs of a region's work go, and the message that the region goes on with behind it.
use Rattle.std.specs.Prelude.{ℕ, ◌+◌, ◌*◌, nat_le, ◌&&◌, if◌then◌else◌, Option, Some, None, List, map}
use Rattle.model_messages.specs.Queue.{first_free}
use Rattle.model_messages.specs.Room.{slot_room}
use Rattle.model_messages.specs.declared.ended_message.EndedMessage.{EndedMessage}
use Rattle.model_system.specs.declared.code.Code.{Code}
use Rattle.model_system.specs.declared.code_state.CodeState.{CodeState}
use Rattle.model_machine.specs.MachineCalls.{may_go_on}
use Rattle.lasting_state.specs.Tables.{TablesState, tables_content}

-- where outputs go
abbrev pub destinations : List EndedMessage → List (List ℕ)
destinations outputs = map (λ output. output.to) outputs

-- The message that a region goes on with behind a completion, by its code and the code's state; so
-- many regions were busy with this one.
abbrev pub goes_on_with : ℕ → TablesState → List ℕ → ℕ → ℕ → Option Code → Option CodeState → Option ℕ
goes_on_with qbytes tables name taken busy (Some code) (Some state) =
    if may_go_on code.transaction state taken && nat_le (tables_content tables + slot_room * busy) qbytes
    then first_free name tables.queues.queued
    else None
goes_on_with qbytes tables name taken busy _ _ = None
