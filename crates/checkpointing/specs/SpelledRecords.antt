-- Records that are appended to bytes.
use Rattle.std.specs.Prelude.{◌≡◌, ℕ, List, ◌++◌, length, slice_get, Some}
use Rattle.std.specs.List.{flat_map, AllByRecursion}
use Rattle.model_messages.specs.declared.conversation.TerminalConversation.{TerminalConversation}
use Rattle.log_records.specs.declared.record.Record.{Record}
use Rattle.log_records.specs.RecordSpelling.{record_spelling, IsLogRecord, HasRoomForPad}
use Rattle.model_machine.specs.Machine.{LastingState}
use Rattle.image_law.specs.SegmentCounts.{AreSegmentsCounted}

-- The bytes have these records, one after another, behind what was there.
pub record AddsSpelled (records : List Record) (before after : List ℕ) : Type 0 where
  pub bytes : after ≡ before ++ flat_map record_spelling records
  pub valid : AllByRecursion IsLogRecord records

-- each pad has room in its terminal's record
abbrev pub HaveRoom : List TerminalConversation → Type 0
HaveRoom terminals =
    (place : ℕ) (t : TerminalConversation) → slice_get terminals place ≡ Some t → HasRoomForPad t.conversation

-- A state whose records can be spelled: there are as many outputs and conversations as terminals, pads have room, and
-- messages and replies have 1 to 32 segments.
pub record IsWritable (state : LastingState) : Type 0 where
  pub outputs : length state.outputs ≡ length state.terminals
  pub conversations : length state.conversations ≡ length state.terminals
  pub pads : HaveRoom state.conversations
  pub counted : AreSegmentsCounted state
