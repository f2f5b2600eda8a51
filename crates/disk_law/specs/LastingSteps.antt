-- The lasting steps of a life: an input is accepted, a reply is acknowledged, a command is done, a message is discarded or
-- completed.
use Rattle.std.specs.Prelude.{◌≡◌, ℕ, ◌+◌, ◌<◌, true, List, [], ◌∷◌, ◌++◌, Bool, Some}
use Rattle.std.specs.List.{list_all}
use Rattle.std.specs.Option.{is_some}
use Rattle.tm_types.specs.declared.abend.AbendCode.{AbendCode}
use Rattle.tm_types.specs.declared.command.LastingCommand.{LastingCommand}
use Rattle.tm_types.specs.declared.message.Message.{Message}
use Rattle.tm_types.specs.declared.message.Reply.{Reply as KeptReply}
use Rattle.tm_types.specs.Commands as command_texts
use Rattle.model_messages.specs.declared.conversation.PadChange.{PadChange}
use Rattle.model_messages.specs.Outputs.{next_of, reply_at}
use Rattle.model_messages.specs.declared.ended_message.EndedMessage.{EndedMessage}
use Rattle.model_data.specs.declared.row.Row.{Row}
use Rattle.model_machine.specs.declared.lasting.TerminalState.{TerminalState}
use Rattle.model_machine.specs.Machine.{LastingState, terminal_at, message_at, output_at}
use Rattle.model_machine.specs.LastingSteps.{KeptInput, kept_input, applied}
use Rattle.model_machine.specs.LastingSteps.LastingStep.{Accepts, Acknowledges, Completes, Discards, Commands}
use Rattle.log_records.specs.declared.record.Record.{Record}
use Rattle.log_records.specs.declared.record.Record.TheVariants.{Input, Command, Discarded, Acknowledged, SyncPoint}
use Rattle.model_image.specs.States.{is_system_terminal, is_system_code}
use Rattle.model_image.specs.StepRecords.{completion_records}
use Rattle.image_law.specs.SoundState.{FitsRanges}
use Rattle.model_image.specs.Replay.{names_known}
use Rattle.image_law.specs.StepNeeds.{EndsNoneWaiting, HasPads, IsConversationFree, PadFits, has_receiver}
use Rattle.disk_law.specs.CommittedBytes.{without_touches, without_sync, synced}
use Rattle.disk_law.specs.Life.{LifeOnDisk, SpellRows}
use Rattle.disk_law.specs.SlotChanges.{put_back, MarksBack}
use Rattle.disk_law.specs.LifeSteps.{StepOnDisk, HasRoomForRecords}

-- a step that leaves slots and units as they are
abbrev pub beside_slots : List Record → LastingState → LifeOnDisk → StepOnDisk
beside_slots records lasting life = record {
  records = records;
  lasting = lasting;
  committed = life.committed;
  present = life.present;
  changed = life.changed;
  touches = life.touches;
  may_sync = life.may_sync;
}

-- ---- an input is accepted

abbrev pub input_of : List ℕ → List (List ℕ) → LifeOnDisk → KeptInput
input_of terminal segments life = kept_input life.system life.lasting terminal segments

abbrev pub life_input_record : List ℕ → ℕ → List (List ℕ) → LifeOnDisk → Record
life_input_record terminal number segments life =
    let kept = input_of terminal segments life in
    Input 0 life.lasting.next_id terminal kept.code number kept.conversation kept.segments

abbrev pub accepting : List ℕ → ℕ → List (List ℕ) → LifeOnDisk → StepOnDisk
accepting terminal number segments life =
    beside_slots (life_input_record terminal number segments life ∷ []) (applied (Accepts terminal number (input_of terminal segments life)) life.lasting) life

-- The input's number is the next one of its terminal, which is one of the system and has a place for a conversation; it goes
-- to a code of the system; and there is room for it.
pub record MayAccept (terminal : List ℕ) (number : ℕ) (segments : List (List ℕ)) (life : LifeOnDisk) : Type 0 where
  pub pads : HasPads life.system
  pub state : TerminalState
  pub found : terminal_at life.lasting.terminals terminal ≡ Some state
  pub next : state.last + 1 ≡ number
  pub known : is_system_terminal life.system terminal ≡ true
  pub free : IsConversationFree terminal life.lasting
  pub to_code : is_system_code life.system (input_of terminal segments life).code ≡ true
  pub fits : FitsRanges life.system (applied (Accepts terminal number (input_of terminal segments life)) life.lasting)
  pub room : HasRoomForRecords life (life_input_record terminal number segments life ∷ [])

-- ---- a reply is acknowledged

abbrev pub acknowledging : List ℕ → ℕ → LifeOnDisk → StepOnDisk
acknowledging terminal number life = beside_slots (Acknowledged terminal number ∷ []) (applied (Acknowledges terminal) life.lasting) life

-- It is the first that is kept for its terminal, which is one of the system.
pub record MayAcknowledge (terminal : List ℕ) (number : ℕ) (life : LifeOnDisk) : Type 0 where
  pub reply : KeptReply
  pub found : reply_at terminal 0 life.lasting.outputs ≡ Some reply
  pub same : reply.number ≡ number
  pub known : is_system_terminal life.system terminal ≡ true
  pub fits : FitsRanges life.system (applied (Acknowledges terminal) life.lasting)
  pub room : HasRoomForRecords life (Acknowledged terminal number ∷ [])

-- ---- a command is done

abbrev pub command_record : LastingCommand → Record
command_record command = Command (command_texts.command_spelling command)

abbrev pub commanding : LastingCommand → LifeOnDisk → StepOnDisk
commanding command life = beside_slots (command_record command ∷ []) (applied (Commands command) life.lasting) life

-- It names a code or a terminal of the system, assigns what may be, and ends no conversation of which a message waits.
pub record MayCommand (command : LastingCommand) (life : LifeOnDisk) : Type 0 where
  pub named : command_texts.IsSpellable command
  pub known : names_known life.system command ≡ true
  pub none : EndsNoneWaiting command life.lasting
  pub fits : FitsRanges life.system (applied (Commands command) life.lasting)
  pub room : HasRoomForRecords life (command_record command ∷ [])

-- ---- a message is discarded

-- Its unit ends without a sync point: its slots are put back, and these are the ones that count as changed then.
abbrev pub discarding : ℕ → Message → AbendCode → (ℕ → ℕ → Bool) → LifeOnDisk → StepOnDisk
discarding unit message abend changed life = record {
  records = Discarded unit message.id abend (next_of message.origin life.lasting.outputs) ∷ [];
  lasting = applied (Discards message.id abend) life.lasting;
  committed = life.committed;
  present = put_back unit life.touches life.present;
  changed = changed;
  touches = without_touches unit life.touches;
  may_sync = without_sync unit life.may_sync;
}

-- The message is there, and replies are kept for its origin.
pub record MayDiscard (unit : ℕ) (message : Message) (abend : AbendCode) (changed : ℕ → ℕ → Bool) (life : LifeOnDisk) : Type 0 where
  pub found : message_at life.lasting.messages message.id ≡ Some message
  pub origin : is_some (output_at life.lasting.outputs message.origin) ≡ true
  pub fits : FitsRanges life.system (applied (Discards message.id abend) life.lasting)
  pub marks : MarksBack unit changed life
  pub room : HasRoomForRecords life (Discarded unit message.id abend (next_of message.origin life.lasting.outputs) ∷ [])

-- ---- a message is completed

abbrev pub unit_records : ℕ → Message → List EndedMessage → PadChange → LifeOnDisk → List Record
unit_records unit message outputs pad life = completion_records unit message.origin message.id outputs life.lasting ++ SyncPoint unit pad ∷ []

-- Its unit reaches its sync point: what it touched is committed as it stands. The rows are these then.
abbrev pub completing : ℕ → Message → List EndedMessage → PadChange → List (List Row) → LifeOnDisk → StepOnDisk
completing unit message outputs pad lines life = record {
  records = unit_records unit message outputs pad life;
  lasting = applied (Completes message.id lines outputs pad) life.lasting;
  committed = synced unit life.touches life.committed;
  present = life.present;
  changed = life.changed;
  touches = without_touches unit life.touches;
  may_sync = without_sync unit life.may_sync;
}

-- The message is there, its outputs go to terminals that are known or to codes that take them, its pad may change so, and
-- the rows are those of the slots.
pub record MayComplete (unit : ℕ) (message : Message) (outputs : List EndedMessage) (pad : PadChange) (lines : List (List Row)) (life : LifeOnDisk) : Type 0 where
  pub some : 0 < unit
  pub may : life.may_sync unit ≡ true
  pub found : message_at life.lasting.messages message.id ≡ Some message
  pub receivers : list_all (has_receiver life.system life.lasting.outputs) outputs ≡ true
  pub pad_fits : PadFits life.system pad message life.lasting
  pub fits : FitsRanges life.system (applied (Completes message.id lines outputs pad) life.lasting)
  pub spells : SpellRows life.system (synced unit life.touches life.committed) lines
  pub room : HasRoomForRecords life (unit_records unit message outputs pad life)
