-- What calls do to the slots of the databases, and what a turn tells of that.
use Rattle.std.specs.Prelude.{◌≡◌, ◌<◌, ◌≤◌, ⊤, ℕ, ◌-◌, Option, None, IfSome, IsSome, List, [], ◌∷◌, ◌++◌, length, slice_set}
use Rattle.std.specs.List.{AllByRecursion, flat_map}
use Rattle.std.specs.Option.{option_map_or}
use Rattle.model_data.specs.declared.victim.Victim.{Victim}
use Rattle.model_system.specs.Jobs.{Job, job_of}
use Rattle.model_machine.specs.declared.entry.ControlCall.TheVariants.{Turn}
use Rattle.model_machine.specs.declared.entry.Turned.{Turned}
use Rattle.model_machine.specs.declared.entry.Turned.TheVariants.{Scheduled, Called, Next, QC, Done, Abended, Idle, Held, Waits, Backed}
use Rattle.tm_types.specs.declared.dbd.Dbd.{Dbd}
use Rattle.model_machine.specs.Machine.{Slot, slot_at, slot_in}
use Rattle.model_machine.specs.WorkSoFar.{slot_trial}
use Rattle.log_records.specs.declared.record.Record.{Record}
use Rattle.log_records.specs.RecordSpelling.{record_spelling, IsLogRecord}
use Rattle.pi_enqueue.specs.KeptTable.{IsTableKept}
use Rattle.program_rows.specs.DatabasesState.{committed_rows}
use Rattle.program_rows.specs.SlotsState.{SlotsState, slots_state_of, touched_in, CallsSo, CommitsSo, GivesUpSo, HaveSlots, HoldsSlot}
use Rattle.message_run.specs.MessageChanges.{next_told}
use Rattle.system_types.specs.ValidSystem.{IsSystem}
use Rattle.tm_machine.specs.Parts.{PartsState, IsConversationOf}
use Rattle.tm_machine.specs.ToldByCall.{told_records_of}

-- the slots of the databases
abbrev pub slots_now : PartsState → SlotsState
slots_now state = slots_state_of state.databases

-- A victim that was at work, where these regions were, gives up what it has changed, and the later ones follow.
pub record GivesUpThen (dbds : List Dbd) (regions : ℕ) (taken : List (Option Slot)) (region : ℕ) (later : SlotsState → SlotsState → Type 0) (old new : SlotsState) : Type 0 where
  pub least : 1 ≤ region
  pub busy : IsSome (slot_in taken region)
  pub middle : SlotsState
  pub gives_up : GivesUpSo region old middle
  pub have : HaveSlots dbds regions middle
  pub rest : later middle new

-- Victims give up what they have changed, one after another.
abbrev pub GiveUpSo : List Dbd → ℕ → List (Option Slot) → List Victim → SlotsState → SlotsState → Type 0
GiveUpSo dbds regions taken [] old new = new ≡ old
GiveUpSo dbds regions taken (v ∷ victims) old new =
    GivesUpThen dbds regions taken v.region (GiveUpSo dbds regions (slice_set taken (v.region - 1) None) victims) old new

-- so for the regions of a state
abbrev pub VictimsGiveUp : PartsState → List Victim → SlotsState → SlotsState → Type 0
VictimsGiveUp state victims old new = GiveUpSo state.system.databases (length state.system.regions) state.moment.slots victims old new

-- ---- what a turn tells

-- what the next call of a region's script tells, in this unit: nothing where it is blocked, leads to an abend, or isn't a call
abbrev pub next_call_told : PartsState → ℕ → ℕ → Slot → Job → List Record
next_call_told state unit region slot job =
    option_map_or (next_told unit region state.databases job) (slot_trial state.system state.moment.lasting slot) []

abbrev pub changes_told : PartsState → ℕ → ℕ → List Record
changes_told state unit region =
    option_map_or (λ slot. option_map_or (next_call_told state unit region slot) (job_of state.system slot.code) []) (slot_at state.moment region) []

-- a turn's call tells what it changes, and a turn that ends the work tells its step; none does both
abbrev pub turn_records : PartsState → ℕ → ℕ → List Record
turn_records state unit region = changes_told state unit region ++ told_records_of state.system state.moment unit (Turn region)

-- only a call tells changes
abbrev pub TellByCall : List Record → Turned → Type 0
TellByCall changes (Called function pcb status) = ⊤
TellByCall changes (Next code id next) = changes ≡ []
TellByCall changes (QC code id) = changes ≡ []
TellByCall changes (Done code id) = changes ≡ []
TellByCall changes (Abended code id abend) = changes ≡ []
TellByCall changes (Backed victims) = changes ≡ []
TellByCall changes (Scheduled code id) = changes ≡ []
TellByCall changes Idle = changes ≡ []
TellByCall changes (Held need limit) = changes ≡ []
TellByCall changes (Waits resource by) = changes ≡ []

-- They were appended, each one by the ranges of its fields, and fit the room.
pub record TurnTells (state : PartsState) (unit room region : ℕ) (before after : List ℕ) : Type 0 where
  pub told : after ≡ before ++ flat_map record_spelling (turn_records state unit region)
  pub changes : AllByRecursion IsLogRecord (changes_told state unit region)
  pub steps : AllByRecursion IsLogRecord (told_records_of state.system state.moment unit (Turn region))
  pub fits : length (flat_map record_spelling (turn_records state unit region)) ≤ room

-- they are longer than the room
abbrev pub IsTurnLonger : PartsState → ℕ → ℕ → ℕ → Type 0
IsTurnLonger state unit room region = room < length (flat_map record_spelling (turn_records state unit region))

-- ---- what a turn does

-- By its answer: a call changes slots as it tells; the end of the work commits what its region has changed, or takes it back;
-- victims take theirs back; all else leaves the slots.
abbrev pub TurnsSo : PartsState → PartsState → ℕ → ℕ → Turned → Type 0
TurnsSo old new unit region (Called function pcb status) = CallsSo unit region (slots_now old) (slots_now new) (changes_told old unit region)
TurnsSo old new unit region (Next code id next) = CommitsSo region (slots_now old) (slots_now new)
TurnsSo old new unit region (QC code id) = CommitsSo region (slots_now old) (slots_now new)
TurnsSo old new unit region (Done code id) = CommitsSo region (slots_now old) (slots_now new)
TurnsSo old new unit region (Abended code id abend) = GivesUpSo region (slots_now old) (slots_now new)
TurnsSo old new unit region (Backed victims) = VictimsGiveUp old victims (slots_now old) (slots_now new)
TurnsSo old new unit region (Scheduled code id) = slots_now new ≡ slots_now old
TurnsSo old new unit region Idle = slots_now new ≡ slots_now old
TurnsSo old new unit region (Held need limit) = slots_now new ≡ slots_now old
TurnsSo old new unit region (Waits resource by) = slots_now new ≡ slots_now old

-- ---- what always holds

-- The slots are those of the system's databases, touched by its regions, which hold them alone. What lasts has the rows that are
-- committed, and the moment what the regions hold and wait for. The system is valid, and each conversation is of one of its
-- codes, with a pad for it.
pub record HasSlots (state : PartsState) : Type 0 where
  pub have : HaveSlots state.system.databases (length state.system.regions) (slots_now state)
  pub held : (region : ℕ) → 1 ≤ region → AllByRecursion (HoldsSlot state.databases.table region) (touched_in region (slots_now state))
  pub compatible : IsTableKept state.databases.table
  pub table_is : state.databases.table ≡ state.moment.enqueues
  pub rows_are : committed_rows state.databases ≡ state.moment.lasting.rows
  pub defined : IsSystem state.system
  pub pads : AllByRecursion (λ t. IfSome t.conversation (IsConversationOf state.system)) state.moment.lasting.conversations
