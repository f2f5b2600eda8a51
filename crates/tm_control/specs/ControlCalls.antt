-- What a call of a control region does.
use Rattle.std.specs.Prelude.{◌≡◌, ℕ, ◌+◌, ◌≤◌, ◌++◌, Bool, true, false, List, [], ◌∷◌, Option, Some, None, if◌then◌else◌}
use Rattle.tm_disk.specs.Disk.{Image, DiskState, IsSameDisk, IsToldToStop, Stays, FailedSince, armed}
use Rattle.model_machine.specs.History.{AddsEntry, AddsNothing, IsCall, call_of, control_moment}
use Rattle.model_machine.specs.declared.counts.Counter.{Counter}
use Rattle.model_machine.specs.declared.entry.Entry.{Entry}
use Rattle.model_machine.specs.declared.entry.CheckpointRefused.{CheckpointRefused}
use Rattle.model_machine.specs.declared.entry.CheckpointRefused.TheVariants.{BusyRegion, Fault}
use Rattle.model_machine.specs.declared.entry.ControlFault.{ControlFault}
use Rattle.model_machine.specs.declared.entry.ControlFault.TheVariants.{Memory, Disk, Spent}
use Rattle.model_machine.specs.declared.entry.ControlCall.{ControlCall}
use Rattle.checkpointing.specs.Counts.{CountsUpTo}
use Rattle.checkpointing.specs.CheckpointParts.{forced_writer}
use Rattle.disk_law.specs.UnitCounts.{StandsUpTo}
use Rattle.tm_machine.specs.Parts.{PartsState}
use Rattle.logged_machine.specs.CallOutcome.{ActsOn, NumbersBy}
use Rattle.logged_machine.specs.ToldCalls.{own_bytes}
use Rattle.logged_machine.specs.CheckpointDue.{TakesCheckpointWhereDue, NoCheckpointIsDue, Raises}
use Rattle.tm_control.specs.ControlOnDisk.{ControlOnDisk, RecoversSince, front_of}

-- What no call changes, `arm` among them. The disk's time never runs back, and none cuts it.
pub record IsSameControl {D : Type 0} (state : D → DiskState) (old new : ControlOnDisk D) : Type 0 where
  pub system : new.control.system ≡ old.control.system
  pub opening : new.control.opening ≡ old.control.opening
  pub checkpoint : new.checkpoint ≡ old.checkpoint
  pub text : new.text ≡ old.text
  pub began : new.began ≡ old.began
  pub disk : IsSameDisk (state old.disk) (state new.disk)
  pub cuts : (state new.disk).cuts ≡ (state old.disk).cuts
  pub later : (state old.disk).clock ≤ (state new.disk).clock

-- The disk was told to stop at a write to come, where it can be told so, and nothing else has changed.
pub record HasArmed {D : Type 0} (state : D → DiskState) (writes : ℕ) (old new : ControlOnDisk D) : Type 0 where
  pub same : IsSameControl state old new
  pub told : IsToldToStop (state old.disk) (state new.disk)
  pub until_stop : (state new.disk).until_stop ≡ (if (state old.disk).can_arm then armed writes (state old.disk).until_stop else (state old.disk).until_stop)

-- What no call but `arm` changes: the disk isn't told to stop, and a stop to come is nearer by just the writes that were made.
pub record StaysSo {D : Type 0} (state : D → DiskState) (old new : ControlOnDisk D) : Type 0 where
  pub system : new.control.system ≡ old.control.system
  pub opening : new.control.opening ≡ old.control.opening
  pub checkpoint : new.checkpoint ≡ old.checkpoint
  pub text : new.text ≡ old.text
  pub began : new.began ≡ old.began
  pub disk : Stays (state old.disk) (state new.disk)
  pub later : (state old.disk).clock ≤ (state new.disk).clock

-- ---- entries

-- the parts of its machine, where its history has come to
abbrev pub parts_now : {D : Type 0} → ControlOnDisk D → PartsState
parts_now c = record { system = c.control.system; moment = control_moment c.control; databases = c.databases }

-- A call was answered: its entry, with the machine's answer at its place, stands at the end. The numbers of units and the databases
-- are what the answer says.
pub record Answered {D : Type 0} (state : D → DiskState) (old new : ControlOnDisk D) (entry : Entry) : Type 0 where
  pub adds : AddsEntry old.control new.control entry
  pub numbers : NumbersBy entry old.units new.units old.next_unit new.next_unit
  pub acts : ActsOn old.units entry (parts_now old) (parts_now new)
  pub up : new.up ≡ true
  pub no_fault : (state new.disk).faults ≡ (state old.disk).faults

-- The disk failed in the call: the entry stands at the end with the fault in place of its answer, and nothing is served
-- any more.
pub record BrokeOff {D : Type 0} (state : D → DiskState) (old new : ControlOnDisk D) (entry : Entry) : Type 0 where
  pub history : new.control.history ≡ old.control.history ++ entry ∷ []
  pub call : IsCall old.control.system (call_of entry)
  pub down : new.up ≡ false
  pub failed : FailedSince (state old.disk) (state new.disk)

-- The call could not be done: there is no entry.
pub record AddedNothing {D : Type 0} (state : D → DiskState) (old new : ControlOnDisk D) : Type 0 where
  pub adds : AddsNothing old.control new.control
  pub up : new.up ≡ true
  pub no_fault : (state new.disk).faults ≡ (state old.disk).faults

-- What it keeps of its log, the databases and the numbers of units are as they were.
pub record KeepsLog {D : Type 0} (old new : ControlOnDisk D) : Type 0 where
  pub databases : new.databases ≡ old.databases
  pub journal : new.journal ≡ old.journal
  pub forced : new.forced ≡ old.forced
  pub units : new.units ≡ old.units
  pub next_unit : new.next_unit ≡ old.next_unit

-- A reply was shown, or it was told whether nothing is left to do: the entry stands at the end and takes the room of one, and the
-- disk is as it was.
pub record Shows {D : Type 0} (state : D → DiskState) (old new : ControlOnDisk D) (entry : Entry) : Type 0 where
  pub adds : AddsEntry old.control new.control entry
  pub room : old.control.room ≡ new.control.room + 1
  pub up : new.up ≡ true
  pub disk : new.disk ≡ old.disk
  pub log : KeepsLog old new
  pub stays : StaysSo state old new

-- What a call adds, by the fault that its entry has in place of the answer.
abbrev pub AddsBy : {D : Type 0} → (D → DiskState) → Option ControlFault → ControlOnDisk D → ControlOnDisk D → Entry → Type 0
AddsBy state None old new entry = Answered state old new entry
AddsBy state (Some Disk) old new entry = BrokeOff state old new entry
AddsBy state (Some Memory) old new entry = AddedNothing state old new
AddsBy state (Some (Spent counter)) old new entry = AddedNothing state old new

-- the history gets an entry where the call was answered, and where the disk failed
abbrev pub is_noted : Option ControlFault → Bool
is_noted None = true
is_noted (Some Disk) = true
is_noted (Some Memory) = false
is_noted (Some (Spent counter)) = false

abbrev pub noted : Bool → List Entry → Entry → List Entry
noted true entries entry = entries ++ entry ∷ []
noted false entries entry = entries

-- ---- crashes

-- Whatever a crash might have left since the call began recovers to what lasted before it, behind at least the lasting steps that were
-- forced then: no step of the call itself is on the disk.
abbrev pub ControlCrashes : {D : Type 0} → (D → DiskState) → ControlOnDisk D → ControlOnDisk D → Type 0
ControlCrashes state old new =
    (image : Image) → (state new.disk).left_since (state old.disk).clock image → RecoversSince old.control.system old.control.opening old.forced old.control.history image

-- ---- what is forced

-- No fewer lasting steps are forced than before. A call that was answered forces none, unless a checkpoint is due before it: then all that
-- were done before are.
pub record ForcesWhereDue {D : Type 0} (call : ControlCall) (old new : ControlOnDisk D) : Type 0 where
  pub spares : NoCheckpointIsDue old.journal.log (own_bytes (parts_now old) old.units call) → new.forced ≡ old.forced
  pub due : (NoCheckpointIsDue old.journal.log (own_bytes (parts_now old) old.units call) → ⊥) → new.forced ≡ front_of old.control

abbrev pub ForcesBy : {D : Type 0} → Option ControlFault → ControlCall → ControlOnDisk D → ControlOnDisk D → Type 0
ForcesBy None call old new = ForcesWhereDue call old new
ForcesBy (Some fault) call old new = new.forced ≡ old.forced

-- All that was done is forced, and so each image recovers to what lasts. Nothing else has changed, and no entry was added.
pub record ForcesLog {D : Type 0} (state : D → DiskState) (old new : ControlOnDisk D) : Type 0 where
  pub adds : AddsNothing old.control new.control
  pub room : new.control.room ≡ old.control.room
  pub up : new.up ≡ true
  pub all : new.forced ≡ front_of old.control
  pub databases : new.databases ≡ old.databases
  pub units : new.units ≡ old.units
  pub next_unit : new.next_unit ≡ old.next_unit
  pub log : new.journal.log ≡ forced_writer old.journal.log
  pub restart : new.journal.restart ≡ old.journal.restart
  pub no_fault : (state new.disk).faults ≡ (state old.disk).faults

-- ---- writes

-- A call that appends no bytes of its own, or leaves 32 sectors of the log's area free with them, takes no checkpoint, and writes
-- nothing. Before any other a checkpoint is due. It takes one, in so many sectors at most, and from there does the same; or the disk
-- fails in the checkpoint, after so many sectors at most. For want of memory, or where a counter is spent, neither kind does anything.
abbrev pub WritesFrugally : {D : Type 0} → (D → DiskState) → Option ControlFault → ControlOnDisk D → ControlOnDisk D → Entry → Type 0
WritesFrugally state fault old new entry = TakesCheckpointWhereDue state fault (parts_now old) old.units (call_of entry) old.journal new.journal old.disk new.disk

-- ---- counters

-- While it is up, the log's next sequence has risen by so many sectors at most, and no other counter of its log by more than one.
abbrev pub RaisesBy : {D : Type 0} → ℕ → ControlOnDisk D → ControlOnDisk D → Type 0
RaisesBy sectors old new = new.up ≡ true → Raises sectors old.journal new.journal old.next_unit new.next_unit

-- Where what it counts on itself stands up to a bound, whatever a crash might have left since the call began counts further by so
-- much at most.
abbrev pub ControlCountsSince : {D : Type 0} → (D → DiskState) → ℕ → ControlOnDisk D → ControlOnDisk D → Type 0
ControlCountsSince state more old new =
    (high : ℕ) → StandsUpTo high old.journal old.next_unit → (image : Image) → (state new.disk).left_since (state old.disk).clock image → CountsUpTo old.control.system (high + more) image

-- The call says that a counter is spent exactly where one stands at its limit, and names the first. It is looked at before
-- all else.
abbrev pub TellsSpent : Option Counter → Option ControlFault → Type 0
TellsSpent (Some counter) fault = fault ≡ Some (Spent counter)
TellsSpent None fault = (counter : Counter) → fault ≡ Some (Spent counter) → ⊥

-- a control region with room for so many further entries
abbrev pub with_room : {D : Type 0} → ℕ → ControlOnDisk D → ControlOnDisk D
with_room room c = record c { control = record c.control { room = room } }

-- Where there was no memory nothing has changed, but for the room that was made for entries, and nothing was written.
abbrev pub StaysUndone : {D : Type 0} → Option ControlFault → ControlOnDisk D → ControlOnDisk D → Type 0
StaysUndone (Some Memory) old new = new ≡ with_room new.control.room old
StaysUndone (Some Disk) old new = Unit {0}
StaysUndone (Some (Spent counter)) old new = Unit {0}
StaysUndone None old new = Unit {0}

-- Where a region's work forbids a checkpoint, its entry is added, and nothing else has changed.
abbrev pub ControlStaysUntaken : {D : Type 0} → CheckpointRefused → ControlOnDisk D → ControlOnDisk D → Entry → Type 0
ControlStaysUntaken (BusyRegion region id) old new entry = new ≡ with_room new.control.room (record old { control = record old.control { history = old.control.history ++ entry ∷ [] } })
ControlStaysUntaken (Fault fault) old new entry = StaysUndone (Some fault) old new

-- Room that was made for entries is never taken back. A call that adds its entry uses up the room of one at most; any other leaves
-- at least as much room as there was.
abbrev pub SavesRoom : {D : Type 0} → Option ControlFault → ControlOnDisk D → ControlOnDisk D → Type 0
SavesRoom None old new = old.control.room ≤ new.control.room + 1
SavesRoom (Some Disk) old new = old.control.room ≤ new.control.room + 1
SavesRoom (Some Memory) old new = old.control.room ≤ new.control.room
SavesRoom (Some (Spent counter)) old new = old.control.room ≤ new.control.room

-- Where a counter is spent nothing at all has changed.
abbrev pub StaysSpent : {D : Type 0} → Option ControlFault → ControlOnDisk D → ControlOnDisk D → Type 0
StaysSpent (Some (Spent counter)) old new = new ≡ old
StaysSpent (Some Disk) old new = Unit {0}
StaysSpent (Some Memory) old new = Unit {0}
StaysSpent None old new = Unit {0}
