-- What one attempt of a call leaves, and what a checkpoint does.
use Rattle.std.specs.Prelude.{◌≡◌, ℕ, ◌+◌, ◌*◌, ◌≤◌, Bool, true, false, List, [], ◌∷◌, Option, Some, None}
use Rattle.tm_disk.specs.Disk.{Image, DiskState, FailedSince, Only, WritesAtMost}
use Rattle.checkpointing.specs.Counts.{CountsUpTo}
use Rattle.disk_law.specs.UnitCounts.{StandsUpTo}
use Rattle.model_machine.specs.Machine.{LastingState}
use Rattle.model_machine.specs.History.{call_of}
use Rattle.model_machine.specs.declared.entry.Entry.{Entry}
use Rattle.model_machine.specs.declared.entry.ControlFault.{ControlFault}
use Rattle.model_machine.specs.declared.entry.ControlFault.TheVariants.{Memory, Disk, Spent}
use Rattle.openings.specs.Faults.{fault_in}
use Rattle.logged_machine.specs.LoggedState.{LoggedState, Pends}
use Rattle.logged_machine.specs.UntakenCheckpoint.{TakesNext, checkpoint_sectors, settled_parts}
use Rattle.logged_machine.specs.CallOutcome.{KeepsMachine, WentOn, PendsAnew, PendsBy, PendsStill}
use Rattle.logged_machine.specs.LeftImages.{Brings, CrashesLeave}
use Rattle.logged_machine.specs.ToldCalls.{own_bytes}
use Rattle.logged_machine.specs.CheckpointDue.{TakesCheckpointWhereDue, AppendsAlone, Raises, WritesDueCheckpoint, has_lasting_step, sequence_to_come}

-- Whatever a crash leaves recovers to one of the states that pended, and its checkpoint has no lower number.
abbrev pub AttemptLeaves : {D : Type 0} → (D → DiskState) → LoggedState D → LoggedState D → Type 0
AttemptLeaves state old new = (states : List LastingState) → Pends state states old → CrashesLeave (Brings old.machine.system old.text old.journal.restart.checkpoint states) (state old.disk) (state new.disk)

-- Where what the machine counts on itself stands up to a bound, whatever a crash leaves counts further by so much at most.
abbrev pub LeavesCounts : {D : Type 0} → (D → DiskState) → ℕ → LoggedState D → LoggedState D → Type 0
LeavesCounts state more old new = (high : ℕ) → StandsUpTo high old.journal old.next_unit → CrashesLeave (CountsUpTo old.machine.system (high + more)) (state old.disk) (state new.disk)

-- So it is of whatever a crash might have left since the call began.
abbrev pub CountsSince : {D : Type 0} → (D → DiskState) → ℕ → LoggedState D → LoggedState D → Type 0
CountsSince state more old new =
    (high : ℕ) → StandsUpTo high old.journal old.next_unit → (image : Image) → (state new.disk).left_since (state old.disk).clock image → CountsUpTo old.machine.system (high + more) image

-- the machine stands where it stood
pub record StoodStill {D : Type 0} (state : D → DiskState) (old new : LoggedState D) : Type 0 where
  pub moment : new.machine.moment ≡ old.machine.moment
  pub served : new.served ≡ true
  pub no_fault : (state new.disk).faults ≡ (state old.disk).faults

-- the disk failed
pub record Broke {D : Type 0} (state : D → DiskState) (old new : LoggedState D) : Type 0 where
  pub served : new.served ≡ false
  pub failed : FailedSince (state old.disk) (state new.disk)
  pub forced : new.forced ≡ old.forced

abbrev pub DidBy : {D : Type 0} → (D → DiskState) → Option ControlFault → LoggedState D → LoggedState D → Entry → Type 0
DidBy state None old new entry = WentOn state old new entry × AttemptLeaves state old new
DidBy state (Some Disk) old new entry = Broke state old new × AttemptLeaves state old new
DidBy state (Some Memory) old new entry = new ≡ old
DidBy state (Some (Spent counter)) old new entry = ⊥

pub record Did {D : Type 0} (state : D → DiskState) (fault : Option ControlFault) (old new : LoggedState D) (entry : Entry) : Type 0 where
  pub did : DidBy state fault old new entry
  pub keeps : KeepsMachine state old new

-- More was appended in the log's area, and the number of the next unit went on.
pub record GoesOnIn {D : Type 0} (old new : LoggedState D) : Type 0 where
  pub restart : new.journal.restart ≡ old.journal.restart
  pub sequence : sequence_to_come new.journal ≤ sequence_to_come old.journal + old.machine.system.logs
  pub unit : new.next_unit ≤ old.next_unit + 1

-- One attempt, in the log's area as it is: the call was answered, and nothing was written.
pub record Tried {D : Type 0} (state : D → DiskState) (old new : LoggedState D) (entry : Entry) : Type 0 where
  pub no_fault : fault_in entry ≡ None
  pub went : WentOn state old new entry
  pub keeps : KeepsMachine state old new
  pub appends : AppendsAlone (own_bytes old.machine old.units (call_of entry)) old.journal new.journal old.disk new.disk
  pub on : GoesOnIn old new
  pub pends : PendsStill state (has_lasting_step old.machine (call_of entry)) old new

-- What a call writes before which a checkpoint is due.
abbrev pub WritesAsDue : {D : Type 0} → (D → DiskState) → Option ControlFault → LoggedState D → LoggedState D → Entry → Type 0
WritesAsDue state fault old new entry =
    WritesDueCheckpoint state fault (own_bytes old.machine old.units (call_of entry)) old.machine.system
    (checkpoint_sectors old.machine.system old.machine.databases.stores old.machine.databases.changed old.journal) old.journal new.journal old.disk new.disk

-- What pends behind it, where it was answered.
abbrev pub PendsAsDue : {D : Type 0} → (D → DiskState) → Option ControlFault → LoggedState D → LoggedState D → Entry → Type 0
PendsAsDue state None old new entry = PendsAnew state (has_lasting_step old.machine (call_of entry)) old new
PendsAsDue state (Some fault) old new entry = Unit {0}

-- A call, behind a checkpoint that was due.
pub record Done {D : Type 0} (state : D → DiskState) (fault : Option ControlFault) (old new : LoggedState D) (entry : Entry) : Type 0 where
  pub did : Did state fault old new entry
  pub raises : new.served ≡ true → Raises (2 * old.machine.system.logs) old.journal new.journal old.next_unit new.next_unit
  pub due : WritesAsDue state fault old new entry
  pub pends : PendsAsDue state fault old new entry
  pub counts : LeavesCounts state (2 * old.machine.system.logs) old new

-- A call that takes a checkpoint where one is due, and else none.
pub record DoneFrugally {D : Type 0} (state : D → DiskState) (fault : Option ControlFault) (old new : LoggedState D) (entry : Entry) : Type 0 where
  pub did : Did state fault old new entry
  pub raises : new.served ≡ true → Raises (2 * old.machine.system.logs) old.journal new.journal old.next_unit new.next_unit
  pub frugal : TakesCheckpointWhereDue state fault old.machine old.units (call_of entry) old.journal new.journal old.disk new.disk
  pub pends : PendsBy state fault (call_of entry) old new
  pub counts : LeavesCounts state (2 * old.machine.system.logs) old new

-- A checkpoint was taken: the machine stands where it stood, and no slot counts as changed. Its number is the next one, its log
-- area is empty, all that lasted is forced, and a crash leaves what is shown.
pub record Refreshed {D : Type 0} (state : D → DiskState) (old new : LoggedState D) : Type 0 where
  pub stood : StoodStill state old new
  pub machine : new.machine ≡ settled_parts old.machine
  pub units : new.units ≡ old.units
  pub takes : TakesNext old.machine.system old.journal new.journal
  pub most : WritesAtMost (checkpoint_sectors old.machine.system old.machine.databases.stores old.machine.databases.changed old.journal) (state old.disk) (state new.disk)
  pub leaves : AttemptLeaves state old new
  pub keeps : KeepsMachine state old new
  pub number : new.journal.restart.checkpoint ≡ old.journal.restart.checkpoint + 1
  pub synced : Only (state new.disk).shown (state new.disk)
  pub place : new.journal.log.place ≡ 0
  pub epoch : new.journal.restart.epoch ≡ old.journal.restart.epoch
  pub sequence : sequence_to_come new.journal ≡ sequence_to_come old.journal
  pub unit : new.next_unit ≡ old.next_unit
  pub forced : new.forced ≡ old.machine.moment.lasting.steps
  pub pends : Pends state (old.machine.moment.lasting ∷ []) new
  pub counts : LeavesCounts state old.machine.system.logs old new

-- The disk failed in one: whatever a crash leaves recovers to one of the states that pended.
pub record FailsIn {D : Type 0} (state : D → DiskState) (old new : LoggedState D) : Type 0 where
  pub broke : Broke state old new
  pub leaves : AttemptLeaves state old new
  pub keeps : KeepsMachine state old new
  pub counts : LeavesCounts state old.machine.system.logs old new
  pub most : WritesAtMost (checkpoint_sectors old.machine.system old.machine.databases.stores old.machine.databases.changed old.journal) (state old.disk) (state new.disk)

-- None was taken: there was no memory, and nothing happened; or the disk failed.
abbrev pub Unrefreshed : {D : Type 0} → (D → DiskState) → LoggedState D → LoggedState D → ControlFault → Type 0
Unrefreshed state old new Memory = new ≡ old
Unrefreshed state old new Disk = FailsIn state old new
Unrefreshed state old new (Spent counter) = ⊥

-- the fault is want of memory
abbrev pub is_memory : ControlFault → Bool
is_memory Memory = true
is_memory Disk = false
is_memory (Spent counter) = false
