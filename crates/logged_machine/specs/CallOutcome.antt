-- What a call leaves of a machine with its log.
use Rattle.std.specs.Prelude.{◌≡◌, ◌⊎◌, ◌≤◌, ℕ, Bool, true, false, List, [], ◌∷◌, ◌++◌, Option, Some, None}
use Rattle.tm_disk.specs.Disk.{Image, DiskState, Stays, FailedSince}
use Rattle.model_machine.specs.Machine.{LastingState}
use Rattle.model_machine.specs.declared.entry.ControlCall.{ControlCall}
use Rattle.model_machine.specs.declared.entry.Entry.{Entry}
use Rattle.model_machine.specs.declared.entry.ControlFault.{ControlFault}
use Rattle.model_machine.specs.declared.entry.ControlFault.TheVariants.{Memory, Disk, Spent}
use Rattle.checkpointing.specs.DefinitionText.{HasText, IsNumberedFrom}
use Rattle.tm_machine.specs.Answers.{IsAnswered}
use Rattle.tm_machine.specs.Parts.{PartsState}
use Rattle.logged_machine.specs.ToldCalls.{DoesTo}
pub use Rattle.logged_machine.specs.ToldCalls.{NumbersBy}
use Rattle.logged_machine.specs.UntakenCheckpoint.{settled_parts}
use Rattle.checkpointing.specs.CheckpointParts.{forced_writer}
use Rattle.disk_law.specs.KeptImages.{RecoversOne}
use Rattle.logged_machine.specs.ToldCalls.{own_bytes}
use Rattle.logged_machine.specs.CheckpointDue.{NoCheckpointIsDue, has_lasting_step}
use Rattle.logged_machine.specs.LoggedState.{LoggedState, Pends}

-- what no call changes
pub record KeepsMachine {D : Type 0} (state : D → DiskState) (old new : LoggedState D) : Type 0 where
  pub system : new.machine.system ≡ old.machine.system
  pub text : new.text ≡ old.text
  pub disk : Stays (state old.disk) (state new.disk)
  pub later : (state old.disk).clock ≤ (state new.disk).clock
  pub numbers : new.served ≡ true → old.journal.restart.checkpoint ≤ new.journal.restart.checkpoint

-- ---- what it leaves of the machine; that no counter is spent was looked at before

-- So it does to the databases as they stood; or, behind a checkpoint, to those of which no slot counts as changed.
abbrev pub ActsOn : List ℕ → Entry → PartsState → PartsState → Type 0
ActsOn units entry old new = DoesTo units entry old new ⊎ DoesTo units entry (settled_parts old) new

-- It was answered, and the machine went on.
pub record WentOn {D : Type 0} (state : D → DiskState) (old new : LoggedState D) (entry : Entry) : Type 0 where
  pub answered : IsAnswered old.machine new.machine entry
  pub numbers : NumbersBy entry old.units new.units old.next_unit new.next_unit
  pub acts : ActsOn old.units entry old.machine new.machine
  pub served : new.served ≡ true
  pub no_fault : (state new.disk).faults ≡ (state old.disk).faults

-- The disk failed in it, and nothing is served any more. What a crash may leave is still of the definition's text, and its checkpoint has
-- no lower number. No more steps count as forced.
pub record Failed {D : Type 0} (state : D → DiskState) (old new : LoggedState D) : Type 0 where
  pub served : new.served ≡ false
  pub failed : FailedSince (state old.disk) (state new.disk)
  pub have_text : (image : Image) → (state new.disk).may_leave image → HasText old.machine.system old.text image
  pub numbered : (image : Image) → (state new.disk).may_leave image → IsNumberedFrom old.machine.system old.journal.restart.checkpoint image
  pub forced : new.forced ≡ old.forced

-- Where there was no memory, nothing at all has changed, and nothing was written.
abbrev pub MachineGoesBy : {D : Type 0} → (D → DiskState) → Option ControlFault → LoggedState D → LoggedState D → Entry → Type 0
MachineGoesBy state None old new entry = WentOn state old new entry
MachineGoesBy state (Some Disk) old new entry = Failed state old new
MachineGoesBy state (Some Memory) old new entry = new ≡ old
MachineGoesBy state (Some (Spent counter)) old new entry = ⊥

-- ---- what it leaves on the disk

-- Whatever a crash might have left since the call began recovers to one of the states that pended before it.
abbrev pub CrashesIntoPending : {D : Type 0} → (D → DiskState) → LoggedState D → LoggedState D → Type 0
CrashesIntoPending state old new =
    (states : List LastingState) → Pends state states old
    → (image : Image) → (state new.disk).left_since (state old.disk).clock image → RecoversOne old.machine.system states image

-- these states, and what lasts behind a step, where there was one
abbrev pub with_step : List LastingState → Bool → LastingState → List LastingState
with_step states false lasting = states
with_step states true lasting = states ++ lasting ∷ []

-- What pended pends still, and the call's step behind it.
pub record PendsStill {D : Type 0} (state : D → DiskState) (step : Bool) (old new : LoggedState D) : Type 0 where
  pub forced : new.forced ≡ old.forced
  pub pends : (states : List LastingState) → Pends state states old → Pends state (with_step states step new.machine.moment.lasting) new

-- All that lasted before is forced, and the call's step alone pends.
pub record PendsAnew {D : Type 0} (state : D → DiskState) (step : Bool) (old new : LoggedState D) : Type 0 where
  pub forced : new.forced ≡ old.machine.moment.lasting.steps
  pub pends : Pends state (with_step (old.machine.moment.lasting ∷ []) step new.machine.moment.lasting) new

-- A call that was answered forces nothing; one before which a checkpoint is due forces by that all that lasted before.
pub record PendsWhereDue {D : Type 0} (state : D → DiskState) (call : ControlCall) (old new : LoggedState D) : Type 0 where
  pub spares : NoCheckpointIsDue old.journal.log (own_bytes old.machine old.units call) → PendsStill state (has_lasting_step old.machine call) old new
  pub due : (NoCheckpointIsDue old.journal.log (own_bytes old.machine old.units call) → ⊥) → PendsAnew state (has_lasting_step old.machine call) old new

abbrev pub PendsBy : {D : Type 0} → (D → DiskState) → Option ControlFault → ControlCall → LoggedState D → LoggedState D → Type 0
PendsBy state None call old new = PendsWhereDue state call old new
PendsBy state (Some fault) call old new = Unit {0}

-- ---- a force

-- All that was appended is forced, and nothing else has changed.
pub record HasForced {D : Type 0} (state : D → DiskState) (old new : LoggedState D) : Type 0 where
  pub machine : new.machine ≡ old.machine
  pub units : new.units ≡ old.units
  pub next_unit : new.next_unit ≡ old.next_unit
  pub served : new.served ≡ true
  pub log : new.journal.log ≡ forced_writer old.journal.log
  pub restart : new.journal.restart ≡ old.journal.restart
  pub forced : new.forced ≡ old.machine.moment.lasting.steps
  pub pends : Pends state (old.machine.moment.lasting ∷ []) new
  pub no_fault : (state new.disk).faults ≡ (state old.disk).faults
