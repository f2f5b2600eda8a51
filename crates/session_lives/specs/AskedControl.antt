-- What is asked of a control region that is up, and how that went.
use Rattle.std.specs.Prelude.{◌≡◌, ◌⊎◌, ℕ, ◌≤◌, ◌++◌, Bool, true, false, if◌then◌else◌, List, [], ◌∷◌, length, Option, Some, None}
use Rattle.tm_disk.specs.Disk.{DiskState, FailedSince, Only}
use Rattle.model_machine.specs.declared.entry.Entry.{Entry}
use Rattle.model_machine.specs.declared.entry.ControlCall.{ControlCall}
use Rattle.model_machine.specs.declared.entry.ControlCall.TheVariants.{Turn, Receive, AskQuiet}
use Rattle.model_machine.specs.declared.entry.ControlFault.{ControlFault}
use Rattle.model_machine.specs.declared.entry.ControlFault.TheVariants.{Memory as NoMemory, Disk, Spent as SpentCounter}
use Rattle.model_machine.specs.History.{ControlState, AddsNothing, AreSteps, IsCall, May, call_of, control_moment}
use Rattle.model_session.specs.declared.asked.Asked.{Asked}
use Rattle.model_session.specs.declared.asked.Asked.TheVariants.{Bad, BadCommand, Stopped, Call, Quiet, Power as AskedPower, PowerIn, Restart, ColdStart}
use Rattle.model_session.specs.Text.{entry_text, bad_line_text, bad_command_text, stopped_text, power_text, armed_text, up_text}
use Rattle.model_session.specs.QuietTurns.{IsQuieted, IsBrokenOff, quieted_text, region_behind_turns}
use Rattle.model_session.specs.Lives.{ends_life, is_disk_fault, binds, failed_force}
use Rattle.model_machine.specs.declared.counts.Counter.{Counter}
use Rattle.tm_control.specs.ControlOnDisk.{ControlOnDisk, control_spent_now, front_of}
use Rattle.tm_control.specs.ControlCalls.{Answered as IsAnswered, BrokeOff, HasArmed, StaysSo}
use Rattle.session_lives.specs.ToldNumbers.{ShowsTold, numbers_in}
use Rattle.session_lives.specs.declared.called.Called.{Called}
use Rattle.session_lives.specs.declared.called.Called.TheVariants.{Answered, Frozen, Power, Broke, Memory, Spent}
use Rattle.session_lives.specs.declared.called.Ending.{Ending}
use Rattle.session_lives.specs.declared.called.Ending.TheVariants.{Forced, Broke as HasBroken}

-- these entries were added, and nothing else
pub record AddsEntries (old new : ControlState) (entries : List Entry) : Type 0 where
  pub system : new.system ≡ old.system
  pub opening : new.opening ≡ old.opening
  pub history : new.history ≡ old.history ++ entries

-- how a call went by its fault
abbrev pub called_by : Option ControlFault → Called
called_by None = Answered
called_by (Some Disk) = Broke
called_by (Some NoMemory) = Memory
called_by (Some (SpentCounter counter)) = Spent

-- how a call went by whether its entry ends the life, and by its fault
abbrev pub call_ended_by : Bool → Option ControlFault → Called
call_ended_by true fault = Frozen
call_ended_by false fault = called_by fault

-- No fewer lasting steps are forced than before; and where a text binds, all are.
pub record IsBound {D : Type 0} (bound : Bool) (old new : ControlOnDisk D) : Type 0 where
  pub least : old.forced ≤ new.forced
  pub all : bound ≡ true → new.forced ≡ front_of new.control

-- Nothing was added, and nothing forced.
pub record DidNothing {D : Type 0} (state : D → DiskState) (old new : ControlOnDisk D) : Type 0 where
  pub adds : AddsNothing old.control new.control
  pub forced : new.forced ≡ old.forced
  pub up : new.up ≡ true
  pub no_fault : (state new.disk).faults ≡ (state old.disk).faults

-- All lasting steps are forced, and nothing else has changed.
pub record IsForcedBehind {D : Type 0} (state : D → DiskState) (old new : ControlOnDisk D) : Type 0 where
  pub adds : AddsNothing old.control new.control
  pub least : old.forced ≤ new.forced
  pub all : new.forced ≡ front_of new.control
  pub databases : new.databases ≡ old.databases
  pub units : new.units ≡ old.units
  pub next_unit : new.next_unit ≡ old.next_unit
  pub up : new.up ≡ true
  pub no_fault : (state new.disk).faults ≡ (state old.disk).faults

-- The disk failed in the force, of which an entry tells.
pub record FailsToForce {D : Type 0} (state : D → DiskState) (old new : ControlOnDisk D) : Type 0 where
  pub broke : BrokeOff state old new failed_force
  pub forced : new.forced ≡ old.forced

abbrev pub IsForcedSo : {D : Type 0} → (D → DiskState) → Ending → ControlOnDisk D → ControlOnDisk D → Type 0
IsForcedSo state Forced old new = IsForcedBehind state old new
IsForcedSo state HasBroken old new = FailsToForce state old new

-- so a call went behind a force
abbrev pub IsBoundSo : {D : Type 0} → (D → DiskState) → Called → ControlOnDisk D → ControlOnDisk D → Type 0
IsBoundSo state Answered old new = IsForcedBehind state old new
IsBoundSo state Broke old new = FailsToForce state old new
IsBoundSo state Frozen old new = ⊥
IsBoundSo state (Power pick) old new = ⊥
IsBoundSo state Memory old new = ⊥
IsBoundSo state Spent old new = ⊥

-- Behind an answer that binds all is forced, or the disk fails in that. Behind any other nothing is done.
abbrev pub BindsBy : {D : Type 0} → (D → DiskState) → Bool → Called → Called → ControlOnDisk D → ControlOnDisk D → Type 0
BindsBy state true called after old new = IsBoundSo state after old new
BindsBy state false called after old new = (after ≡ called) × (new ≡ old)

-- A call was answered by an entry, whose text is to be printed; where that binds, all is forced before. Where it tells of a checkpoint,
-- the disk shows that number.
pub record IsAnswerTold {D : Type 0} (state : D → DiskState) (call : ControlCall) (old new : ControlOnDisk D) (text : List ℕ) : Type 0 where
  pub entry : Entry
  pub asked : call_of entry ≡ call
  pub answered : IsAnswered state old new entry
  pub goes_on : ends_life entry ≡ false
  pub forced : IsBound (binds entry) old new
  pub printed : text ≡ entry_text old.control.system (control_moment old.control) entry
  pub told : ShowsTold new.control.system entry (state new.disk)

-- So was a freeze, behind which a crash leaves the shown disk alone.
pub record IsFrozen {D : Type 0} (state : D → DiskState) (call : ControlCall) (old new : ControlOnDisk D) (text : List ℕ) : Type 0 where
  pub entry : Entry
  pub asked : call_of entry ≡ call
  pub answered : IsAnswered state old new entry
  pub ends : ends_life entry ≡ true
  pub forced : IsBound (binds entry) old new
  pub printed : text ≡ entry_text old.control.system (control_moment old.control) entry
  pub only : Only (state new.disk).shown (state new.disk)
  pub told : ShowsTold new.control.system entry (state new.disk)

-- The disk failed in a call.
pub record IsFailed {D : Type 0} (state : D → DiskState) (call : ControlCall) (old new : ControlOnDisk D) : Type 0 where
  pub entry : Entry
  pub asked : call_of entry ≡ call
  pub fault : is_disk_fault entry ≡ true
  pub forced : new.forced ≡ old.forced
  pub broke : BrokeOff state old new entry

-- A call other than a checkpoint was answered by an entry whose text binds, and the disk failed in the force behind it.
pub record FailsForcing {D : Type 0} (state : D → DiskState) (call : ControlCall) (old new : ControlOnDisk D) : Type 0 where
  pub entry : Entry
  pub asked : call_of entry ≡ call
  pub may : May old.control.system (control_moment old.control) entry
  pub bound : binds entry ≡ true
  pub silent : numbers_in (entry ∷ []) ≡ []
  pub history : new.control.history ≡ old.control.history ++ entry ∷ failed_force ∷ []
  pub forced : IsBound false old new
  pub down : new.up ≡ false
  pub failed : FailedSince (state old.disk) (state new.disk)

-- The regions turned, and the text for their turns is to be printed.
pub record HasTurnedAll {D : Type 0} (state : D → DiskState) (most : ℕ) (old new : ControlOnDisk D) (text : List ℕ) : Type 0 where
  pub turns : List Entry
  pub adds : AddsEntries old.control new.control turns
  pub steps : AreSteps old.control.system (control_moment old.control) turns
  pub quieted : IsQuieted most old.control.system (control_moment old.control) turns
  pub forced : IsBound false old new
  pub printed : text ≡ quieted_text old.control.system (control_moment old.control) turns
  pub up : new.up ≡ true
  pub no_fault : (state new.disk).faults ≡ (state old.disk).faults

-- The disk failed in a turn.
pub record FailsTurning {D : Type 0} (state : D → DiskState) (most : ℕ) (old new : ControlOnDisk D) : Type 0 where
  pub turns : List Entry
  pub entry : Entry
  pub history : new.control.history ≡ old.control.history ++ (turns ++ entry ∷ [])
  pub steps : AreSteps old.control.system (control_moment old.control) turns
  pub begun : IsBrokenOff most old.control.system (control_moment old.control) turns
  pub asked : call_of entry ≡ Turn (region_behind_turns old.control.system (length turns))
  pub can : IsCall old.control.system (call_of entry)
  pub fault : is_disk_fault entry ≡ true
  pub forced : IsBound false old new
  pub down : new.up ≡ false
  pub failed : FailedSince (state old.disk) (state new.disk)

-- Turns stand that were done, and one more could not be done.
pub record TurnsStand {D : Type 0} (state : D → DiskState) (most : ℕ) (old new : ControlOnDisk D) : Type 0 where
  pub turns : List Entry
  pub adds : AddsEntries old.control new.control turns
  pub steps : AreSteps old.control.system (control_moment old.control) turns
  pub begun : IsBrokenOff most old.control.system (control_moment old.control) turns
  pub forced : IsBound false old new
  pub up : new.up ≡ true
  pub no_fault : (state new.disk).faults ≡ (state old.disk).faults

-- what was asked was done, and this is to be printed for it
abbrev pub DoesAsked : {D : Type 0} → (D → DiskState) → Asked → ControlOnDisk D → ControlOnDisk D → List ℕ → Type 0
DoesAsked state (Bad rule) old new text = DidNothing state old new × (text ≡ bad_line_text rule)
DoesAsked state (BadCommand rule) old new text = DidNothing state old new × (text ≡ bad_command_text rule)
DoesAsked state (Stopped terminal number reason) old new text = DidNothing state old new × (text ≡ stopped_text terminal number reason)
DoesAsked state (Call call) old new text = IsAnswerTold state call old new text
DoesAsked state (Quiet most) old new text = HasTurnedAll state most old new text
DoesAsked state (AskedPower pick) old new text = ⊥
DoesAsked state (PowerIn writes pick) old new text = DidNothing state old new × (text ≡ armed_text (state old.disk).can_arm writes)
DoesAsked state Restart old new text = DidNothing state old new × (text ≡ up_text)
DoesAsked state ColdStart old new text = DidNothing state old new × (text ≡ up_text)

-- What it leaves as it was. POWER IN tells the disk to stop as the line says. Nothing else tells it so, and a stop to come is nearer by
-- just the writes that were made.
abbrev pub StaysBy : {D : Type 0} → (D → DiskState) → Asked → Called → ControlOnDisk D → ControlOnDisk D → Type 0
StaysBy state (PowerIn writes pick) Answered old new = HasArmed state writes old new
StaysBy state _ _ old new = StaysSo state old new

-- the pick that a stop is cut with: that of the last POWER IN which armed the disk
abbrev pub pick_by : Asked → Called → Bool → ℕ → ℕ
pick_by (PowerIn writes pick) Answered can_arm picked = if can_arm then pick else picked
pick_by _ _ can_arm picked = picked

-- the disk failed in it
abbrev pub AskedFails : {D : Type 0} → (D → DiskState) → Asked → ControlOnDisk D → ControlOnDisk D → Type 0
AskedFails state (Call call) old new = IsFailed state call old new ⊎ FailsForcing state call old new
AskedFails state (Quiet most) old new = FailsTurning state most old new
AskedFails state _ old new = ⊥

-- a freeze was answered
abbrev pub Freezes : {D : Type 0} → (D → DiskState) → Asked → ControlOnDisk D → ControlOnDisk D → List ℕ → Type 0
Freezes state (Call call) old new text = IsFrozen state call old new text
Freezes state _ old new text = ⊥

-- Power is to fail, and all is as it was.
abbrev pub PowersOff : {D : Type 0} → (D → DiskState) → Asked → ℕ → ControlOnDisk D → ControlOnDisk D → List ℕ → Type 0
PowersOff state (AskedPower pick) picked old new text = (picked ≡ pick) × (new ≡ old) × DidNothing state old new × (text ≡ power_text)
PowersOff state _ picked old new text = ⊥

-- it was not done; only turns of a QUIET may stand
abbrev pub Undoes : {D : Type 0} → (D → DiskState) → Asked → ControlOnDisk D → ControlOnDisk D → Type 0
Undoes state (Quiet most) old new = DidNothing state old new ⊎ TurnsStand state most old new
Undoes state _ old new = DidNothing state old new

-- a counter stands at its limit
pub record IsSpentUp {D : Type 0} (control : ControlOnDisk D) : Type 0 where
  pub counter : Counter
  pub spent : control_spent_now control ≡ Some counter

-- A call looks at counters, but the showing of a reply doesn't; and so does each turn of a QUIET.
abbrev pub CallLooks : ControlCall → Type 0
CallLooks (Receive terminal) = ⊥
CallLooks AskQuiet = ⊥
CallLooks _ = Unit {0}

abbrev pub LooksAtCounters : Asked → Type 0
LooksAtCounters (Call call) = CallLooks call
LooksAtCounters (Quiet most) = Unit {0}
LooksAtCounters _ = ⊥

abbrev pub IsAsked : {D : Type 0} → (D → DiskState) → Asked → ControlOnDisk D → ControlOnDisk D → List ℕ → Called → Type 0
IsAsked state asked old new text Answered = DoesAsked state asked old new text
IsAsked state asked old new text Frozen = Freezes state asked old new text
IsAsked state asked old new text (Power pick) = PowersOff state asked pick old new text
IsAsked state asked old new text Broke = AskedFails state asked old new
IsAsked state asked old new text Memory = Undoes state asked old new
IsAsked state asked old new text Spent = Undoes state asked old new × IsSpentUp new × LooksAtCounters asked
