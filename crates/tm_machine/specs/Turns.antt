-- What a turn of a region comes to.
use Rattle.std.specs.Prelude.{◌≡◌, ℕ, Option, Some, None, List, [], ◌∷◌}
use Rattle.tm_types.specs.declared.resource.Resource.{Resource}
use Rattle.model_data.specs.declared.victim.Victim.{Victim}
use Rattle.message_run.specs.declared.run.Advanced.{Advanced}
use Rattle.message_run.specs.declared.run.Advanced.TheVariants.{Called, Ended, Waits}
use Rattle.message_run.specs.WorkAhead.{end_of}
use Rattle.program_rows.specs.CallAnswers.{told_blocked}
use Rattle.model_machine.specs.declared.entry.ControlCall.TheVariants.{Turn}
use Rattle.model_machine.specs.declared.entry.Turned.{Turned}
use Rattle.model_machine.specs.declared.entry.Turned.TheVariants.{Called as TurnCalled, Waits as TurnWaits, Backed}
use Rattle.model_machine.specs.Machine.{Slot, slot_at}
use Rattle.model_machine.specs.Requests.{BreaksRingsAt, blocked_now, asked_table}
use Rattle.model_machine.specs.MachineCalls.{turn_answer, After}
use Rattle.tm_machine.specs.Parts.{PartsState}
use Rattle.tm_machine.specs.WorkEnds.{EndsSo}
use Rattle.tm_machine.specs.Victims.{AreFlagsSettled}

-- the regions that gave way in a turn
abbrev pub gave_way_in : Turned → List Victim
gave_way_in (Backed victims) = victims
gave_way_in _ = []

-- A region had its turn: the right regions gave way, the answer is the machine's, and the machine went on.
pub record IsRegionTurned (old new : PartsState) (region : ℕ) (turned : Turned) : Type 0 where
  pub victims : BreaksRingsAt old.system old.moment region (gave_way_in turned) (slot_at old.moment region)
  pub answer : turned ≡ turn_answer old.system old.moment region (gave_way_in turned)
  pub after : new.moment ≡ After old.system old.moment (Turn region) (gave_way_in turned)
  pub system : new.system ≡ old.system

-- A region asked for what its next call needs. This of it is blocked, and nothing else changed.
pub record WaitsSo (old new : PartsState) (region : ℕ) (resource : Resource) (by : ℕ) : Type 0 where
  pub slot : Slot
  pub here : slot_at old.moment region ≡ Some slot
  pub blocked : told_blocked (blocked_now old.system old.moment region slot) ≡ Some (resource, by)
  pub moment : new.moment ≡ record old.moment { enqueues = asked_table old.system old.moment region }
  pub settled : AreFlagsSettled old
  pub system : new.system ≡ old.system
  pub databases : new.databases ≡ record old.databases { table = new.databases.table }

-- An empty region goes nowhere. Another one's script makes its next call, or its work has ended, or the
-- region waits.
abbrev pub RegionGoes : PartsState → PartsState → ℕ → Option Advanced → Type 0
RegionGoes old new region None = (slot_at old.moment region ≡ None) × (new ≡ old)
RegionGoes old new region (Some (Called function pcb status)) = IsRegionTurned old new region (TurnCalled function pcb status)
RegionGoes old new region (Some (Ended ending)) = EndsSo old region (end_of ending) × (new ≡ old)
RegionGoes old new region (Some (Waits resource by)) = WaitsSo old new region resource by

-- what a region that waits is answered, by the regions that gave way
abbrev pub waited : Resource → ℕ → List Victim → Turned
waited resource by [] = TurnWaits resource by
waited resource by (v ∷ victims) = Backed (v ∷ victims)
