-- What holds of the parts of a control region.
use Rattle.std.specs.Prelude.{◌≡◌, ℕ, ◌-◌, ◌<◌, ◌≤◌, ◌++◌, Bool, true, false, if◌then◌else◌, List, [], ◌∷◌, drop, Some}
use Rattle.std.specs.Option.{is_some}
use Rattle.tm_disk.specs.Disk.{Image, DiskState}
use Rattle.model_system.specs.System.{System}
use Rattle.model_machine.specs.Machine.{LastingState, Moment, start_of}
use Rattle.model_machine.specs.MachineCalls.{lasting_step}
use Rattle.model_machine.specs.History.{IsCall, AreSteps, AscendAbove, call_of, after_entry, moment_after}
use Rattle.model_machine.specs.declared.entry.Entry.{Entry}
use Rattle.model_machine.specs.declared.entry.ControlFault.TheVariants.{Disk}
use Rattle.checkpointing.specs.DefinitionText.{HasText, IsNumberedFrom}
use Rattle.logged_machine.specs.LoggedState.{LoggedState, Pends}
use Rattle.openings.specs.Faults.{fault_in}
use Rattle.tm_control.specs.ControlOnDisk.{last_checked, lasting_after_entries, RecoversSince}

-- what lasted before these entries, and behind each lasting step among them
abbrev pub states_along : System → Moment → List Entry → List LastingState
states_along system moment [] = moment.lasting ∷ []
states_along system moment (entry ∷ entries) =
    if is_some (lasting_step system moment (call_of entry)) then moment.lasting ∷ states_along system (after_entry system moment entry) entries
    else states_along system (after_entry system moment entry) entries

-- of a life, those from which on not all is forced
abbrev pub states_pending : System → LastingState → ℕ → List Entry → List LastingState
states_pending system opening forced history = drop (forced - opening.steps) (states_along system (start_of system opening) history)

-- The machine stands where the history leads, and each entry is a step of it. So many lasting steps were done, and what isn't forced of
-- them pends. The numbers of
-- checkpoints ascend from the first one, up to the one that holds.
pub record IsControlServed {D : Type 0} (state : D → DiskState) (machine : LoggedState D) (opening : LastingState) (first : ℕ) (history : List Entry) (steps : ℕ) : Type 0 where
  pub moment : moment_after machine.machine.system (start_of machine.machine.system opening) history ≡ machine.machine.moment
  pub legal : AreSteps machine.machine.system (start_of machine.machine.system opening) history
  pub count : steps ≡ machine.machine.moment.lasting.steps
  pub more : opening.steps ≤ machine.forced
  pub pends : Pends state (states_pending machine.machine.system opening machine.forced history) machine
  pub ascend : AscendAbove first history
  pub reached : last_checked first history ≤ machine.journal.restart.checkpoint

-- The disk has failed at the last entry. So many lasting steps were answered before.
pub record IsControlBroken {D : Type 0} (state : D → DiskState) (machine : LoggedState D) (opening : LastingState) (first : ℕ) (history : List Entry) (steps : ℕ) : Type 0 where
  pub before : List Entry
  pub entry : Entry
  pub all : history ≡ before ++ entry ∷ []
  pub legal : AreSteps machine.machine.system (start_of machine.machine.system opening) before
  pub call : IsCall machine.machine.system (call_of entry)
  pub fault : fault_in entry ≡ Some Disk
  pub images : (image : Image) → (state machine.disk).may_leave image → RecoversSince machine.machine.system opening (machine.forced - opening.steps) before image
  pub most : machine.forced ≤ steps
  pub texts : (image : Image) → (state machine.disk).may_leave image → HasText machine.machine.system machine.text image
  pub numbered : (image : Image) → (state machine.disk).may_leave image → IsNumberedFrom machine.machine.system (last_checked first history) image
  pub count : steps ≡ (lasting_after_entries machine.machine.system opening before).steps
  pub more : opening.steps ≤ machine.forced
  pub ascend : AscendAbove first history

abbrev pub HoldsBy : {D : Type 0} → Bool → (D → DiskState) → LoggedState D → LastingState → ℕ → List Entry → ℕ → Type 0
HoldsBy true state machine opening first history steps = IsControlServed state machine opening first history steps
HoldsBy false state machine opening first history steps = IsControlBroken state machine opening first history steps

abbrev pub HoldsControl : {D : Type 0} → (D → DiskState) → LoggedState D → LastingState → ℕ → List Entry → ℕ → Type 0
HoldsControl state machine opening first history steps = HoldsBy machine.served state machine opening first history steps

-- So it is of a control region; and while it is up there is room for an entry, that of a force in which the disk fails.
pub record IsControl {D : Type 0} (state : D → DiskState) (machine : LoggedState D) (opening : LastingState) (first : ℕ) (history : List Entry) (steps count capacity : ℕ) : Type 0 where
  pub holds : HoldsControl state machine opening first history steps
  pub room : machine.served ≡ true → count < capacity
