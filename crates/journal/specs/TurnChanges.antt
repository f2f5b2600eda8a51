-- What a turn does to the slots, by its answer.
use Rattle.std.specs.Prelude.{◌≡◌, ℕ, ◌-◌, ◌≤◌, List, [], ◌∷◌, Option, None, IsSome, slice_set}
use Rattle.tm_types.specs.declared.dbd.Dbd.{Dbd}
use Rattle.model_data.specs.declared.victim.Victim.{Victim}
use Rattle.model_machine.specs.declared.entry.Turned.{Turned}
use Rattle.model_machine.specs.declared.entry.Turned.TheVariants.{Scheduled, Called, Next, QC, Done, Abended, Idle, Held, Waits, Backed}
use Rattle.model_machine.specs.Machine.{Slot, slot_in}
use Rattle.log_records.specs.declared.record.Record.{Record}
use Rattle.program_rows.specs.SlotsState.{SlotsState, CallsSo, CommitsSo, GivesUpSo, HaveSlots}

-- Victims give up what they have changed, one after another. Each has a message until it does.
pub record GivesUpAndNext (dbds : List Dbd) (regions : ℕ) (taken : List (Option Slot)) (region : ℕ) (later : SlotsState → SlotsState → Type 0) (old new : SlotsState) : Type 0 where
  pub least : 1 ≤ region
  pub busy : IsSome (slot_in taken region)
  pub middle : SlotsState
  pub gives_up : GivesUpSo region old middle
  pub have : HaveSlots dbds regions middle
  pub rest : later middle new

abbrev pub GiveUpInOrder : List Dbd → ℕ → List (Option Slot) → List Victim → SlotsState → SlotsState → Type 0
GiveUpInOrder dbds regions taken [] old new = new ≡ old
GiveUpInOrder dbds regions taken (v ∷ victims) old new = GivesUpAndNext dbds regions taken v.region (GiveUpInOrder dbds regions (slice_set taken (v.region - 1) None) victims) old new

-- A call changes slots as it tells; the end of the work commits what its region has changed, or takes it back; victims take
-- theirs back; all else leaves the slots.
abbrev pub DoesSo : List Dbd → ℕ → List (Option Slot) → SlotsState → SlotsState → ℕ → ℕ → List Record → Turned → Type 0
DoesSo dbds regions taken old new unit region records (Called function pcb status) = CallsSo unit region old new records
DoesSo dbds regions taken old new unit region records (Next code id next) = CommitsSo region old new
DoesSo dbds regions taken old new unit region records (QC code id) = CommitsSo region old new
DoesSo dbds regions taken old new unit region records (Done code id) = CommitsSo region old new
DoesSo dbds regions taken old new unit region records (Abended code id abend) = GivesUpSo region old new
DoesSo dbds regions taken old new unit region records (Backed victims) = GiveUpInOrder dbds regions taken victims old new
DoesSo dbds regions taken old new unit region records (Scheduled code id) = new ≡ old
DoesSo dbds regions taken old new unit region records Idle = new ≡ old
DoesSo dbds regions taken old new unit region records (Held need limit) = new ≡ old
DoesSo dbds regions taken old new unit region records (Waits resource by) = new ≡ old

-- only a call tells changes
abbrev pub QuietUnlessCalled : List Record → Turned → Type 0
QuietUnlessCalled records (Called function pcb status) = Unit {0}
QuietUnlessCalled records _ = records ≡ []
