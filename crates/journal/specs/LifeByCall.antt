-- How a life goes on with a call of the machine: by a lasting step, or by what is appended.
use Rattle.std.specs.Prelude.{◌≡◌, ℕ, List, []}
use Rattle.std.specs.List.{flat_map}
use Rattle.log_records.specs.RecordSpelling.{record_spelling}
use Rattle.model_machine.specs.Machine.{LastingState, Moment}
use Rattle.model_system.specs.System.{System}
use Rattle.disk_law.specs.Life.{LifeOnDisk}
use Rattle.disk_law.specs.SlotChanges.{with_bytes_behind}
use Rattle.disk_law.specs.LifeSteps.{StepOnDisk, IsStep, after_step}
use Rattle.disk_law.specs.PendingMoves.{GoesOn}
use Rattle.program_rows.specs.SlotsState.{SlotsState}
use Rattle.journal.specs.CarriedLife.{IsCarriedBy}

-- The life goes on without a lasting step to one of which this holds; what it did is appended as these bytes.
pub record Continues (bytes : List ℕ) (Is : LifeOnDisk → Type 0) (life : LifeOnDisk) : Type 0 where
  pub behind : LifeOnDisk
  pub text : behind.text ≡ life.text
  pub now : behind.now ≡ life.now
  pub log : behind.log ≡ with_bytes_behind bytes life.log
  pub goes : GoesOn [] life behind
  pub is : Is behind

-- These bytes are the records of a step of the life to what lasts so, and this holds of the life behind it.
pub record TakesStep (bytes : List ℕ) (lasting : LastingState) (Is : LifeOnDisk → Type 0) (life : LifeOnDisk) : Type 0 where
  pub step : StepOnDisk
  pub spelled : bytes ≡ flat_map record_spelling step.records
  pub is_step : IsStep life step
  pub lasts : step.lasting ≡ lasting
  pub is : Is (after_step step life)

-- A call that has no step leaves a life that goes with the machine as it is then, and so does one that has.
abbrev pub LifeGoesOn : List ℕ → System → Moment → SlotsState → List ℕ → ℕ → LifeOnDisk → Type 0
LifeGoesOn bytes system moment slots units next_unit life = Continues bytes (IsCarriedBy system moment slots units next_unit) life

abbrev pub LifeStepsOn : List ℕ → System → Moment → SlotsState → List ℕ → ℕ → LifeOnDisk → Type 0
LifeStepsOn bytes system moment slots units next_unit life = TakesStep bytes moment.lasting (IsCarriedBy system moment slots units next_unit) life
