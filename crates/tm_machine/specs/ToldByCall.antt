-- What a call tells: the records of its lasting step.
use Rattle.std.specs.Prelude.{◌≡◌, ℕ, ◌<◌, ◌≤◌, Bool, true, false, List, [], ◌++◌, length}
use Rattle.std.specs.List.{flat_map, AllByRecursion}
use Rattle.std.specs.Option.{option_map_or}
use Rattle.model_system.specs.System.{System}
use Rattle.model_machine.specs.declared.entry.ControlCall.{ControlCall}
use Rattle.model_machine.specs.declared.entry.Turned.{Turned}
use Rattle.model_machine.specs.declared.entry.Turned.TheVariants.{Scheduled, Called, Next, QC, Done, Abended, Idle, Held, Waits, Backed}
use Rattle.model_machine.specs.Machine.{Moment}
use Rattle.model_machine.specs.MachineCalls.{lasting_step}
use Rattle.log_records.specs.declared.record.Record.{Record}
use Rattle.log_records.specs.RecordSpelling.{record_spelling, IsLogRecord}
use Rattle.model_image.specs.StepRecords.{step_records}

-- the records of the step that lasts of a call at this moment, in this unit; none where nothing lasts
abbrev pub told_records_of : System → Moment → ℕ → ControlCall → List Record
told_records_of system moment unit call = option_map_or (λ step. step_records unit step moment.lasting) (lasting_step system moment call) []

abbrev pub told_bytes_of : System → Moment → ℕ → ControlCall → List ℕ
told_bytes_of system moment unit call = flat_map record_spelling (told_records_of system moment unit call)

-- They were appended, each one by the ranges of its fields, and fit the room.
pub record TellsLastingStep (system : System) (moment : Moment) (unit room : ℕ) (call : ControlCall) (before after : List ℕ) : Type 0 where
  pub told : after ≡ before ++ told_bytes_of system moment unit call
  pub valid : AllByRecursion IsLogRecord (told_records_of system moment unit call)
  pub fits : length (told_bytes_of system moment unit call) ≤ room

-- they are longer than the room
abbrev pub IsCallLonger : System → Moment → ℕ → ℕ → ControlCall → Type 0
IsCallLonger system moment unit room call = room < length (told_bytes_of system moment unit call)

-- The work on a message ends with the turn. No other turn has a step that lasts.
abbrev pub ends_work : Turned → Bool
ends_work (Next code id next) = true
ends_work (QC code id) = true
ends_work (Done code id) = true
ends_work (Abended code id abend) = true
ends_work (Scheduled code id) = false
ends_work (Called function pcb status) = false
ends_work Idle = false
ends_work (Held need limit) = false
ends_work (Waits resource by) = false
ends_work (Backed victims) = false
