-- No step counts down.
use Rattle.std.proofs.Common.{◌≤◌, arith}
use Rattle.std.specs.Option.{option_map_or}
use Rattle.std.specs.Prelude.{None, Option, Some}
use Rattle.model_machine.specs.History.{after_entry, call_of}
use Rattle.model_machine.specs.LastingSteps.{LastingStep, applied}
use Rattle.model_machine.specs.Machine.{LastingState, Moment}
use Rattle.model_machine.specs.MachineCalls.{lasting_step}
use Rattle.model_machine.specs.declared.entry.Entry.{Entry}
use Rattle.model_system.specs.System.{System}

pub rises : (lasting : LastingState) (step : Option LastingStep) → lasting.steps ≤ (option_map_or (λ s. applied s lasting) step lasting).steps
rises lasting None = omega arith
rises lasting (Some step) = omega arith

pub steps_rise : (system : System) (moment : Moment) (entry : Entry) → moment.lasting.steps ≤ (after_entry system moment entry).lasting.steps
steps_rise system moment entry = rises moment.lasting (lasting_step system moment (call_of entry))
