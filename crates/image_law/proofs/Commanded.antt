-- A command leaves a state that breaks no rule.
use Rattle.std.proofs.Common.{◌≡◌, ◌≤◌, ℕ, nat_le, Bool, true, false, not, ◌&&◌, List, refl, Some, None, arith}
use Rattle.std.specs.Prelude.{Option, ◌==◌}
use Rattle.std.specs.List.{list_all}
use Rattle.std.proofs.lemmas.Bool.Decides.{nat_tests}
use Rattle.tm_types.specs.Commands.{IsAssigned}
use Rattle.tm_types.specs.declared.command.LastingCommand.{LastingCommand}
use Rattle.tm_types.specs.declared.command.LastingCommand.TheVariants.{StartTransaction, StopTransaction, StartTerminal, StopTerminal, DequeueFirst, DequeueAll, Exit, AssignClass, AssignPriority}
use Rattle.model_messages.specs.Outputs.{with_terminal}
use Rattle.model_system.specs.Lists.{change_at}
use Rattle.model_system.specs.System.{System}
use Rattle.model_machine.specs.declared.lasting.CodeSetting.{CodeSetting}
use Rattle.model_machine.specs.Machine.{LastingState, setting_place}
use Rattle.model_machine.specs.LastingSteps.{classed_code, commanded, ranked_code, stopped_code, with_code_changed, with_stopped_terminal, without_replies}
use Rattle.model_image.specs.States.{is_setting, run_up_to}
use Rattle.image_law.specs.StepNeeds.{EndsNoneWaiting}
use Rattle.image_law.proofs.Bools.{first_of, second_of}
use Rattle.image_law.proofs.Lists.{all_changed}
use Rattle.image_law.proofs.Ordered.{all_at}
use Rattle.image_law.proofs.Kept.{acknowledged_stands, changes_stand}
use Rattle.image_law.specs.StandingState.{StandsLasting, is_run}
use Rattle.tm_types.proofs.Truths.{both}

-- a change leaves a setting as a setting may be
abbrev KeepsSettings : (CodeSetting → CodeSetting) → Type 0
KeepsSettings change = (code : CodeSetting) → is_setting code ≡ true → is_setting (change code) ≡ true

stopped_keeps : (stopped : Bool) → KeepsSettings (stopped_code stopped)
stopped_keeps stopped code is = is

classed_keeps : (class : ℕ) → 1 ≤ class → class ≤ 255 → KeepsSettings (classed_code class)
classed_keeps class least most code is =
    both (nat_le 1 class && nat_le class 255) (nat_le code.priority 14)
    (both (nat_le 1 class) (nat_le class 255) (grind (arith, nat_tests, least)) (grind (arith, nat_tests, most)))
    (second_of (nat_le 1 code.class && nat_le code.class 255) (nat_le code.priority 14) is)

ranked_keeps : (priority : ℕ) → priority ≤ 14 → KeepsSettings (ranked_code priority)
ranked_keeps priority most code is =
    both (nat_le 1 code.class && nat_le code.class 255) (nat_le priority 14)
    (first_of (nat_le 1 code.class && nat_le code.class 255) (nat_le code.priority 14) is) (grind (arith, nat_tests, most))

settings_stand : (change : CodeSetting → CodeSetting) → KeepsSettings change → (codes : List CodeSetting) (place : Option ℕ) → list_all is_setting codes ≡ true → list_all is_setting (change_at codes place change) ≡ true
settings_stand change keeps codes None all = all
settings_stand change keeps codes (Some place) all = all_changed is_setting codes place change all keeps

code_stands : (system : System) (change : CodeSetting → CodeSetting) → KeepsSettings change → (code : List ℕ) (lasting : LastingState) → StandsLasting system lasting → StandsLasting system (with_code_changed change code lasting)
code_stands system change keeps code lasting s = record {
  settings = settings_stand change keeps lasting.codes (setting_place lasting.codes code) s.settings;
  pads = s.pads;
  ascending = s.ascending;
  known = s.known;
  alone = s.alone;
  runs = s.runs;
}

terminal_stands : (system : System) (stopped : Bool) (terminal : List ℕ) (lasting : LastingState) → StandsLasting system lasting → StandsLasting system (with_stopped_terminal stopped terminal lasting)
terminal_stands system stopped terminal lasting s = record {
  settings = s.settings;
  pads = s.pads;
  ascending = s.ascending;
  known = s.known;
  alone = s.alone;
  runs = s.runs;
}

dequeued_stands : (system : System) (terminal : List ℕ) (lasting : LastingState) → StandsLasting system lasting → StandsLasting system (record lasting { outputs = with_terminal terminal without_replies lasting.outputs })
dequeued_stands system terminal lasting s = record {
  settings = s.settings;
  pads = s.pads;
  ascending = s.ascending;
  known = s.known;
  alone = s.alone;
  runs = all_at is_run terminal without_replies lasting.outputs s.runs (λ t is. both (not (t.next == 0)) true (first_of (not (t.next == 0)) (run_up_to t.next t.replies) is) refl);
}

pub commanded_stands : (system : System) (command : LastingCommand) (lasting : LastingState) → StandsLasting system lasting → EndsNoneWaiting command lasting → IsAssigned command → StandsLasting system (commanded command lasting)
commanded_stands system (StartTransaction code) lasting s none assigned = code_stands system (stopped_code false) (stopped_keeps false) code lasting s
commanded_stands system (StopTransaction code) lasting s none assigned = code_stands system (stopped_code true) (stopped_keeps true) code lasting s
commanded_stands system (StartTerminal terminal) lasting s none assigned = terminal_stands system false terminal lasting s
commanded_stands system (StopTerminal terminal) lasting s none assigned = terminal_stands system true terminal lasting s
commanded_stands system (DequeueFirst terminal) lasting s none assigned = acknowledged_stands system terminal lasting s
commanded_stands system (DequeueAll terminal) lasting s none assigned = dequeued_stands system terminal lasting s
commanded_stands system (Exit terminal) lasting s none assigned = changes_stand system terminal (λ _. None) lasting s none (λ t is. refl)
commanded_stands system (AssignClass code class) lasting s none assigned = code_stands system (classed_code class) (classed_keeps class assigned.0 assigned.1) code lasting s
commanded_stands system (AssignPriority code priority) lasting s none assigned = code_stands system (ranked_code priority) (ranked_keeps priority assigned) code lasting s
