-- What a command leaves of the tables.
use Rattle.std.proofs.Common.{◌≡◌, ℕ, ◌≤◌, Bool, true, false, not, ◌&&◌, List, [], ◌∷◌, drop, refl, sym, Some, None}
use Rattle.std.specs.Prelude.{Option, if◌then◌else◌, ◌==◌, nat_le}
use Rattle.std.specs.List.{list_all}
use Rattle.std.proofs.lemmas.Bool.{le-leb}
use Rattle.tm_types.specs.Commands.{IsAssigned}
use Rattle.tm_types.specs.declared.command.LastingCommand.{LastingCommand}
use Rattle.tm_types.specs.declared.command.LastingCommand.TheVariants.{StartTransaction, StopTransaction, StartTerminal, StopTerminal, DequeueFirst, DequeueAll, Exit, AssignClass, AssignPriority}
use Rattle.model_messages.specs.declared.conversation.TerminalConversation.{TerminalConversation}
use Rattle.model_messages.specs.Terminals.{is_conversation_of as is_of_terminal, with_terminal as with_conversing}
use Rattle.model_messages.specs.Outputs.{with_terminal, without_first}
use Rattle.model_system.specs.Lists.{change_at}
use Rattle.model_system.specs.System.{System}
use Rattle.model_machine.specs.LastingSteps.{applied, stopped_code, stopped_terminal, classed_code, ranked_code, without_replies}
use Rattle.model_machine.specs.LastingSteps.LastingStep.{Commands}
use Rattle.model_machine.specs.declared.lasting.CodeSetting.{CodeSetting}
use Rattle.model_machine.specs.Machine.{setting_place, terminal_place}
use Rattle.model_image.specs.States.{has_right_pad, is_next, is_setting, is_small, run_up_to}
use Rattle.image_records.specs.KeptState.{KeptState}
use Rattle.image_law.proofs.Bools.{first_of, second_of}
use Rattle.image_law.proofs.Conversing.{put}
use Rattle.image_law.proofs.Lists.{all_changed}
use Rattle.image_law.proofs.Ordered.{all_at, run_drop}
use Rattle.log_replay.specs.ReplaySteps.{step_commands}
use Rattle.log_replay.specs.ReplayRules.{AreMessagesFree, AreSound, KeepsRest, lasting_in}
use Rattle.log_replay.proofs.Before.{inputs_before, numbers_before, pads_before, rest_before}
use Rattle.tm_types.proofs.Truths.{both}
use Rattle.image_law.specs.StandingState.{is_run}

classed_fits : (class : ℕ) → (1 ≤ class) × (class ≤ 255) → (code : CodeSetting) → is_setting code ≡ true → is_setting (classed_code class code) ≡ true
classed_fits class within code is =
    both (nat_le 1 class && nat_le class 255) (nat_le code.priority 14) (both (nat_le 1 class) (nat_le class 255) (le-leb 1 class within.0) (le-leb class 255 within.1))
    (second_of (nat_le 1 code.class && nat_le code.class 255) (nat_le code.priority 14) is)

ranked_fits : (priority : ℕ) → priority ≤ 14 → (code : CodeSetting) → is_setting code ≡ true → is_setting (ranked_code priority code) ≡ true
ranked_fits priority within code is =
    both (nat_le 1 code.class && nat_le code.class 255) (nat_le priority 14)
    (first_of (nat_le 1 code.class && nat_le code.class 255) (nat_le code.priority 14) is) (le-leb priority 14 within)

module _ (system : System) where
  pub commands_is : (command : LastingCommand) (kept : KeptState) → applied (Commands command) (lasting_in system kept) ≡ lasting_in system (step_commands command kept)
  commands_is (StartTransaction code) kept = refl
  commands_is (StopTransaction code) kept = refl
  commands_is (StartTerminal terminal) kept = refl
  commands_is (StopTerminal terminal) kept = refl
  commands_is (DequeueFirst terminal) kept = refl
  commands_is (DequeueAll terminal) kept = refl
  commands_is (Exit terminal) kept = refl
  commands_is (AssignClass code class) kept = refl
  commands_is (AssignPriority code priority) kept = refl

  changed_by : {X : Type 0} (p : X → Bool) (change : X → X) (xs : List X) (place : Option ℕ) → ((x : X) → p x ≡ true → p (change x) ≡ true) → list_all p xs ≡ true → list_all p (change_at xs place change) ≡ true
  changed_by p change xs None each all = all
  changed_by p change xs (Some place) each all = all_changed p xs place change all each

  ended : (name : List ℕ) (all : List TerminalConversation) → list_all (has_right_pad system) all ≡ true → list_all (has_right_pad system) (with_conversing name (put (λ _. None)) all) ≡ true
  ended name [] right = refl
  ended name (t ∷ ts) right = by_head (is_of_terminal name t) (ended name ts (second_of (has_right_pad system t) (list_all (has_right_pad system) ts) right)) where
    by_head : (b : Bool) → list_all (has_right_pad system) (with_conversing name (put (λ _. None)) ts) ≡ true → list_all (has_right_pad system) (if b then put (λ _. None) t ∷ ts else t ∷ with_conversing name (put (λ _. None)) ts) ≡ true
    by_head true later = second_of (has_right_pad system t) (list_all (has_right_pad system) ts) right
    by_head false later = both (has_right_pad system t) (list_all (has_right_pad system) (with_conversing name (put (λ _. None)) ts)) (first_of (has_right_pad system t) (list_all (has_right_pad system) ts) right) later

  module _ (kept : KeptState) (before : AreSound system kept) where
    rest : KeepsRest kept
    rest = rest_before system kept before

    first_runs : (terminal : List ℕ) → list_all is_run (with_terminal terminal without_first kept.outputs) ≡ true
    first_runs terminal = all_at is_run terminal without_first kept.outputs rest.runs (λ t is.
        both (not (t.next == 0)) (run_up_to t.next (drop 1 t.replies)) (first_of (not (t.next == 0)) (run_up_to t.next t.replies) is)
        (run_drop t.next t.replies (second_of (not (t.next == 0)) (run_up_to t.next t.replies) is)))

    none_runs : (terminal : List ℕ) → list_all is_run (with_terminal terminal without_replies kept.outputs) ≡ true
    none_runs terminal = all_at is_run terminal without_replies kept.outputs rest.runs (λ t is. both (not (t.next == 0)) true (first_of (not (t.next == 0)) (run_up_to t.next t.replies) is) refl)

    pub rest_commanded : (command : LastingCommand) → IsAssigned command → KeepsRest (step_commands command kept)
    rest_commanded (StartTransaction code) assigned = record { settings = changed_by is_setting (stopped_code false) kept.codes (setting_place kept.codes code) (λ x is. is) rest.settings; ascending = rest.ascending; runs = rest.runs }
    rest_commanded (StopTransaction code) assigned = record { settings = changed_by is_setting (stopped_code true) kept.codes (setting_place kept.codes code) (λ x is. is) rest.settings; ascending = rest.ascending; runs = rest.runs }
    rest_commanded (StartTerminal terminal) assigned = record { settings = rest.settings; ascending = rest.ascending; runs = rest.runs }
    rest_commanded (StopTerminal terminal) assigned = record { settings = rest.settings; ascending = rest.ascending; runs = rest.runs }
    rest_commanded (DequeueFirst terminal) assigned = record { settings = rest.settings; ascending = rest.ascending; runs = first_runs terminal }
    rest_commanded (DequeueAll terminal) assigned = record { settings = rest.settings; ascending = rest.ascending; runs = none_runs terminal }
    rest_commanded (Exit terminal) assigned = record { settings = rest.settings; ascending = rest.ascending; runs = rest.runs }
    rest_commanded (AssignClass code class) assigned = record { settings = changed_by is_setting (classed_code class) kept.codes (setting_place kept.codes code) (classed_fits class assigned) rest.settings; ascending = rest.ascending; runs = rest.runs }
    rest_commanded (AssignPriority code priority) assigned = record { settings = changed_by is_setting (ranked_code priority) kept.codes (setting_place kept.codes code) (ranked_fits priority assigned) rest.settings; ascending = rest.ascending; runs = rest.runs }

    pub free_commanded : (command : LastingCommand) → AreMessagesFree system (step_commands command kept)
    free_commanded (StartTransaction code) = record { limit = before.free.limit; holders = before.free.holders }
    free_commanded (StopTransaction code) = record { limit = before.free.limit; holders = before.free.holders }
    free_commanded (StartTerminal terminal) = record { limit = before.free.limit; holders = before.free.holders }
    free_commanded (StopTerminal terminal) = record { limit = before.free.limit; holders = before.free.holders }
    free_commanded (DequeueFirst terminal) = record { limit = before.free.limit; holders = before.free.holders }
    free_commanded (DequeueAll terminal) = record { limit = before.free.limit; holders = before.free.holders }
    free_commanded (Exit terminal) = record { limit = before.free.limit; holders = before.free.holders }
    free_commanded (AssignClass code class) = record { limit = before.free.limit; holders = before.free.holders }
    free_commanded (AssignPriority code priority) = record { limit = before.free.limit; holders = before.free.holders }

    pub numbers_commanded : (command : LastingCommand) → list_all (λ t. is_next t.next) (step_commands command kept).outputs ≡ true
    numbers_commanded (StartTransaction code) = numbers_before system kept before
    numbers_commanded (StopTransaction code) = numbers_before system kept before
    numbers_commanded (StartTerminal terminal) = numbers_before system kept before
    numbers_commanded (StopTerminal terminal) = numbers_before system kept before
    numbers_commanded (DequeueFirst terminal) = all_at (λ t. is_next t.next) terminal without_first kept.outputs (numbers_before system kept before) (λ t is. is)
    numbers_commanded (DequeueAll terminal) = all_at (λ t. is_next t.next) terminal without_replies kept.outputs (numbers_before system kept before) (λ t is. is)
    numbers_commanded (Exit terminal) = numbers_before system kept before
    numbers_commanded (AssignClass code class) = numbers_before system kept before
    numbers_commanded (AssignPriority code priority) = numbers_before system kept before

    pub inputs_commanded : (command : LastingCommand) → true ≡ list_all (λ t. is_small t.last) (step_commands command kept).terminals
    inputs_commanded (StartTransaction code) = sym (inputs_before system kept before)
    inputs_commanded (StopTransaction code) = sym (inputs_before system kept before)
    inputs_commanded (StartTerminal terminal) = sym (changed_by (λ t. is_small t.last) (stopped_terminal false) kept.terminals (terminal_place kept.terminals terminal) (λ x is. is) (inputs_before system kept before))
    inputs_commanded (StopTerminal terminal) = sym (changed_by (λ t. is_small t.last) (stopped_terminal true) kept.terminals (terminal_place kept.terminals terminal) (λ x is. is) (inputs_before system kept before))
    inputs_commanded (DequeueFirst terminal) = sym (inputs_before system kept before)
    inputs_commanded (DequeueAll terminal) = sym (inputs_before system kept before)
    inputs_commanded (Exit terminal) = sym (inputs_before system kept before)
    inputs_commanded (AssignClass code class) = sym (inputs_before system kept before)
    inputs_commanded (AssignPriority code priority) = sym (inputs_before system kept before)

    pub pads_commanded : (command : LastingCommand) → true ≡ list_all (has_right_pad system) (step_commands command kept).conversations
    pads_commanded (StartTransaction code) = sym (pads_before system kept before)
    pads_commanded (StopTransaction code) = sym (pads_before system kept before)
    pads_commanded (StartTerminal terminal) = sym (pads_before system kept before)
    pads_commanded (StopTerminal terminal) = sym (pads_before system kept before)
    pads_commanded (DequeueFirst terminal) = sym (pads_before system kept before)
    pads_commanded (DequeueAll terminal) = sym (pads_before system kept before)
    pads_commanded (Exit terminal) = sym (ended terminal kept.conversations (pads_before system kept before))
    pads_commanded (AssignClass code class) = sym (pads_before system kept before)
    pads_commanded (AssignPriority code priority) = sym (pads_before system kept before)
