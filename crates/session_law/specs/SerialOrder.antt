-- The order in which the messages of a serial code end, over the lives of a session.
use Rattle.std.specs.Prelude.{◌≡◌, ℕ, ◌<◌, true, List, [], ◌∷◌, ◌++◌, Option, Some, None, AllPairs, map, filter, filter_map, take}
use Rattle.std.specs.Option.{option_map_or, option_and_then}
use Rattle.std.specs.Str.{bytes_eq}
use Rattle.tm_types.specs.declared.message.Message.{Message}
use Rattle.model_system.specs.declared.code.Code.{Code}
use Rattle.model_system.specs.Codes.{code_at}
use Rattle.model_system.specs.System.{System}
use Rattle.model_machine.specs.declared.entry.Entry.{Entry}
use Rattle.model_machine.specs.Machine.{LastingState, Moment, start_of, message_at}
use Rattle.model_machine.specs.LastingSteps.{LastingStep}
use Rattle.model_machine.specs.LastingSteps.LastingStep.{Completes, Discards}
use Rattle.model_machine.specs.MachineCalls.{lasting_step}
use Rattle.model_machine.specs.History.{call_of, after_entry}
use Rattle.model_session.specs.Lives.{LifeState}

-- ---- the lasting steps that are kept

-- a lasting step, and the state on which it is done
pub record DoneStep : Type 0 where
  pub step : LastingStep
  pub on : LastingState

abbrev pub step_done : LastingState → LastingStep → List DoneStep
step_done lasting step = record { step = step; on = lasting } ∷ []

-- those of these entries, in their order
abbrev pub steps_in : System → Moment → List Entry → List DoneStep
steps_in system moment [] = []
steps_in system moment (entry ∷ entries) =
    option_map_or (step_done moment.lasting) (lasting_step system moment (call_of entry)) [] ++ steps_in system (after_entry system moment entry) entries

-- those of a life that are kept, and those of all lives one behind the other
abbrev pub kept_steps : System → LifeState → List DoneStep
kept_steps system life = take life.kept (steps_in system (start_of system life.opening) life.history)

abbrev pub all_kept_steps : System → List LifeState → List DoneStep
all_kept_steps system [] = []
all_kept_steps system (life ∷ lives) = kept_steps system life ++ all_kept_steps system lives

-- ---- the messages that end with them

-- the id of the message that a step completes or abends
abbrev pub ended_id : LastingStep → Option ℕ
ended_id (Completes id rows outputs pad) = Some id
ended_id (Discards id abend) = Some id
ended_id _ = None

-- the message itself
abbrev pub ended_message : DoneStep → Option Message
ended_message done = option_and_then (message_at done.on.messages) (ended_id done.step)

-- the ids of the messages of the code that these steps complete or abend, in their order
abbrev pub ended_ids : List ℕ → List DoneStep → List ℕ
ended_ids code steps = map (λ message. message.id) (filter (λ message. bytes_eq message.code code) (filter_map ended_message steps))

-- Whatever stops and restarts lie between: in the lasting steps that are kept, the messages of a serial code are completed or abended in
-- the ascending order of their ids.
abbrev pub EndsInOrder : System → List LifeState → Type 0
EndsInOrder system lives =
    (name : List ℕ) (code : Code) → code_at system.codes name ≡ Some code → code.transaction.serial ≡ true
    → AllPairs (λ earlier later. earlier < later) (ended_ids name (all_kept_steps system lives))
