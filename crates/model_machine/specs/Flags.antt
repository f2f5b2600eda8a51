-- The flags as the codes that moved follow, one after another, by an index of their names.
use Rattle.std.specs.Prelude.{ℕ, Bool, false, Option, Some, None, List, [], ◌∷◌, slice_get}
use Rattle.std.specs.Option.{option_map_or}
use Rattle.model_system.specs.CodeStates.{with_raised}
use Rattle.model_system.specs.Codes.{code_place}
use Rattle.model_system.specs.declared.code_state.CodeState.{CodeState}
use Rattle.model_system.specs.declared.code.Code.{Code}
use Rattle.model_machine.specs.Machine.{raised_by}

abbrev pub is_raised : List CodeState → ℕ → Bool
is_raised states place = option_map_or (λ state. state.raised) (slice_get states place) false

abbrev pub followed_by : ℕ → Option Code → List CodeState → ℕ → List CodeState
followed_by waiting (Some code) states place = with_raised place (raised_by code.transaction waiting (is_raised states place)) states
followed_by waiting None states place = states

-- the states once the flag of the code of this name follows how many of its messages wait
abbrev pub followed : List Code → List ℕ → ℕ → List CodeState → List CodeState
followed codes name waiting states =
    option_map_or (λ place. followed_by waiting (slice_get codes place) states place) (code_place codes name) states

-- the same for the codes of these names
abbrev pub all_followed : List Code → (List ℕ → ℕ) → List (List ℕ) → List CodeState → List CodeState
all_followed codes waiting [] states = states
all_followed codes waiting (name ∷ names) states = all_followed codes waiting names (followed codes name (waiting name) states)
