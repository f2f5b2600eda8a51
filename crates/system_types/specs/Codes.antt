-- The states of codes.
use Rattle.std.specs.Prelude.{ℕ, Bool, false, List}
use Rattle.std.specs.Str.{bytes_eq}
pub use Rattle.model_system.specs.CodeStates.{with_raised}
use Rattle.model_system.specs.declared.code_state.CodeState.{CodeState}
use Rattle.model_system.specs.declared.code.Code.{Code}

-- the state that a code begins with
abbrev pub first_state : Code → CodeState
first_state code = record {
  code = code.transaction.code;
  stopped = false;
  class = code.transaction.class;
  priority = code.transaction.normal_priority;
  raised = false;
}

-- a state that is stopped, or started
abbrev pub stopped_state : Bool → CodeState → CodeState
stopped_state stopped state = record state { stopped = stopped }

-- a state with another class, and with another normal priority
abbrev pub classed_state : ℕ → CodeState → CodeState
classed_state class state = record state { class = class }

abbrev pub ranked_state : ℕ → CodeState → CodeState
ranked_state priority state = record state { priority = priority }

abbrev pub is_state_of : List ℕ → CodeState → Bool
is_state_of code state = bytes_eq state.code code
