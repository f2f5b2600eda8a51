-- The states of codes, in the order of the definition.
use Rattle.std.specs.Prelude.{ℕ, zero, suc, Bool, List, [], ◌∷◌}
use Rattle.model_system.specs.declared.code_state.CodeState.{CodeState}

-- the states with the flag at a place set or cleared
abbrev pub with_raised : ℕ → Bool → List CodeState → List CodeState
with_raised place raised [] = []
with_raised zero raised (state ∷ states) = record state { raised = raised } ∷ states
with_raised (suc place) raised (state ∷ states) = state ∷ with_raised place raised states
