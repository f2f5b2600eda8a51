-- A flag that is set at a place.
use Rattle.std.proofs.Common.{ℕ, zero, suc, ◌≡◌, ◌<◌, Bool, List, [], ◌∷◌, length, get_or, set, ap, arith}
use Rattle.model_system.specs.declared.code_state.CodeState.{CodeState}
use Rattle.system_types.specs.Codes.{with_raised}

pub raised_is_set : (place : ℕ) (raised : Bool) (states : List CodeState) (state : CodeState) → place < length states → state ≡ get_or states place state → set states place (record state { raised = raised }) ≡ with_raised place raised states
raised_is_set place raised [] state h e = absurd (omega (arith, h))
raised_is_set zero raised (first ∷ states) state h e = ap (λ (s : CodeState). record s { raised = raised } ∷ states) e
raised_is_set (suc place) raised (first ∷ states) state h e = ap (λ (ss : List CodeState). first ∷ ss) (raised_is_set place raised states state (omega (arith, h)) e)
