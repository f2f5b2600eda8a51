-- The loop over the names of codes that follow.
use Rattle.std.proofs.Common.{◌≡◌, ℕ, ◌+◌, ◌<◌, List, length, drop, get_or, sym, ap, ◌∙◌}
use Rattle.std.proofs.lemmas.List.{drop_more}
use Rattle.model_system.specs.declared.code.Code.{Code}
use Rattle.model_system.specs.declared.code_state.CodeState.{CodeState}
use Rattle.model_machine.specs.Flags.{followed, all_followed}

pub follow_step : (codes : List Code) (count : List ℕ → ℕ) (names : List (List ℕ)) (first states states' : List CodeState) (index : ℕ) (name : List ℕ) → index < length names
    → name ≡ get_or names index name → all_followed codes count names first ≡ all_followed codes count (drop index names) states → states' ≡ followed codes name (count name) states
    → all_followed codes count names first ≡ all_followed codes count (drop (index + 1) names) states'
follow_step codes count names first states states' index name below here so is =
    so ∙ ap (λ ns. all_followed codes count ns states) (drop_more names index name below)
    ∙ ap (λ n. all_followed codes count (drop (index + 1) names) (followed codes n (count n) states)) (sym here)
    ∙ ap (all_followed codes count (drop (index + 1) names)) (sym is)
