-- The lives of a session between cold starts.
use Rattle.std.specs.Prelude.{◌≡◌, ℕ, ◌+◌, List, [], ◌∷◌, ◌++◌}
use Rattle.std.specs.List.{AllByRecursion}
use Rattle.model_system.specs.System.{System}
use Rattle.model_machine.specs.Machine.{empty_state}
use Rattle.model_session.specs.declared.asked.Asked.{Asked}
use Rattle.model_session.specs.declared.asked.Asked.TheVariants.{ColdStart}
use Rattle.model_session.specs.Blocks.{Block}
use Rattle.model_session.specs.Lines.{asked_of}
use Rattle.model_session.specs.Lives.{LifeState}

-- how many of these blocks ask for a cold start
abbrev pub cold_count : Asked → ℕ
cold_count ColdStart = 1
cold_count _ = 0

abbrev pub colds_in : System → List Block → ℕ
colds_in system [] = 0
colds_in system (block ∷ blocks) = cold_count (asked_of system block) + colds_in system blocks

-- runs of lives one behind the other
abbrev pub joined : List (List LifeState) → List LifeState
joined [] = []
joined (run ∷ runs) = run ++ joined runs

-- the first of these lives opened with the empty state
abbrev pub OpensEmpty : System → List LifeState → Type 0
OpensEmpty system [] = Unit {0}
OpensEmpty system (life ∷ lives) = life.opening ≡ empty_state system

-- each run behind the first opened so
abbrev pub AreEmptyBehind : System → List (List LifeState) → Type 0
AreEmptyBehind system [] = Unit {0}
AreEmptyBehind system (run ∷ runs) = AllByRecursion (OpensEmpty system) runs
