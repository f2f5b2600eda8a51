-- What a region picks, by what the codes offer.
use Rattle.std.proofs.Common.{◌≡◌, ℕ, List, Option}
use Rattle.model_system.specs.declared.code_state.CodeState.{CodeState}
use Rattle.model_system.specs.System.{System}
use Rattle.model_system.specs.declared.code.Code.{Code}
use Rattle.model_machine.specs.Pick.{pick_of}

-- two ways to tell what each code offers that say the same lead to the same pick
pub pick_same : (system : System) (region : ℕ) (states : List CodeState) (f g : Code → Option ℕ) → ((code : Code) → f code ≡ g code)
    → pick_of system region states f ≡ pick_of system region states g
pick_same system region states f g same = λ i. pick_of system region states (λ code. same code i)
