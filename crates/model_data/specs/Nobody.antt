-- What fills the places behind a list of victims.
use Rattle.std.specs.Prelude.{List, [], ◌∷◌}
use Rattle.model_data.specs.declared.victim.Victim.{Victim}

abbrev pub nobody : Victim
nobody = record { region = 0; cycle = [] }

abbrev pub no_victims : List Victim
no_victims = nobody ∷ nobody ∷ nobody ∷ nobody ∷ nobody ∷ nobody ∷ nobody ∷ nobody ∷ []
