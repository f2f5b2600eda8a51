-- What a log done again ends in.
use Rattle.std.specs.Prelude.{◌≡◌, Option, Some, None}
use Rattle.model_system.specs.System.{System}
use Rattle.model_machine.specs.Machine.{LastingState}
use Rattle.image_records.specs.KeptState.{KeptState, KeepsState}

-- the tables of what lasts then, where no record breaks the rule
abbrev pub ReplayEnds : System → Option LastingState → Option KeptState → Type 0
ReplayEnds system answer (Some kept) = (lasting : LastingState) × (answer ≡ Some lasting) × KeepsState system lasting kept
ReplayEnds system answer None = answer ≡ None
