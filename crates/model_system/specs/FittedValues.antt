-- Values that are set into places.
use Rattle.std.specs.Prelude.{ℕ, ◌-◌, List, ◌++◌, length, take, drop, replicate}
use Rattle.model_system.specs.declared.message_field.Justify.{Justify}
use Rattle.model_system.specs.declared.message_field.Justify.TheVariants.{Left, Right}

-- A value in a place of so many bytes. At the left it is filled up behind, and a longer one keeps its
-- front; at the right it is filled up before, and a longer one keeps its end.
abbrev pub fitted_value : Justify → ℕ → ℕ → List ℕ → List ℕ
fitted_value Left fill width text = take width text ++ replicate (width - length text) fill
fitted_value Right fill width text = replicate (width - length text) fill ++ drop (length text - width) text
