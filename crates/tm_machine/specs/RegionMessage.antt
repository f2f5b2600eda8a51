-- The message that a region works on.
use Rattle.std.specs.Prelude.{ℕ, List, Option}
use Rattle.std.specs.Option.{option_map}
use Rattle.model_machine.specs.Machine.{Slot}

-- its code and its id
abbrev pub region_message : Option Slot → Option (List ℕ × ℕ)
region_message slot = option_map (λ s. (s.code, s.id)) slot
