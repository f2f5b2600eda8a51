-- The slots that a life begins with.
use Rattle.std.specs.Prelude.{ℕ, List, [], replicate}
use Rattle.tm_types.specs.declared.dbd.Dbd.{Dbd}
use Rattle.seg_store.specs.Slots.{Stored}
use Rattle.seg_store.specs.Stores.{no_changed}
use Rattle.program_rows.specs.SlotsState.{SlotsState}
use Rattle.openings.specs.OpeningParts.{OpeningParts}

-- the slots of stores that a life begins with
abbrev pub opening_slots : List Stored → List Dbd → ℕ → SlotsState
opening_slots stores dbds regions = record { committed = stores; stores = stores; changed = no_changed dbds; touched = replicate regions [] }

-- the slots of what a life begins with
abbrev pub slots_of_opening : OpeningParts → ℕ → SlotsState
slots_of_opening opening regions = record { stores = opening.stores.stores; changed = opening.stores.changed; committed = opening.stores.stores; touched = replicate regions [] }
