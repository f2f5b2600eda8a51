-- A touched slot as it is lent.
use Rattle.unit_work.specs.declared.change.Change.{Change}
use Rattle.unit_work.specs.declared.change.UnitSlot.{UnitSlot}

-- what it lends
abbrev pub shown_slot : UnitSlot → Change
shown_slot s = record { db = s.db; slot = s.slot; root = s.root; before = s.before.now }
