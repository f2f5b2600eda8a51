-- Where no slot is lent, none is there.
use Rattle.std.proofs.Common.{◌≡◌, sym, refl, Some, None}
use Rattle.std.specs.Prelude.{Option}
use Rattle.std.specs.Option.{option_map}
use Rattle.unit_work.specs.declared.change.Change.{Change}
use Rattle.unit_work.specs.declared.change.UnitSlot.{UnitSlot}
use Rattle.unit_work.specs.ShownTouch.{shown_slot}

pub none_shown : (lent : Option UnitSlot) (there : Option Change) → ((s : UnitSlot) → lent ≡ Some s → ⊥) → option_map shown_slot lent ≡ there → there ≡ None
none_shown None there none is = sym is
none_shown (Some s) there none is = absurd (none s refl)
