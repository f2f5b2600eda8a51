use Rattle.std.proofs.Common.{sym, ap, subst, ◌∙◌}
use Rattle.program_rows.specs.DatabasesState.{DatabasesState}
use Rattle.program_rows.specs.SlotsState.{slots_state_of, slots_stores, AreOnSlots}
use Rattle.tm_machine.proofs.Slotting.{has_slots}
use Rattle.tm_machine.proofs.parts.Parts.stores.Goals as goal

pub returns-clause-value : goal.returns-clause-value
returns-clause-value c =
    rw (sym c.self.view_is) (c.stores.ensures.value ∙ ap (λ (d : DatabasesState). slots_stores (slots_state_of d)) c.databases.ensures)

pub returns-clause-has : goal.returns-clause-has
returns-clause-has c =
    rw (sym c.self.view_is)
    (has_slots c.self.inside.system c.self.inside.tables c.self.inside.codes c.self.inside.regions.items c.self.invariant (subst AreOnSlots c.databases.ensures c.stores.ensures.on_slots))
