use Rattle.std.proofs.Common.{drop}
use Rattle.checkpointing.specs.Touches.{changes_of_units, AreAllSpelled}
use Rattle.checkpointing.proofs.Adding.{Comes}
use Rattle.checkpointing.proofs.touches.append_touches.Given as goal

abbrev pub invariant-loop-unit : goal.invariant-loop-unit
invariant-loop-unit l =
    Comes (changes_of_units l.stores.stores (drop l.unit-index l.units)) (changes_of_units l.stores.stores l.units) l.fn.out.items l.out.items
    × AreAllSpelled l.stores.stores (drop l.unit-index l.units)
