use Rattle.std.proofs.Common.{drop, map}
use Rattle.log_records.proofs.Kept.{Keeps}
use Rattle.program_rows.specs.ToldChanges.{back_out_told}
use Rattle.program_rows.proofs.Appending.{Comes}
use Rattle.program_rows.proofs.telling.append_slots.Given as goal

abbrev pub invariant-loop-change : goal.invariant-loop-change
invariant-loop-change l =
    Comes (map (back_out_told l.unit l.stores.stores) (drop l.change-index l.slots)) (map (back_out_told l.unit l.stores.stores) l.slots) l.fn.out.items l.out.items
    × Keeps l.fn.out.items l.out.items
