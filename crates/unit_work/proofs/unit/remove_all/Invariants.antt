use Rattle.std.proofs.Common.{◌≡◌, length, drop}
use Rattle.unit_work.specs.Images.{image_at}
use Rattle.unit_work.specs.Marks.{AreMarked}
use Rattle.unit_work.specs.BackOut.{cleared, is_touched}
use Rattle.unit_work.proofs.Marking.{ArePartly}
use Rattle.unit_work.proofs.unit.remove_all.Given as goal

abbrev pub invariant-loop-change : goal.invariant-loop-change
invariant-loop-change l =
    record {
      count : length l.stores.stores ≡ length l.initial.stores.stores;
      ahead : cleared (drop l.change-index l.records) l.stores.stores ≡ cleared l.records l.initial.stores.stores;
      partly : ArePartly l.initial.stores l.stores;
      marks : AreMarked (λ db slot. is_touched l.records db (image_at db slot l.initial.stores.stores)) l.initial.stores l.stores;
    }
