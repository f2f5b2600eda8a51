use Rattle.std.proofs.Common.{◌≡◌, ℕ, true, length}
use Rattle.std.specs.List.{list_any}
use Rattle.unit_work.specs.Marks.{AreMarked}
use Rattle.unit_work.specs.BackOut.{was_in, backed_from}
use Rattle.unit_work.proofs.Backing.{CanPut}
use Rattle.unit_work.proofs.Marking.{AreToMark}
use Rattle.unit_work.proofs.unit.put_all.Given as goal

abbrev pub invariant-loop-change : goal.invariant-loop-change
invariant-loop-change l =
    record {
      can : CanPut l.records.items l.stores.stores;
      among : (db slot : ℕ) → list_any (was_in db slot) l.records.items ≡ true → list_any (was_in db slot) l.initial.records.items ≡ true;
      marks : AreMarked (λ db slot. list_any (was_in db slot) l.initial.records.items) l.initial.stores l.stores;
      to_mark : AreToMark l.initial.records.items l.records.items l.stores;
      ahead : backed_from l.records.items 1 l.stores.stores ≡ backed_from l.initial.records.items 1 l.initial.stores.stores;
    }

abbrev pub decreases-loop-change : goal.decreases-loop-change
decreases-loop-change l = length l.records.items
