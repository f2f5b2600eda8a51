use Rattle.seg_store.specs.ChangedSlots.{Kept}
use Rattle.seg_store.proofs.Changes.{changed_few}
use Rattle.seg_store.proofs.store.Store.write_changed.Goals as goal
use Rattle.std.proofs.Common.{◌*◌, ◌≤◌, arith, length, subst}
use Rattle.std.proofs.lemmas.Nat.{mul-le}

pub returns-then-is_err-clause-few : goal.returns-then-is_err-clause-few
returns-then-is_err-clause-few g c =
    subst (λ (s : Kept). length s.changed * s.dbd.sectors ≤ s.dbd.roots * s.dbd.sectors) c.self.view_is
    (mul-le (length c.self.inside.changed.items) c.self.inside.dbd.sectors c.self.inside.dbd.roots c.self.inside.dbd.sectors (changed_few c.self.inside.dbd.roots c.self.inside.changed.items c.self.invariant.changes) (omega arith))

pub returns-clause-few : goal.returns-clause-few
returns-clause-few g c =
    subst (λ (s : Kept). length s.changed * s.dbd.sectors ≤ s.dbd.roots * s.dbd.sectors) c.self.view_is
    (mul-le (length c.self.inside.changed.items) c.self.inside.dbd.sectors c.self.inside.dbd.roots c.self.inside.dbd.sectors (changed_few c.self.inside.dbd.roots c.self.inside.changed.items c.self.invariant.changes) (omega arith))
