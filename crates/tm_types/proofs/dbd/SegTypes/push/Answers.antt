use Rattle.std.proofs.Common.{length, subst, sym}
use Rattle.tm_types.specs.SegTypes.{IsTypeAt}
use Rattle.tm_types.proofs.Hierarchy.{IsHierarchy-push}
use Rattle.tm_types.proofs.dbd.SegTypes.push.Goals as goal

pub invariant_of-self-2 : goal.invariant_of-self-2
invariant_of-self-2 c =
    let here = subst (λ xs. IsTypeAt (length xs) c.args.segment) (sym c.self.view_is) c.requires in
    rw c.in_ok-push.ensures.items (IsHierarchy-push _ _ c.self.invariant here)
