use Rattle.std.proofs.Common.{◌<◌, ℕ, List, sym, subst}
use Rattle.std.specs.List.{AllByRecursion}
use Rattle.image_loading.proofs.Slotted.{Ascends, ascends_more}
use Rattle.image_loading.proofs.slots.Slots.push.Goals as goal

pub invariant_of-self-2 : goal.invariant_of-self-2
invariant_of-self-2 c =
    subst Ascends (sym c.in_ok-push.ensures.items)
    (ascends_more c.self.inside.items.items c.args.slot c.args.bytes c.self.invariant
    (subst (λ (slots : List (ℕ × List ℕ)). AllByRecursion (λ s. s.0 < c.args.slot) slots) (sym c.self.view_is) c.requires))
