use Rattle.std.proofs.Common.{◌≡◌, None, sym, ap, ◌∙◌, rules}
use Rattle.std.specs.List.{slice_get}
use Rattle.seg_store.specs.ChangedSlots.{Kept}
use Rattle.seg_store.specs.Slots.{slot_of_root, slot_for, first_slot_of, lowest_free}
use Rattle.seg_store.proofs.Numbers.{lowest_first}
use Rattle.seg_store.proofs.store.Store.slot_for.Goals as goal

pub returns-in-None-clause-value : goal.returns-in-None-clause-value
returns-in-None-clause-value c =
    let absent : slot_of_root c.args.root.now c.self.inside.slots.items ≡ None = sym (c.self.invariant.indexed.found c.args.root.now) ∙ search rules in
    c.lowest.ensures ∙ (ap (λ xs. slice_get xs 0) (c.deref-in-None.ensures.value ∙ c.self.invariant.indexed.free_is)
    ∙ (lowest_first c.self.inside.slots.items
    ∙ (sym (ap (λ o. first_slot_of o (lowest_free c.self.inside.slots.items)) absent) ∙ ap (λ (s : Kept). slot_for c.args.root.now s.slots) c.self.view_is)))
