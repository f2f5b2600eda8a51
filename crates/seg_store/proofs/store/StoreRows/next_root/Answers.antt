use Rattle.std.proofs.Common.{◌≡◌, Some, None, subst, sym, ap, ◌∙◌}
use Rattle.std.specs.Option.{option_map, option_copied}
use Rattle.model_data.specs.Rows.{next_root, AreRows}
use Rattle.seg_store.specs.ChangedSlots.{Kept}
use Rattle.seg_store.specs.Slots.{rows_of_slots}
use Rattle.seg_store.specs.Store.{next_entry}
use Rattle.seg_store.proofs.Nexts.{next_root_is, indexed_rows}
use Rattle.seg_store.proofs.store.StoreRows.next_root.Goals as goal

pub returns-in-Some-clause-value : goal.returns-in-Some-clause-value
returns-in-Some-clause-value c =
    let found : next_entry c.self.inside.index.items (option_copied c.args.after) ≡ Some c.in-Some.entry.now =
    ap (λ es. next_entry es (option_copied c.args.after)) (sym c.deref.ensures.value) ∙ sym c.in-Some.ensures in
    ap (option_map (λ e. e.0)) (sym found)
    ∙ (sym (next_root_is c.self.inside.dbd c.self.inside.slots.items c.self.inside.index.items _ _ _ c.self.invariant.indexed (option_copied c.args.after))
    ∙ ap (λ (s : Kept). next_root (rows_of_slots s.slots) (option_copied c.args.after)) c.self.view_is)

pub returns-in-Some-clause-valid : goal.returns-in-Some-clause-valid
returns-in-Some-clause-valid c =
    subst (λ (s : Kept). AreRows s.dbd (rows_of_slots s.slots)) c.self.view_is
    (indexed_rows c.self.inside.dbd c.self.inside.slots.items c.self.inside.index.items _ _ _ c.self.invariant.indexed)

pub returns-in-None-clause-value : goal.returns-in-None-clause-value
returns-in-None-clause-value c =
    let none : next_entry c.self.inside.index.items (option_copied c.args.after) ≡ None =
    ap (λ es. next_entry es (option_copied c.args.after)) (sym c.deref.ensures.value) ∙ sym c.in-None.ensures in
    ap (option_map (λ e. e.0)) (sym none)
    ∙ (sym (next_root_is c.self.inside.dbd c.self.inside.slots.items c.self.inside.index.items _ _ _ c.self.invariant.indexed (option_copied c.args.after))
    ∙ ap (λ (s : Kept). next_root (rows_of_slots s.slots) (option_copied c.args.after)) c.self.view_is)

pub returns-in-None-clause-valid : goal.returns-in-None-clause-valid
returns-in-None-clause-valid c =
    subst (λ (s : Kept). AreRows s.dbd (rows_of_slots s.slots)) c.self.view_is
    (indexed_rows c.self.inside.dbd c.self.inside.slots.items c.self.inside.index.items _ _ _ c.self.invariant.indexed)
