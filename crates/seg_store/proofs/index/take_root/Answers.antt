use Rattle.std.proofs.Common.{◌≡◌, Some, ap, sym, ◌∙◌, arith, length}
use Rattle.std.specs.List.{remove}
use Rattle.std.specs.BTreeMap.{is_at}
use Rattle.std.specs.Map.{lookup}
use Rattle.model_data.specs.Path.{key_cmp}
use Rattle.seg_store.proofs.Entries.{remove_none, remove_at, found_within, place_in}
use Rattle.seg_store.proofs.index.take_root.Goals as goal

pub returns-in_err-slot-clause-items : goal.returns-in_err-slot-clause-items
returns-in_err-slot-clause-items c =
    sym (remove_none (is_at (key_cmp c.args.root.now)) c.args.index.now.items
    (ap (lookup (is_at (key_cmp c.args.root.now))) (sym c.deref.ensures.value) ∙ (sym c.slot_of.ensures ∙ c.in_err-slot.was)))

pub remove-requires : goal.remove-requires
remove-requires c =
    let there : lookup (is_at (key_cmp c.args.root.now)) c.args.index.now.items ≡ Some c.in_ok-slot.slot =
    ap (lookup (is_at (key_cmp c.args.root.now))) (sym c.deref.ensures.value) ∙ (sym c.slot_of.ensures ∙ c.in_ok-slot.was) in
    let at : c.place_among.result ≡ place_in c.args.root.now c.args.index.now.items = c.place_among.ensures ∙ ap (λ es. place_in c.args.root.now es) c.deref-2.ensures.value in
    omega (arith, found_within c.args.root.now c.args.index.now.items c.in_ok-slot.slot c.requires there, c.deref-2.ensures.len, ap length c.deref-2.ensures.value)

pub returns-clause-items : goal.returns-clause-items
returns-clause-items c =
    let there : lookup (is_at (key_cmp c.args.root.now)) c.args.index.now.items ≡ Some c.in_ok-slot.slot =
    ap (lookup (is_at (key_cmp c.args.root.now))) (sym c.deref.ensures.value) ∙ (sym c.slot_of.ensures ∙ c.in_ok-slot.was) in
    let at : c.place_among.result ≡ place_in c.args.root.now c.args.index.now.items = c.place_among.ensures ∙ ap (λ es. place_in c.args.root.now es) c.deref-2.ensures.value in
    c.remove.ensures.items
    ∙ (ap (remove c.args.index.now.items) at
    ∙ remove_at c.args.root.now c.args.index.now.items c.in_ok-slot.slot there c.requires)
