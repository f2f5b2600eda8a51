use Rattle.std.proofs.Common.{◌≡◌, Some, ap, sym, ◌∙◌, true}
use Rattle.std.specs.List.{slice_get, remove}
use Rattle.seg_store.specs.Store.{count_below}
use Rattle.seg_store.proofs.Changes.{number_out, number_absent}
use Rattle.seg_store.proofs.changed.take_changed.Goals as goal

pub returns-then-is_at-clause-items : goal.returns-then-is_at-clause-items
returns-then-is_at-clause-items c =
    let xs = c.args.changed.now.items in
    let place : c.place_among-place.result ≡ count_below c.args.slot xs = c.place_among-place.ensures ∙ ap (count_below c.args.slot) c.deref.ensures.value in
    let there : slice_get xs (count_below c.args.slot xs) ≡ Some c.args.slot =
    (λ i. slice_get (sym c.deref-2.ensures.value i) (sym place i)) ∙ c.is_at.ensures.0 c.if-is_at.true in
    c.remove.ensures.items ∙ (ap (remove xs) place ∙ number_out c.args.slot xs c.requires.ascending there)

pub returns-else-is_at-clause-items : goal.returns-else-is_at-clause-items
returns-else-is_at-clause-items c =
    let xs = c.args.changed.now.items in
    let place : c.place_among-place.result ≡ count_below c.args.slot xs = c.place_among-place.ensures ∙ ap (count_below c.args.slot) c.deref.ensures.value in
    sym (number_absent c.args.slot xs c.requires.ascending (λ e.
    let t : c.is_at.result ≡ true =
    c.is_at.ensures.1 ((λ i. slice_get (c.deref-2.ensures.value i) (place i)) ∙ e) in
    let f = c.if-is_at.false in absurd (cc)))
