use Rattle.std.proofs.Common.{◌≡◌, ◌≤◌, ◌+◌, ◌<◌, Some, length, ap, sym, ◌∙◌, arith, true, ℕ}
use Rattle.std.specs.List.{slice_get, insert}
use Rattle.std.proofs.lemmas.List.Edits.{length-insert}
use Rattle.std.specs.Vec.{vec_len, vec_capacity}
use Rattle.seg_store.specs.ChangedSlots.{with_number}
use Rattle.seg_store.specs.Store.{count_below}
use Rattle.seg_store.proofs.Changes.{number_there, number_new}
use Rattle.seg_store.proofs.Numbers.{below_within}
use Rattle.seg_store.proofs.changed.add_changed.Goals as goal

pub returns-then-is_at-clause-items : goal.returns-then-is_at-clause-items
returns-then-is_at-clause-items c =
    let xs = c.args.changed.now.items in
    let there : slice_get xs (count_below c.args.slot xs) ≡ Some c.args.slot =
    (λ i. slice_get (sym c.deref-2.ensures.value i) (sym (c.place_among-place.ensures ∙ ap (count_below c.args.slot) c.deref.ensures.value) i)) ∙ c.is_at.ensures.0 c.if-is_at.true in
    sym (number_there c.args.slot xs there)

pub insert-requires : goal.insert-requires
insert-requires c = omega (arith, below_within c.args.slot c.deref.result.now, c.place_among-place.ensures, c.deref.ensures.len)

pub unreachable-requires : goal.unreachable-requires
unreachable-requires c =
    let xs = c.args.changed.now.items in
    let place : c.place_among-place.result ≡ count_below c.args.slot xs = c.place_among-place.ensures ∙ ap (count_below c.args.slot) c.deref.ensures.value in
    let new : insert xs (count_below c.args.slot xs) c.args.slot ≡ with_number c.args.slot xs =
    number_new c.args.slot xs (λ e.
    let t : c.is_at.result ≡ true =
    c.is_at.ensures.1 ((λ i. slice_get (c.deref-2.ensures.value i) (place i)) ∙ e) in
    let f = c.if-is_at.false in absurd (cc)) in
    let longer : length xs + 1 ≤ vec_capacity c.args.changed.now =
    omega (arith, c.requires.room, ap (length {A = ℕ}) new, length-insert xs (count_below c.args.slot xs) c.args.slot (below_within c.args.slot xs)) in
    let room : vec_len c.args.changed.now < vec_capacity c.args.changed.now = omega (arith, longer, c.args.changed.now.ok) in
    let good = c.in-Err.ensures.succeeds room in
    absurd (cc)

pub returns-clause-items : goal.returns-clause-items
returns-clause-items c =
    let xs = c.args.changed.now.items in
    let place : c.place_among-place.result ≡ count_below c.args.slot xs = c.place_among-place.ensures ∙ ap (count_below c.args.slot) c.deref.ensures.value in
    let inserted : c.insert.new.self.items ≡ insert xs c.place_among-place.result c.args.slot = c.in-Ok.ensures.items in
    inserted ∙ (ap (λ p. insert xs p c.args.slot) place
    ∙ number_new c.args.slot xs (λ e.
    let t : c.is_at.result ≡ true =
    c.is_at.ensures.1 ((λ i. slice_get (c.deref-2.ensures.value i) (place i)) ∙ e) in
    let f = c.if-is_at.false in absurd (cc)))
