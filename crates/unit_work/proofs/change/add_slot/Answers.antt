use Rattle.std.proofs.Common.{◌≡◌, sym, ap, ◌∙◌, arith, true, false, get_or, set}
use Rattle.std.specs.List.{insert}
use Rattle.unit_work.specs.declared.change.Change.{Change}
use Rattle.unit_work.specs.Changes.{is_seen}
use Rattle.unit_work.proofs.Keeping.{seen_within, place_within, place_in, slot_again, slot_new}
use Rattle.unit_work.proofs.change.add_slot.Goals as goal

pub index_mut-requires : goal.index_mut-requires
index_mut-requires c =
    let seen : is_seen c.args.change.db c.args.change.slot c.deref-2.result.now ≡ true = sym c.is_seen.ensures ∙ c.if-is_seen.true in
    let same : c.place_among-place.result ≡ place_in c.args.change.db c.args.change.slot c.deref-2.result.now =
    c.place_among-place.ensures ∙ ap (place_in c.args.change.db c.args.change.slot) (c.deref.ensures.value ∙ sym c.deref-2.ensures.value) in
    omega (arith, seen_within c.args.change.db c.args.change.slot c.deref-2.result.now seen, c.deref-2.ensures.len)

pub insert-requires : goal.insert-requires
insert-requires c =
    omega (arith, place_within c.args.change.db c.args.change.slot c.deref.result.now, c.place_among-place.ensures, c.deref.ensures.len)

pub returns-then-is_seen : goal.returns-then-is_seen
returns-then-is_seen c =
    let seen : is_seen c.args.change.db c.args.change.slot c.args.slots.now.items ≡ true =
    ap (is_seen c.args.change.db c.args.change.slot) (sym c.deref-2.ensures.value) ∙ (sym c.is_seen.ensures ∙ c.if-is_seen.true) in
    let same : c.place_among-place.result ≡ place_in c.args.change.db c.args.change.slot c.args.slots.now.items =
    c.place_among-place.ensures ∙ ap (place_in c.args.change.db c.args.change.slot) c.deref.ensures.value in
    ap (set c.args.slots.now.items c.place_among-place.result) (c.set_root.ensures ∙ ap (λ (s : Change). record s { root = c.args.change.root }) c.index_mut.ensures.value)
    ∙ (ap (λ p. set c.args.slots.now.items p (record (get_or c.args.slots.now.items p c.index_mut.result.now) { root = c.args.change.root })) same
    ∙ slot_again c.args.change c.args.slots.now.items c.index_mut.result.now seen)

pub returns-in-Ok : goal.returns-in-Ok
returns-in-Ok c =
    let new : is_seen c.args.change.db c.args.change.slot c.args.slots.now.items ≡ false =
    ap (is_seen c.args.change.db c.args.change.slot) (sym c.deref-2.ensures.value) ∙ (sym c.is_seen.ensures ∙ c.if-is_seen.false) in
    c.in-Ok.ensures.items
    ∙ (ap (λ p. insert c.args.slots.now.items p c.args.change) (c.place_among-place.ensures ∙ ap (place_in c.args.change.db c.args.change.slot) c.deref.ensures.value)
    ∙ slot_new c.args.change c.args.slots.now.items new)
