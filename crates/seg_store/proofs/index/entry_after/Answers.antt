use Rattle.std.proofs.Common.{◌≡◌, ◌<◌, ◌+◌, Some, ap, sym, ◌∙◌, cond, suc, arith, length}
use Rattle.std.specs.List.{slice_get}
use Rattle.std.specs.Ordering.{is_eq}
use Rattle.std.proofs.lemmas.Option.{slice_get_within}
use Rattle.seg_store.proofs.Entries.{after_at, after_of, place_in}
use Rattle.seg_store.proofs.index.entry_after.Goals as goal

pub returns-in_default : goal.returns-in_default
returns-in_default c =
    let place = place_in c.args.root.now c.args.index.now in
    sym (after_at c.args.root.now c.args.index.now c.requires
    ∙ (ap (λ p. after_of c.args.root.now (slice_get c.args.index.now p) (slice_get c.args.index.now (suc place))) (sym c.place_among-place.ensures)
    ∙ ap (λ o. after_of c.args.root.now o (slice_get c.args.index.now (suc place))) (sym c.in_default.ensures)))

pub overflow_add-place : goal.overflow_add-place
overflow_add-place c =
    let within : c.place_among-place.result < length c.args.index.now = slice_get_within c.args.index.now c.place_among-place.result c.in-Some.entry.now (sym c.in-Some.ensures) in
    omega arith

pub returns-then-is_eq : goal.returns-then-is_eq
returns-then-is_eq c =
    let place = place_in c.args.root.now c.args.index.now in
    let later : c.place_among-place.result + 1 ≡ suc place = omega (arith, c.place_among-place.ensures) in
    sym (after_at c.args.root.now c.args.index.now c.requires
    ∙ (ap (λ p. after_of c.args.root.now (slice_get c.args.index.now p) (slice_get c.args.index.now (suc place))) (sym c.place_among-place.ensures)
    ∙ (ap (λ o. after_of c.args.root.now o (slice_get c.args.index.now (suc place))) (sym c.in-Some.ensures)
    ∙ (ap (λ b. cond b (slice_get c.args.index.now (suc place)) (Some c.in-Some.entry.now)) (ap is_eq (sym c.cmp.ensures) ∙ (sym c.is_eq.ensures ∙ c.if-is_eq.true))
    ∙ (ap (slice_get c.args.index.now) (sym later) ∙ sym c.entry_at-then-is_eq.ensures)))))

pub returns-else-is_eq : goal.returns-else-is_eq
returns-else-is_eq c =
    let place = place_in c.args.root.now c.args.index.now in
    sym (after_at c.args.root.now c.args.index.now c.requires
    ∙ (ap (λ p. after_of c.args.root.now (slice_get c.args.index.now p) (slice_get c.args.index.now (suc place))) (sym c.place_among-place.ensures)
    ∙ (ap (λ o. after_of c.args.root.now o (slice_get c.args.index.now (suc place))) (sym c.in-Some.ensures)
    ∙ ap (λ b. cond b (slice_get c.args.index.now (suc place)) (Some c.in-Some.entry.now)) (ap is_eq (sym c.cmp.ensures) ∙ (sym c.is_eq.ensures ∙ c.if-is_eq.false)))))
