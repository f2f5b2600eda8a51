use Rattle.std.proofs.Common.{None, Some, ap, sym, ◌∙◌, cond}
use Rattle.std.specs.List.{slice_get}
use Rattle.std.specs.Ordering.{is_eq}
use Rattle.seg_store.proofs.Entries.{lookup_at, found_at}
use Rattle.seg_store.proofs.index.slot_of.Goals as goal

pub returns-in_default : goal.returns-in_default
returns-in_default c =
    sym (lookup_at c.args.root.now c.args.index.now c.requires
    ∙ (ap (λ p. found_at c.args.root.now (slice_get c.args.index.now p)) (sym c.place_among.ensures)
    ∙ ap (found_at c.args.root.now) (sym c.in_default.ensures)))

pub returns-then-is_eq : goal.returns-then-is_eq
returns-then-is_eq c =
    sym (lookup_at c.args.root.now c.args.index.now c.requires
    ∙ (ap (λ p. found_at c.args.root.now (slice_get c.args.index.now p)) (sym c.place_among.ensures)
    ∙ (ap (found_at c.args.root.now) (sym c.in-Some.ensures)
    ∙ ap (λ b. cond b (Some c.in-Some.entry.now.1) None) (ap is_eq (sym c.cmp.ensures) ∙ (sym c.is_eq.ensures ∙ c.if-is_eq.true)))))

pub returns-else-is_eq : goal.returns-else-is_eq
returns-else-is_eq c =
    sym (lookup_at c.args.root.now c.args.index.now c.requires
    ∙ (ap (λ p. found_at c.args.root.now (slice_get c.args.index.now p)) (sym c.place_among.ensures)
    ∙ (ap (found_at c.args.root.now) (sym c.in-Some.ensures)
    ∙ ap (λ b. cond b (Some c.in-Some.entry.now.1) None) (ap is_eq (sym c.cmp.ensures) ∙ (sym c.is_eq.ensures ∙ c.if-is_eq.false)))))
