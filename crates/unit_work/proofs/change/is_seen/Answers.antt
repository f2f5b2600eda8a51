use Rattle.std.proofs.Common.{sym, ap, ◌∙◌}
use Rattle.std.specs.List.{slice_get}
use Rattle.unit_work.proofs.Keeping.{seen_is, seen_at}
use Rattle.unit_work.proofs.change.is_seen.Goals as goal

pub returns-in-Some : goal.returns-in-Some
returns-in-Some c =
    c.is_slot.ensures
    ∙ (ap (seen_at c.args.db c.args.slot) c.in-Some.ensures
    ∙ (ap (λ p. seen_at c.args.db c.args.slot (slice_get c.args.slots.now p)) c.place_among.ensures ∙ sym (seen_is c.args.db c.args.slot c.args.slots.now)))

pub returns-in-None : goal.returns-in-None
returns-in-None c =
    ap (seen_at c.args.db c.args.slot) c.in-None.ensures
    ∙ (ap (λ p. seen_at c.args.db c.args.slot (slice_get c.args.slots.now p)) c.place_among.ensures ∙ sym (seen_is c.args.db c.args.slot c.args.slots.now))
