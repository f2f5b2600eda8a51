use Rattle.std.proofs.Common.{ap, ◌∙◌, arith}
use Rattle.std.specs.List.{insert}
use Rattle.seg_store.proofs.Entries.{insert_at, place_in, place_within}
use Rattle.seg_store.proofs.index.add_root.Goals as goal

pub insert-requires : goal.insert-requires
insert-requires c =
    omega (arith, place_within c.args.root.now c.deref.result.now, c.place_among-place.ensures, c.deref.ensures.len)

pub returns-clause-items : goal.returns-clause-items
returns-clause-items c =
    c.in-Ok.ensures.items
    ∙ (ap (λ p. insert c.args.index.now.items p (c.args.root.now, c.args.slot)) (c.place_among-place.ensures ∙ ap (λ es. place_in c.args.root.now es) c.deref.ensures.value)
    ∙ insert_at c.args.root.now c.args.slot c.args.index.now.items c.requires.none)
