use Rattle.std.proofs.Common.{◌≢◌, [], ⊎_elim}
use Rattle.seg_store.proofs.store.Store.exchange.Goals as goal

pub replace-requires-clause-image : goal.replace-requires-clause-image
replace-requires-clause-image c =
    let some : c.args.image ≢ [] = λ e. let t = c.is_empty.ensures.1 e in let f = c.if-is_empty.false in absurd (cc) in
    ⊎_elim (λ e. absurd (some e)) (λ r. r) c.requires

pub add-requires-clause-image : goal.add-requires-clause-image
add-requires-clause-image c =
    let some : c.args.image ≢ [] = λ e. let t = c.is_empty.ensures.1 e in let f = c.if-is_empty.false in absurd (cc) in
    ⊎_elim (λ e. absurd (some e)) (λ r. r) c.requires
