use Rattle.std.proofs.Common.{◌≡◌, length, sym, ap, ◌∙◌, subst}
use Rattle.pool_pass.specs.Passes.{PassState, kept}
use Rattle.pool_pass.proofs.pool.Pool.close.Goals as goal

pub close-requires-clause-all : goal.close-requires-clause-all
close-requires-clause-all g c =
    ap (λ m. length m.0.kept) c.pass.invariant.1 ∙ subst (λ (p : PassState g.row.T-Item.Denot). length (kept p) ≡ p.passes) (sym c.pass.view_is) c.requires
