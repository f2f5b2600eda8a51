use Rattle.std.proofs.Common.{◌++◌, ◌∷◌, [], ◌∙◌, ap, sym}
use Rattle.sysdef_rules.proofs.Cuts.{more_at}
use Rattle.sysdef_rules.proofs.named.NamedMacros.of.Goals as goal

pub with-requires : goal.with-requires
with-requires c =
    let line = c.index-lines-index.result in
    more_at c.args.lines.now c.loop-index.index line c.loop-index-test.true c.index-lines-index.is ∙ ap (λ lines. lines ++ line ∷ []) (sym c.loop-index.invariant)
