use Rattle.std.proofs.Common.{◌∙◌, ap, sym, subst, length, arith}
use Rattle.program_rows.specs.DatabasesState.{DatabasesState, touched_by, IsRegionOf}
use Rattle.tm_machine.specs.Parts.{PartsState}
use Rattle.tm_machine.proofs.parts.Parts.unit.Goals as goal

pub unit-requires : goal.unit-requires
unit-requires c =
    subst (λ (d : DatabasesState). IsRegionOf d c.args.region) (sym c.databases.ensures)
    (record {
      least = c.requires.0;
      most = omega (arith, c.requires.1, c.self.invariant.databases.regions, ap (λ (p : PartsState). length p.system.regions) c.self.view_is);
    })

pub returns : goal.returns
returns c =
    c.unit.ensures ∙ ap (λ (d : DatabasesState). touched_by c.args.region d) (c.databases.ensures ∙ ap (λ (p : PartsState). p.databases) c.self.view_is)
