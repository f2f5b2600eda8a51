use Rattle.std.proofs.Common.{◌≡◌, ◌&&◌, take, map, sym, subst, ap, ◌∙◌}
use Rattle.std.specs.List.{list_all}
use Rattle.model_data.specs.Search.{meets_ssa}
use Rattle.row_search.specs.Arguments.{Arguments}
use Rattle.row_search.specs.AskedArguments.{looked_up, is_met}
use Rattle.row_search.proofs.LookedUp.{all_is}
use Rattle.row_search.proofs.asked.Asked.are_met.Goals as goal

pub returns : goal.returns
returns c =
    let types = c.self.inside.dbd.now.types in
    let ssas = c.self.inside.ssas.now in
    let path = c.args.path.now in
    let known = c.min-known.result in
    let first = take known c.self.inside.first in
    let each : first ≡ map (looked_up types) (take known ssas) =
    subst (λ n. take n c.self.inside.first ≡ map (looked_up types) (take n ssas)) (sym c.min-known.ensures) c.self.invariant.each in
    let both : c.first_and_rest.result ≡ (list_all (λ a. is_met a path) first && list_all (λ s. meets_ssa types s path) c.behind-rest.result.now) = c.first_and_rest.ensures in
    both
    ∙ (ap (λ rest. list_all (λ a. is_met a path) first && list_all (λ s. meets_ssa types s path) rest) c.behind-rest.ensures
    ∙ (all_is types ssas path known first each ∙ ap (λ (asked : Arguments). list_all (λ s. meets_ssa asked.dbd.types s path) asked.ssas) c.self.view_is))
