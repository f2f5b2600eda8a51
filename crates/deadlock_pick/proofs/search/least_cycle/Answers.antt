use Rattle.std.proofs.Common.{◌∷◌, [], ◌++◌, ◌∙◌, ap, arith}
use Rattle.deadlock_pick.proofs.Ways.{way_of_one, least_found, none_found}
use Rattle.deadlock_pick.proofs.search.least_cycle.Goals as goal

pub add-requires-clause-small : goal.add-requires-clause-small
add-requires-clause-small c = omega (arith, c.requires.region.1, c.requires.few)

pub search-requires-clause-way : goal.search-requires-clause-way
search-requires-clause-way c =
    way_of_one c.args.table.now c.args.region c.add.new.regions (c.add.ensures ∙ ap (λ w. w ++ c.args.region ∷ []) c.new-way.ensures) c.requires.region

pub returns-clause-some : goal.returns-clause-some
returns-clause-some c =
    least_found c.args.table.now c.args.region c.add.new.regions (c.add.ensures ∙ ap (λ w. w ++ c.args.region ∷ []) c.new-way.ensures) c.search.result c.search.ensures.some

pub returns-clause-none : goal.returns-clause-none
returns-clause-none c =
    none_found c.args.table.now c.args.region c.add.new.regions (c.add.ensures ∙ ap (λ w. w ++ c.args.region ∷ []) c.new-way.ensures) c.search.result c.search.ensures.none
