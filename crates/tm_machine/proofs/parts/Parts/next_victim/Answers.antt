use Rattle.std.proofs.Common.{◌≡◌, ◌≤◌, ◌∙◌, length, sym, ap, subst}
use Rattle.model_data.specs.Cycle.{IsLeastCycle, IsTableRegion}
use Rattle.tm_machine.proofs.Giving.{few_table, some_ring, table_region, victim_busy, weighed}
use Rattle.tm_machine.proofs.parts.Parts.next_victim.Goals as goal

pub least_cycle-requires-clause-few : goal.least_cycle-requires-clause-few
least_cycle-requires-clause-few c =
    let table : c.table.result.now ≡ c.self.inside.tables.databases.table = c.table.ensures ∙ ap (λ d. d.table) c.databases.ensures in
    subst (λ t. t.regions ≤ 8) (sym table) (few_table c.self.inside.system c.self.inside.tables c.self.inside.codes c.self.inside.regions.items c.self.invariant)

pub least_cycle-requires-clause-region : goal.least_cycle-requires-clause-region
least_cycle-requires-clause-region c =
    let region = (rw (← c.self.view_is) at c.requires.region) in
    let table : c.table.result.now ≡ c.self.inside.tables.databases.table = c.table.ensures ∙ ap (λ d. d.table) c.databases.ensures in
    subst (λ t. IsTableRegion t c.args.region) (sym table) (table_region c.self.inside.system c.self.inside.tables c.self.inside.codes c.self.inside.regions.items c.self.invariant c.args.region region)

pub victim-region-requires-clause-some : goal.victim-region-requires-clause-some
victim-region-requires-clause-some c =
    let region = (rw (← c.self.view_is) at c.requires.region) in
    let size : length c.args.changes.now ≡ length c.self.inside.system.regions = (rw (← c.self.view_is) at c.requires.changes) in
    let table : c.table.result.now ≡ c.self.inside.tables.databases.table = c.table.ensures ∙ ap (λ d. d.table) c.databases.ensures in
    let here = table_region c.self.inside.system c.self.inside.tables c.self.inside.codes c.self.inside.regions.items c.self.invariant c.args.region region in
    let least : IsLeastCycle c.self.inside.tables.databases.table c.args.region c.in-Some.cycle = subst (λ t. IsLeastCycle t c.args.region c.in-Some.cycle) table c.in-Some.ensures.some in
    some_ring c.self.inside.system c.self.inside.tables c.self.inside.codes c.self.inside.regions.items c.self.invariant c.args.region c.in-Some.cycle least.stands

pub victim-region-requires-clause-weighed : goal.victim-region-requires-clause-weighed
victim-region-requires-clause-weighed c =
    let region = (rw (← c.self.view_is) at c.requires.region) in
    let size : length c.args.changes.now ≡ length c.self.inside.system.regions = (rw (← c.self.view_is) at c.requires.changes) in
    let table : c.table.result.now ≡ c.self.inside.tables.databases.table = c.table.ensures ∙ ap (λ d. d.table) c.databases.ensures in
    let here = table_region c.self.inside.system c.self.inside.tables c.self.inside.codes c.self.inside.regions.items c.self.invariant c.args.region region in
    let least : IsLeastCycle c.self.inside.tables.databases.table c.args.region c.in-Some.cycle = subst (λ t. IsLeastCycle t c.args.region c.in-Some.cycle) table c.in-Some.ensures.some in
    weighed c.self.inside.system c.self.inside.tables c.self.inside.codes c.self.inside.regions.items c.self.invariant c.args.changes.now c.args.region c.in-Some.cycle size here least.stands

pub returns : goal.returns
returns c =
    let region = (rw (← c.self.view_is) at c.requires.region) in
    let size : length c.args.changes.now ≡ length c.self.inside.system.regions = (rw (← c.self.view_is) at c.requires.changes) in
    let table : c.table.result.now ≡ c.self.inside.tables.databases.table = c.table.ensures ∙ ap (λ d. d.table) c.databases.ensures in
    let here = table_region c.self.inside.system c.self.inside.tables c.self.inside.codes c.self.inside.regions.items c.self.invariant c.args.region region in
    let least : IsLeastCycle c.self.inside.tables.databases.table c.args.region c.in-Some.cycle = subst (λ t. IsLeastCycle t c.args.region c.in-Some.cycle) table c.in-Some.ensures.some in
    let busy = victim_busy c.self.inside.system c.self.inside.tables c.self.inside.codes c.self.inside.regions.items c.self.invariant c.args.changes.now c.args.region c.victim-region.result c.in-Some.cycle here least.stands c.victim-region.ensures in
    rw (sym c.self.view_is) (record { ring = least; chosen = c.victim-region.ensures; there = busy.0; busy = busy.1 })
