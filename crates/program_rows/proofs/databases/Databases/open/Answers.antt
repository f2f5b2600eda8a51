use Rattle.std.proofs.Common.{◌≡◌, ◌∙◌, [], ap, sym, length, map, replicate}
use Rattle.program_rows.specs.DatabasesState.{DatabasesState, rows_of_stores, clean_region}
use Rattle.program_rows.specs.declared.opened.Opened.{Opened}
use Rattle.program_rows.proofs.Ending.{opens, opens_slots, opens_touched, opens_marks, opens_committed, opens_regions, committed_are_rows}
use Rattle.program_rows.proofs.Clearing.{units_count, regions_count}
use Rattle.program_rows.proofs.databases.Databases.open.Goals as goal

pub invariant_of-self : goal.invariant_of-self
invariant_of-self c =
    let o : Opened = record { units = c.clear_units.new.units; stores = c.args.stores; table = c.self.inside.opened.table } in
    let dbds = map (λ s. s.dbd) c.args.stores.stores in
    let n = length c.self.inside.opened.units.items in
    let count = sym (units_count c.self.inside.opened) ∙ c.self.invariant.units.count in
    record {
      units = opens dbds n o c.clear_units.ensures c.slots_valid.ensures c.self.invariant.units.compatible count c.self.invariant.units.numbered;
      touched = opens_touched dbds n o c.clear_units.ensures c.slots_valid.ensures c.self.invariant.units.compatible count c.self.invariant.units.numbered;
      marks = opens_marks dbds n o c.clear_units.ensures c.slots_valid.ensures c.self.invariant.units.compatible count c.self.invariant.units.numbered c.requires;
    }

pub returns-clause-slots : goal.returns-clause-slots
returns-clause-slots c =
    let o : Opened = record { units = c.clear_units.new.units; stores = c.args.stores; table = c.self.inside.opened.table } in
    let dbds = map (λ s. s.dbd) c.args.stores.stores in
    let n = length c.self.inside.opened.units.items in
    let count = sym (units_count c.self.inside.opened) ∙ c.self.invariant.units.count in
    let committed = opens_committed dbds n o c.clear_units.ensures c.slots_valid.ensures c.self.invariant.units.compatible count c.self.invariant.units.numbered in
    let touched = opens_slots dbds n o c.clear_units.ensures c.slots_valid.ensures c.self.invariant.units.compatible count c.self.invariant.units.numbered in
    let same : n ≡ length c.args.self.now.regions = sym (regions_count c.self.inside.opened) ∙ ap (λ (d : DatabasesState). length d.regions) c.self.view_is in
    (λ i. record { stores = c.args.stores.stores; changed = c.args.stores.changed; committed = committed i; touched = (touched ∙ ap (λ m. replicate m []) same) i })

pub returns-clause-regions : goal.returns-clause-regions
returns-clause-regions c =
    let o : Opened = record { units = c.clear_units.new.units; stores = c.args.stores; table = c.self.inside.opened.table } in
    let dbds = map (λ s. s.dbd) c.args.stores.stores in
    let n = length c.self.inside.opened.units.items in
    let count = sym (units_count c.self.inside.opened) ∙ c.self.invariant.units.count in
    let same : n ≡ length c.args.self.now.regions = sym (regions_count c.self.inside.opened) ∙ ap (λ (d : DatabasesState). length d.regions) c.self.view_is in
    opens_regions dbds n o c.clear_units.ensures c.slots_valid.ensures c.self.invariant.units.compatible count c.self.invariant.units.numbered
    ∙ ap (λ m. replicate m (clean_region (rows_of_stores c.args.stores.stores))) same

pub returns-clause-rows : goal.returns-clause-rows
returns-clause-rows c =
    let o : Opened = record { units = c.clear_units.new.units; stores = c.args.stores; table = c.self.inside.opened.table } in
    committed_are_rows o (invariant_of-self c).units
