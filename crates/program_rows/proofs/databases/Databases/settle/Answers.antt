use Rattle.std.proofs.Common.{◌∙◌, ap, sym, subst}
use Rattle.seg_store.specs.ChangedSlots.{AllStores}
use Rattle.program_rows.specs.DatabasesState.{with_all_settled}
use Rattle.program_rows.specs.PlannedChanges.{databases_opened, IsUnitWhole}
use Rattle.program_rows.proofs.Settling.{whole_settled}
use Rattle.program_rows.proofs.databases.Databases.settle.Goals as goal

pub invariant_of-self : goal.invariant_of-self
invariant_of-self c =
    subst (λ (s : AllStores). IsUnitWhole (record { units = c.self.inside.opened.units; stores = s; table = c.self.inside.opened.table })) (sym c.settle.ensures)
    (whole_settled c.self.inside.opened c.self.invariant)

pub returns : goal.returns
returns c =
    ap (λ (s : AllStores). databases_opened (record { units = c.self.inside.opened.units; stores = s; table = c.self.inside.opened.table })) c.settle.ensures ∙ ap with_all_settled c.self.view_is
