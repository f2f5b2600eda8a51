use Rattle.std.proofs.Common.{sym, ap, ◌∙◌}
use Rattle.model_data.specs.Rows.{with_record}
use Rattle.seg_store.specs.Slots.{rows_of_slots}
use Rattle.seg_store.proofs.SlotRows.{root_is}
use Rattle.seg_store.proofs.store.Store.put_back.Goals as goal

pub returns-clause-rows : goal.returns-clause-rows
returns-clause-rows c =
    c.fill.ensures.rows
    ∙ ap (λ root. with_record root c.args.image (rows_of_slots c.args.self.now.slots)) (sym (root_is c.args.image c.in-Some.root (sym c.in-Some.ensures)))
