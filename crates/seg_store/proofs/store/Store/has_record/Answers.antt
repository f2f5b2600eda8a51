use Rattle.std.proofs.Common.{ap, ◌∙◌}
use Rattle.std.specs.Option.{is_some}
use Rattle.std.specs.BTreeMap.{is_at}
use Rattle.std.specs.Map.{lookup}
use Rattle.model_data.specs.Path.{key_cmp}
use Rattle.seg_store.specs.Slots.{slot_of_root}
use Rattle.seg_store.specs.ChangedSlots.{Kept}
use Rattle.seg_store.proofs.store.Store.has_record.Goals as goal

pub returns : goal.returns
returns c =
    c.is_some.ensures
    ∙ (ap is_some (c.slot_of.ensures ∙ (ap (lookup (is_at (key_cmp c.args.root.now))) c.deref.ensures.value ∙ c.self.invariant.indexed.found c.args.root.now))
    ∙ ap (λ (s : Kept). is_some (slot_of_root c.args.root.now s.slots)) c.self.view_is)
