use Rattle.std.proofs.Common.{◌∙◌, ap}
use Rattle.seg_store.specs.ChangedSlots.{all_stores}
use Rattle.seg_store.specs.WrittenSlots.{all_written}
use Rattle.seg_store.proofs.WritingBack.{written_seen}
use Rattle.seg_store.proofs.stores.Stores.settle.Goals as goal

pub returns : goal.returns
returns c = ap all_stores c.settle_all.ensures ∙ written_seen c.self.inside.items.items ∙ ap all_written c.self.view_is
