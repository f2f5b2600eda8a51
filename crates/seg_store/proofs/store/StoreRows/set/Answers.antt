use Rattle.seg_store.proofs.SlotRows.{slots_are_rows}
use Rattle.seg_store.proofs.store.StoreRows.set.Goals as goal

pub returns-clause-valid : goal.returns-clause-valid
returns-clause-valid c = slots_are_rows c.exchange.new.self.dbd c.exchange.new.self.slots c.exchange.ensures.valid
