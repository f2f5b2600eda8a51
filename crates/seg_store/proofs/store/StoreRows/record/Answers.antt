use Rattle.std.proofs.Common.{refl}
use Rattle.seg_store.specs.Slots.{rows_of_slots}
use Rattle.seg_store.proofs.ReadStore.{found_read, found_tells}
use Rattle.seg_store.proofs.store.StoreRows.record.Goals as goal

pub returns : goal.returns
returns c = (
  (
    refl,
    λ left. tt,
    record {
      on = refl;
      own = found_tells c.args.self.now.dbd (rows_of_slots c.args.self.now.slots) c.find.ensures.valid c.args.root.now c.find.result c.find.ensures.found c.find.ensures.none;
      others = λ other apart. refl;
      cause = tt;
    },
  ),
  record {
    found = found_read c.args.self.now.dbd (rows_of_slots c.args.self.now.slots) c.find.ensures.valid c.args.root.now c.find.result c.find.ensures.found c.find.ensures.none;
    valid = c.find.ensures.valid;
    left = tt;
  },
)
