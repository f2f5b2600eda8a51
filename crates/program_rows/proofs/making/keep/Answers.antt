use Rattle.std.proofs.Common.{◌-◌}
use Rattle.std.specs.List.{slice_get}
use Rattle.program_rows.proofs.Makings.{came_back}
use Rattle.program_rows.proofs.making.keep.Goals as goal

pub keep-requires : goal.keep-requires
keep-requires c =
    came_back (slice_get c.args.opened.now.stores.stores (c.args.asked.now.number - 1)) c.put_record-before.ensures.put.s c.args.edit.root c.args.prepared.image c.put_record-before.result
    c.put_record-before.ensures.put.at c.put_record-before.ensures.before c.requires.before
