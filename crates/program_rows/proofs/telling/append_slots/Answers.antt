use Rattle.std.proofs.Common.{map, length, refl, sym, subst, List, arith}
use Rattle.std.proofs.lemmas.Option.{slice_get_read}
use Rattle.log_records.specs.ToldRecords.{AddsRecords}
use Rattle.log_records.proofs.Kept.{both, failed, more, same}
use Rattle.log_records.proofs.Told.{adds_none}
use Rattle.unit_work.specs.declared.change.Change.{Change}
use Rattle.unit_work.proofs.Backing.{drop_past}
use Rattle.program_rows.specs.ToldChanges.{back_out_told}
use Rattle.program_rows.proofs.Appending.{slots_more}
use Rattle.program_rows.proofs.telling.append_slots.Goals as goal

pub loop-change-preserved : goal.loop-change-preserved
loop-change-preserved c = (
  slots_more c.args.unit c.args.stores.now.stores c.args.slots.now c.loop-change.change-index c.change-item.result c.args.out.now.items c.loop-change.out.items c.append_touched.new.out.items
      (slice_get_read c.args.slots.now (length c.args.slots.now) c.loop-change.change-index c.change-item.result refl (omega arith) c.change-item.is)
      c.in_ok-append_touched.ensures.ok c.in_ok-append_touched.ensures.valid c.loop-change.invariant.0,
  more _ c.args.out.now.items c.loop-change.out.items c.append_touched.new.out.items c.loop-change.invariant.1 c.in_ok-append_touched.ensures.ok,
)

pub returns-in_err-append_touched-clause-kept : goal.returns-in_err-append_touched-clause-kept
returns-in_err-append_touched-clause-kept c =
    failed c.from_residual.result
    (both c.args.out.now.items c.loop-change.out.items c.append_touched.new.out.items c.loop-change.invariant.1 (same c.loop-change.out.items c.append_touched.new.out.items c.in_err-append_touched.ensures.unwritten))

pub returns-clause-adds : goal.returns-clause-adds
returns-clause-adds c =
    c.loop-change.invariant.0 c.loop-change.out.items
    (subst (λ (ss : List Change). AddsRecords (map (back_out_told c.args.unit c.args.stores.now.stores) ss) c.loop-change.out.items c.loop-change.out.items)
    (sym (drop_past c.args.slots.now c.loop-change.change-index c.loop-change-test.false)) (adds_none c.loop-change.out.items))
