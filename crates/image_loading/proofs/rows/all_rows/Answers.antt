use Rattle.std.proofs.Common.{ap, arith, ◌∙◌, ◌-◌}
use Rattle.tm_types.specs.declared.dbd.Dbd.{Dbd}
use Rattle.image_loading.proofs.Copying.{rows_begin, rows_more, rows_whole}
use Rattle.image_loading.proofs.rows.all_rows.Goals as goal

pub loop-number-init : goal.loop-number-init
loop-number-init c =
    let dbd = c.args.dbd.now in
    let store = c.args.store.now in
    record {
      rows = rows_begin store.slots dbd.roots c.in_ok-rows.rows.rows (omega (arith, c.requires.valid.count, ap (λ (d : Dbd). d.roots) c.requires.database)) c.in_ok-rows.ensures.rows;
      database = c.in_ok-rows.ensures.database;
      within = omega arith;
    }

pub loop-number-preserved : goal.loop-number-preserved
loop-number-preserved c =
    let store = c.args.store.now in
    let inv = c.loop-number.invariant in
    record {
      rows = rows_more store.slots (c.loop-number.number - 1) c.loop-number.number c.loop-number.rows.rows _ (omega (arith, c.loop-number-test.true)) inv.rows c.in_ok-add_slot.ensures.rows;
      database = c.add_slot.ensures.database ∙ inv.database;
      within = omega (arith, inv.within);
    }

pub returns-clause-rows : goal.returns-clause-rows
returns-clause-rows c = rows_whole c.args.store.now.slots c.loop-number.number c.loop-number.rows.rows (omega (arith, c.loop-number-test.false)) c.loop-number.invariant.rows
