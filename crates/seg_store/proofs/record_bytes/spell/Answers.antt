use Rattle.std.proofs.Common.{ℕ, ◌∷◌, [], length, ap, arith}
use Rattle.std.proofs.lemmas.List.{length-append}
use Rattle.seg_store.proofs.Sealing.{row_fits}
use Rattle.seg_store.proofs.record_bytes.spell.Goals as goal

pub push-requires : goal.push-requires
push-requires c =
    omega (
      arith,
      ap (length {A = ℕ}) c.loop-row.invariant,
      row_fits c.args.rows.now c.loop-row.row-index c.segment.result c.row-item.result c.loop-row-test.true c.row-item.is c.segment.ensures c.requires,
    )

pub push-requires-in-loop-row : goal.push-requires-in-loop-row
push-requires-in-loop-row c =
    omega (
      arith,
      ap (length {A = ℕ}) c.as_slice.ensures,
      ap (length {A = ℕ}) c.push.ensures,
      length-append c.loop-row.spelled (c.segment.result ∷ []),
      ap (length {A = ℕ}) c.loop-row.invariant,
      row_fits c.args.rows.now c.loop-row.row-index c.segment.result c.row-item.result c.loop-row-test.true c.row-item.is c.segment.ensures c.requires,
    )
