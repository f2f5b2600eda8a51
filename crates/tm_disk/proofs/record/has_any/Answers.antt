use Rattle.std.proofs.Common.{arith, refl}
use Rattle.std.specs.Prelude.{slice_index_or}
use Rattle.std.proofs.lemmas.Nat.{le_or_l, le_or_r}
use Rattle.tm_disk.proofs.Padding.{zeros-more}
use Rattle.tm_disk.proofs.record.has_any.Goals as goal

pub loop-byte-preserved : goal.loop-byte-preserved
loop-byte-preserved c =
    λ none.
    let any = c.loop-byte.any in
    let byte = slice_index_or c.args.bytes.now c.loop-byte.byte-index 0 in
    zeros-more c.args.bytes.now c.loop-byte.byte-index byte c.loop-byte-test.true (c.loop-byte.invariant (omega (arith, le_or_l any byte, none))) refl (omega (arith, le_or_r any byte, none))
