use Rattle.std.proofs.Common.{length, arith, ◌∙◌, ap, ℕ}
use Rattle.tm_disk.proofs.Padding.{sector_of-whole}
use Rattle.tm_disk.proofs.record.kept_len.Goals as goal

pub loop-step-init : goal.loop-step-init
loop-step-init c =
    let size = ap (length {A = ℕ}) c.bytes-bytes.ensures.value ∙ c.bytes-bytes.ensures.size in
    record {
      within = omega (arith, size);
      zeros = sector_of-whole c.bytes-bytes.result.now size;
    }
