-- A writer at the start of an area of zeros.
use Rattle.std.proofs.Common.{◌≡◌, ℕ, ◌+◌, ◌<◌, ◌≤◌, List, [], replicate, ◌∙◌, ap, ⊎_elim, arith, None}
use Rattle.std.proofs.lemmas.Bool.{cases_lt}
use Rattle.std.proofs.lemmas.List.{length-replicate, get_or-replicate, get_or_past}
use Rattle.tm_disk.specs.Disk.{Image, DiskState, sector_at, Only}
use Rattle.tm_disk.specs.Sector.{blank}
use Rattle.log_sectors.specs.SealedSector.{opened_payload}
use Rattle.log_sectors.proofs.Sealing.{opened-blank, opened-nothing}
use Rattle.log_writer.specs.Writer.{Writer}
use Rattle.log_writer.specs.ForcedLog.{IsWriterReady}

opened-zeros : (epoch sequence n k : ℕ) → opened_payload epoch sequence (sector_at (replicate n blank) k) ≡ None
opened-zeros epoch sequence n k =
    ⊎_elim
    (λ (lt : k < n). ap (λ (s : List ℕ). opened_payload epoch sequence s) (get_or-replicate n k blank [] lt) ∙ opened-blank epoch sequence)
    (λ (le : n ≤ k). ap (λ (s : List ℕ). opened_payload epoch sequence s) (get_or_past (replicate n blank) k [] (omega (arith, le, length-replicate n blank))) ∙ opened-nothing epoch sequence)
    (cases_lt k n)

-- where the disk is all zeros and synced, a writer that wrote nothing is where the log ends
pub ready-zeros : (w : Writer) (disk : DiskState) (n : ℕ) → w.place ≡ 0 → disk.shown ≡ replicate n blank → Only disk.shown disk → IsWriterReady w disk
ready-zeros w disk n none zeros only image left = record {
  written = λ x lt. absurd (omega (arith, lt, none));
  free = λ x le lt. ap (λ (i : Image). opened_payload w.epoch (w.sequence + x) (sector_at i (w.first + x))) (only image left ∙ zeros) ∙ opened-zeros w.epoch (w.sequence + x) n (w.first + x);
}
