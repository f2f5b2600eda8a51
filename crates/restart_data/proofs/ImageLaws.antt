-- Which image has which restart sector and which snapshot: before, during and after.
use Rattle.std.proofs.Common.{◌≡◌, ◌⊎◌, ℕ, zero, suc, ◌+◌, ◌<◌, ◌≤◌, ◌^◌, Bool, List, [], length, refl, ◌∙◌, ap, inl, inr, ⊎_elim, arith}
use Rattle.std.proofs.lemmas.List.{get_or-set_same, get_or-set_other}
use Rattle.tm_disk.specs.Disk.{Image, sector_at, with_sector, MayWrite, ChangesOnly}
use Rattle.restart_data.specs.declared.restart.RestartSector.{RestartSector}
use Rattle.restart_data.specs.Restart.{restart_sector, IsRestart, restart_of, restart_in}
use Rattle.restart_data.specs.Snapshot.{part_of, part_in, bytes_and_then, parts_in, snapshot_in}
use Rattle.restart_data.specs.WrittenSectors.{Restarts}
use Rattle.restart_data.proofs.RestartBack.{restart_back_is_read}

-- the restart sector was set
pub restarts : (r : RestartSector) → IsRestart r → r.sectors < 2 ^ 32 → (before after : Image) → 0 < length before → after ≡ with_sector before 0 (restart_sector r) → Restarts r before after
restarts r is fits before after some set = record {
  set = set;
  read = λ most single le.
      ap (λ (i : Image). restart_of most single (sector_at i 0)) set
      ∙ ap (restart_of most single) (get_or-set_same before 0 (restart_sector r) [] some)
      ∙ restart_back_is_read r is fits most single le;
}

-- During the write it is the one before or the new one.
pub restart_either : (r : RestartSector) → IsRestart r → r.sectors < 2 ^ 32 → (before after : Image) → 0 < length before → MayWrite 0 (restart_sector r) before after → (after ≡ before) ⊎ Restarts r before after
restart_either r is fits before after some may = ⊎_elim (λ same. inl same) (λ new. inr (restarts r is fits before after some new)) may

-- All other sectors stay.
pub others_stay : (r : RestartSector) (before after : Image) → Restarts r before after → (k : ℕ) → 0 < k → sector_at after k ≡ sector_at before k
others_stay r before after restarts k behind =
    ap (λ (i : Image). sector_at i k) restarts.set ∙ get_or-set_other before 0 k (restart_sector r) [] (λ e. omega (arith, behind, e))

-- What is read of sectors that stay is the same.
pub parts_same : (count : ℕ) (before after : Image) (at checkpoint place : ℕ) → ((k : ℕ) → at ≤ k → k < at + count → sector_at after k ≡ sector_at before k) → parts_in count after at checkpoint place ≡ parts_in count before at checkpoint place
parts_same zero before after at checkpoint place same = refl
parts_same (suc n) before after at checkpoint place same =
    ap (λ (s : List ℕ). bytes_and_then (part_in at (part_of n checkpoint place s)) (parts_in n after (at + 1) checkpoint (place + 1))) (same at (omega arith) (omega arith))
    ∙ ap (λ (rest : _). bytes_and_then (part_in at (part_of n checkpoint place (sector_at before at))) rest)
    (parts_same n before after (at + 1) checkpoint (place + 1) (λ k low high. same k (omega (arith, low)) (omega (arith, high))))

-- A new restart sector leaves each snapshot as it was.
pub restart_keeps_snapshots : (r : RestartSector) (before after : Image) → Restarts r before after → (count first checkpoint : ℕ) → 0 < first → snapshot_in count after first checkpoint ≡ snapshot_in count before first checkpoint
restart_keeps_snapshots r before after restarts count first checkpoint behind =
    parts_same count before after first checkpoint 0 (λ k low high. others_stay r before after restarts k (omega (arith, behind, low)))

-- Writing into one area leaves the restart sector as it was, and each snapshot in another area.
pub area_keeps_restart : (at count : ℕ) (before after : Image) → 0 < at → ChangesOnly at count before after → (most : ℕ) (single : Bool) → restart_in most single after ≡ restart_in most single before
area_keeps_restart at count before after behind changes most single = ap (restart_of most single) (changes.below 0 behind)

pub area_keeps_snapshot : (at count : ℕ) (before after : Image) → ChangesOnly at count before after → (sectors first checkpoint : ℕ) → (first + sectors ≤ at) ⊎ (at + count ≤ first) → snapshot_in sectors after first checkpoint ≡ snapshot_in sectors before first checkpoint
area_keeps_snapshot at count before after changes sectors first checkpoint apart =
    parts_same sectors before after first checkpoint 0 (λ k low high.
    ⊎_elim
    (λ (below : first + sectors ≤ at). changes.below k (omega (arith, below, high)))
    (λ (above : at + count ≤ first). changes.above k (omega (arith, above, low)))
    apart)
