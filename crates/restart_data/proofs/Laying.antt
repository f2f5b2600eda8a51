-- The sectors of a snapshot are written one by one.
use Rattle.std.proofs.Common.{◌≡◌, ℕ, ◌+◌, ◌<◌, ◌≤◌, ◌^◌, List, [], length, refl, sym, ◌∙◌, ap, subst, ⊎_elim, arith}
use Rattle.std.proofs.lemmas.Bool.{cases_lt}
use Rattle.std.proofs.lemmas.List.{get_or-set_same, get_or-set_other, length-set}
use Rattle.tm_disk.specs.Disk.{Image, DiskState, sector_at, with_sector, MayWrite, Elapses, Follows, Within, ChangesOnly}
use Rattle.tm_disk.proofs.Words.{within_on, follows_on}
use Rattle.restart_data.specs.Snapshot.{snapshot_sector, snapshot_sectors_of, snapshot_piece}
use Rattle.restart_data.specs.WrittenSectors.{Saves}
use Rattle.restart_data.proofs.SnapshotBack.{needs_sectors, parts_back}

pub changes_none : (at count : ℕ) (image : Image) → ChangesOnly at count image image
changes_none at count image = record { size = refl; below = λ k lt. refl; above = λ k le. refl }

-- a write within the area
pub changes_write : (at count p : ℕ) (before mid : Image) (sector : List ℕ) → at ≤ p → p < at + count → ChangesOnly at count before mid → ChangesOnly at count before (with_sector mid p sector)
changes_write at count p before mid sector low high changes = record {
  size = length-set mid p sector ∙ changes.size;
  below = λ k lt. get_or-set_other mid p k sector [] (λ e. omega (arith, e, low, lt)) ∙ changes.below k lt;
  above = λ k far. get_or-set_other mid p k sector [] (λ e. omega (arith, e, high, far)) ∙ changes.above k far;
}

changes_may : (at count p : ℕ) (before mid after : Image) (sector : List ℕ) → at ≤ p → p < at + count → ChangesOnly at count before mid → MayWrite p sector mid after → ChangesOnly at count before after
changes_may at count p before mid after sector low high changes may =
    ⊎_elim
    (λ same. subst (λ (i : Image). ChangesOnly at count before i) (sym same) changes)
    (λ new. subst (λ (i : Image). ChangesOnly at count before i) (sym new) (changes_write at count p before mid sector low high changes))
    may

module _ (at count p : ℕ) (sector : List ℕ) (old mid new : DiskState) (low : at ≤ p) (high : p < at + count) where
  pub changes_follows : Follows (ChangesOnly at count) old mid → Follows (MayWrite p sector) mid new → Follows (ChangesOnly at count) old new
  changes_follows before after =
      follows_on (ChangesOnly at count) (MayWrite p sector) (ChangesOnly at count) old mid new (λ a b c changes may. changes_may at count p a b c sector low high changes may) before after

  pub changes_within : Within (ChangesOnly at count) old mid → Follows (ChangesOnly at count) old mid → Elapses mid new → Follows (MayWrite p sector) mid new → Within (ChangesOnly at count) old new
  changes_within within before elapses after = within_on (ChangesOnly at count) old mid new within elapses (changes_follows before after)

-- The first sectors from a place on hold their pieces, and all other sectors stay.
pub record HoldsFront (at checkpoint : ℕ) (bytes : List ℕ) (n : ℕ) (before after : Image) : Type 0 where
  pub changes : ChangesOnly at n before after
  pub each : (x : ℕ) → x < n → sector_at after (at + x) ≡ snapshot_sector checkpoint x (snapshot_piece x bytes)

pub holds_none : (at checkpoint : ℕ) (bytes : List ℕ) (image : Image) → HoldsFront at checkpoint bytes 0 image image
holds_none at checkpoint bytes image = record { changes = changes_none at 0 image; each = λ x lt. absurd (omega (arith, lt)) }

pub holds_step : (at checkpoint : ℕ) (bytes : List ℕ) (n p : ℕ) (before mid after : Image) (sector : List ℕ) → p ≡ at + n → p < length mid → sector ≡ snapshot_sector checkpoint n (snapshot_piece n bytes) → HoldsFront at checkpoint bytes n before mid → after ≡ with_sector mid p sector → HoldsFront at checkpoint bytes (n + 1) before after
holds_step at checkpoint bytes n p before mid after sector is within sealed holds new =
    subst (λ (i : Image). HoldsFront at checkpoint bytes (n + 1) before i) (sym new) (record {
      changes = changes_write at (n + 1) p before mid sector (omega (arith, is)) (omega (arith, is)) (record {
        size = holds.changes.size;
        below = holds.changes.below;
        above = λ k far. holds.changes.above k (omega (arith, far));
      });
      each = λ x lt.
          ⊎_elim
          (λ (near : x < n). get_or-set_other mid p (at + x) sector [] (λ e. omega (arith, e, is, near)) ∙ holds.each x near)
          (λ (far : n ≤ x).
          let here : x ≡ n = omega (arith, lt, far) in
          ap (λ k. sector_at (with_sector mid p sector) k) (omega (arith, here, is)) ∙ get_or-set_same mid p sector [] within ∙ sealed ∙ ap (λ k. snapshot_sector checkpoint k (snapshot_piece k bytes)) (sym here))
          (cases_lt x n);
    })

-- with all of them the snapshot is read
pub saves : (at checkpoint : ℕ) (bytes : List ℕ) (before after : Image) → checkpoint < 2 ^ 64 → snapshot_sectors_of (length bytes) ≤ 2 ^ 64 → HoldsFront at checkpoint bytes (snapshot_sectors_of (length bytes)) before after → Saves at checkpoint bytes before after
saves at checkpoint bytes before after small few holds = record {
  changes = holds.changes;
  read = parts_back (snapshot_sectors_of (length bytes)) after at checkpoint 0 bytes small (omega (arith, few)) (needs_sectors bytes) (λ x lt. holds.each x lt ∙ ap (λ k. snapshot_sector checkpoint k (snapshot_piece x bytes)) (omega arith));
}
