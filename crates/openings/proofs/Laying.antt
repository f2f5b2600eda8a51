-- Sectors are filled one by one.
use Rattle.std.proofs.Common.{◌≡◌, ℕ, ◌+◌, ◌-◌, ◌<◌, ◌≤◌, List, [], ◌++◌, length, take, drop, refl, sym, ◌∙◌, ap, subst, ⊎_elim, arith}
use Rattle.std.proofs.lemmas.Bool.{cases_lt}
use Rattle.std.proofs.lemmas.List.{get_or-set_same, get_or-set_other}
use Rattle.tm_disk.specs.Disk.{Image, DiskState, sector_at, with_sector, Follows, Within, ChangesOnly}
use Rattle.tm_disk.specs.Sector.{zeros, blank}
use Rattle.restart_data.proofs.Laying.{changes_none, changes_write}
use Rattle.openings.specs.ColdWrites.{Fills, KeepsRestart}
use Rattle.tm_disk.proofs.Words.{follows_on, within_within, follows_same}
use Rattle.tm_disk.proofs.Zeros.{blank_is, drop-zeros}

pub fills_none : (each : ℕ → List ℕ) (at : ℕ) (image : Image) → Fills each at 0 image image
fills_none each at image = record { changes = changes_none at 0 image; filled = λ x lt. absurd (omega (arith, lt)) }

pub fills_step : (each : ℕ → List ℕ) (at n p : ℕ) (before mid after : Image) (sector : List ℕ) → p ≡ at + n → p < length mid → sector ≡ each n → Fills each at n before mid → after ≡ with_sector mid p sector → Fills each at (n + 1) before after
fills_step each at n p before mid after sector is within right fills new =
    subst (λ (i : Image). Fills each at (n + 1) before i) (sym new) (record {
      changes = changes_write at (n + 1) p before mid sector (omega (arith, is)) (omega (arith, is)) (record {
        size = fills.changes.size;
        below = fills.changes.below;
        above = λ k far. fills.changes.above k (omega (arith, far));
      });
      filled = λ x lt.
          ⊎_elim
          (λ (near : x < n). get_or-set_other mid p (at + x) sector [] (λ e. omega (arith, e, is, near)) ∙ fills.filled x near)
          (λ (far : n ≤ x).
          let here : x ≡ n = omega (arith, lt, far) in
          ap (λ k. sector_at (with_sector mid p sector) k) (omega (arith, here, is)) ∙ get_or-set_same mid p sector [] within ∙ right ∙ ap each (sym here))
          (cases_lt x n);
    })

-- bytes at the front of a blank sector
pub put_front : (bytes sector : List ℕ) → sector ≡ take 0 blank ++ bytes ++ drop (0 + length bytes) blank → sector ≡ bytes ++ zeros (4096 - length bytes)
put_front bytes sector is =
    is ∙ ap (λ (l : List ℕ). bytes ++ l) (ap (λ (k : ℕ). drop k blank) (omega arith) ∙ ap (drop (length bytes)) blank_is ∙ drop-zeros (length bytes) 4096)

-- ---- all but the restart sector

keeps_changes : (at count : ℕ) (before after : Image) → 1 ≤ at → ChangesOnly at count before after → KeepsRestart before after
keeps_changes at count before after behind changes = record { size = changes.size; restart = changes.below 0 (omega (arith, behind)) }

keeps_both : (a b c : Image) → KeepsRestart a b → KeepsRestart b c → KeepsRestart a c
keeps_both a b c one two = record { size = two.size ∙ one.size; restart = two.restart ∙ one.restart }

keeps_none : (image : Image) → KeepsRestart image image
keeps_none image = record { size = refl; restart = refl }

module _ (old mid new : DiskState) where
  pub restart_follows : (at count : ℕ) → 1 ≤ at → Follows KeepsRestart old mid → Follows (ChangesOnly at count) mid new → Follows KeepsRestart old new
  restart_follows at count behind before after =
      follows_on KeepsRestart (ChangesOnly at count) KeepsRestart old mid new (λ a b c one two. keeps_both a b c one (keeps_changes at count b c behind two)) before after

  pub restart_within : (at count : ℕ) → 1 ≤ at → Within KeepsRestart old mid → Follows KeepsRestart old mid → Within (ChangesOnly at count) mid new → Within KeepsRestart old new
  restart_within at count behind within before after =
      within_within KeepsRestart (ChangesOnly at count) KeepsRestart old mid new (λ a c one. one) (λ a b c one two. keeps_both a b c one (keeps_changes at count b c behind two)) within before after

pub restart_follows_none : (old : DiskState) → Follows KeepsRestart old old
restart_follows_none old = follows_same KeepsRestart old keeps_none
