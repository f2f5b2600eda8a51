-- The device calls of a checkpoint, one after another.
use Rattle.std.proofs.Common.{◌≡◌, ⊎_elim, inl, inr, ◌∙◌, subst, sym, arith, IsTrue}
use Rattle.tm_disk.specs.Disk.{Image, DiskState, IsDisk, ComesFrom, Follows, Within, Keeps, Only}
use Rattle.tm_disk.proofs.Words.{within_on, follows_no_more, follows_shown}

-- a call, and then the sync
pub within_synced : (step : Image → Image → Type 0) (old mid new : DiskState) → Within step old mid → Follows step old mid → Keeps mid new → Within step old new
within_synced step old mid new within follows keeps =
    within_on step old mid new within keeps.elapses (follows_no_more step old mid new follows keeps.no_more)

pub follows_synced : (step : Image → Image → Type 0) (old mid new : DiskState) → IsDisk old → IsDisk new → mid.tells ≡ old.tells → Keeps mid new → Only new.shown new → (IsTrue old.tells → step old.shown mid.shown) → Follows step old new
follows_synced step old mid new old_disk new_disk same keeps only shown =
    follows_shown step old new old_disk new_disk (keeps.stays.tells ∙ same) only (λ tells. subst (step old.shown) (sym keeps.shown) (shown tells))

-- One run after another, the first of which is done.
pub within_then : (first done second both : Image → Image → Type 0) (old mid new : DiskState) → ((a c : Image) → first a c → both a c) → ((a b c : Image) → old.may_leave a → done a b → second b c → both a c) → Within first old mid → Follows done old mid → Within second mid new → Within both old new
within_then first done second both old mid new one joined before follows after = record {
  later = omega (arith, before.later, after.later);
  from = λ time image early left.
      ⊎_elim
      (λ past.
      ⊎_elim (λ older. inl older)
      (λ (w : ComesFrom first old image). inr (record { before = w.before; left = w.left; by = one w.before image w.by }))
      (before.from time image early past))
      (λ (w : ComesFrom second mid image).
      let v = follows.from w.before w.left in inr (record { before = v.before; left = v.left; by = joined v.before w.before image v.left v.by w.by }))
      (after.from time image (omega (arith, early, before.later)) left);
  keeps = λ time image early left. after.keeps time image (omega (arith, early, before.later)) (before.keeps time image early left);
}
