-- The device calls of forcing, one after another.
use Rattle.std.proofs.Common.{◌≡◌, ℕ, ◌+◌, ◌≤◌, refl, sym, ◌∙◌, subst, arith, IsTrue, ⊎_elim, false, List}
use Rattle.tm_disk.specs.Disk.{Image, DiskState, Elapses, Follows, Within, MayWrite, Keeps, IsDisk, Only}
use Rattle.tm_disk.proofs.Words.{within_on, within_more, follows_on, follows_no_more, within_where, follows_where, follows_shown, leaves_none}
use Rattle.log_sectors.specs.SealedSector.{sealed}
use Rattle.log_writer.specs.ForcedLog.{Lays, HasLaid, log_piece, AddsFront, AddsAll, IsWriterReady, IsAtEnd}
use Rattle.log_writer.specs.Writer.{Writer}
use Rattle.log_writer.proofs.Adding.{at_of, sequence_of, count_of, payloads_of, moved, adds-front, adds-all, at_end-moved}
use Rattle.std.proofs.lemmas.Bool.{cases_Bool}
use Rattle.log_writer.proofs.Laying.{lays_more, lays_step}

module _ (at sequence epoch : ℕ) (payloads : List (List ℕ)) (n m : ℕ) (sector : List ℕ) (old mid new : DiskState) (is : sector ≡ sealed epoch (sequence + n) (log_piece payloads n)) (le : n + 1 ≤ m) where
  step : (a b c : Image) → Lays at sequence epoch payloads n a b → MayWrite (at + n) sector b c → Lays at sequence epoch payloads m a c
  step a b c lays may =
      lays_more at sequence epoch payloads (n + 1) m a c le (lays_step at sequence epoch payloads n (at + n) a b c sector refl is lays may)

  pub lays_follows : Follows (Lays at sequence epoch payloads n) old mid → Follows (MayWrite (at + n) sector) mid new → Follows (Lays at sequence epoch payloads m) old new
  lays_follows before after = follows_on (Lays at sequence epoch payloads n) (MayWrite (at + n) sector) (Lays at sequence epoch payloads m) old mid new step before after

  pub lays_within : Within (Lays at sequence epoch payloads n) old mid → Follows (Lays at sequence epoch payloads n) old mid → Elapses mid new → Follows (MayWrite (at + n) sector) mid new → Within (Lays at sequence epoch payloads m) old new
  lays_within within before elapses after =
      within_on (Lays at sequence epoch payloads m) old mid new
      (within_more (Lays at sequence epoch payloads n) (Lays at sequence epoch payloads m) old mid (λ a b lays. lays_more at sequence epoch payloads n m a b (omega (arith, le)) lays) within)
      elapses
      (lays_follows before after)

-- what a force leaves

module _ (w : Writer) (old mid new : DiskState) (old_disk : IsDisk old) (new_disk : IsDisk new) (ready : IsWriterReady w old) (room : w.place + count_of w ≤ w.count) where
  pub front_within : Within (Lays (at_of w) (sequence_of w) w.epoch (payloads_of w) (count_of w)) old mid → Within (AddsFront w) old mid
  front_within within =
      within_where (Lays (at_of w) (sequence_of w) w.epoch (payloads_of w) (count_of w)) (AddsFront w) old mid
      (λ before image left lays. adds-front w before image (ready before left) room lays) within

  front_follows : Follows (Lays (at_of w) (sequence_of w) w.epoch (payloads_of w) (count_of w)) old mid → Follows (AddsFront w) old mid
  front_follows follows =
      follows_where (Lays (at_of w) (sequence_of w) w.epoch (payloads_of w) (count_of w)) (AddsFront w) old mid
      (λ before image left lays. adds-front w before image (ready before left) room lays) follows

  -- the sync leaves nothing new
  pub front_synced : Within (Lays (at_of w) (sequence_of w) w.epoch (payloads_of w) (count_of w)) old mid → Follows (Lays (at_of w) (sequence_of w) w.epoch (payloads_of w) (count_of w)) old mid → Keeps mid new → Within (AddsFront w) old new
  front_synced within follows keeps =
      within_on (AddsFront w) old mid new (front_within within) keeps.elapses
      (follows_no_more (AddsFront w) old mid new (front_follows follows) keeps.no_more)

  pub all_shown : (IsTrue old.tells → HasLaid (at_of w) (sequence_of w) w.epoch (payloads_of w) (count_of w) old.shown new.shown) → IsTrue old.tells → AddsAll w old.shown new.shown
  all_shown laid tells = adds-all w old.shown new.shown (ready old.shown (old_disk.shown_left tells)) room (laid tells)

  pub all_follows : new.tells ≡ old.tells → Only new.shown new → (IsTrue old.tells → HasLaid (at_of w) (sequence_of w) w.epoch (payloads_of w) (count_of w) old.shown new.shown) → Follows (AddsAll w) old new
  all_follows same only laid = follows_shown (AddsAll w) old new old_disk new_disk same only (all_shown laid)

  pub all_ready : new.tells ≡ old.tells → Only new.shown new → (IsTrue old.tells → HasLaid (at_of w) (sequence_of w) w.epoch (payloads_of w) (count_of w) old.shown new.shown) → IsWriterReady (moved w) new
  all_ready same only laid image left =
      ⊎_elim
      (λ (tells : IsTrue old.tells).
      subst (IsAtEnd (moved w)) (sym (only image left)) (at_end-moved w old.shown new.shown (ready old.shown (old_disk.shown_left tells)) room (laid tells)))
      (λ (silent : old.tells ≡ false). absurd (leaves_none new new_disk (same ∙ silent) image left))
      (cases_Bool old.tells)
