-- What the writes of a restart leave, for what was made of an image.
use Rattle.std.proofs.Common.{◌≡◌, ℕ, ◌≤◌, false, List, length, refl, sym, ◌∙◌, ap, subst, inl, inr, ⊎_elim, IsTrue, arith}
use Rattle.std.proofs.lemmas.Bool.{cases_Bool}
use Rattle.tm_disk.specs.Disk.{Image, DiskState, IsDisk, Follows, Within, Only}
use Rattle.tm_disk.proofs.Words.{within_where, leaves_none}
use Rattle.model_system.specs.System.{System}
use Rattle.model_machine.specs.Machine.{LastingState}
use Rattle.restart_data.specs.declared.restart.RestartSector.{RestartSector}
use Rattle.model_image.specs.Text.{text_in}
use Rattle.model_system.specs.Areas.{snapshot_area}
use Rattle.model_image.specs.HeldStores.{HoldsStores}
use Rattle.tm_restart.specs.GivenSlots.{GivenSlots}
use Rattle.tm_restart.specs.LifeWrites.{IsRewritten, Rewrites}
use Rattle.tm_restart.proofs.Behind.{rows_found}
use Rattle.tm_restart.proofs.Recovering.{IsNextLife}
use Rattle.tm_restart.proofs.Stored.{stores_held}
use Rattle.openings.specs.OpeningParts.{OpeningParts}
use Rattle.openings.specs.OpenedImage.{IsReopened}
use Rattle.checkpointing.specs.DefinitionText.{HasText, IsNumberedFrom, KeepsNumber}
use Rattle.checkpointing.specs.Counts.{RaisesCounts}
use Rattle.checkpointing.proofs.Counted.{alike_raises}
use Rattle.openings.proofs.Counted.{reopened_raises}
use Rattle.tm_restart.proofs.Unreading.{unread_images}
use Rattle.openings.specs.KeptImage.{KeepsImage}
use Rattle.openings.specs.Renewal.{IsRenewed}
use Rattle.tm_restart.specs.PreparedLife.{IsPrepared, IsMadeOf}
use Rattle.tm_restart.proofs.Reopened.{is_renewed, rewrites_recover, unread_number, unread_text}
use Rattle.tm_restart.proofs.Renewed.{same_restart}

module _ (system : System) (text : List ℕ) (given : GivenSlots) (parts : OpeningParts) (state : LastingState) (bytes : List ℕ) (now : RestartSector) (prepared : IsPrepared system text given parts state bytes now) where
  has : (P : RestartSector → Type 0) → P parts.now → P now
  has P is = subst P prepared.has_sector is

  next_life : (a : Image) (made : IsMadeOf system text given parts state now a) → IsNextLife system made.restart now bytes
  next_life a made = record {
    is = prepared.valid;
    epoch = made.epoch;
    sectors = prepared.sectors;
    fits = has (λ (r : RestartSector). r.sectors ≤ snapshot_area system) prepared.begins.sectors;
  }

  renewed : (a e : Image) → IsMadeOf system text given parts state now a → IsRewritten system given bytes now a e → IsRenewed system text parts.now parts.next_unit state e
  renewed a e made done =
      subst (λ (r : RestartSector). IsRenewed system text r parts.next_unit state e) (sym prepared.has_sector)
      (is_renewed system made.restart made.snapshot given bytes now a e made.before done (next_life a made) parts.next_unit state prepared.whole.read prepared.whole.spelled made.recovers text made.same_text
      (has (λ (r : RestartSector). r.text ≡ length text) prepared.begins.text_size) made.has_text)

  -- At any moment the image is of the definition's text.
  texts : (a e : Image) → IsMadeOf system text given parts state now a → Rewrites system given bytes now a e → HasText system text e
  texts a e made (inl unread) = unread_text system made.restart made.snapshot given now a e made.before unread text made.has_text
  texts a e made (inr done) = λ restart found.
      let is : IsRenewed system text parts.now parts.next_unit state e = renewed a e made done in
      ap (λ (r : RestartSector). text_in e r.text) (sym (same_restart parts.now restart (sym is.restart ∙ found))) ∙ is.has_text

  -- So is the image that it is made of.
  text_before : (a : Image) → IsMadeOf system text given parts state now a → HasText system text a
  text_before a made = unread_text system made.restart made.snapshot given now a a made.before (record { size = refl; each = λ k. inl refl }) text made.has_text

  -- its checkpoint is the one before or the next
  numbers : (a e : Image) → IsMadeOf system text given parts state now a → Rewrites system given bytes now a e → KeepsNumber system a e
  numbers a e made (inl unread) = unread_number system made.restart made.snapshot given now a e made.before unread
  numbers a e made (inr done) = λ low is. number_by made.reopened low is
    where
      number_by : IsReopened system text a parts state → (low : ℕ) → IsNumberedFrom system low a → IsNumberedFrom system low e
      number_by re low is =
          let same : is.restart ≡ re.restart = same_restart is.restart re.restart (sym is.found ∙ re.found.has_restart) in
          record {
            restart = parts.now;
            found = (renewed a e made done).restart;
            least = omega (arith, is.least, ap (λ (r : RestartSector). r.checkpoint) same, re.next.checkpoint);
          }

  kept : (a e : Image) → IsMadeOf system text given parts state now a → Rewrites system given bytes now a e → KeepsImage system text a e
  kept a e made rewrites = record {
    alike = rewrites_recover system made.restart made.snapshot given bytes now (next_life a made) parts.next_unit state prepared.whole.read prepared.whole.spelled a e made.before made.recovers rewrites;
    texts = inr (text_before a made, texts a e made rewrites);
    number = numbers a e made rewrites;
  }

  -- It counts further by one at most.
  raises : (a e : Image) → IsMadeOf system text given parts state now a → Rewrites system given bytes now a e → RaisesCounts 1 system a e
  raises a e made (inl unread) = alike_raises 1 system a e (unread_images system made.restart made.snapshot given now a made.before e unread)
  raises a e made (inr done) = reopened_raises system text parts state a e made.reopened (renewed a e made done) prepared.begins.restart

  held : (a e : Image) → IsMadeOf system text given parts state now a → IsRewritten system given bytes now a e → HoldsStores system parts.stores.stores e
  held a e made done =
      stores_held system made.restart made.snapshot given bytes now a e made.before done parts.stores.stores made.loaded state.rows
      (rows_found system a made.restart made.snapshot state made.before.restart made.before.has_snapshot made.recovers)

  -- ---- of each image that may be left

  module _ (old new : DiskState) (is_disk : IsDisk old) (only : Only old.shown old) (made_of : IsTrue old.tells → IsMadeOf system text given parts state now old.shown) where
    each_made : (a : Image) → old.may_leave a → IsMadeOf system text given parts state now a
    each_made a left =
        ⊎_elim
        (λ (tells : IsTrue old.tells). subst (IsMadeOf system text given parts state now) (sym (only a left)) (made_of tells))
        (λ (silent : old.tells ≡ false). absurd (leaves_none old is_disk silent a left))
        (cases_Bool old.tells)

    pub laid_within : Within (Rewrites system given bytes now) old new → Within (KeepsImage system text) old new
    laid_within within = within_where (Rewrites system given bytes now) (KeepsImage system text) old new (λ a e left rewrites. kept a e (each_made a left) rewrites) within

    pub laid_counts : Within (Rewrites system given bytes now) old new → Within (RaisesCounts 1 system) old new
    laid_counts within = within_where (Rewrites system given bytes now) (RaisesCounts 1 system) old new (λ a e left rewrites. raises a e (each_made a left) rewrites) within

    module _ (follows : Follows (IsRewritten system given bytes now) old new) where
      pub all_renewed : (image : Image) → new.may_leave image → IsRenewed system text parts.now parts.next_unit state image
      all_renewed image left = let from = follows.from image left in renewed from.before image (each_made from.before from.left) from.by

      pub all_held : (image : Image) → new.may_leave image → HoldsStores system parts.stores.stores image
      all_held image left = let from = follows.from image left in held from.before image (each_made from.before from.left) from.by
