-- Until the restart sector is written, an image recovers as the one before.
use Rattle.std.proofs.Common.{◌≡◌, ℕ, ◌+◌, ◌-◌, ◌<◌, List, [], ◌∷◌, length, refl, sym, ◌∙◌, ap, subst, inl, inr, ⊎_elim, arith, Some, None, Ok, IsSome, zero, suc}
use Rattle.std.specs.Prelude.{Option, slice_get}
use Rattle.std.proofs.lemmas.Option.{slice_get_within}
use Rattle.tm_disk.specs.Disk.{Image, sector_at}
use Rattle.model_system.specs.System.{System}
use Rattle.log_records.specs.declared.record.Record.{Record}
use Rattle.restart_data.specs.declared.restart.RestartSector.{RestartSector}
use Rattle.model_image.specs.AlikeImages.{RecoversAlike}
use Rattle.model_system.specs.Areas.{snapshot_area, snapshot_first, data_first, slot_size}
use Rattle.model_image.specs.Slots.{named_by}
use Rattle.model_image.specs.RecoveredState.{log_in}
use Rattle.model_image.proofs.Alike.{ImagesAlike, recovers_alike}
use Rattle.model_image.proofs.Unread.{InFreeSnapshot, OfNamedSlot, unread_alike}
use Rattle.image_loading.specs.LoadedStore.{given_to}
use Rattle.checkpointing.specs.Checkpoint.{InArea}
use Rattle.tm_restart.specs.GivenSlots.{GivenSlots, IsGiven}
use Rattle.tm_restart.specs.LifeWrites.{ChangesUnreadSectors}
use Rattle.tm_restart.specs.UnpreparedImage.{IsUnprepared}
use Rattle.tm_restart.proofs.GivenSectors.{at_slot}

-- an element at a place within a list
pub record There {X : Type 0} (xs : List X) (place : ℕ) : Type 0 where
  pub element : X
  pub found : slice_get xs place ≡ Some element

pub there : {X : Type 0} (xs : List X) (place : ℕ) → place < length xs → There xs place
there [] place lt = absurd (omega (arith, lt))
there (x ∷ xs) zero lt = record { element = x; found = refl }
there (x ∷ xs) (suc place) lt = let w = there xs place (omega (arith, lt)) in record { element = w.element; found = w.found }

has_bytes : (o : Option (List ℕ)) (bytes : List ℕ) → o ≡ Some bytes → IsSome o
has_bytes None bytes e = cc
has_bytes (Some x) bytes e = refl

module _ (system : System) (r : RestartSector) (snapshot : List Record) (given : GivenSlots) (now : RestartSector) (image : Image) (is : IsUnprepared system r snapshot given now image) where
  is_named : (place number : ℕ) (slots : List (ℕ × List ℕ)) (bytes : List ℕ) → slice_get given place ≡ Some slots → given_to number slots ≡ Some bytes → IsSome (named_by snapshot (log_in system image r).records (place + 1) number)
  is_named place number slots bytes found to = has_bytes (named_by snapshot (log_in system image r).records (place + 1) number) bytes (sym (is.named place number slots found) ∙ to)

  -- a sector that is given is that of a slot that a record names
  pub named_slot : (k : ℕ) (sector : List ℕ) → IsGiven system given k sector → OfNamedSlot system r image k
  named_slot k sector w =
      let dbd = there system.databases w.place (omega (arith, slice_get_within given w.place w.slots w.found, is.are.count)) in
      let are = is.are.each w.place dbd.element w.slots dbd.found w.found in
      let slot = at_slot (λ n. n < dbd.element.roots) (slot_size system w.place) (data_first system w.place) w.slots k sector are.ascending are.within w.is in
      record {
        place = w.place;
        number = slot.number;
        slot = record { dbd = dbd.element; found = dbd.found; below = slot.below };
        index = slot.index;
        within = slot.within;
        sector = omega (arith, slot.is);
        named = λ others read.
            let both : Ok snapshot ≡ Ok others = sym is.has_snapshot ∙ read in
            let same : snapshot ≡ others = cc in
            subst (λ (l : List Record). IsSome (named_by l (log_in system image r).records (w.place + 1) slot.number)) same
            (is_named w.place slot.number w.slots slot.bytes w.found slot.to);
      }

  free_area : (k : ℕ) → InArea (snapshot_first system now.snapshot) (snapshot_area system) k → InFreeSnapshot system r k
  free_area k in_ =
      let first : snapshot_first system now.snapshot ≡ snapshot_first system (1 - r.snapshot) = ap (snapshot_first system) is.other in
      record { low = omega (arith, in_.low, first); high = omega (arith, in_.high, first) }

  -- Only unread sectors are others, so that it recovers alike.
  pub unread_images : (after : Image) → ChangesUnreadSectors system given now image after → ImagesAlike system image after
  unread_images after changes =
      unread_alike system r image after is.restart (λ k.
      ⊎_elim (λ same. inl same)
      (λ other. ⊎_elim (λ (w : IsGiven system given k (sector_at after k)). inr (inr (inr (named_slot k (sector_at after k) w)))) (λ (in_ : InArea (snapshot_first system now.snapshot) (snapshot_area system) k). inr (inl (free_area k in_))) other)
      (changes.each k))

  pub unread_recovers : (after : Image) → ChangesUnreadSectors system given now image after → RecoversAlike system image after
  unread_recovers after changes = recovers_alike system image after (unread_images after changes)
