-- The slots of an image that was rewritten are those that were found.
use Rattle.std.proofs.Common.{◌≡◌, ℕ, suc, ◌+◌, ◌*◌, ◌<◌, ◌≤◌, not, List, [], ◌∷◌, length, refl, sym, ◌∙◌, ap, subst, ⊎_elim, arith, Some, None, Ok, IsSome, true}
use Rattle.std.specs.Prelude.{Option, slice_get}
use Rattle.std.specs.Option.{unwrap_or}
use Rattle.std.proofs.lemmas.Option.{slice_get_within}
use Rattle.tm_types.specs.declared.dbd.Dbd.{Dbd}
use Rattle.tm_disk.specs.Disk.{Image, sector_at}
use Rattle.model_data.specs.declared.row.Row.{Row}
use Rattle.model_system.specs.System.{System}
use Rattle.log_records.specs.declared.record.Record.{Record}
use Rattle.restart_data.specs.declared.restart.RestartSector.{RestartSector}
use Rattle.model_system.specs.Areas.{snapshot_area, snapshot_first, log_first, data_first, slot_first, slot_size}
use Rattle.model_image.specs.HeldStores.{HoldsBytes}
use Rattle.model_image.specs.Slots.{SlotOnImage, Source, source_of, sectors_from, slot_at, image_slot_in, named_by, all_slots, image_rows_from, rows_of_bytes, is_image}
use Rattle.model_image.specs.Slots.Source.{Named, Spelled}
use Rattle.model_image.specs.RecoveredState.{log_in}
use Rattle.model_image.proofs.Alike.{IsSlotOf}
use Rattle.model_image.proofs.Places.{snapshot_below, log_above, size_of, slot_above, one_slot, slot_same}
use Rattle.image_loading.specs.LoadedStore.{given_to}
use Rattle.image_loading.proofs.Held.{data_holds}
use Rattle.checkpointing.specs.Checkpoint.{InArea}
use Rattle.tm_restart.specs.GivenSlots.{GivenSlots, IsGiven}
use Rattle.tm_restart.specs.UnpreparedImage.{IsUnprepared}
use Rattle.tm_restart.specs.LifeWrites.{IsRewritten}
use Rattle.tm_restart.proofs.GivenSectors.{to_all}
use Rattle.tm_restart.proofs.Same.{SameSlot, AllSame, same_by, same_rows}
use Rattle.tm_restart.proofs.Unreading.{there, named_slot}

abbrev slot_with : Dbd → ℕ → Source → SlotOnImage
slot_with dbd place source = record { dbd = dbd; place = place; source = source }

itself : (s : SlotOnImage) → SameSlot s s
itself s = record { wrong = λ e. e; none = λ e. e; rows = refl }

-- bytes that are named stand in the sectors
held : (dbd : Dbd) (k : ℕ) (bytes : List ℕ) (sectors : List (List ℕ)) → HoldsBytes bytes sectors → is_image dbd bytes ≡ true → SameSlot (slot_with dbd k (Named bytes)) (slot_with dbd k (Spelled sectors))
held dbd k bytes sectors holds image = record {
  wrong = λ _. holds.right k;
  none = λ _. ap (λ (b : List ℕ). not (is_image dbd b)) holds.spelled ∙ ap not image;
  rows = ap (λ (b : List ℕ). unwrap_or (rows_of_bytes dbd b) []) holds.spelled;
}

no_name : (o : Option (List ℕ)) → o ≡ None → IsSome o → ⊥
no_name None e some = cc
no_name (Some x) e some = cc

-- the sectors of a slot, by its database
sectors_are : (system : System) (image : Image) (place number : ℕ) (dbd : Dbd) → slice_get system.databases place ≡ Some dbd → slot_at system image place number ≡ sectors_from image (data_first system place + number * dbd.sectors) dbd.sectors
sectors_are system image place number dbd found = ap (λ (n : ℕ). sectors_from image (data_first system place + number * n) n) (size_of system place dbd found)

module _ (system : System) (r : RestartSector) (snapshot : List Record) (given : GivenSlots) (bytes : List ℕ) (now : RestartSector) (a e : Image) (is : IsUnprepared system r snapshot given now a) (done : IsRewritten system given bytes now a e) where
  -- a sector of the logs stays
  pub logs_stay : (k : ℕ) → log_first system 0 ≤ k → k < log_first system 2 → sector_at e k ≡ sector_at a k
  logs_stay k low high =
      ⊎_elim (λ same. same)
      (λ written.
      ⊎_elim (λ (zero : k ≡ 0). absurd (omega (arith, zero, low)))
      (λ others.
      ⊎_elim
      (λ (in_ : InArea (snapshot_first system now.snapshot) (snapshot_area system) k). absurd (omega (arith, in_.high, low, snapshot_below system now.snapshot (omega (arith, is.other)))))
      (λ (w : IsGiven system given k (sector_at e k)).
      let slot = named_slot system r snapshot given now a is k (sector_at e k) w in
      absurd (omega (arith, high, slot.sector, slot_above system slot.place slot.number slot.index)))
      others)
      written)
      (done.elsewhere k)

  -- the sectors of a slot that no record names stay
  one_stays : (place number index : ℕ) → IsSlotOf system place number → index < slot_size system place → named_by snapshot (log_in system a r).records (place + 1) number ≡ None → sector_at e (slot_first system place number + index) ≡ sector_at a (slot_first system place number + index)
  one_stays place number index slot within none =
      let k : ℕ = slot_first system place number + index in
      let above = slot_above system place number index in
      ⊎_elim (λ same. same)
      (λ written.
      ⊎_elim (λ (zero : k ≡ 0). absurd (omega (arith, zero, above)))
      (λ others.
      ⊎_elim
      (λ (in_ : InArea (snapshot_first system now.snapshot) (snapshot_area system) k). absurd (omega (arith, in_.high, above, log_above system 2, snapshot_below system now.snapshot (omega (arith, is.other)))))
      (λ (w : IsGiven system given k (sector_at e k)).
      let other = named_slot system r snapshot given now a is k (sector_at e k) w in
      let one = one_slot system other.place other.number other.index place number index other.slot slot other.within within (sym other.sector) in
      let some : IsSome (named_by snapshot (log_in system a r).records (place + 1) number) =
      subst (λ n. IsSome (named_by snapshot (log_in system a r).records (place + 1) n)) one.number
      (subst (λ p. IsSome (named_by snapshot (log_in system a r).records (p + 1) other.number)) one.place (other.named snapshot is.has_snapshot)) in
      absurd (no_name (named_by snapshot (log_in system a r).records (place + 1) number) none some))
      others)
      written)
      (done.elsewhere k)

  unnamed_stays : (place number : ℕ) → IsSlotOf system place number → named_by snapshot (log_in system a r).records (place + 1) number ≡ None → slot_at system e place number ≡ slot_at system a place number
  unnamed_stays place number slot none =
      slot_same (slot_size system place) a e (slot_first system place number) (λ k lt. one_stays place number k slot lt none)

  by_name : (dbd : Dbd) (place number k : ℕ) → slice_get system.databases place ≡ Some dbd → IsSlotOf system place number → (o : Option (List ℕ)) → named_by snapshot (log_in system a r).records (place + 1) number ≡ o
      → SameSlot (slot_with dbd k (source_of o (slot_at system a place number))) (slot_with dbd k (Spelled (slot_at system e place number)))
  by_name dbd place number k found slot None named =
      subst (λ (s : List (List ℕ)). SameSlot (slot_with dbd k (Spelled (slot_at system a place number))) (slot_with dbd k (Spelled s))) (sym (unnamed_stays place number slot named)) (itself (slot_with dbd k (Spelled (slot_at system a place number))))
  by_name dbd place number k found slot (Some v) named =
      let lt : place < length system.databases = slice_get_within system.databases place dbd found in
      let slots = there given place (omega (arith, lt, is.are.count)) in
      let to : given_to number slots.element ≡ Some v = is.named place number slots.element slots.found ∙ named in
      let short : length v ≤ 4000 * dbd.sectors = to_all (λ (b : List ℕ). length b ≤ 4000 * dbd.sectors) number slots.element v (is.are.each place dbd slots.element found slots.found).fits to in
      let fits : length v ≤ 4000 * slot_size system place = omega (arith, short, size_of system place dbd found) in
      held dbd k v (slot_at system e place number)
      (subst (λ (s : List (List ℕ)). HoldsBytes v s) (sym (done.holds place number slots.element v lt slots.found to)) (data_holds (slot_size system place) v fits))
      (is.images place number dbd slots.element v found slots.found to)

  -- the slot of the image before, and its sectors in the one after
  pub slot_again : (dbd : Dbd) (place number : ℕ) → slice_get system.databases place ≡ Some dbd → IsSlotOf system place number
      → SameSlot (image_slot_in a snapshot (log_in system a r).records dbd (data_first system place) (place + 1) number) (slot_with dbd (data_first system place + number * dbd.sectors) (Spelled (slot_at system e place number)))
  slot_again dbd place number found slot =
      let named : Option (List ℕ) = named_by snapshot (log_in system a r).records (place + 1) number in
      let k : ℕ = data_first system place + number * dbd.sectors in
      subst (λ (sectors : List (List ℕ)). SameSlot (slot_with dbd k (source_of named sectors)) (slot_with dbd k (Spelled (slot_at system e place number)))) (sectors_are system a place number dbd found)
      (by_name dbd place number k found slot named refl)

  module _ (records : List Record) (unnamed : (database number : ℕ) → named_by records [] database number ≡ None) where
    same_slot : (dbd : Dbd) (place number : ℕ) → slice_get system.databases place ≡ Some dbd → IsSlotOf system place number → SameSlot (image_slot_in a snapshot (log_in system a r).records dbd (data_first system place) (place + 1) number) (image_slot_in e records [] dbd (data_first system place) (place + 1) number)
    same_slot dbd place number found slot =
        let k : ℕ = data_first system place + number * dbd.sectors in
        let source : Spelled (slot_at system e place number) ≡ source_of (named_by records [] (place + 1) number) (sectors_from e k dbd.sectors) =
        ap (λ (sectors : List (List ℕ)). Spelled sectors) (sectors_are system e place number dbd found)
        ∙ sym (ap (λ (o : Option (List ℕ)). source_of o (sectors_from e k dbd.sectors)) (unnamed (place + 1) number)) in
        subst (λ (x : Source). SameSlot (image_slot_in a snapshot (log_in system a r).records dbd (data_first system place) (place + 1) number) (slot_with dbd k x)) source
        (slot_again dbd place number found slot)

    all_same : (place : ℕ) (dbds : List Dbd) → ((j : ℕ) → slice_get dbds j ≡ slice_get system.databases (place + j)) → AllSame (all_slots system a snapshot (log_in system a r).records place dbds) (all_slots system e records [] place dbds)
    unfolding all_slots
    all_same place [] same = tt
    all_same place (dbd ∷ dbds) same =
        let found : slice_get system.databases place ≡ Some dbd = ap (slice_get system.databases) (omega arith) ∙ sym (same 0) in (
          same_by (image_slot_in a snapshot (log_in system a r).records dbd (data_first system place) (place + 1)) (image_slot_in e records [] dbd (data_first system place) (place + 1)) dbd.roots 0
              (λ k lt. same_slot dbd place k found (record { dbd = dbd; found = found; below = omega (arith, lt) })),
          all_same (place + 1) dbds (λ j. same (suc j) ∙ ap (slice_get system.databases) (omega arith)),
        )

    pub rows_again : (rows : List (List Row)) → image_rows_from system a snapshot (log_in system a r).records ≡ Ok rows → image_rows_from system e records [] ≡ Ok rows
    rows_again rows read =
        same_rows (all_slots system a snapshot (log_in system a r).records 0 system.databases) (all_slots system e records [] 0 system.databases) rows
        (all_same 0 system.databases (λ j. ap (slice_get system.databases) (omega arith))) read
