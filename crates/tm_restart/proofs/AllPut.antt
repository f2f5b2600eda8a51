-- Slots of all databases are put, one database after another.
use Rattle.std.proofs.Common.{◌≡◌, ◌⊎◌, ℕ, ◌+◌, ◌*◌, ◌<◌, ◌≤◌, List, length, refl, sym, ◌∙◌, ap, subst, inl, inr, ⊎_elim, arith, Some, None}
use Rattle.std.specs.Prelude.{Option, slice_get, get_or}
use Rattle.std.specs.Option.{unwrap_or}
use Rattle.std.proofs.lemmas.Bool.{cases_lt}
use Rattle.std.proofs.lemmas.Option.{slice_get_within, slice_get-get_or}
use Rattle.tm_types.specs.declared.dbd.Dbd.{Dbd}
use Rattle.tm_disk.specs.Disk.{Image, DiskState, sector_at, Within, Follows}
use Rattle.tm_disk.proofs.Words.{within_within, follows_on}
use Rattle.model_system.specs.System.{System}
use Rattle.model_system.specs.Areas.{data_first, slot_first, slot_size}
use Rattle.model_image.specs.Slots.{slot_at}
use Rattle.model_image.proofs.Places.{size_of, slots_before, in_slot, slot_same, slot_is}
use Rattle.seg_store.specs.DataSectors.{slot_spelling, pieces_of, IsGivenAt, given_at, MayPut, HasPut}
use Rattle.image_loading.specs.LoadedStore.{given_to}
use Rattle.checkpointing.proofs.Slots.{given_is}
use Rattle.tm_restart.specs.GivenSlots.{GivenSlots, AreGiven, IsGiven, MayPutAll, HasPutFront}
use Rattle.tm_restart.proofs.GivenSectors.{to_within, none_at, far_below, put_sector}

-- the sectors of the slots of a database
abbrev pub pieces : System → ℕ → List (ℕ × List ℕ) → List (ℕ × List ℕ)
pieces system place slots = pieces_of (slot_size system place) slots

-- what is told of a database's own number of sectors, and of where it begins
pub at_place : (P : ℕ → List (ℕ × List ℕ) → Type 0) (system : System) (place : ℕ) (dbd : Dbd) (slots : List (ℕ × List ℕ)) (first : ℕ) → slice_get system.databases place ≡ Some dbd → first ≡ data_first system place → P first (pieces_of dbd.sectors slots)
    → P (data_first system place) (pieces system place slots)
at_place P system place dbd slots first found is told =
    subst (λ (n : ℕ). P (data_first system place) (pieces_of n slots)) (sym (size_of system place dbd found)) (subst (λ (n : ℕ). P n (pieces_of dbd.sectors slots)) is told)

pub may_none : (system : System) (given : GivenSlots) (image : Image) → MayPutAll system given image image
may_none system given image = record { size = refl; each = λ k. inl refl }

pub front_none : (system : System) (given : GivenSlots) (image : Image) → HasPutFront system given 0 image image
front_none system given image = record { may = may_none system given image; holds = λ place number slots bytes lt found to. absurd (omega (arith, lt)) }

-- a database of a place
pub has_dbd : (dbds : List Dbd) (place i : ℕ) (dbd : Dbd) → slice_get dbds i ≡ Some dbd → place < length dbds → slice_get dbds place ≡ Some (get_or dbds place dbd)
has_dbd dbds place i dbd found lt = slice_get-get_or dbds place dbd lt

module _ (system : System) (given : GivenSlots) (i : ℕ) (slots : List (ℕ × List ℕ)) (there : slice_get given i ≡ Some slots) where
  pub may_step : (a b c : Image) → MayPutAll system given a b → MayPut (data_first system i) (pieces system i slots) b c → MayPutAll system given a c
  may_step a b c one two = record {
    size = two.size ∙ one.size;
    each = λ k.
        ⊎_elim
        (λ (same : sector_at c k ≡ sector_at b k).
        ⊎_elim (λ before. inl (same ∙ before)) (λ (w : IsGiven system given k (sector_at b k)). inr (subst (IsGiven system given k) (sym same) w)) (one.each k))
        (λ (is : IsGivenAt (data_first system i) (pieces system i slots) k (sector_at c k)). inr (record { place = i; slots = slots; found = there; is = is }))
        (two.each k);
  }

  by_given : (b : Image) (k : ℕ) (sector : List ℕ) (o : Option (List ℕ)) → given_at (data_first system i) (pieces system i slots) k ≡ o → sector ≡ unwrap_or o (sector_at b k) → (sector ≡ sector_at b k) ⊎ IsGivenAt (data_first system i) (pieces system i slots) k sector
  by_given b k sector None is e = inl e
  by_given b k sector (Some s) is e = inr (given_is (data_first system i) (pieces system i slots) k sector (is ∙ ap Some (sym e)))

  has_may : (b c : Image) → HasPut (data_first system i) (pieces system i slots) b c → MayPut (data_first system i) (pieces system i slots) b c
  has_may b c has = record { size = has.size; each = λ k. by_given b k (sector_at c k) (given_at (data_first system i) (pieces system i slots) k) refl (has.each k) }

  module _ (are : AreGiven system given) (dbd : Dbd) (found : slice_get system.databases i ≡ Some dbd) where
    holds_here : (b c : Image) → HasPut (data_first system i) (pieces system i slots) b c → (number : ℕ) (bytes : List ℕ) → given_to number slots ≡ Some bytes → slot_at system c i number ≡ slot_spelling (slot_size system i) bytes
    holds_here b c has number bytes to =
        slot_is (slot_size system i) c (slot_first system i number) bytes
        (λ k lt.
        ap (sector_at c) (omega arith)
        ∙ put_sector (slot_size system i) (data_first system i) slots (are.each i dbd slots found there).ascending number bytes to b c has k lt)

    -- a slot of a database before stays
    stays_before : (b c : Image) → HasPut (data_first system i) (pieces system i slots) b c → (place number : ℕ) (others : List (ℕ × List ℕ)) (bytes : List ℕ) → place < i → slice_get given place ≡ Some others → given_to number others ≡ Some bytes
        → slot_at system c place number ≡ slot_at system b place number
    stays_before b c has place number others bytes before there_before to =
        let small : place < length system.databases = omega (arith, before, slice_get_within system.databases i dbd found) in
        let other = get_or system.databases place dbd in
        let has_other : slice_get system.databases place ≡ Some other = has_dbd system.databases place i dbd found small in
        let below : number < other.roots = to_within other.roots number others bytes (are.each place other others has_other there_before).within to in
        let size : other.roots * slot_size system place ≡ other.roots * other.sectors = ap (λ (n : ℕ). other.roots * n) (size_of system place other has_other) in
        slot_same (slot_size system place) b c (slot_first system place number)
        (λ k lt.
        let at = slot_first system place number + k in
        let far : at < data_first system i = omega (arith, in_slot other.roots (slot_size system place) number k below lt, size, slots_before system place i other has_other before) in
        has.each at
        ∙ ap (λ (o : Option (List ℕ)). unwrap_or o (sector_at b at)) (none_at (data_first system i) at (pieces system i slots) (far_below (data_first system i) at (pieces system i slots) far)))

    pub front_step : (a b c : Image) → HasPutFront system given i a b → HasPut (data_first system i) (pieces system i slots) b c → HasPutFront system given (i + 1) a c
    front_step a b c one two = record {
      may = may_step a b c one.may (has_may b c two);
      holds = λ place number others bytes lt there_other to.
          ⊎_elim
          (λ (before : place < i). stays_before b c two place number others bytes before there_other to ∙ one.holds place number others bytes before there_other to)
          (λ (not_before : i ≤ place).
          let here : i ≡ place = omega (arith, lt, not_before) in
          let both : Some slots ≡ Some others = sym there ∙ ap (slice_get given) here ∙ there_other in
          let same : slots ≡ others = cc in
          subst (λ p. slot_at system c p number ≡ slot_spelling (slot_size system p) bytes) here
          (holds_here b c two number bytes (ap (given_to number) same ∙ to)))
          (cases_lt place i);
    }

  -- ---- on a disk
  pub within_step : (old mid new : DiskState) → Within (MayPutAll system given) old mid → Follows (MayPutAll system given) old mid → Within (MayPut (data_first system i) (pieces system i slots)) mid new → Within (MayPutAll system given) old new
  within_step old mid new within follows after =
      within_within (MayPutAll system given) (MayPut (data_first system i) (pieces system i slots)) (MayPutAll system given) old mid new (λ a c one. one) may_step within follows after

  pub follows_step : (old mid new : DiskState) → Follows (MayPutAll system given) old mid → Follows (MayPut (data_first system i) (pieces system i slots)) mid new → Follows (MayPutAll system given) old new
  follows_step old mid new before after = follows_on (MayPutAll system given) (MayPut (data_first system i) (pieces system i slots)) (MayPutAll system given) old mid new may_step before after
