-- The slots that records name.
use Rattle.std.proofs.Common.{◌≡◌, inl, inr, Bool, true, false, ◌&&◌, List, [], ◌∷◌, ◌++◌, ℕ, refl, sym, ◌∙◌, ap, subst, arith, Some, None}
use Rattle.std.specs.Prelude.{if◌then◌else◌, ◌==◌, Option, filter, find, reverse, slice_get, nat_lt}
use Rattle.std.specs.List.{list_all}
use Rattle.std.specs.Option.{option_map, option_or}
use Rattle.std.proofs.lemmas.Bool.{eq-eqb, ne_eqb, eqb-true}
use Rattle.tm_types.specs.declared.dbd.Dbd.{Dbd}
use Rattle.model_system.specs.System.{System}
use Rattle.log_records.specs.declared.record.Record.{Record}
use Rattle.log_records.specs.declared.record.Record.TheVariants.{Input, Command, Reply, Discarded, Completed, Acknowledged, SyncPoint, Checkpoint, Terminal, Code, Change}
use Rattle.model_image.specs.Slots.{is_change_of, is_synced, is_image, is_image_of, are_images, dbd_at, before_image, after_image, named_by}
use Rattle.image_records.specs.ChangeRecords.{tells_change}
use Rattle.image_records.specs.declared.slots.NamedSlot.{NamedSlot}
use Rattle.image_records.specs.NamedSlots.{is_at, named_bytes_at, IsNamedSlotBefore, NamedSlotsAscend, is_slot_by, is_slot_of, AreSlotsNamed}
use Rattle.std.proofs.lemmas.List.{reverse-append}
use Rattle.std.proofs.lemmas.List.Folds.{list_all-append}
use Rattle.image_law.proofs.Bools.{first_of, second_of}
use Rattle.image_law.proofs.Lists.{found_passes}
use Rattle.tm_types.proofs.Truths.{both}

-- ---- a snapshot's changes say as much as all its records

changes_alone : (records log : List Record) (d s : ℕ) → filter (is_change_of d s) (filter tells_change records ++ log) ≡ filter (is_change_of d s) (records ++ log)
changes_alone [] log d s = refl
changes_alone (Change unit database slot before after ∷ records) log d s = by_place ((database == d) && (slot == s)) (changes_alone records log d s) where
  by_place : (b : Bool) → filter (is_change_of d s) (filter tells_change records ++ log) ≡ filter (is_change_of d s) (records ++ log) →
      (if b then Change unit database slot before after ∷ filter (is_change_of d s) (filter tells_change records ++ log) else filter (is_change_of d s) (filter tells_change records ++ log))
      ≡ (if b then Change unit database slot before after ∷ filter (is_change_of d s) (records ++ log) else filter (is_change_of d s) (records ++ log))
  by_place true rest = ap (λ (rs : List Record). Change unit database slot before after ∷ rs) rest
  by_place false rest = rest
changes_alone (Input unit id origin code number conversation segments ∷ records) log d s = changes_alone records log d s
changes_alone (Command text ∷ records) log d s = changes_alone records log d s
changes_alone (Reply unit terminal number segments ∷ records) log d s = changes_alone records log d s
changes_alone (Discarded unit id abend number ∷ records) log d s = changes_alone records log d s
changes_alone (Completed unit id ∷ records) log d s = changes_alone records log d s
changes_alone (Acknowledged terminal number ∷ records) log d s = changes_alone records log d s
changes_alone (SyncPoint unit pad ∷ records) log d s = changes_alone records log d s
changes_alone (Checkpoint checkpoint next_id next_unit steps ∷ records) log d s = changes_alone records log d s
changes_alone (Terminal name last next stopped conversation ∷ records) log d s = changes_alone records log d s
changes_alone (Code name stopped class priority ∷ records) log d s = changes_alone records log d s

named_alone : (records log : List Record) (d s : ℕ) → named_by (filter tells_change records) log d s ≡ named_by records log d s
unfolding named_by
named_alone records log d s =
    ap (λ (changes : List Record). option_or (option_map after_image (find (is_synced log) (reverse changes))) (option_map before_image (slice_get changes 0))) (changes_alone records log d s)

pub are_named : (records changes log : List Record) (slots : List NamedSlot) → changes ≡ filter tells_change records → AreSlotsNamed changes log slots → AreSlotsNamed records log slots
are_named records changes log slots same named = record {
  ascending = named.ascending;
  each = λ d s. named.each d s ∙ ap (λ (rs : List Record). named_by rs log d s) same ∙ named_alone records log d s;
}

-- ---- the bytes of named slots are those of a change

abbrev IsImage : System → ℕ → ℕ → Option (List ℕ) → Type 0
IsImage system d s (Some bytes) = is_slot_by s bytes (dbd_at system d) ≡ true
IsImage system d s None = Unit {0}

module _ (system : System) (d s : ℕ) where
  -- a change of this slot, whose images are of it
  abbrev Fits : Record → Type 0
  Fits r = (is_slot_by s (before_image r) (dbd_at system d) ≡ true) × (is_slot_by s (after_image r) (dbd_at system d) ≡ true)

  fits_by : (before after : List ℕ) (o : Option Dbd) → are_images s before after o ≡ true → (is_slot_by s before o ≡ true) × (is_slot_by s after o ≡ true)
  fits_by before after None is = cc
  fits_by before after (Some dbd) is =
      let front = first_of (nat_lt s dbd.roots && is_image dbd before) (is_image dbd after) is in
      (front, both (nat_lt s dbd.roots) (is_image dbd after) (first_of (nat_lt s dbd.roots) (is_image dbd before) front) (second_of (nat_lt s dbd.roots && is_image dbd before) (is_image dbd after) is))

  fits : (r : Record) → is_change_of d s r ≡ true → is_image_of system r ≡ true → Fits r
  fits (Change unit database slot before after) of is =
      let place : (database ≡ d) × (slot ≡ s) = (eqb-true database d (first_of (database == d) (slot == s) of), eqb-true slot s (second_of (database == d) (slot == s) of)) in
      fits_by before after (dbd_at system d)
      (subst (λ n. are_images s before after (dbd_at system n) ≡ true) place.0 (subst (λ n. are_images n before after (dbd_at system database) ≡ true) place.1 is))
  fits (Input unit id origin code number conversation segments) of is = cc
  fits (Command text) of is = cc
  fits (Reply unit terminal number segments) of is = cc
  fits (Discarded unit id abend number) of is = cc
  fits (Completed unit id) of is = cc
  fits (Acknowledged terminal number) of is = cc
  fits (SyncPoint unit pad) of is = cc
  fits (Checkpoint checkpoint next_id next_unit steps) of is = cc
  fits (Terminal name last next stopped conversation) of is = cc
  fits (Code name stopped class priority) of is = cc

  abbrev good : Record → Bool
  good r = is_change_of d s r && is_image_of system r

  fits_good : (r : Record) → good r ≡ true → Fits r
  fits_good r is = fits r (first_of (is_change_of d s r) (is_image_of system r) is) (second_of (is_change_of d s r) (is_image_of system r) is)

  all_good : (records : List Record) → list_all (is_image_of system) records ≡ true → list_all good (filter (is_change_of d s) records) ≡ true
  all_good [] images = refl
  all_good (r ∷ records) images = by_place (is_change_of d s r) refl (all_good records (second_of (is_image_of system r) (list_all (is_image_of system) records) images)) where
    by_place : (b : Bool) → is_change_of d s r ≡ b → list_all good (filter (is_change_of d s) records) ≡ true → list_all good (if b then r ∷ filter (is_change_of d s) records else filter (is_change_of d s) records) ≡ true
    by_place true is rest =
        both (good r) (list_all good (filter (is_change_of d s) records))
        (both (is_change_of d s r) (is_image_of system r) is (first_of (is_image_of system r) (list_all (is_image_of system) records) images)) rest
    by_place false is rest = rest

  all_back : (records : List Record) → list_all good records ≡ true → list_all good (reverse records) ≡ true
  all_back [] all = refl
  all_back (r ∷ records) all =
      ap (list_all good) (reverse-append (r ∷ []) records) ∙ list_all-append good (reverse records) (r ∷ [])
      ∙ both (list_all good (reverse records)) (list_all good (r ∷ []))
      (all_back records (second_of (good r) (list_all good records) all))
      (both (good r) true (first_of (good r) (list_all good records) all) refl)

  by_last : (changes : List Record) (o : Option Record) → list_all good changes ≡ true → ((r : Record) → o ≡ Some r → Fits r) → IsImage system d s (option_or (option_map after_image o) (option_map before_image (slice_get changes 0)))
  by_last changes (Some r) all its = (its r refl).1
  by_last [] None all its = tt
  by_last (r ∷ changes) None all its = (fits_good r (first_of (good r) (list_all good changes) all)).0

  named_image : (snapshot log : List Record) → list_all (is_image_of system) (snapshot ++ log) ≡ true → IsImage system d s (named_by snapshot log d s)
  unfolding named_by
  named_image snapshot log images =
      let changes = filter (is_change_of d s) (snapshot ++ log) in
      let all = all_good (snapshot ++ log) images in
      by_last changes (find (is_synced log) (reverse changes)) all
      (λ r is. fits_good r (found_passes good (is_synced log) (reverse changes) r (all_back changes all) is))

-- ---- slots that ascend are found each by its place

head_apart : (x y : NamedSlot) → IsNamedSlotBefore x y → is_at x.database x.slot y ≡ false
head_apart x y lower = by_database (y.database == x.database) refl lower where
  by_database : (b : Bool) → y.database == x.database ≡ b → IsNamedSlotBefore x y → b && (y.slot == x.slot) ≡ false
  by_database false is lower = refl
  by_database true is (inl less) = absurd (omega (arith, less, eqb-true y.database x.database is))
  by_database true is (inr same) = ne_eqb y.slot x.slot (λ e. absurd (omega (arith, same.1, e)))

farther : (x y z : NamedSlot) → IsNamedSlotBefore x y → IsNamedSlotBefore y z → IsNamedSlotBefore x z
farther x y z (inl less) (inl more) = inl (omega (arith, less, more))
farther x y z (inl less) (inr same) = inl (omega (arith, less, same.0))
farther x y z (inr same) (inl more) = inl (omega (arith, same.0, more))
farther x y z (inr same) (inr also) = inr (same.0 ∙ also.0, omega (arith, same.1, also.1))

later_apart : (x y : NamedSlot) (slots : List NamedSlot) → NamedSlotsAscend (y ∷ slots) → IsNamedSlotBefore x y → named_bytes_at x.database x.slot (y ∷ slots) ≡ None
later_apart x y [] ascending lower = ap (λ b. option_map (λ s. s.bytes) (if b then Some y else None)) (head_apart x y lower)
later_apart x y (z ∷ slots) ascending lower =
    ap (λ b. option_map (λ s. s.bytes) (if b then Some y else find (is_at x.database x.slot) (z ∷ slots))) (head_apart x y lower)
    ∙ later_apart x z slots ascending.1 (farther x y z lower ascending.0)

module _ (system : System) where
  -- what is found of each place is an image of it
  abbrev AllImages : List NamedSlot → Type 0
  AllImages slots = (d s : ℕ) → IsImage system d s (named_bytes_at d s slots)

  fewer : (x : NamedSlot) (slots : List NamedSlot) → NamedSlotsAscend (x ∷ slots) → AllImages (x ∷ slots) → AllImages slots
  fewer x [] ascending all d s = tt
  fewer x (y ∷ slots) ascending all d s = by_place (x.database == d) (x.slot == s) refl refl (all d s) where
    by_place : (a b : Bool) → x.database == d ≡ a → x.slot == s ≡ b → IsImage system d s (option_map (λ s. s.bytes) (if a && b then Some x else find (is_at d s) (y ∷ slots))) → IsImage system d s (named_bytes_at d s (y ∷ slots))
    by_place true true isa isb image =
        subst (λ (o : Option (List ℕ)). IsImage system d s o)
        (sym (ap (λ n. named_bytes_at n s (y ∷ slots)) (sym (eqb-true x.database d isa)) ∙ ap (λ n. named_bytes_at x.database n (y ∷ slots)) (sym (eqb-true x.slot s isb)) ∙ later_apart x y slots ascending.1 ascending.0)) tt
    by_place true false isa isb image = image
    by_place false b isa isb image = image

  rest_ascends : (x : NamedSlot) (slots : List NamedSlot) → NamedSlotsAscend (x ∷ slots) → NamedSlotsAscend slots
  rest_ascends x [] ascending = tt
  rest_ascends x (y ∷ slots) ascending = ascending.1

  all_slots : (slots : List NamedSlot) → NamedSlotsAscend slots → AllImages slots → list_all (is_slot_of system) slots ≡ true
  all_slots [] ascending all = refl
  all_slots (x ∷ slots) ascending all =
      both (is_slot_of system x) (list_all (is_slot_of system) slots) here (all_slots slots (rest_ascends x slots ascending) (fewer x slots ascending all))
    where
      here : is_slot_of system x ≡ true
      here =
          subst (λ b. IsImage system x.database x.slot (option_map (λ s. s.bytes) (if b then Some x else find (is_at x.database x.slot) slots)))
          (both (x.database == x.database) (x.slot == x.slot) (eq-eqb x.database x.database refl) (eq-eqb x.slot x.slot refl)) (all x.database x.slot)

  pub are_slots : (snapshot log : List Record) (slots : List NamedSlot) → list_all (is_image_of system) snapshot ≡ true → list_all (is_image_of system) log ≡ true → AreSlotsNamed snapshot log slots → list_all (is_slot_of system) slots ≡ true
  are_slots snapshot log slots told logged named =
      all_slots slots named.ascending (λ d s. subst (IsImage system d s) (sym (named.each d s)) (named_image system d s snapshot log
      (list_all-append (is_image_of system) snapshot log ∙ both (list_all (is_image_of system) snapshot) (list_all (is_image_of system) log) told logged)))
