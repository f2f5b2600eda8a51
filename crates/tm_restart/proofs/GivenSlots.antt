-- The slots that records name are slots of the system's databases, with bytes that fit their sectors.
use Rattle.std.proofs.Common.{◌≡◌, ℕ, ◌+◌, ◌*◌, ◌<◌, ◌≤◌, Bool, true, false, List, [], ◌∷◌, length, refl, sym, subst, Some, None, nat_le, IsTrue}
use Rattle.std.specs.Prelude.{slice_get, if◌then◌else◌}
use Rattle.std.specs.Option.{is_some}
use Rattle.std.specs.List.{AllByRecursion, list_all}
use Rattle.std.proofs.lemmas.Bool.{leb-true}
use Rattle.tm_types.specs.declared.dbd.Dbd.{Dbd}
use Rattle.model_data.specs.Record.{record_limit}
use Rattle.model_system.specs.System.{System}
use Rattle.model_image.specs.Slots.{is_image, rows_by, rows_of_bytes}
use Rattle.image_loading.specs.LoadedStore.{given_to}
use Rattle.image_records.specs.declared.slots.NamedSlot.{NamedSlot}
use Rattle.image_records.specs.NamedSlots.{is_slot_of, NamedSlotsAscend}
use Rattle.image_reading.specs.NamedBytes.{of_database, AreNamedBytes}
use Rattle.image_reading.proofs.Right.{IsRightSlot, in_order, right_slots}
use Rattle.tm_restart.proofs.NamedSlots.{given_images}
use Rattle.tm_restart.specs.GivenSlots.{GivenSlots, AreSlotsOf, AreGiven}
use Rattle.tm_restart.proofs.GivenSectors.{to_all}

short_image : (dbd : Dbd) (bytes : List ℕ) → is_image dbd bytes ≡ true → length bytes ≤ record_limit dbd
unfolding rows_of_bytes
short_image dbd bytes is = by (nat_le (length bytes) (record_limit dbd)) refl is where
  by : (b : Bool) → nat_le (length bytes) (record_limit dbd) ≡ b → is_some (if b then rows_by (length bytes) dbd.types [] bytes else None) ≡ true → length bytes ≤ record_limit dbd
  by true le some = leb-true (length bytes) (record_limit dbd) le
  by false le some = absurd cc

all_within : (dbd : Dbd) (slots : List (ℕ × List ℕ)) → AllByRecursion (IsRightSlot dbd) slots → AllByRecursion (λ (s : ℕ × List ℕ). s.0 < dbd.roots) slots
all_within dbd [] are = tt
all_within dbd (s ∷ slots) are = (are.0.below, all_within dbd slots are.1)

all_fit : (dbd : Dbd) (slots : List (ℕ × List ℕ)) → AllByRecursion (IsRightSlot dbd) slots → AllByRecursion (λ (s : ℕ × List ℕ). length s.1 ≤ 4000 * dbd.sectors) slots
all_fit dbd [] are = tt
all_fit dbd (s ∷ slots) are = (short_image dbd s.1 are.0.image, all_fit dbd slots are.1)

are_of : (system : System) (named : List NamedSlot) (place : ℕ) (dbd : Dbd) → NamedSlotsAscend named → list_all (is_slot_of system) named ≡ true → slice_get system.databases place ≡ Some dbd → AreSlotsOf dbd (of_database (place + 1) named)
are_of system named place dbd ascending are found =
    let right = right_slots system place dbd named found are in
    record {
      ascending = in_order (place + 1) named ascending;
      within = all_within dbd (of_database (place + 1) named) right;
      fits = all_fit dbd (of_database (place + 1) named) right;
    }

pub are_given : (system : System) (named : List NamedSlot) (given : GivenSlots) → NamedSlotsAscend named → list_all (is_slot_of system) named ≡ true → AreNamedBytes (length system.databases) named given → AreGiven system given
are_given system named given ascending are bytes = record {
  count = bytes.count_is;
  each = λ place dbd slots found there. subst (AreSlotsOf dbd) (sym (bytes.each place slots there)) (are_of system named place dbd ascending are found);
}

-- each spells a record or none
pub are_images : (system : System) (named : List NamedSlot) (given : GivenSlots) → list_all (is_slot_of system) named ≡ true → AreNamedBytes (length system.databases) named given
    → (place number : ℕ) (dbd : Dbd) (slots : List (ℕ × List ℕ)) (bytes : List ℕ) → slice_get system.databases place ≡ Some dbd → slice_get given place ≡ Some slots → given_to number slots ≡ Some bytes → is_image dbd bytes ≡ true
are_images system named given are of place number dbd slots bytes found there is =
    to_all (λ (b : List ℕ). IsTrue (is_image dbd b)) number slots bytes (given_images system (length system.databases) named given are of place dbd slots found there) is
