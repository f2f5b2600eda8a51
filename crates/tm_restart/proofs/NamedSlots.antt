-- The slots that are given are those that records name.
use Rattle.std.proofs.Common.{◌≡◌, ℕ, ◌+◌, true, List, [], ◌∷◌, length, sym, ◌∙◌, ap, subst, Some, Err, IsTrue}
use Rattle.std.specs.Prelude.{slice_get}
use Rattle.std.specs.List.{AllByRecursion, list_all}
use Rattle.tm_types.specs.declared.dbd.Dbd.{Dbd}
use Rattle.tm_disk.specs.Disk.{Image}
use Rattle.model_system.specs.System.{System}
use Rattle.log_records.specs.declared.record.Record.{Record}
use Rattle.model_image.specs.Slots.{SlotOnImage, is_image, named_by, all_slots, slot_fault}
use Rattle.image_loading.specs.LoadedStore.{given_to}
use Rattle.image_records.specs.declared.slots.NamedSlot.{NamedSlot}
use Rattle.image_records.specs.NamedSlots.{is_slot_of, AreSlotsNamed}
use Rattle.image_loading.specs.Databases.{slots_of_databases, AreImages}
use Rattle.image_loading.specs.declared.fault.LoadFault.{LoadFault}
use Rattle.image_loading.specs.declared.fault.LoadFault.TheVariants as faults
use Rattle.image_loading.specs.LoadedStores.{TellsLoaded}
use Rattle.tm_restart.specs.NamedDatabases.{TellsNamed}
use Rattle.image_loading.proofs.Naming.{databases_named}
use Rattle.image_reading.specs.NamedBytes.{of_database, AreNamedBytes}
use Rattle.image_reading.proofs.Given.{given_bytes}
use Rattle.image_reading.proofs.Right.{IsRightSlot, right_slots}

images_of : (dbd : Dbd) (slots : List (ℕ × List ℕ)) → AllByRecursion (IsRightSlot dbd) slots → AllByRecursion (λ s. IsTrue (is_image dbd s.1)) slots
images_of dbd [] are = tt
images_of dbd (s ∷ slots) are = (are.0.image, images_of dbd slots are.1)

pub given_images : (system : System) (count : ℕ) (named : List NamedSlot) (given : List (List (ℕ × List ℕ))) → list_all (is_slot_of system) named ≡ true → AreNamedBytes count named given → AreImages system given
given_images system count named given are bytes place dbd slots found there =
    subst (AllByRecursion (λ s. IsTrue (is_image dbd s.1))) (sym (bytes.each place slots there)) (images_of dbd (of_database (place + 1) named) (right_slots system place dbd named found are))

pub given_named : (count : ℕ) (named : List NamedSlot) (given : List (List (ℕ × List ℕ))) (snapshot log : List Record) → AreNamedBytes count named given → AreSlotsNamed snapshot log named
    → (place number : ℕ) (slots : List (ℕ × List ℕ)) → slice_get given place ≡ Some slots → given_to number slots ≡ named_by snapshot log (place + 1) number
given_named count named given snapshot log bytes are place number slots there =
    ap (given_to number) (bytes.each place slots there) ∙ given_bytes (place + 1) number named ∙ are.each (place + 1) number

pub databases_are : (system : System) (image : Image) (named : List NamedSlot) (given : List (List (ℕ × List ℕ))) (snapshot log : List Record) → AreNamedBytes (length system.databases) named given → AreSlotsNamed snapshot log named
    → slots_of_databases system image given 0 system.databases ≡ all_slots system image snapshot log 0 system.databases
databases_are system image named given snapshot log bytes are =
    databases_named system image snapshot log given bytes.count_is (given_named (length system.databases) named given snapshot log bytes are)

pub same_fault : (fault : LoadFault) (one other : List (List SlotOnImage)) → one ≡ other → TellsLoaded (Err fault) one → TellsNamed (Err fault) other
same_fault (faults.Bad rule sector) one other same tells = ap slot_fault (sym same) ∙ tells
same_fault faults.Disk one other same tells = tt
same_fault faults.Memory one other same tells = tt

pub same_count : (count other : ℕ) (named : List NamedSlot) (given : List (List (ℕ × List ℕ))) → count ≡ other → AreNamedBytes count named given → AreNamedBytes other named given
same_count count other named given same bytes = subst (λ n. AreNamedBytes n named given) same bytes
