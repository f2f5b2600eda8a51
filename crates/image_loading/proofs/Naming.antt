-- Where the slots that are given are those that records name, the databases are those of an image.
use Rattle.std.proofs.Common.{◌≡◌, ℕ, zero, suc, ◌+◌, ◌*◌, List, [], ◌∷◌, length, refl, ◌∙◌, ap, arith, Some}
use Rattle.std.specs.Prelude.{Option, slice_get}
use Rattle.tm_types.specs.declared.dbd.Dbd.{Dbd}
use Rattle.tm_disk.specs.Disk.{Image}
use Rattle.model_system.specs.System.{System}
use Rattle.log_records.specs.declared.record.Record.{Record}
use Rattle.model_system.specs.Areas.{data_first}
use Rattle.model_image.specs.Slots.{SlotOnImage, source_of, sectors_from, slots_by, image_slot_in, named_by, all_slots}
use Rattle.image_loading.specs.LoadedStore.{given_to, slot_from, image_slots_in}
use Rattle.image_loading.specs.Databases.{slots_of_databases}

slots_alike : (n number : ℕ) (f g : ℕ → SlotOnImage) → ((k : ℕ) → f k ≡ g k) → slots_by f n number ≡ slots_by g n number
slots_alike zero number f g same = refl
slots_alike (suc n) number f g same = ap (λ (s : SlotOnImage). s ∷ slots_by f n (number + 1)) (same number) ∙ ap (λ (rest : List SlotOnImage). g number ∷ rest) (slots_alike n (number + 1) f g same)

module _ (system : System) (image : Image) (snapshot log : List Record) where
  slots_named : (dbd : Dbd) (place : ℕ) (slots : List (ℕ × List ℕ)) → ((number : ℕ) → given_to number slots ≡ named_by snapshot log (place + 1) number)
      → image_slots_in image dbd (data_first system place) slots ≡ slots_by (image_slot_in image snapshot log dbd (data_first system place) (place + 1)) dbd.roots 0
  unfolding image_slots_in
  slots_named dbd place slots named =
      slots_alike dbd.roots 0 (slot_from image dbd (data_first system place) slots) (image_slot_in image snapshot log dbd (data_first system place) (place + 1))
      (λ k. ap (λ (o : Option (List ℕ)). record { dbd = dbd; place = data_first system place + k * dbd.sectors; source = source_of o (sectors_from image (data_first system place + k * dbd.sectors) dbd.sectors) }) (named k))

  named_from : (from : ℕ) (given : List (List (ℕ × List ℕ))) (dbds : List Dbd) → length given ≡ length dbds
      → ((i number : ℕ) (slots : List (ℕ × List ℕ)) → slice_get given i ≡ Some slots → given_to number slots ≡ named_by snapshot log (from + i + 1) number)
      → slots_of_databases system image given from dbds ≡ all_slots system image snapshot log from dbds
  unfolding all_slots
  named_from from [] [] same named = refl
  named_from from [] (d ∷ dbds) same named = absurd (omega (arith, same))
  named_from from (slots ∷ given) [] same named = absurd (omega (arith, same))
  named_from from (slots ∷ given) (dbd ∷ dbds) same named =
      let at : from + 0 + 1 ≡ from + 1 = omega arith in
      ap (λ (l : List SlotOnImage). l ∷ slots_of_databases system image given (from + 1) dbds)
      (slots_named dbd from slots (λ number. named 0 number slots refl ∙ ap (λ p. named_by snapshot log p number) at))
      ∙ ap (λ (rest : List (List SlotOnImage)). slots_by (image_slot_in image snapshot log dbd (data_first system from) (from + 1)) dbd.roots 0 ∷ rest)
      (named_from (from + 1) given dbds (omega (arith, same)) (λ i number others found.
      let next : from + suc i + 1 ≡ from + 1 + i + 1 = omega arith in named (suc i) number others found ∙ ap (λ p. named_by snapshot log p number) next))

  pub databases_named : (given : List (List (ℕ × List ℕ))) → length given ≡ length system.databases
      → ((place number : ℕ) (slots : List (ℕ × List ℕ)) → slice_get given place ≡ Some slots → given_to number slots ≡ named_by snapshot log (place + 1) number)
      → slots_of_databases system image given 0 system.databases ≡ all_slots system image snapshot log 0 system.databases
  databases_named given same named =
      named_from 0 given system.databases same (λ i number slots found.
      let at : i + 1 ≡ 0 + i + 1 = omega arith in named i number slots found ∙ ap (λ p. named_by snapshot log p number) at)
