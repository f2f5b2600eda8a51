-- What loading answers, from what reading and building did.
use Rattle.std.proofs.Common.{◌≡◌, ℕ, ◌+◌, ◌*◌, ◌∷◌, [], List, zero, suc, refl, sym, ◌∙◌, ap, arith, Bool, true, false, cond, Option, None, Some, Result, Ok, Err, ◌||◌}
use Rattle.std.specs.Prelude.{map}
use Rattle.std.specs.List.{list_any}
use Rattle.std.specs.Option.{option_map, option_or}
use Rattle.std.specs.Result.{IfOk, IfErr, OnOk}
use Rattle.tm_types.specs.declared.dbd.Dbd.{Dbd}
use Rattle.tm_disk.specs.Disk.{Image}
use Rattle.model_data.specs.declared.row.Row.{Row}
use Rattle.model_image.specs.Slots.{SlotOnImage, slots_by, first_shared, have_one_root, place_in, first_wrong, first_no_record, first_doubled, slot_fault, fault_of, slot_rows}
use Rattle.seg_store.specs.ChangedSlots.{Kept}
use Rattle.image_loading.specs.declared.fault.LoadFault.{LoadFault}
use Rattle.image_loading.specs.declared.fault.LoadFault.TheVariants as faults
use Rattle.image_loading.specs.LoadedStore.{image_slots_in, slot_from, TellsSlots}
use Rattle.image_loading.specs.SharedRoots.{has_same_root, shared_at, SharesRoot}

any_map : {A B : Type 0} (test : B → Bool) (f : A → B) (xs : List A) → list_any test (map f xs) ≡ list_any (λ x. test (f x)) xs
any_map test f [] = refl
any_map test f (x ∷ xs) = ap (λ b. test (f x) || b) (any_map test f xs)

shared_places : (f : ℕ → SlotOnImage) (sectors first : ℕ) → ((m : ℕ) → (f m).place ≡ first + m * sectors) → (n number : ℕ) → first_doubled (slots_by f n number) ≡ shared_at sectors (first + number * sectors) (map slot_rows (slots_by f n number))
shared_places f sectors first place zero number = refl
shared_places f sectors first place (suc n) number =
    by (list_any (have_one_root (f number)) rest) refl (shared_places f sectors first place n (number + 1))
  where
    rest : List SlotOnImage
    rest = slots_by f n (number + 1)

    next : first + (number + 1) * sectors ≡ first + number * sectors + sectors
    next = omega arith

    by : (b : Bool) → list_any (have_one_root (f number)) rest ≡ b → place_in (first_shared rest) ≡ shared_at sectors (first + (number + 1) * sectors) (map slot_rows rest)
        → place_in (cond (list_any (have_one_root (f number)) rest) (Some (f number)) (first_shared rest))
        ≡ cond (list_any (has_same_root (slot_rows (f number))) (map slot_rows rest)) (Some (first + number * sectors)) (shared_at sectors (first + number * sectors + sectors) (map slot_rows rest))
    by true q rec =
        ap (λ b. place_in (cond b (Some (f number)) (first_shared rest))) q
        ∙ (ap Some (place number)
        ∙ sym (ap (λ b. cond b (Some (first + number * sectors)) (shared_at sectors (first + number * sectors + sectors) (map slot_rows rest))) (any_map (has_same_root (slot_rows (f number))) slot_rows rest ∙ q)))
    by false q rec =
        ap (λ b. place_in (cond b (Some (f number)) (first_shared rest))) q
        ∙ (rec ∙ (ap (λ n. shared_at sectors n (map slot_rows rest)) next
        ∙ sym (ap (λ b. cond b (Some (first + number * sectors)) (shared_at sectors (first + number * sectors + sectors) (map slot_rows rest))) (any_map (has_same_root (slot_rows (f number))) slot_rows rest ∙ q))))

pub shared_is : (image : Image) (dbd : Dbd) (first : ℕ) (given : List (ℕ × List ℕ)) → first_doubled (image_slots_in image dbd first given) ≡ shared_at dbd.sectors first (map slot_rows (image_slots_in image dbd first given))
unfolding image_slots_in
shared_is image dbd first given =
    shared_places (slot_from image dbd first given) dbd.sectors first (λ m. refl) dbd.roots 0
    ∙ ap (λ n. shared_at dbd.sectors n (map slot_rows (slots_by (slot_from image dbd first given) dbd.roots 0))) from
  where
    from : first + 0 * dbd.sectors ≡ first
    from = omega arith

fault_is : (rule : ℕ) (o p : Option ℕ) → o ≡ p → fault_of rule (option_or o None) ≡ option_map (λ n. (rule, n)) p
fault_is rule None p e = ap (option_map (λ n. (rule, n))) e
fault_is rule (Some s) p e = ap (option_map (λ n. (rule, n))) e

-- of slots with right sectors and with records the first shared root is the fault
slot_fault_is : (slots : List SlotOnImage) (p : Option ℕ) → first_wrong slots ≡ None → first_no_record slots ≡ None → first_doubled slots ≡ p → slot_fault (slots ∷ []) ≡ option_map (λ n. (22, n)) p
slot_fault_is slots p a b s =
    (λ i. option_or (fault_of 20 (option_or (a i) None)) (option_or (fault_of 21 (option_or (b i) None)) (fault_of 22 (option_or (first_doubled slots) None))))
    ∙ fault_is 22 (first_doubled slots) p s

pub load_value : (result : Result Kept LoadFault) (slots : List SlotOnImage) (images : List (List Row)) (sectors first : ℕ) → first_wrong slots ≡ None → None ≡ first_no_record slots → images ≡ map slot_rows slots
    → first_doubled slots ≡ shared_at sectors first (map slot_rows slots) → IfOk result (λ store. store.slots ≡ images) → OnOk result (shared_at sectors first images ≡ None) → IfErr result (SharesRoot sectors first images) → TellsSlots result slots
load_value (Ok store) slots images sectors first a b e s each alone shared = record {
  good = slot_fault_is slots None a (sym b) (s ∙ (ap (shared_at sectors first) (sym e) ∙ alone));
  each = each ∙ e;
}
load_value (Err (faults.Bad rule sector)) slots images sectors first a b e s each alone shared =
    slot_fault_is slots (Some sector) a (sym b) (s ∙ (ap (shared_at sectors first) (sym e) ∙ shared.1)) ∙ ap (λ r. Some (r, sector)) (sym shared.0)
load_value (Err faults.Disk) slots images sectors first a b e s each alone shared = tt
load_value (Err faults.Memory) slots images sectors first a b e s each alone shared = tt
