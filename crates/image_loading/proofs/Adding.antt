-- One database more is loaded.
use Rattle.std.proofs.Common.{◌≡◌, ℕ, zero, suc, ◌+◌, List, [], ◌∷◌, ◌++◌, length, take, map, refl, sym, ◌∙◌, ap, arith, Some, None}
use Rattle.std.specs.Prelude.{Option, Result, Ok, Err, OnOk, slice_get}
use Rattle.tm_types.specs.declared.dbd.Dbd.{Dbd}
use Rattle.tm_disk.specs.Disk.{Image}
use Rattle.model_system.specs.System.{System}
use Rattle.model_system.specs.Areas.{data_first}
use Rattle.model_image.specs.Faults.{Fault}
use Rattle.model_image.specs.Slots.{SlotOnImage, slot_fault, slot_rows}
use Rattle.seg_store.specs.ChangedSlots.{Kept}
use Rattle.image_loading.specs.LoadedStore.{IsStoreMade, image_slots_in}
use Rattle.image_loading.specs.Databases.{slots_of_databases, lowest_fault}
use Rattle.image_loading.specs.LoadedStores.{AreAllMade, AreSlotted}
use Rattle.image_loading.proofs.Lowest.{fault_both, lowest_none, lowest_some}

pub made_more : (dbds : List Dbd) (stores : List Kept) (dbd : Dbd) (store : Kept) → AreAllMade dbds stores → IsStoreMade dbd store → AreAllMade (dbds ++ dbd ∷ []) (stores ++ store ∷ [])
made_more [] [] dbd store all is = (is, tt)
made_more [] (s ∷ stores) dbd store all is = absurd all
made_more (d ∷ dbds) [] dbd store all is = absurd all
made_more (d ∷ dbds) (s ∷ stores) dbd store all is = (all.0, made_more dbds stores dbd store all.1 is)

pub slotted_more : (databases : List (List SlotOnImage)) (stores : List Kept) (slots : List SlotOnImage) (store : Kept) → AreSlotted databases stores → store.slots ≡ map slot_rows slots → AreSlotted (databases ++ slots ∷ []) (stores ++ store ∷ [])
slotted_more [] [] slots store all is = (is, tt)
slotted_more [] (s ∷ stores) slots store all is = absurd all
slotted_more (d ∷ databases) [] slots store all is = absurd all
slotted_more (d ∷ databases) (s ∷ stores) slots store all is = (all.0, slotted_more databases stores slots store all.1 is)

-- ---- by what loading it answers

pub good_more : (databases : List (List SlotOnImage)) (slots : List SlotOnImage) (old new : Option Fault) → new ≡ old → old ≡ slot_fault databases → slot_fault (slots ∷ []) ≡ None → new ≡ slot_fault (databases ++ slots ∷ [])
good_more databases slots old new same is none =
    same ∙ lowest_none old ∙ ap (λ (o : Option Fault). lowest_fault o None) is ∙ ap (λ (o : Option Fault). lowest_fault (slot_fault databases) o) (sym none) ∙ fault_both databases (slots ∷ [])

pub bad_more : (databases : List (List SlotOnImage)) (slots : List SlotOnImage) (old new : Option Fault) (fault : Fault) → new ≡ lowest_fault old (Some fault) → old ≡ slot_fault databases → slot_fault (slots ∷ []) ≡ Some fault → new ≡ slot_fault (databases ++ slots ∷ [])
bad_more databases slots old new fault same is bad =
    same ∙ ap (λ (o : Option Fault). lowest_fault o (Some fault)) is ∙ ap (λ (o : Option Fault). lowest_fault (slot_fault databases) o) (sym bad) ∙ fault_both databases (slots ∷ [])

pub bad_is : (old new : Option Fault) (fault : Fault) → new ≡ lowest_fault old (Some fault) → new ≡ None → ⊥
bad_is old new fault same none = lowest_some old fault (sym same ∙ none)

-- ---- the databases by their places

pub take_next : {X : Type 0} (xs : List X) (i : ℕ) (x : X) → slice_get xs i ≡ Some x → take (i + 1) xs ≡ take i xs ++ x ∷ []
take_next {X = X} xs i x found = let next : i + 1 ≡ suc i = omega arith in ap (λ k. take k xs) next ∙ by xs i found where
  by : (ys : List X) (k : ℕ) → slice_get ys k ≡ Some x → take (suc k) ys ≡ take k ys ++ x ∷ []
  by [] k e = cc
  by (y ∷ ys) zero e = let same : y ≡ x = cc in ap (λ z. z ∷ []) same
  by (y ∷ ys) (suc k) e = ap (λ l. y ∷ l) (by ys k e)

by_place : (system : System) (image : Image) (given : List (List (ℕ × List ℕ))) (from i : ℕ) (dbds : List Dbd) (dbd : Dbd) (slots : List (ℕ × List ℕ)) → slice_get dbds i ≡ Some dbd → slice_get given i ≡ Some slots → slice_get (slots_of_databases system image given from dbds) i ≡ Some (image_slots_in image dbd (data_first system (from + i)) slots)
by_place system image [] from i dbds dbd slots found there = cc
by_place system image (g ∷ given) from i [] dbd slots found there = cc
by_place system image (g ∷ given) from zero (d ∷ dbds) dbd slots found there =
    let same : d ≡ dbd = cc in
    let also : g ≡ slots = cc in
    let at : from ≡ from + 0 = omega arith in
    ap (λ x. Some (image_slots_in image x (data_first system from) g)) same ∙ ap (λ x. Some (image_slots_in image dbd (data_first system from) x)) also ∙ ap (λ p. Some (image_slots_in image dbd (data_first system p) slots)) at
by_place system image (g ∷ given) from (suc i) (d ∷ dbds) dbd slots found there =
    let at : from + 1 + i ≡ from + suc i = omega arith in
    by_place system image given (from + 1) i dbds dbd slots found there ∙ ap (λ p. Some (image_slots_in image dbd (data_first system p) slots)) at

pub database_at : (system : System) (image : Image) (given : List (List (ℕ × List ℕ))) (i : ℕ) (dbds : List Dbd) (dbd : Dbd) (slots : List (ℕ × List ℕ)) → slice_get dbds i ≡ Some dbd → slice_get given i ≡ Some slots → slice_get (slots_of_databases system image given 0 dbds) i ≡ Some (image_slots_in image dbd (data_first system i) slots)
database_at system image given i dbds dbd slots found there =
    let at : 0 + i ≡ i = omega arith in by_place system image given 0 i dbds dbd slots found there ∙ ap (λ p. Some (image_slots_in image dbd (data_first system p) slots)) at

pub count_databases : (system : System) (image : Image) (given : List (List (ℕ × List ℕ))) (from : ℕ) (dbds : List Dbd) → length given ≡ length dbds → length (slots_of_databases system image given from dbds) ≡ length dbds
count_databases system image [] from [] same = refl
count_databases system image [] from (d ∷ dbds) same = absurd (omega (arith, same))
count_databases system image (g ∷ given) from [] same = refl
count_databases system image (g ∷ given) from (d ∷ dbds) same = omega (arith, count_databases system image given (from + 1) dbds (omega (arith, same)))

-- what holds once it is told
pub with_ok : {A E : Type 0} (r : Result A E) (P Q : Type 0) → OnOk r P → (P → Q) → OnOk r Q
with_ok (Ok x) P Q p f = f p
with_ok (Err e) P Q p f = p
