-- What stands in a slot now.
use Rattle.std.proofs.Common.{◌≡◌, ◌⊎◌, inl, ⊎_elim, ℕ, zero, suc, ◌-◌, ◌≤◌, List, [], ◌∷◌, length, refl, sym, ◌∙◌, ap, subst, arith, Some}
use Rattle.std.specs.Prelude.{Option, slice_get, slice_index_or}
use Rattle.std.specs.Option.{option_map_or, unwrap_or}
use Rattle.std.specs.List.{AllByRecursion}
use Rattle.std.proofs.lemmas.Option.{none-some, same_Some}
use Rattle.model_data.specs.declared.row.Row.{Row}
use Rattle.model_data.specs.Record.{rows_spelling}
use Rattle.seg_store.specs.Slots.{Stored, AreSlots, IsSlot}
use Rattle.tm_types.specs.declared.dbd.Dbd.{Dbd}
use Rattle.checkpointing.specs.Touches.{image_in, HasFewSectors}

indexed : (slots : List (List Row)) (k : ℕ) (found : Option (List Row)) → slice_get slots k ≡ found → slice_index_or slots k [] ≡ unwrap_or found []
indexed [] k found is = ap (λ (o : Option (List Row)). unwrap_or o []) is
indexed (image ∷ slots) zero found is = ap (λ (o : Option (List Row)). unwrap_or o []) is
indexed (image ∷ slots) (suc k) found is = indexed slots k found is

-- the image that a store has in the slot
pub image_is : (stores : List Stored) (db slot : ℕ) (one : Stored) (found : Option (List Row)) → slice_get stores (db - 1) ≡ Some one → slice_get one.slots slot ≡ found → image_in stores db slot ≡ unwrap_or found []
image_is stores db slot one found there is =
    ap (λ (o : Option Stored). option_map_or (λ s. slice_index_or s.slots slot []) o []) there ∙ indexed one.slots slot found is

-- each has at most so many sectors
pub sectors_within : (most : ℕ) (stores : List Stored) (k : ℕ) (one : Stored) → AllByRecursion (λ s. s.dbd.sectors ≤ most) stores → slice_get stores k ≡ Some one → one.dbd.sectors ≤ most
sectors_within most [] k one each found = absurd (none-some {A = Stored} one found)
sectors_within most (s ∷ stores) zero one each found = subst (λ (x : Stored). x.dbd.sectors ≤ most) (same_Some s one found) each.0
sectors_within most (s ∷ stores) (suc k) one each found = sectors_within most stores k one each.1 found

pub slot_at : (dbd : Dbd) (slots : List (List Row)) (k : ℕ) → AllByRecursion (IsSlot dbd) slots → IsSlot dbd (slice_index_or slots k [])
slot_at dbd [] k are = inl refl
slot_at dbd (image ∷ slots) zero are = are.0
slot_at dbd (image ∷ slots) (suc k) are = slot_at dbd slots k are.1

short_slot : (dbd : Dbd) (rows : List Row) → dbd.sectors ≤ 8 → IsSlot dbd rows → length (rows_spelling rows) ≤ 32000
short_slot dbd rows few is =
    ⊎_elim
    (λ (none : rows ≡ []). subst (λ (l : List Row). length (rows_spelling l) ≤ 32000) (sym none) (omega arith))
    (λ valid. omega (arith, valid.within, few))
    is

-- it has at most 32,000 bytes
pub image_short : (stores : List Stored) (db slot : ℕ) (one : Stored) → AllByRecursion HasFewSectors stores → slice_get stores (db - 1) ≡ Some one → AreSlots one.dbd one.slots → length (rows_spelling (image_in stores db slot)) ≤ 32000
image_short stores db slot one each there are =
    subst (λ (rows : List Row). length (rows_spelling rows) ≤ 32000)
    (sym (ap (λ (o : Option Stored). option_map_or (λ s. slice_index_or s.slots slot []) o []) there))
    (short_slot one.dbd (slice_index_or one.slots slot []) (sectors_within 8 stores (db - 1) one each there) (slot_at one.dbd one.slots slot are.each))
