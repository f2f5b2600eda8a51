-- The rows of a store, from the last slot to the first.
use Rattle.std.proofs.Common.{◌≡◌, ℕ, ◌≤◌, zero, suc, List, [], ◌∷◌, length, drop, get_or, None, refl, sym, ◌∙◌, ap, arith}
use Rattle.std.specs.List.{slice_get}
use Rattle.std.proofs.lemmas.List.{drop_all}
use Rattle.model_data.specs.declared.row.Row.{Row}
use Rattle.seg_store.specs.Slots.{rows_of_slots, with_rows}

-- past the last slot there is none
pub none_at : (slots : List (List Row)) (slot : ℕ) → slice_get slots slot ≡ None → get_or slots slot [] ≡ []
none_at [] zero e = refl
none_at [] (suc slot) e = refl
none_at (image ∷ slots) zero e = cc
none_at (image ∷ slots) (suc slot) e = none_at slots slot e

slot_more : (slots : List (List Row)) (slot : ℕ) → with_rows (get_or slots slot []) (rows_of_slots (drop (suc slot) slots)) ≡ rows_of_slots (drop slot slots)
slot_more [] zero = refl
slot_more [] (suc slot) = refl
slot_more (image ∷ slots) zero = refl
slot_more (image ∷ slots) (suc slot) = slot_more slots slot

pub rows_begin : (slots : List (List Row)) (count : ℕ) (rows : List Row) → length slots ≤ count → rows ≡ [] → rows ≡ rows_of_slots (drop count slots)
rows_begin slots count rows enough none = none ∙ sym (ap rows_of_slots (drop_all count slots enough))

pub rows_more : (slots : List (List Row)) (slot behind : ℕ) (rows more : List Row) → behind ≡ suc slot → rows ≡ rows_of_slots (drop behind slots) → more ≡ with_rows (get_or slots slot []) rows → more ≡ rows_of_slots (drop slot slots)
rows_more slots slot behind rows more next so_far added =
    added
    ∙ ap (λ (l : List Row). with_rows (get_or slots slot []) l) (so_far ∙ ap (λ n. rows_of_slots (drop n slots)) next)
    ∙ slot_more slots slot

pub rows_whole : (slots : List (List Row)) (slot : ℕ) (rows : List Row) → slot ≤ 0 → rows ≡ rows_of_slots (drop slot slots) → rows ≡ rows_of_slots slots
rows_whole slots zero rows first so_far = so_far ∙ at_first slots
  where
    at_first : (slots : List (List Row)) → rows_of_slots (drop 0 slots) ≡ rows_of_slots slots
    at_first [] = refl
    at_first (image ∷ slots) = refl
rows_whole slots (suc slot) rows first so_far = absurd (omega (arith, first))
