-- Stores changed slot by slot.
use Rattle.std.proofs.Common.{◌≡◌, ℕ, ◌+◌, ◌-◌, ◌<◌, ◌≤◌, ◌∷◌, [], List, length, map, zero, suc, refl, sym, ◌∙◌, ap, subst, Option, None, Some, arith, get_or}
use Rattle.std.specs.List.{slice_get}
use Rattle.std.specs.Option.{option_map_or}
use Rattle.model_data.specs.declared.row.Row.{Row}
use Rattle.seg_store.specs.Slots.{Stored}
use Rattle.unit_work.specs.declared.change.Change.{Change}
use Rattle.unit_work.specs.BackOut.{cleared_slot, backed_slot, cleared_slots, backed_slots, cleared_from, backed_from, backed_out}
use Rattle.unit_work.specs.Images.{slots_of_database, image_at}

-- what a change makes of the image in a slot, by the number of the database and the slot
abbrev pub SlotChange : Type 0
SlotChange = ℕ → ℕ → List Row → List Row

abbrev pub each_slot : SlotChange → ℕ → ℕ → List (List Row) → List (List Row)
each_slot f db n [] = []
each_slot f db n (image ∷ slots) = f db n image ∷ each_slot f db (suc n) slots

abbrev pub each_store : SlotChange → ℕ → List Stored → List Stored
each_store f db [] = []
each_store f db (s ∷ stores) = record { dbd = s.dbd; slots = each_slot f db 0 s.slots } ∷ each_store f (suc db) stores

-- backing out is such a change
abbrev pub back : List Change → ℕ → ℕ → List Row → List Row
back records db slot image = backed_slot records db slot (cleared_slot records db image)

back_slots : (records : List Change) (db n : ℕ) (slots : List (List Row)) → backed_slots records db n (cleared_slots records db slots) ≡ each_slot (back records) db n slots
back_slots records db n [] = refl
back_slots records db n (image ∷ slots) = ap (λ xs. back records db n image ∷ xs) (back_slots records db (suc n) slots)

back_stores : (records : List Change) (n : ℕ) (stores : List Stored) → backed_from records n (cleared_from records n stores) ≡ each_store (back records) n stores
back_stores records n [] = refl
back_stores records n (s ∷ stores) = λ t. record { dbd = s.dbd; slots = back_slots records n 0 s.slots t } ∷ back_stores records (suc n) stores t

pub backed_is : (records : List Change) (stores : List Stored) → backed_out records stores ≡ each_store (back records) 1 stores
backed_is records stores = back_stores records 1 stores

-- two changes, one after the other
module _ (f g : SlotChange) where
  twice_slots : (db n : ℕ) (slots : List (List Row)) → each_slot f db n (each_slot g db n slots) ≡ each_slot (λ d m x. f d m (g d m x)) db n slots
  twice_slots db n [] = refl
  twice_slots db n (image ∷ slots) = ap (λ xs. f db n (g db n image) ∷ xs) (twice_slots db (suc n) slots)

  pub twice : (n : ℕ) (stores : List Stored) → each_store f n (each_store g n stores) ≡ each_store (λ d m x. f d m (g d m x)) n stores
  twice n [] = refl
  twice n (s ∷ stores) = λ t. record { dbd = s.dbd; slots = twice_slots n 0 s.slots t } ∷ twice (suc n) stores t

  -- two changes that make the same of each image that is there
  alike_slots : (db n : ℕ) (slots : List (List Row)) → ((m : ℕ) → m < length slots → f db (n + m) (get_or slots m []) ≡ g db (n + m) (get_or slots m []))
      → each_slot f db n slots ≡ each_slot g db n slots
  alike_slots db n [] h = refl
  alike_slots db n (image ∷ slots) h =
      let here : n + 0 ≡ n = omega arith in
      let first : f db n image ≡ g db n image = subst (λ k. f db k image ≡ g db k image) here (h 0 (omega arith)) in
      λ t. first t
      ∷ alike_slots db (suc n) slots
      (λ m lt. let next : n + suc m ≡ suc n + m = omega arith in subst (λ k. f db k (get_or slots m []) ≡ g db k (get_or slots m [])) next (h (suc m) (omega arith))) t

  alike_stores : (n : ℕ) (stores : List Stored)
      → ((i m : ℕ) (s : Stored) → slice_get stores i ≡ Some s → m < length s.slots → f (n + i) m (get_or s.slots m []) ≡ g (n + i) m (get_or s.slots m []))
      → each_store f n stores ≡ each_store g n stores
  alike_stores n [] h = refl
  alike_stores n (s ∷ stores) h =
      let here : n + 0 ≡ n = omega arith in
      λ t. record {
        dbd = s.dbd;
        slots = alike_slots n 0 s.slots
            (λ m lt. let zero_m : m ≡ 0 + m = omega arith in
            subst (λ k. f n k (get_or s.slots m []) ≡ g n k (get_or s.slots m [])) zero_m
            (subst (λ k. f k m (get_or s.slots m []) ≡ g k m (get_or s.slots m [])) here (h 0 m s refl lt))) t;
      }
      ∷ alike_stores (suc n) stores
      (λ i m x e lt. let next : n + suc i ≡ suc n + i = omega arith in subst (λ k. f k m (get_or x.slots m []) ≡ g k m (get_or x.slots m [])) next (h (suc i) m x e lt)) t

  -- by the images in the slots
  pub alike : (stores : List Stored) → ((db slot : ℕ) → 1 ≤ db → slot < length (slots_of_database db stores) → f db slot (image_at db slot stores) ≡ g db slot (image_at db slot stores))
      → each_store f 1 stores ≡ each_store g 1 stores
  alike stores h =
      alike_stores 1 stores
      (λ i m s e lt.
      let place : (1 + i) - 1 ≡ i = omega arith in
      let at : slots_of_database (1 + i) stores ≡ s.slots = ap (λ k. option_map_or (λ (x : Stored). x.slots) (slice_get stores k) []) place ∙ ap (λ o. option_map_or (λ (x : Stored). x.slots) o []) e in
      subst (λ xs. f (1 + i) m (get_or xs m []) ≡ g (1 + i) m (get_or xs m [])) at
      (h (1 + i) m (omega arith) (subst (λ xs. m < length xs) (sym at) lt)))

-- the slots after a change
module _ (f : SlotChange) where
  pub slots_length : (db n : ℕ) (slots : List (List Row)) → length (each_slot f db n slots) ≡ length slots
  slots_length db n [] = refl
  slots_length db n (image ∷ slots) = ap (λ k. suc k) (slots_length db (suc n) slots)

  pub stores_length : (n : ℕ) (stores : List Stored) → length (each_store f n stores) ≡ length stores
  stores_length n [] = refl
  stores_length n (s ∷ stores) = ap (λ k. suc k) (stores_length (suc n) stores)

  slot_of_each : (db n m : ℕ) (slots : List (List Row)) → m < length slots → get_or (each_slot f db n slots) m [] ≡ f db (n + m) (get_or slots m [])
  slot_of_each db n m [] lt = absurd (omega arith)
  slot_of_each db n zero (image ∷ slots) lt = let here : n ≡ n + 0 = omega arith in ap (λ k. f db k image) here
  slot_of_each db n (suc m) (image ∷ slots) lt =
      let next : suc n + m ≡ n + suc m = omega arith in slot_of_each db (suc n) m slots (omega arith) ∙ ap (λ k. f db k (get_or slots m [])) next

  store_of_each : (n i k : ℕ) (stores : List Stored) (s : Stored) → k ≡ n + i → slice_get stores i ≡ Some s
      → slice_get (each_store f n stores) i ≡ Some (record { dbd = s.dbd; slots = each_slot f k 0 s.slots })
  store_of_each n i k [] s e g = let clash : None ≡ Some s = g in absurd (cc)
  store_of_each n zero k (x ∷ stores) s e g =
      let same : Some x ≡ Some s = g in
      let parts : x ≡ s = cc in
      let here : n ≡ k = omega arith in
      λ t. Some (record { dbd = (parts t).dbd; slots = each_slot f (here t) 0 (parts t).slots })
  store_of_each n (suc i) k (x ∷ stores) s e g = store_of_each (suc n) i k stores s (omega arith) g

  -- the store of a number
  pub each_there : (db : ℕ) (stores : List Stored) (s : Stored) → 1 ≤ db → slice_get stores (db - 1) ≡ Some s
      → slice_get (each_store f 1 stores) (db - 1) ≡ Some (record { dbd = s.dbd; slots = each_slot f db 0 s.slots })
  each_there db stores s least g = store_of_each 1 (db - 1) db stores s (omega (arith, least)) g

  none_of_each : (n i : ℕ) (stores : List Stored) → slice_get stores i ≡ None → slice_get (each_store f n stores) i ≡ None
  none_of_each n i [] g = refl
  none_of_each n zero (x ∷ stores) g = let clash : Some x ≡ None = g in absurd (cc)
  none_of_each n (suc i) (x ∷ stores) g = none_of_each (suc n) i stores g

  pub slots_at_each : (db : ℕ) (stores : List Stored) → 1 ≤ db → slots_of_database db (each_store f 1 stores) ≡ each_slot f db 0 (slots_of_database db stores)
  slots_at_each db stores least = by (slice_get stores (db - 1)) refl
    where
      by : (o : Option Stored) → slice_get stores (db - 1) ≡ o → slots_of_database db (each_store f 1 stores) ≡ each_slot f db 0 (slots_of_database db stores)
      by None e =
          ap (λ o. option_map_or (λ (x : Stored). x.slots) o []) (none_of_each 1 (db - 1) stores e)
          ∙ sym (ap (λ o. each_slot f db 0 (option_map_or (λ (x : Stored). x.slots) o [])) e)
      by (Some s) e =
          ap (λ o. option_map_or (λ (x : Stored). x.slots) o []) (each_there db stores s least e)
          ∙ sym (ap (λ o. each_slot f db 0 (option_map_or (λ (x : Stored). x.slots) o [])) e)

  pub image_at_each : (db slot : ℕ) (stores : List Stored) → 1 ≤ db → slot < length (slots_of_database db stores) → image_at db slot (each_store f 1 stores) ≡ f db slot (image_at db slot stores)
  image_at_each db slot stores least lt =
      let zero_slot : 0 + slot ≡ slot = omega arith in
      ap (λ xs. get_or xs slot []) (slots_at_each db stores least) ∙ (slot_of_each db 0 slot (slots_of_database db stores) lt ∙ ap (λ k. f db k (image_at db slot stores)) zero_slot)

  pub slots_at_length : (db : ℕ) (stores : List Stored) → 1 ≤ db → length (slots_of_database db (each_store f 1 stores)) ≡ length (slots_of_database db stores)
  slots_at_length db stores least = ap length (slots_at_each db stores least) ∙ slots_length db 0 (slots_of_database db stores)

  pub dbds_each : (n : ℕ) (stores : List Stored) → map (λ (s : Stored). s.dbd) (each_store f n stores) ≡ map (λ (s : Stored). s.dbd) stores
  dbds_each n [] = refl
  dbds_each n (s ∷ stores) = ap (λ ds. s.dbd ∷ ds) (dbds_each (suc n) stores)
