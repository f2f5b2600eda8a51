-- Slots of the stores, by database and number, are the slots of the system's databases.
use Rattle.std.proofs.Common.{◌≡◌, ℕ, ◌+◌, ◌-◌, ◌<◌, ◌≤◌, Bool, true, false, ◌||◌, ◌&&◌, List, [], ◌∷◌, length, map, refl, sym, ◌∙◌, ap, subst, arith, Some, None}
use Rattle.std.specs.Prelude.{Option, ◌==◌, slice_get, slice_index_or, if◌then◌else◌}
use Rattle.std.specs.List.{list_any, AllByRecursion}
use Rattle.std.specs.Option.{option_map_or}
use Rattle.tm_types.specs.declared.dbd.Dbd.{Dbd}
use Rattle.model_data.specs.declared.row.Row.{Row}
use Rattle.model_data.specs.Record as rows
use Rattle.model_system.specs.System.{System}
use Rattle.seg_store.specs.Slots.{Stored, AreSlots}
use Rattle.unit_work.specs.Images.{slots_of_database, image_bytes_at, IsSlotOf}
use Rattle.unit_work.specs.declared.change.Change.{Change}
use Rattle.unit_work.specs.Changes.{is_slot_before, is_slot, is_seen}
use Rattle.disk_law.specs.Life as life
use Rattle.disk_law.proofs.Changing.{IsKnownSlot}
use Rattle.disk_law.proofs.Recovering.{all_at, dbd_found}
use Rattle.disk_law.proofs.Stored.{store_of}

-- ---- a slot that is there is one of a database

there_by : (stores : List Stored) (dbds : List Dbd) → map (λ s. s.dbd) stores ≡ dbds → AllByRecursion (λ s. AreSlots s.dbd s.slots) stores
    → (system : System) → dbds ≡ system.databases → (d s : ℕ) → 1 ≤ d → (found : Option Stored) → slice_get stores (d - 1) ≡ found → s < length (option_map_or (λ x. x.slots) found []) → IsKnownSlot system d s
there_by stores dbds are valid system same d s least None found within = absurd (omega (arith, within))
there_by stores dbds are valid system same d s least (Some store) found within =
    let slots = all_at (λ (x : Stored). AreSlots x.dbd x.slots) stores (d - 1) store valid found in
    record {
      place = d - 1;
      is = omega (arith, least);
      dbd = store.dbd;
      found = dbd_found stores system.databases (d - 1) store (are ∙ same) found;
      below = omega (arith, within, slots.count);
    }

module _ (system : System) (stores : List Stored) (are : map (λ s. s.dbd) stores ≡ system.databases) (valid : AllByRecursion (λ s. AreSlots s.dbd s.slots) stores) where
  pub known_of : (d s : ℕ) → IsSlotOf stores d s → IsKnownSlot system d s
  known_of d s there = there_by stores system.databases are valid system refl d s there.least (slice_get stores (d - 1)) refl there.within

  slots_of_place : (place : ℕ) → slots_of_database (place + 1) stores ≡ option_map_or (λ s. s.slots) (slice_get stores place) []
  slots_of_place place = ap (λ k. option_map_or (λ (s : Stored). s.slots) (slice_get stores k) []) (omega arith)

  pub there_of : (d s : ℕ) → IsKnownSlot system d s → IsSlotOf stores d s
  there_of d s known =
      let of_ = store_of stores system.databases known.place known.dbd are known.found in
      let slots = all_at (λ (x : Stored). AreSlots x.dbd x.slots) stores known.place of_.store valid of_.found in
      let same : slots_of_database d stores ≡ of_.store.slots = ap (λ k. slots_of_database k stores) known.is ∙ slots_of_place known.place ∙ ap (λ (o : Option Stored). option_map_or (λ (s : Stored). s.slots) o []) of_.found in
      let below : s < of_.store.dbd.roots = subst (λ (dbd : Dbd). s < dbd.roots) (sym of_.is) known.below in
      record { least = omega (arith, known.is); within = omega (arith, below, slots.count, ap (λ (l : List (List Row)). length l) same) }

-- the bytes in a slot, by the place of its database
pub bytes_of_place : (stores : List Stored) (place number : ℕ) → image_bytes_at (place + 1) number stores ≡ life.store_bytes_at stores place number
bytes_of_place stores place number = ap (λ k. rows.rows_spelling (slice_index_or (option_map_or (λ (s : Stored). s.slots) (slice_get stores k) []) number [])) (omega arith)

-- ---- slots that are kept

-- whether a slot is among these
abbrev pub is_among : ℕ → ℕ → List Change → Bool
is_among d s slots = list_any (is_slot d s) slots

pub unseen : (d s : ℕ) (slots : List Change) → is_among d s slots ≡ false → is_seen d s slots ≡ false
unseen d s [] none = refl
unseen d s (c ∷ slots) none = by (is_slot d s c) (is_among d s slots) (is_slot_before d s c) none (unseen d s slots) where
  by : (here later before : Bool) → here || later ≡ false → (later ≡ false → is_seen d s slots ≡ false) → (if before then is_seen d s slots else here) ≡ false
  by true later before e more = absurd cc
  by false later true e more = more e
  by false later false e more = refl

pub among_seen : (d s : ℕ) (slots : List Change) → is_seen d s slots ≡ true → is_among d s slots ≡ true
among_seen d s slots seen = by (is_among d s slots) refl where
  by : (b : Bool) → is_among d s slots ≡ b → b ≡ true
  by true e = refl
  by false e = let clash : true ≡ false = sym seen ∙ unseen d s slots e in absurd cc

-- what holds of each of them holds of one that is among them
pub record IsAmong (P : Change → Type 0) (d s : ℕ) : Type 0 where
  pub slot : Change
  pub database : slot.db ≡ d
  pub number : slot.slot ≡ s
  pub holds : P slot

pub among_holds : (P : Change → Type 0) (d s : ℕ) (slots : List Change) → AllByRecursion P slots → is_among d s slots ≡ true → IsAmong P d s
among_holds P d s [] all among = absurd cc
among_holds P d s (c ∷ slots) all among = by (c.db == d) (c.slot == s) refl refl among (among_holds P d s slots all.1) where
  by : (a b : Bool) → c.db == d ≡ a → c.slot == s ≡ b → (a && b) || is_among d s slots ≡ true → (is_among d s slots ≡ true → IsAmong P d s) → IsAmong P d s
  by true true e f more later = record { slot = c; database = Rattle.std.proofs.lemmas.Bool.eqb-true c.db d e; number = Rattle.std.proofs.lemmas.Bool.eqb-true c.slot s f; holds = all.0 }
  by true false e f more later = later more
  by false b e f more later = later more

-- of two facts on each a third one
pub all_two : {X : Type 0} (P Q R : X → Type 0) → ((x : X) → P x → Q x → R x) → (xs : List X) → AllByRecursion P xs → AllByRecursion Q xs → AllByRecursion R xs
all_two P Q R both [] p q = tt
all_two P Q R both (x ∷ xs) p q = (both x p.0 q.0, all_two P Q R both xs p.1 q.1)

-- a fact on the slot of each holds of a slot that is among them
pub among_at : (P : ℕ → ℕ → Type 0) (d s : ℕ) (slots : List Change) → AllByRecursion (λ c. P c.db c.slot) slots → is_among d s slots ≡ true → P d s
among_at P d s slots all among =
    let at = among_holds (λ c. P c.db c.slot) d s slots all among in
    subst (λ k. P d k) at.number (subst (λ k. P k at.slot.slot) at.database at.holds)
