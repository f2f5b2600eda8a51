-- The stores that were loaded, and what is kept of a state.
use Rattle.std.proofs.Common.{◌≡◌, List, [], ◌∷◌, map, refl, ◌∙◌, ap, Some, take, arith, ℕ, zero, suc, ◌+◌, ◌++◌}
use Rattle.std.specs.Prelude.{slice_get}
use Rattle.tm_types.specs.declared.dbd.Dbd.{Dbd}
use Rattle.tm_types.specs.declared.message.Message.{Message}
use Rattle.model_data.specs.declared.row.Row.{Row}
use Rattle.model_messages.specs.Queue.{messages_of}
use Rattle.model_system.specs.System.{System}
use Rattle.model_machine.specs.Machine.{LastingState}
use Rattle.seg_store.specs.Slots.{rows_of_slots}
use Rattle.seg_store.specs.ChangedSlots.{Kept, stored}
use Rattle.seg_store.specs.Stores.{no_changed}
use Rattle.image_loading.specs.LoadedStores.{AreAllMade}
use Rattle.image_records.specs.KeptState.{KeptState, KeepsState, kept_of, free_message}
use Rattle.openings.specs.OpeningState.{shown_state}

-- the databases of the stores are those that were loaded
pub dbds_made : (dbds : List Dbd) (stores : List Kept) → AreAllMade dbds stores → map (λ store. store.dbd) stores ≡ dbds
dbds_made [] [] all = refl
dbds_made [] (s ∷ stores) all = absurd all
dbds_made (d ∷ dbds) [] all = absurd all
dbds_made (d ∷ dbds) (s ∷ stores) all = λ i. all.0.database i ∷ dbds_made dbds stores all.1 i

-- no slot counts as changed
pub none_changed_made : (dbds : List Dbd) (stores : List Kept) → AreAllMade dbds stores → map (λ store. store.changed) stores ≡ no_changed dbds
none_changed_made [] [] all = refl
none_changed_made [] (s ∷ stores) all = absurd all
none_changed_made (d ∷ dbds) [] all = absurd all
none_changed_made (d ∷ dbds) (s ∷ stores) all = λ i. all.0.none_changed i ∷ none_changed_made dbds stores all.1 i

-- messages that no region has, without their holders
pub free_back : (messages : List Message) → messages_of (map free_message messages) ≡ messages
free_back [] = refl
free_back (message ∷ messages) = ap (λ (l : List Message). message ∷ l) (free_back messages)

abbrev with_messages : List (List Row) → LastingState → List Message → LastingState
with_messages rows lasting messages = record lasting { rows = rows; messages = messages }

-- the tables of a state show it
pub shown_back : (system : System) (kept : KeptState) (lasting : LastingState) (rows : List (List Row)) → kept ≡ kept_of system lasting → shown_state kept rows ≡ record lasting { rows = rows }
shown_back system kept lasting rows is = ap (λ (k : KeptState). shown_state k rows) is ∙ ap (with_messages rows lasting) (free_back lasting.messages)

-- the tables keep a state whatever its rows
pub kept_again : (system : System) (lasting : LastingState) (rows : List (List Row)) (kept : KeptState) → KeepsState system lasting kept → KeepsState system (record lasting { rows = rows }) kept
kept_again system lasting rows kept keeps = record { is = keeps.is; sound = keeps.sound }

-- the rows of the stores
pub rows_stored : (stores : List Kept) → map (λ store. rows_of_slots store.slots) (map stored stores) ≡ map (λ store. rows_of_slots store.slots) stores
rows_stored [] = refl
rows_stored (store ∷ stores) = ap (λ (l : List (List Row)). rows_of_slots store.slots ∷ l) (rows_stored stores)

pub take_next : {X : Type 0} (xs : List X) (i : ℕ) (x : X) → slice_get xs i ≡ Some x → take (i + 1) xs ≡ take i xs ++ x ∷ []
take_next {X = X} xs i x found = let next : i + 1 ≡ suc i = omega arith in ap (λ k. take k xs) next ∙ by xs i found where
  by : (ys : List X) (k : ℕ) → slice_get ys k ≡ Some x → take (suc k) ys ≡ take k ys ++ x ∷ []
  by [] k e = cc
  by (y ∷ ys) zero e = let same : y ≡ x = cc in ap (λ z. z ∷ []) same
  by (y ∷ ys) (suc k) e = ap (λ zs. y ∷ zs) (by ys k e)
