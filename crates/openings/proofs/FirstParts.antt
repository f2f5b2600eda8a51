-- What an empty machine begins with.
use Rattle.std.proofs.Common.{◌≡◌, ℕ, zero, suc, Bool, false, List, [], ◌∷◌, map, refl, sym, ◌∙◌, ap}
use Rattle.tm_types.specs.declared.dbd.Dbd.{Dbd}
use Rattle.model_data.specs.declared.row.Row.{Row}
use Rattle.model_messages.specs.Terminals.{without_conversation}
use Rattle.model_messages.specs.Outputs.{fresh_terminal}
use Rattle.model_system.specs.declared.code.Code.{Code}
use Rattle.model_system.specs.declared.code_state.CodeState.{CodeState}
use Rattle.model_system.specs.System.{System}
use Rattle.model_machine.specs.Machine.{empty_state, fresh_terminal_state, first_setting, states_by, states_of, start_of, code_state_by, raised_by, raised_now}
use Rattle.system_types.specs.Codes.{first_state}
use Rattle.seg_store.specs.Slots.{Stored, rows_of_slots, free_slots}
use Rattle.seg_store.specs.Stores.{empty_stores, no_changed}
use Rattle.openings.specs.OpeningParts.{OpeningParts, AreOpeningParts}

-- ---- the flags

not_raised : (code : Code) (waiting : ℕ) → waiting ≡ 0 → raised_by code.transaction waiting false ≡ false
not_raised code waiting none = rw (none) refl

states_first : (waiting : List ℕ → ℕ) → ((code : List ℕ) → waiting code ≡ 0) → (codes : List Code) → states_by (map first_setting codes) (raised_now waiting codes (map {A = Code} {B = Bool} (λ _. false) codes)) ≡ map first_state codes
states_first waiting none [] = refl
states_first waiting none (code ∷ codes) =
    ap (λ (raised : Bool). code_state_by (first_setting code) raised ∷ states_by (map first_setting codes) (raised_now waiting codes (map {A = Code} {B = Bool} (λ _. false) codes))) (not_raised code (waiting code.transaction.code) (none code.transaction.code))
    ∙ ap (λ (states : List CodeState). first_state code ∷ states) (states_first waiting none codes)

-- no flag is raised in the empty machine
states_empty : (system : System) → states_of (start_of system (empty_state system)) ≡ map first_state system.codes
states_empty system = states_first (λ code. 0) (λ code. refl) system.codes

-- ---- the databases

rows_free : (count : ℕ) → rows_of_slots (free_slots count) ≡ []
rows_free zero = refl
rows_free (suc count) = rows_free count

rows_empty : (dbds : List Dbd) → map (λ store. rows_of_slots store.slots) (empty_stores dbds) ≡ map {A = Dbd} {B = List Row} (λ _. []) dbds
rows_empty [] = refl
rows_empty (dbd ∷ dbds) = λ i. rows_free dbd.roots i ∷ rows_empty dbds i

dbds_empty : (dbds : List Dbd) → map (λ store. store.dbd) (empty_stores dbds) ≡ dbds
dbds_empty [] = refl
dbds_empty (dbd ∷ dbds) = ap (λ (ds : List Dbd). dbd ∷ ds) (dbds_empty dbds)

-- the parts of the empty machine
pub parts_are : (system : System) (parts : OpeningParts) → parts.queues.limit ≡ system.qbytes → parts.queues.queued ≡ [] → parts.outputs ≡ map fresh_terminal system.terminals → parts.codes ≡ map first_state system.codes
    → parts.terminals ≡ map fresh_terminal_state system.terminals → parts.conversations ≡ map without_conversation system.terminals → parts.stores.stores ≡ empty_stores system.databases → parts.stores.changed ≡ no_changed system.databases
    → parts.next_id ≡ 1 → parts.steps ≡ 0 → AreOpeningParts system (empty_state system) parts
parts_are system parts limit queued outputs codes terminals conversations stores changed next_id steps = record {
  queues = λ i. record { limit = limit i; queued = queued i };
  outputs = outputs;
  codes = codes ∙ sym (states_empty system);
  terminals = terminals;
  conversations = conversations;
  databases = ap (λ (all : List Stored). map (λ store. store.dbd) all) stores ∙ dbds_empty system.databases;
  rows = ap (λ (all : List Stored). map (λ store. rows_of_slots store.slots) all) stores ∙ rows_empty system.databases;
  written = changed;
  next_id = next_id;
  steps = steps;
}
