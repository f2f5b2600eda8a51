-- The parts that a life begins with, of what is kept.
use Rattle.std.proofs.Common.{◌≡◌, ℕ, ◌+◌, zero, suc, Bool, false, List, [], ◌∷◌, length, map, replicate, refl, sym, ◌∙◌, ap, Option, None, cond, ◌++◌, append_assoc, inl, inr}
use Rattle.std.specs.Prelude.{not, ◌&&◌, ◌⊎◌}
use Rattle.std.proofs.lemmas.List.{append-nil}
use Rattle.std.proofs.lemmas.List.Sums.{sum_by-cons}
use Rattle.std.specs.Str.{bytes_eq}
use Rattle.tm_types.specs.declared.dbd.Dbd.{Dbd}
use Rattle.tm_types.specs.declared.message.Message.{Message}
use Rattle.model_messages.specs.Queue.{QueuesState, is_free_of, free_count}
use Rattle.model_messages.specs.Waiting.{is_waiting, count_waiting}
use Rattle.model_system.specs.declared.code.Code.{Code}
use Rattle.model_system.specs.declared.code_state.CodeState.{CodeState}
use Rattle.model_system.specs.System.{System}
use Rattle.model_machine.specs.declared.lasting.CodeSetting.{CodeSetting}
use Rattle.model_machine.specs.Machine.{LastingState, Slot, is_held, states_by, states_of, start_of, raised_now, waiting_now}
use Rattle.image_records.specs.KeptState.{KeptState, kept_of, free_message}
use Rattle.seg_store.specs.Slots.{rows_of_slots}
use Rattle.seg_store.specs.ChangedSlots.{Kept, AllStores, stored, all_stores}
use Rattle.seg_store.specs.Stores.{no_changed}
use Rattle.openings.specs.OpeningParts.{OpeningParts, AreOpeningParts}
use Rattle.openings.specs.OpeningState.{opening_state, opening_states}

-- ---- the codes

-- no region has a message when a life starts
none_held : (regions id : ℕ) → is_held (replicate {A = Option Slot} regions None) id ≡ false
none_held zero id = refl
none_held (suc regions) id = none_held regions id

free_as_waiting : (regions : ℕ) (name : List ℕ) (message : Message) → is_free_of name (free_message message) ≡ is_waiting (is_held (replicate {A = Option Slot} regions None)) name message
free_as_waiting regions name message = ap (λ (held : Bool). bytes_eq message.code name && not held) (sym (none_held regions message.id))

-- those that no region has are those that wait in no slot
counted : (regions : ℕ) (name : List ℕ) (messages : List Message) → free_count name (map free_message messages) ≡ count_waiting (is_held (replicate {A = Option Slot} regions None)) name messages
counted regions name [] = refl
counted regions name (message ∷ messages) =
    sum_by-cons (λ q. cond (is_free_of name q) 1 0) (free_message message) (map free_message messages)
    ∙ (λ i. cond (free_as_waiting regions name message i) 1 0 + counted regions name messages i)
    ∙ sym (sum_by-cons (λ m. cond (is_waiting (is_held (replicate {A = Option Slot} regions None)) name m) 1 0) message messages)

-- the states are those of the settings, by the flags as a life starts
states_are : (free waiting : List ℕ → ℕ) → ((name : List ℕ) → free name ≡ waiting name) → (codes : List Code) (settings : List CodeSetting)
    → opening_states free codes settings ≡ states_by settings (raised_now waiting codes (map {A = Code} {B = Bool} (λ _. false) codes))
states_are free waiting same [] [] = refl
states_are free waiting same [] (setting ∷ settings) = refl
states_are free waiting same (code ∷ codes) [] = refl
states_are free waiting same (code ∷ codes) (setting ∷ settings) =
    ap (λ (n : ℕ). opening_state (λ _. n) code setting ∷ opening_states free codes settings) (same code.transaction.code)
    ∙ ap (λ (l : List CodeState). opening_state waiting code setting ∷ l) (states_are free waiting same codes settings)

pub opened_codes : (system : System) (kept : KeptState) (lasting : LastingState) → kept ≡ kept_of system lasting
    → opening_states (λ name. free_count name kept.queues.queued) system.codes kept.codes ≡ states_of (start_of system lasting)
opened_codes system kept lasting is =
    ap (λ (k : KeptState). opening_states (λ name. free_count name k.queues.queued) system.codes k.codes) is
    ∙ states_are (λ name. free_count name (map free_message lasting.messages)) (waiting_now lasting (replicate (length system.regions) None)) (λ name. counted (length system.regions) name lasting.messages) system.codes lasting.codes

-- the states that are made from these tables
pub opened_by : (system : System) (kept : KeptState) (lasting : LastingState) (codes : List Code) (settings : List CodeSetting) (queues : QueuesState) (states : List CodeState) → kept ≡ kept_of system lasting
    → codes ≡ system.codes → settings ≡ kept.codes → queues ≡ kept.queues → states ≡ opening_states (λ name. free_count name queues.queued) codes settings → states ≡ states_of (start_of system lasting)
opened_by system kept lasting codes settings queues states is codes_is settings_is queues_is made =
    made ∙ (λ i. opening_states (λ name. free_count name (queues_is i).queued) (codes_is i) (settings_is i)) ∙ opened_codes system kept lasting is

-- one state more is made
pub states_more : (waiting : List ℕ → ℕ) (made more : List CodeState) (code : Code) (setting : CodeSetting) (codes later : List Code) (settings rest : List CodeSetting) (whole : List CodeState)
    → codes ≡ code ∷ later → settings ≡ setting ∷ rest → more ≡ made ++ opening_state waiting code setting ∷ []
    → made ++ opening_states waiting codes settings ≡ whole → more ++ opening_states waiting later rest ≡ whole
states_more waiting made more code setting codes later settings rest whole codes_are settings_are added so_far =
    ap (λ (l : List CodeState). l ++ opening_states waiting later rest) added
    ∙ append_assoc made (opening_state waiting code setting ∷ []) (opening_states waiting later rest)
    ∙ (λ i. made ++ opening_states waiting (sym codes_are i) (sym settings_are i))
    ∙ so_far

none_left : (waiting : List ℕ → ℕ) (codes : List Code) → opening_states waiting codes [] ≡ []
none_left waiting [] = refl
none_left waiting (code ∷ codes) = refl

-- all are made
pub states_all : (waiting : List ℕ → ℕ) (made : List CodeState) (codes : List Code) (settings : List CodeSetting) (whole : List CodeState)
    → (codes ≡ []) ⊎ (settings ≡ []) → made ++ opening_states waiting codes settings ≡ whole → made ≡ whole
states_all waiting made codes settings whole (inl none) so_far =
    sym (append-nil made) ∙ ap (λ (l : List Code). made ++ opening_states waiting l settings) (sym none) ∙ so_far
states_all waiting made codes settings whole (inr none) so_far =
    sym (append-nil made) ∙ ap (λ (l : List CodeState). made ++ l) (sym (none_left waiting codes)) ∙ ap (λ (l : List CodeSetting). made ++ opening_states waiting codes l) (sym none) ∙ so_far

-- ---- the parts

dbds_stored : (stores : List Kept) → map (λ store. store.dbd) (map stored stores) ≡ map (λ store. store.dbd) stores
dbds_stored [] = refl
dbds_stored (store ∷ stores) = ap (λ (l : List Dbd). store.dbd ∷ l) (dbds_stored stores)

-- the parts of what is kept are those of the state, with the rows of the stores
pub parts_are : (system : System) (kept : KeptState) (stores : List Kept) (parts : OpeningParts) (lasting : LastingState) → kept ≡ kept_of system lasting
    → map (λ store. store.dbd) stores ≡ system.databases → map (λ store. store.changed) stores ≡ no_changed system.databases
    → parts.queues ≡ kept.queues → parts.outputs ≡ kept.outputs → parts.codes ≡ states_of (start_of system lasting) → parts.terminals ≡ kept.terminals
    → parts.conversations ≡ kept.conversations → parts.stores ≡ all_stores stores → parts.next_id ≡ kept.next_id → parts.steps ≡ kept.steps
    → AreOpeningParts system (record lasting { rows = map (λ store. rows_of_slots store.slots) (map stored stores) }) parts
parts_are system kept stores parts lasting is dbds changed queues outputs codes terminals conversations all next_id steps = record {
  queues = queues ∙ ap (λ (k : KeptState). k.queues) is;
  outputs = outputs ∙ ap (λ (k : KeptState). k.outputs) is;
  codes = codes;
  terminals = terminals ∙ ap (λ (k : KeptState). k.terminals) is;
  conversations = conversations ∙ ap (λ (k : KeptState). k.conversations) is;
  databases = ap (λ (s : AllStores). map (λ store. store.dbd) s.stores) all ∙ dbds_stored stores ∙ dbds;
  rows = ap (λ (s : AllStores). map (λ store. rows_of_slots store.slots) s.stores) all;
  written = ap (λ (s : AllStores). s.changed) all ∙ changed;
  next_id = next_id ∙ ap (λ (k : KeptState). k.next_id) is;
  steps = steps ∙ ap (λ (k : KeptState). k.steps) is;
}
