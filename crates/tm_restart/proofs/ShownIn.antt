-- The tables of a life that begins show its state, which can be spelled.
use Rattle.std.proofs.Common.{◌≡◌, ℕ, suc, Bool, false, List, [], ◌∷◌, length, map, refl, sym, ◌∙◌, ap, subst, replicate, None}
use Rattle.std.specs.Prelude.{All}
use Rattle.std.specs.List.{AllByRecursion}
use Rattle.std.proofs.lemmas.List.{length-map}
use Rattle.std.proofs.lemmas.List.Elements.{All-head, All-tail}
use Rattle.tm_types.specs.declared.dbd.Dbd.{Dbd}
use Rattle.model_messages.specs.Queue.{QueuesState, messages_of}
use Rattle.model_system.specs.declared.code.Code.{Code}
use Rattle.model_system.specs.declared.code_state.CodeState.{CodeState}
use Rattle.model_system.specs.System.{System}
use Rattle.model_machine.specs.Machine.{LastingState, setting_of, states_of, start_of, raised_now, waiting_now}
use Rattle.seg_store.specs.Slots.{Stored}
use Rattle.system_types.specs.ValidSystem.{IsSystem, IsDatabase}
use Rattle.checkpointing.specs.SnapshotRecords.{IsOfSystem}
use Rattle.checkpointing.specs.SpelledRecords.{IsWritable}
use Rattle.checkpointing.specs.Touches.{HasFewSectors}
use Rattle.checkpointing.proofs.Viewed.{free_messages, settings_shown}
use Rattle.openings.specs.OpeningParts.{OpeningParts, AreOpeningParts}
use Rattle.tm_restart.specs.PreparedLife.{state_in}

flags_length : (waiting : List ℕ → ℕ) (codes : List Code) → length (raised_now waiting codes (map {A = Code} {B = Bool} (λ _. false) codes)) ≡ length codes
flags_length waiting [] = refl
flags_length waiting (code ∷ codes) = ap suc (flags_length waiting codes)

settings_back : (system : System) (state : LastingState) → IsOfSystem system state → map setting_of (states_of (start_of system state)) ≡ state.codes
settings_back system state of =
    let flags : List Bool = (start_of system state).raised in
    let counts : length flags ≡ length system.codes = flags_length (waiting_now state (replicate (length system.regions) None)) system.codes in
    settings_shown state.codes flags
    (sym (length-map state.codes (λ c. c.code)) ∙ ap length of.codes ∙ length-map system.codes (λ code. code.transaction.code) ∙ sym counts)

pub shown_in : (system : System) (state : LastingState) (parts : OpeningParts) → AreOpeningParts system state parts → IsOfSystem system state → state_in parts ≡ record state { rows = [] }
shown_in system state parts are of =
    let messages : messages_of parts.queues.queued ≡ state.messages = ap (λ (q : QueuesState). messages_of q.queued) are.queues ∙ free_messages state.messages in
    let codes : map setting_of parts.codes ≡ state.codes = ap (λ (states : List CodeState). map setting_of states) are.codes ∙ settings_back system state of in
    λ i. record {
      rows = [];
      messages = messages i;
      next_id = are.next_id i;
      terminals = are.terminals i;
      outputs = are.outputs i;
      conversations = are.conversations i;
      codes = codes i;
      steps = are.steps i;
    }

-- ---- what can be spelled

without_rows : (state : LastingState) → IsWritable state → IsWritable (record state { rows = [] })
without_rows state is = record {
  outputs = is.outputs;
  conversations = is.conversations;
  pads = is.pads;
  counted = record { messages = is.counted.messages; replies = is.counted.replies };
}

pub writable_in : (system : System) (state : LastingState) (parts : OpeningParts) → AreOpeningParts system state parts → IsOfSystem system state → IsWritable state → IsWritable (state_in parts)
writable_in system state parts are of is = subst IsWritable (sym (shown_in system state parts are of)) (without_rows state is)

few_sectors_each : (stores : List Stored) → All IsDatabase (map (λ (s : Stored). s.dbd) stores) → AllByRecursion HasFewSectors stores
few_sectors_each [] all = tt
few_sectors_each (s ∷ stores) all =
    ((All-head IsDatabase s.dbd (map (λ (s : Stored). s.dbd) stores) all).few_sectors, few_sectors_each stores (All-tail IsDatabase s.dbd (map (λ (s : Stored). s.dbd) stores) all))

pub few_sectors_in : (system : System) (state : LastingState) (parts : OpeningParts) → IsSystem system → AreOpeningParts system state parts → AllByRecursion HasFewSectors parts.stores.stores
few_sectors_in system state parts defined are = few_sectors_each parts.stores.stores (subst (λ (dbds : List Dbd). All IsDatabase dbds) (sym are.databases) defined.databases)
