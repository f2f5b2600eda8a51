-- The tables of an empty control region.
use Rattle.std.proofs.Common.{◌≡◌, ℕ, suc, zero, List, [], ◌∷◌, refl, ap, ◌∙◌, map}
use Rattle.tm_types.specs.declared.dbd.Dbd.{Dbd}
use Rattle.model_data.specs.declared.row.Row.{Row}
use Rattle.seg_store.specs.Slots.{rows_of_slots, free_slots}
use Rattle.seg_store.specs.Stores.{empty_stores}
use Rattle.model_messages.specs.declared.conversation.TerminalConversation.{TerminalConversation}
use Rattle.model_messages.specs.Terminals.{without_conversation}
use Rattle.model_messages.specs.declared.replies.TerminalReplies.{TerminalReplies}
use Rattle.model_messages.specs.Queue.{QueuesState, messages_of}
use Rattle.model_messages.specs.Outputs.{fresh_terminal}
use Rattle.model_system.specs.System.{System}
use Rattle.model_machine.specs.declared.lasting.TerminalState.{TerminalState}
use Rattle.model_machine.specs.Machine.{fresh_terminal_state, first_setting, empty_state}
use Rattle.program_rows.specs.DatabasesState.{DatabasesState, rows_of_stores, dbds_of}
use Rattle.lasting_state.specs.Tables.{lasting_of}

rows_free : (count : ℕ) → rows_of_slots (free_slots count) ≡ []
rows_free zero = refl
rows_free (suc count) = rows_free count

rows_empty : (dbds : List Dbd) → rows_of_stores (empty_stores dbds) ≡ map {A = Dbd} {B = List Row} (λ _. []) dbds
rows_empty [] = refl
rows_empty (dbd ∷ dbds) = λ i. rows_free dbd.roots i ∷ rows_empty dbds i

dbds_empty : (dbds : List Dbd) → map (λ s. s.dbd) (empty_stores dbds) ≡ dbds
dbds_empty [] = refl
dbds_empty (dbd ∷ dbds) = ap (λ ds. dbd ∷ ds) (dbds_empty dbds)

pub fresh_dbds : (dbds : List Dbd) (databases : DatabasesState) → databases.stores ≡ empty_stores dbds → dbds_of databases ≡ dbds
fresh_dbds dbds databases e = ap (map (λ s. s.dbd)) e ∙ dbds_empty dbds

pub fresh_is : (system : System) (databases : DatabasesState) (queues : QueuesState) (terminals : List TerminalState) (outputs : List TerminalReplies) (conversations : List TerminalConversation)
    → databases.committed ≡ empty_stores system.databases → queues.queued ≡ [] → terminals ≡ map fresh_terminal_state system.terminals → outputs ≡ map fresh_terminal system.terminals → conversations ≡ map without_conversation system.terminals
    → lasting_of (map first_setting system.codes) (record { databases = databases; queues = queues; next_id = 1; terminals = terminals; outputs = outputs; conversations = conversations; steps = 0 }) ≡ empty_state system
fresh_is system databases queues terminals outputs conversations d q i o v =
    λ j. record {
      rows = (ap rows_of_stores d ∙ rows_empty system.databases) j;
      messages = ap messages_of q j;
      next_id = 1;
      terminals = i j;
      outputs = o j;
      conversations = v j;
      codes = map first_setting system.codes;
      steps = 0;
    }
