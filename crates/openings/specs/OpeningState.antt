-- What lasts, as the tables of what is kept show it.
use Rattle.std.specs.Prelude.{ℕ, false, List, [], ◌∷◌}
use Rattle.model_data.specs.declared.row.Row.{Row}
use Rattle.model_messages.specs.Queue.{messages_of}
use Rattle.model_system.specs.declared.code.Code.{Code}
use Rattle.model_system.specs.declared.code_state.CodeState.{CodeState}
use Rattle.model_machine.specs.declared.lasting.CodeSetting.{CodeSetting}
use Rattle.model_machine.specs.Machine.{LastingState, code_state_by, raised_by}
use Rattle.image_records.specs.KeptState.{KeptState}

-- the state that these tables show, with these rows
abbrev pub shown_state : KeptState → List (List Row) → LastingState
shown_state kept rows = record {
  rows = rows;
  messages = messages_of kept.queues.queued;
  next_id = kept.next_id;
  terminals = kept.terminals;
  outputs = kept.outputs;
  conversations = kept.conversations;
  codes = kept.codes;
  steps = kept.steps;
}

-- The state of a code of which so many messages wait when a life begins.
abbrev pub opening_state : (List ℕ → ℕ) → Code → CodeSetting → CodeState
opening_state waiting code setting = code_state_by setting (raised_by code.transaction (waiting code.transaction.code) false)

-- the same for codes with their settings, in the order of the definition
abbrev pub opening_states : (List ℕ → ℕ) → List Code → List CodeSetting → List CodeState
opening_states waiting [] settings = []
opening_states waiting (code ∷ codes) [] = []
opening_states waiting (code ∷ codes) (setting ∷ settings) = opening_state waiting code setting ∷ opening_states waiting codes settings
