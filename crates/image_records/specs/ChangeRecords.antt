-- Which records of a snapshot tell of changes, and what others tell of a terminal or a code.
use Rattle.std.specs.Prelude.{◌≡◌, ℕ, Bool, true, false, List, map}
use Rattle.model_messages.specs.declared.replies.TerminalReplies.{TerminalReplies}
use Rattle.model_messages.specs.declared.conversation.TerminalConversation.{TerminalConversation}
use Rattle.model_system.specs.System.{System}
use Rattle.model_machine.specs.Machine.{LastingState}
use Rattle.model_image.specs.Snapshot.{code_names}
use Rattle.model_machine.specs.declared.lasting.TerminalState.{TerminalState}
use Rattle.model_machine.specs.declared.lasting.CodeSetting.{CodeSetting}
use Rattle.log_records.specs.declared.record.Record.{Record}
use Rattle.log_records.specs.declared.record.Record.TheVariants.{Change}

abbrev pub tells_change : Record → Bool
tells_change (Change unit database slot before after) = true
tells_change _ = false

-- a terminal with this last input, stopped or not
abbrev pub with_input : ℕ → Bool → TerminalState → TerminalState
with_input last stopped t = record t { last = last; stopped = stopped }

-- a code with these settings
abbrev pub with_setting : Bool → ℕ → ℕ → CodeSetting → CodeSetting
with_setting stopped class priority c = record c { stopped = stopped; class = class; priority = priority }

-- the names of terminals and codes
abbrev pub of_state : TerminalState → List ℕ
of_state t = t.name

abbrev pub of_output : TerminalReplies → List ℕ
of_output t = t.terminal

abbrev pub of_conversation : TerminalConversation → List ℕ
of_conversation t = t.terminal

abbrev pub of_setting : CodeSetting → List ℕ
of_setting c = c.code

-- a state whose terminals and codes are those of the definition, in its order
pub record AreNamesKept (system : System) (lasting : LastingState) : Type 0 where
  pub terminals : map of_state lasting.terminals ≡ system.terminals
  pub outputs : map of_output lasting.outputs ≡ system.terminals
  pub conversations : map of_conversation lasting.conversations ≡ system.terminals
  pub codes : map of_setting lasting.codes ≡ code_names system
