-- The terminals, each with its conversation or none.
use Rattle.std.specs.Prelude.{ℕ, Bool, if◌then◌else◌, List, [], ◌∷◌, Option, None, find, IsSome}
use Rattle.std.specs.Option.{option_and_then, option_map}
use Rattle.std.specs.Str.{bytes_eq}
use Rattle.model_messages.specs.declared.conversation.Conversation.{Conversation}
use Rattle.model_messages.specs.declared.conversation.TerminalConversation.{TerminalConversation}

-- a terminal that has no conversation
abbrev pub without_conversation : List ℕ → TerminalConversation
without_conversation name = record { terminal = name; conversation = None }

abbrev pub is_conversation_of : List ℕ → TerminalConversation → Bool
is_conversation_of name t = bytes_eq t.terminal name

-- the terminal of this name, the first one if there are more
abbrev pub conversation_terminal : List ℕ → List TerminalConversation → Option TerminalConversation
conversation_terminal name terminals = find (is_conversation_of name) terminals

-- there is a terminal of this name
abbrev pub IsTerminal : List ℕ → List TerminalConversation → Type 0
IsTerminal name terminals = IsSome (conversation_terminal name terminals)

-- the conversation that the terminal has
abbrev pub conversation_at : List ℕ → List TerminalConversation → Option Conversation
conversation_at name terminals = option_and_then (λ t. t.conversation) (conversation_terminal name terminals)

-- the pad of that conversation
abbrev pub pad_at : List ℕ → List TerminalConversation → Option (List ℕ)
pad_at name terminals = option_map (λ c. c.pad) (conversation_at name terminals)

-- that terminal changed, all others staying
abbrev pub with_terminal : List ℕ → (TerminalConversation → TerminalConversation) → List TerminalConversation → List TerminalConversation
with_terminal name change [] = []
with_terminal name change (t ∷ ts) = if is_conversation_of name t then change t ∷ ts else t ∷ with_terminal name change ts

-- the terminal has this conversation, or none
abbrev pub with_conversation : Option Conversation → TerminalConversation → TerminalConversation
with_conversation conversation t = record t { conversation = conversation }
