-- A conversation with another pad.
use Rattle.std.specs.Prelude.{ℕ, List}
use Rattle.std.specs.Option.{option_map}
use Rattle.model_messages.specs.declared.conversation.Conversation.{Conversation}
use Rattle.model_messages.specs.declared.conversation.TerminalConversation.{TerminalConversation}

-- the same conversation with this pad, whatever its length is
abbrev pub with_pad_text : List ℕ → Conversation → Conversation
with_pad_text text c = record c { pad = text }

-- the terminal's conversation, if it has one, with this pad
abbrev pub with_new_pad : List ℕ → TerminalConversation → TerminalConversation
with_new_pad text t = record t { conversation = option_map (with_pad_text text) t.conversation }
