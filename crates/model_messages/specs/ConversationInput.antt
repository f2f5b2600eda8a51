-- The messages of a conversation.
use Rattle.std.specs.Prelude.{ℕ, Bool, ◌&&◌, List, Option, find}
use Rattle.std.specs.Option.{option_map}
use Rattle.std.specs.Str.{bytes_eq}
use Rattle.tm_types.specs.declared.message.Message.{Message}

-- a message of the terminal's conversation
abbrev pub is_conversing : List ℕ → Message → Bool
is_conversing terminal message = bytes_eq message.origin terminal && message.conversation

-- the id of the first such message
abbrev pub busy_id : List ℕ → List Message → Option ℕ
busy_id terminal messages = option_map (λ message. message.id) (find (is_conversing terminal) messages)
